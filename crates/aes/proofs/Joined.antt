-- A state from its columns, or from its bytes. Assumes nothing.
use mathlib.Core.Path.{◌≡◌, sym, ◌∙◌}
use Prim.Native.Nat.{ℕ, ◌<◌}
use native.Mathlib.Omega.{arith}
use mathlib.Core.List.{List, [], ◌∷◌}
use lib.ListN.{length, get_or}
use Rattle.std.proofs.lemmas.List.{ext_get_or}
use Rattle.model.specs.Bytes.{tabulate}
use Rattle.model.specs.Aes.{Block}
use Rattle.model.proofs.Lists.{tabulate_length, entry}

-- the state of four columns
abbrev columns : List ℕ → List ℕ → List ℕ → List ℕ → Block
columns a b c d =
    get_or a 0 0 ∷ get_or a 1 0 ∷ get_or a 2 0 ∷ get_or a 3 0 ∷ get_or b 0 0 ∷ get_or b 1 0 ∷ get_or b 2 0 ∷ get_or b 3 0 ∷ get_or c 0 0 ∷ get_or c 1 0 ∷ get_or c 2 0 ∷ get_or c 3 0 ∷ get_or d 0 0 ∷ get_or d 1 0 ∷ get_or d 2 0 ∷ get_or d 3 0 ∷ []

pub joined : {a b c d a' b' c' d' : List ℕ} → a ≡ a' → b ≡ b' → c ≡ c' → d ≡ d' → columns a b c d ≡ columns a' b' c' d'
joined p q r s = cc

-- a state from its bytes, one by one
pub tabled : (n : ℕ) (f : ℕ → ℕ) (r : List ℕ) → length r ≡ n → ((i : ℕ) → i < n → get_or r i 0 ≡ f i) → r ≡ tabulate n f
tabled n f r l e = ext_get_or 0 r (tabulate n f) (l ∙ sym (tabulate_length n f)) (λ i h. e i (omega (arith, l)) ∙ sym (entry 0 n f i (omega (arith, l))))
