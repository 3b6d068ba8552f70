-- A wire's truth value, its zero token and the token held there, and what follows for its distance and its colour. Assumes nothing.
use Prim.Native.Nat.{ℕ, zero, suc, ◌<◌}
use native.Mathlib.Nat.{le_of_suc-le-suc, not-suc-le-zero}
use native.Mathlib.Omega.{arith}
use mathlib.Core.Path.{◌≡◌, refl, sym, ap, ◌∙◌}
use mathlib.Core.Logic.{◌↔◌}
use mathlib.Core.List.{List, [], ◌∷◌, ◌++◌}
use lib.Bits.{differ}
use lib.ListN.{length, get_or}
use Rattle.model.specs.Aes.{Block, block, times}
use Rattle.model.specs.Tokens.{colour, distance}
use Rattle.model.proofs.Bits.{Bit, b0, b1, differ_back}
use Rattle.model.proofs.Xor.{⊕_length}
use Rattle.model.proofs.XorRules.{times_0, times_1}
use Rattle.model.proofs.Tokens.{Offset, offset_not_zero, token_for, colour_bit, token_colour, token_distance}
use Rattle.model.proofs.Blocks.{Blocks, none, more}

-- t is the token for v on the wire of zero token x
pub record Holds (R : Block) (v : ℕ) (x t : Block) : Type 0 where
  pub bit : Bit v
  pub wide : length x ≡ 16
  pub token : t ≡ token_for R x v

-- d is block 0 exactly for truth value 0, and R exactly for 1
pub record Distances (R : Block) (v : ℕ) (d : Block) : Type 0 where
  pub zero_if_0 : (d ≡ block 0) ↔ (v ≡ 0)
  pub offset_if_1 : (d ≡ R) ↔ (v ≡ 1)

module _ {R : Block} (o : Offset R) where
  -- the token's colour ⊕ the zero token's is the truth value
  pub holds_colours : {v : ℕ} {x t : Block} → Holds R v x t → differ (colour t) (colour x) ≡ v
  holds_colours {x = x} h = rw (h.token, token_colour x o h.bit) (differ_back (colour_bit x) h.bit)

  distances : {v : ℕ} {d : Block} → Bit v → d ≡ times v R → Distances R v d
  distances {d = d} b0 e =
      let z : d ≡ block 0 = e ∙ times_0 R in
      record {
        zero_if_0 = (λ h. refl, λ h. z);
        offset_if_1 = (λ h. absurd (offset_not_zero o (sym h ∙ z)), λ h. absurd (omega arith));
      }
  distances {d = d} b1 e =
      let z : d ≡ R = e ∙ times_1 R in
      record {
        zero_if_0 = (λ h. absurd (offset_not_zero o (sym z ∙ h)), λ h. absurd (omega arith));
        offset_if_1 = (λ h. refl, λ h. z);
      }

  -- the distance to the zero token is such a d
  pub holds_distances : {v : ℕ} {x t : Block} → Holds R v x t → Distances R v (distance t x)
  holds_distances {v} {x} {t} h = distances h.bit (rw h.token (token_distance v x o))

-- ---- on all wires

pub data AllHold (R : Block) : List ℕ → List Block → List Block → Type 0 where
  done : AllHold R [] [] []
  next : {v : ℕ} {x t : Block} {vs : List ℕ} {xs ts : List Block} → Holds R v x t → AllHold R vs xs ts
      → AllHold R (v ∷ vs) (x ∷ xs) (t ∷ ts)

module _ {R : Block} where
  pub zeros_as_many : {vs : List ℕ} {xs ts : List Block} → AllHold R vs xs ts → length xs ≡ length vs
  zeros_as_many done = refl
  zeros_as_many (next h l) = ap suc (zeros_as_many l)

  pub tokens_as_many : {vs : List ℕ} {xs ts : List Block} → AllHold R vs xs ts → length ts ≡ length vs
  tokens_as_many done = refl
  tokens_as_many (next h l) = ap suc (tokens_as_many l)

  pub tokens_blocks : {vs : List ℕ} {xs ts : List Block} → AllHold R vs xs ts → Blocks (length vs) ts
  tokens_blocks done = none
  tokens_blocks (next h l) = more (ap length h.token ∙ ⊕_length _ _) (tokens_blocks l)

  pub hold_at : {vs : List ℕ} {xs ts : List Block} → AllHold R vs xs ts → (i : ℕ) → i < length vs
      → Holds R (get_or vs i 0) (get_or xs i (block 0)) (get_or ts i (block 0))
  hold_at done i h = absurd (not-suc-le-zero h)
  hold_at (next p l) zero h = p
  hold_at (next p l) (suc i) h = hold_at l i (le_of_suc-le-suc h)

  pub hold_snoc : {vs : List ℕ} {xs ts : List Block} {v : ℕ} {x t : Block} → AllHold R vs xs ts → Holds R v x t
      → AllHold R (vs ++ (v ∷ [])) (xs ++ (x ∷ [])) (ts ++ (t ∷ []))
  hold_snoc done h = next h done
  hold_snoc (next p l) h = next p (hold_snoc l h)
