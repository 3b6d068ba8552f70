-- One gate more, at the end: the records and the evaluation of some gates and then of one. Assumes nothing.
use Prim.Native.Nat.{ℕ, ◌+◌, ◌*◌}
use native.Mathlib.Nat.{zero-mul, one-mul, add-mul}
use mathlib.Core.Path.{◌≡◌}
use mathlib.Core.List.{List, [], ◌∷◌, ◌++◌, append_assoc, append-nil}
use lib.ListN.{drop}
use lib.Seq.{drop-drop}
use Rattle.model.specs.declared.Gate.{Gate}
use Rattle.model.specs.Circuit.{Kind, charged, free, refused, kind_of, charge, charges, wires}
use Rattle.model.specs.Aes.{Block}
use Rattle.model.specs.Tokens.{Garbling}
use Rattle.model.specs.Scheme.{Scheme, record_length}
use Rattle.model.specs.Garbling.{site_of, zero_step}
use Rattle.model.specs.Material.{record_of, records}
use Rattle.model.specs.Evaluation.{open_step, past, open_gates}

pub records_snoc : (γ : Garbling) (gs : List Gate) (g : Gate) (xs : List Block)
    → records γ (gs ++ (g ∷ [])) xs ≡ records γ gs xs ++ record_of γ (kind_of g.code) (site_of γ (wires (zero_step γ) gs xs) g)
unfolding records wires
records_snoc γ [] g xs = append-nil _
records_snoc γ (x ∷ gs) g xs = rw (records_snoc γ gs g (xs ++ (zero_step γ xs x ∷ [])), append_assoc)

module _ (S : Scheme) where
  pub past_drop : (k : Kind) (bs : List ℕ) → past S k bs ≡ drop (charge k * record_length S) bs
  unfolding past
  past_drop (charged u v x) bs = rw one-mul
  past_drop (free p q c) bs = rw zero-mul
  past_drop refused bs = rw zero-mul

  -- at the last gate the records of the charged gates before it are past
  pub opened_snoc : (gs : List Gate) (g : Gate) (bs : List ℕ) (ts : List Block)
      → open_gates S (gs ++ (g ∷ [])) bs ts ≡ open_gates S gs bs ts ++ (open_step S (drop (charges gs * record_length S) bs) (open_gates S gs bs ts) g ∷ [])
  unfolding open_gates charges
  opened_snoc [] g bs ts = rw zero-mul
  opened_snoc (x ∷ gs) g bs ts =
      let k = kind_of x.code in
      let d : drop (charges gs * record_length S) (past S k bs) ≡ drop ((charge k + charges gs) * record_length S) bs = rw (past_drop, drop-drop, add-mul) in
      rw (← d) (opened_snoc gs g (past S k bs) (ts ++ (open_step S bs ts x ∷ [])))
