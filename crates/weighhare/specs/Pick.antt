-- Pick for a caller in C, who gets no slice: where the part lies (01, Operations: "a part of the one list or the other").
use Rattle.std.specs.Prelude.{ℕ, ◌*◌, ◌-◌, ◌≡◌, List, [], ◌∷◌, cond, take, drop, eqb}
use Rattle.model.specs.Refusals.{pick_verdict}
use Rattle.model.specs.Operations.{Answer, no, yes, answer, pick_part}
use Rattle.weighhare.specs.declared.pick.Part.{Part}
use Rattle.weighhare.specs.Out.{Out, answer_out}

-- the part's bytes; "Refused, the part is empty"
abbrev pub bytes_in : List ℕ → List ℕ → Answer Part → List ℕ
bytes_in zs os (no v) = []
bytes_in zs os (yes p) = take p.length (drop p.start (cond (eqb p.list 0) zs os))

-- the part is at the wire's place in the bit's list, and its bytes are those that pick hands back
pub record PickIs (zs os : List ℕ) (w bit : ℕ) (r : Answer Part) : Type 0 where
  pub answered : r ≡ answer (pick_verdict zs os w bit) (record { list = bit; start = 16 * (w - 1); length = 16 })
  pub picked : bytes_in zs os r ≡ pick_part zs os w bit

abbrev pub part_words : Part → List ℕ
part_words p = p.list ∷ p.start ∷ p.length ∷ 0 ∷ []

abbrev pub part_out : Answer Part → Out
part_out = answer_out part_words
