-- One gate: what `gate_at` reads, and the return of `read_record` that is no refusal of its own. Assumes nothing.
use Rattle.std.specs.Prelude.{Result}
use Rattle.model.specs.Operations.{answer_of}
use Rattle.model.specs.declared.Refusal.{Refusal}
use Prim.Native.Nat.{ℕ, ◌+◌}
use mathlib.Core.Path.{◌≡◌, ◌∙◌}
use mathlib.Core.List.{List}
use borrow.Author.Tests.{eq-eqb}
use lib.ListN.{get_or}
use Rattle.model.specs.declared.Gate.{Gate}
use Rattle.model.specs.Bytes.{be16}
use Rattle.model.specs.Circuit.{mark_at, record_at, gate_at, gate_wire}
use Rattle.model.specs.Refusals.{refuse, ◌then◌, record_verdict}
use Rattle.circuit.specs.Answers.{gate_answer, record_answer}

-- gate record k as it was read
pub gate_read : (s : List ℕ) (k a b : ℕ) → a ≡ be16 s (record_at k + 2) → b ≡ be16 s (record_at k + 4) →
    ◌≡◌ {A = Gate} (record { a = record { 0 = a }; b = record { 0 = b }; code = get_or s (record_at k + 6) 0 }) (gate_at s k)
unfolding gate_at
gate_read s k a b e f = cc

-- ---- read_record
module _ (s : List ℕ) (n k : ℕ) where
  pub record_gate : get_or s (record_at k) 0 ≡ 0x43 → get_or s (record_at k + 1) 0 ≡ 0x47 → (g : Gate) → g ≡ gate_at s k
      → (r : Result ℕ Refusal) → answer_of r ≡ gate_answer (gate_wire n k) g → answer_of r ≡ record_answer s n k
  unfolding record_verdict mark_at ◌then◌ refuse
  record_gate h i g is_g r is_r = is_r ∙ simp (is_g, eq-eqb _ _ h, eq-eqb _ _ i)
