-- What is known of the arguments, and the answers of the inner functions, in the model's terms.
use Rattle.std.specs.Prelude.{ℕ, ◌+◌, ◌<◌, ◌≡◌, not, List, Result, Ok, Err, get_or}
use Rattle.model.specs.declared.Refusal.{Refusal}
use Rattle.model.specs.declared.Sizes.{Sizes}
use Rattle.model.specs.Circuit.{circuit_of, gates, charges}
use Rattle.model.specs.Material.{last_start}
use Rattle.model.specs.Refusals.{Verdict, fine, refuse, first_of, verdict_of, file_verdict, row_start, row_verdict}
use Rattle.model.specs.Operations.{Answer, no, yes, answer}
use Rattle.circuit.specs.Accepted.{Accepted}
use Rattle.material.specs.declared.records.Cursor.{Cursor}
use Rattle.material.specs.Reader.{standing_at, past_at, is_row_of}

-- c is an accepted circuit of sizes z, and the header and the length of the material s are right for it
pub record Filed (c : List ℕ) (z : Sizes) (s : List ℕ) : Type 0 where
  pub circuit : Accepted c z
  pub filed : file_verdict z s ≡ fine

-- ---- 17: a step is the next place, or the fault

abbrev pub step_of : Result Cursor Refusal → Answer ℕ
step_of (Ok there) = yes there.at
step_of (Err f) = no (verdict_of f)

-- where the record of a wire is due: past what a reader finds at a place, if it is that record
abbrev pub next_answer : List ℕ → ℕ → ℕ → Answer ℕ
next_answer s at due = answer (refuse (not (is_row_of due (standing_at s at))) 17 due) (past_at s at)

-- gate k of the circuit at its turn, when its record, if it has one, is at the index
pub record AtGate (c : List ℕ) (z : Sizes) (s : List ℕ) (k at : ℕ) : Type 0 where
  pub known : Filed c z s
  pub more : k < z.q
  pub few : z.n + k < 65535
  pub placed : at ≡ row_start (circuit_of c) s k

-- past the record of gate k
abbrev pub row_answer : List ℕ → List ℕ → ℕ → Answer ℕ
row_answer c s k = answer (row_verdict (circuit_of c) s k) (row_start (circuit_of c) s (k + 1))

-- 17 of all gates
abbrev pub records_verdict : List ℕ → List ℕ → Verdict
records_verdict c s = first_of (row_verdict (circuit_of c) s) (gates c)

-- and past the records of them all: where the last record starts
abbrev pub records_answer : List ℕ → List ℕ → Answer ℕ
records_answer c s = answer (records_verdict c s) (last_start (get_or s 2 0) (charges (circuit_of c).gates))
