-- The whole of `check_material`: what each part is handed, and a law for each return. Assumes nothing.
use Rattle.std.specs.Prelude.{Result, Ok, Err}
use Prim.Native.Nat.{ℕ, ◌+◌, ◌≤◌}
use native.Mathlib.Omega.{arith}
use mathlib.Core.Path.{◌≡◌, refl, sym, ◌∙◌}
use mathlib.Core.List.{List}
use lib.ListN.{length, get_or}
use Rattle.model.specs.declared.Sizes.{Sizes}
use Rattle.model.specs.declared.Refusal.{Refusal}
use Rattle.model.specs.Circuit.{circuit_of, charges}
use Rattle.model.specs.Material.{last_start, last_bytes, hashed}
use Rattle.model.specs.Refusals.{Verdict, fine, refused, ◌then◌, number_of, place_of, verdict_of, circuit_sizes, file_verdict, last_verdict, material_verdict}
use Rattle.model.specs.Operations.{ran_of, sizes_of}
use Rattle.model.proofs.Outputs.{outputs_many}
use Rattle.model.proofs.Verdicts.{Given, yes_given, Turned, no_turned}
use Rattle.circuit.specs.Accepted.{Accepted}
use Rattle.circuit.proofs.AcceptedLaws.{is_m}
use Rattle.material.specs.declared.records.Cursor.{Cursor}
use Rattle.material.specs.Answers.{Filed, step_of, records_verdict, records_answer}
use Rattle.material.proofs.SizeLaws.{inputs_same, gates_many}
use Rattle.material.proofs.RowLaws.{last_low, last_ends, filed_holds}

-- ---- the sizes that check gives are those of the circuit that the bytes are
sizes_same : (c : List ℕ) → sizes_of c ≡ circuit_sizes (circuit_of c)
unfolding sizes_of circuit_sizes
sizes_same c = rw (inputs_same c, outputs_many c, gates_many c)

pub circuit_file : (c s : List ℕ) → file_verdict (sizes_of c) s ≡ file_verdict (circuit_sizes (circuit_of c)) s
circuit_file c s = rw (sizes_same c)

-- ---- 17 and 18 of a material whose header and length are right
module _ (c : List ℕ) (z : Sizes) (s : List ℕ) (known : Filed c z s) where
  file_fine : file_verdict (circuit_sizes (circuit_of c)) s ≡ fine
  file_fine = rw (← sizes_same c, ← known.circuit.sizes) known.filed

  pub by_record : (v : Verdict) → v ≡ records_verdict c s → (i x : ℕ) → v ≡ refused i x → v ≡ material_verdict (circuit_of c) s
  unfolding material_verdict ◌then◌
  by_record v is_v i x e = rw (file_fine, gates_many c, ← is_v, e)

  pub by_last : records_verdict c s ≡ fine → (v : Verdict) (at : ℕ) → at ≡ last_start (get_or s 2 0) (charges (circuit_of c).gates) → v ≡ last_verdict s at z.m
      → v ≡ material_verdict (circuit_of c) s
  unfolding material_verdict ◌then◌
  by_last h v at e is_v = is_v ∙ rw (e, is_m c z known.circuit, file_fine, gates_many c, outputs_many c, h)

-- ---- check_material
module _ (c : List ℕ) (z : Sizes) (s : List ℕ) (known : Accepted c z) where
  -- 12 to 16 as they were tried
  module _ (r : Result Unit Refusal) (is-r : ran_of r ≡ file_verdict z s) where
    pub material_file : (f : Refusal) → r ≡ Err f → verdict_of f ≡ material_verdict (circuit_of c) s
    unfolding material_verdict ◌then◌
    material_file f e =
        let h : verdict_of f ≡ file_verdict (circuit_sizes (circuit_of c)) s = rw (e, known.sizes, sizes_same c) at is-r in
        rw (← h)

    module _ (e : r ≡ Ok tt) where
      pub filed : Filed c z s
      filed = record { circuit = known; filed = sym (rw e at is-r) }

      -- the last record ends the material
      start : last_start (get_or s 2 0) (charges (circuit_of c).gates) + 2 + last_bytes (hashed s) z.m ≡ length s
      start = rw (is_m c z known) (last_ends c s (filed_holds c z s filed).whole)

      -- 17 as it was tried, and where the reader is then
      module _ (t : Result Cursor Refusal) (is_t : step_of t ≡ records_answer c s) where
        pub material_record : (f : Refusal) → t ≡ Err f → verdict_of f ≡ material_verdict (circuit_of c) s
        material_record f i = go (no_turned (records_verdict c s) (verdict_of f) _ (rw i at is_t))
          where
            go : Turned (records_verdict c s) (verdict_of f) → verdict_of f ≡ material_verdict (circuit_of c) s
            go u = by_record c z s filed (verdict_of f) (u.is_w ∙ sym u.is_v) (number_of f) (place_of f) refl

        module _ (last : Cursor) (i : t ≡ Ok last) where
          at_last : Given (records_verdict c s) last.at (last_start (get_or s 2 0) (charges (circuit_of c).gates))
          at_last = yes_given (records_verdict c s) last.at _ (rw i at is_t)

          pub last_inside : last.at + 2 + z.m ≤ length s
          last_inside = omega (arith, start, last_low (hashed s) z.m, at_last.is_result)

          pub material_last : (u : Result Unit Refusal) → ran_of u ≡ last_verdict s last.at z.m → ran_of u ≡ material_verdict (circuit_of c) s
          material_last u is_u = by_last c z s filed at_last.is_fine (ran_of u) last.at at_last.is_result is_u

pub ruleset material_cases = (material_file, material_record, material_last)

-- what the calls ask
pub ruleset material_calls = (filed, last_inside)
