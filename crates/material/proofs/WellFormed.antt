-- What a well-formed material tells whoever works through it: none of 12 to 18 holds. With it go `row_first`, `row_next` and `row_room` of
-- proofs/RowLaws.antt, which say where each record starts, and that it lies inside. Assumes nothing.
use Prim.Native.Nat.{ℕ, ◌+◌, ◌-◌, ◌≤◌, ◌<◌}
use native.Mathlib.Omega.{arith}
use mathlib.Core.Path.{◌≡◌, sym, ◌∙◌}
use mathlib.Core.Bool.{false}
use mathlib.Core.List.{List}
use borrow.Author.Tests.{ltb-false}
use lib.ListN.{length, get_or}
use Rattle.model.specs.Circuit.{circuit_of, outputs, charges}
use Rattle.model.specs.Garbling.{Known}
use Rattle.model.specs.Ending.{ending_of}
use Rattle.model.specs.Material.{last_start, last_bytes, material_length, hashed}
use Rattle.model.specs.Refusals.{fine, last_verdict, material_verdict}
use Rattle.model.specs.Kept.{last_byte01}
use Rattle.model.proofs.Outputs.{outputs_many}
use Rattle.model.proofs.Verdicts.{then_fine, refuse_fine, first_each}
use Rattle.model.proofs.OldEnding.{colours_bytes, byte_verdict}
use Rattle.material.proofs.MaterialLaws.{circuit_file}
use Rattle.material.proofs.RowLaws.{last_ends, FileHolds, file_holds}

pub record WellFormed (c s : List ℕ) : Type 0 where
  pub known : Known (get_or s 2 0)
  pub whole : length s ≡ material_length (get_or s 2 0) (last_bytes (hashed s) (outputs c)) (charges (circuit_of c).gates)
  -- the last bytes, one for each output or two hashes; where they are colours, each is 0 or 1
  pub last_inside : last_bytes (hashed s) (outputs c) ≤ length s
  pub last_bits : hashed s ≡ false → (i : ℕ) → i < outputs c → get_or s (length s - outputs c + i) 0 ≤ 1

module _ (c s : List ℕ) (e : material_verdict (circuit_of c) s ≡ fine) where
  file : FileHolds c s
  unfolding material_verdict
  file = file_holds c s (circuit_file c s ∙ (then_fine _ _ (then_fine _ _ e).0).0)

  start : last_start (get_or s 2 0) (charges (circuit_of c).gates) + 2 + last_bytes (hashed s) (outputs c) ≡ length s
  start = last_ends c s file.whole

  bit : hashed s ≡ false → (i : ℕ) → i < outputs c → get_or s (last_start (get_or s 2 0) (charges (circuit_of c).gates) + 2 + i) 0 ≤ 1
  unfolding material_verdict last_verdict ending_of last_byte01
  bit no_hashes i h =
      let each = first_each _ _ i (rw no_hashes at (then_fine _ _ (then_fine _ _ e).1).1) (rw (outputs_many c) h) in
      ltb-false _ _ (refuse_fine _ _ _ (sym (byte_verdict s (last_start (get_or s 2 0) (charges (circuit_of c).gates)) i) ∙ each))

  pub well_formed : WellFormed c s
  well_formed =
      record {
        known = file.known;
        whole = file.whole;
        last_inside = omega (arith, start);
        last_bits = λ no_hashes i h. (let at : last_start (get_or s 2 0) (charges (circuit_of c).gates) + 2 ≡ length s - outputs c = omega (arith, rw (no_hashes, colours_bytes (outputs c)) at start) in rw (← at) (bit no_hashes i h));
      }
