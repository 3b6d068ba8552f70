-- Where the row records and the last record of a material stand, and what its header and its length tell. Assumes nothing.
use Prim.Native.Nat.{ℕ, ◌+◌, ◌*◌, ◌≤◌, ◌<◌}
use native.Mathlib.Omega.{arith}
use mathlib.Core.Path.{◌≡◌, sym, ◌∙◌}
use mathlib.Core.Bool.{Bool, true, false}
use mathlib.Core.List.{List}
use borrow.Author.Tests.{ltb-false, eqb-true, not-false}
use lib.ListN.{length, get_or}
use Rattle.model.specs.declared.Sizes.{Sizes}
use Rattle.model.specs.Bytes.{tabulate}
use Rattle.model.specs.Circuit.{circuit_of, outputs, gates, gate_at, kind_of, charge, charges}
use Rattle.model.specs.Scheme.{record_length}
use Rattle.model.specs.Garbling.{Known, scheme_of}
use Rattle.model.specs.Ending.{colours, hashes, ending_of}
use Rattle.model.specs.Material.{last_start, last_bytes, material_length, hashed}
use Rattle.model.specs.Refusals.{fine, file_verdict, row_start}
use Rattle.model.specs.Operations.{sizes_of}
use Rattle.model.proofs.Lists.{tabulate_take}
use Rattle.model.proofs.Places.{length_last, start_first, start_next, record_fits}
use Rattle.model.proofs.Conditions.{scheme_fine}
use Rattle.model.proofs.Verdicts.{then_fine, refuse_fine}
use Rattle.material.specs.Answers.{Filed}

-- the last record has a byte for each output at least
pub last_low : (b : Bool) (m : ℕ) → m ≤ last_bytes b m
unfolding last_bytes ending_of colours hashes
last_low true m = omega arith
last_low false m = omega arith

-- ---- the records, one for each charged gate
module _ (c s : List ℕ) where
  pub start_at : (k : ℕ) → k ≤ gates c → row_start (circuit_of c) s k ≡ last_start (get_or s 2 0) (charges (tabulate k (gate_at c)))
  unfolding row_start circuit_of
  start_at k h = rw (tabulate_take k (gates c) (gate_at c) h)

  -- the first is past the header
  pub row_first : row_start (circuit_of c) s 0 ≡ 9
  row_first = start_at 0 (omega arith) ∙ start_first (get_or s 2 0) (gate_at c)

  -- each charged gate has one
  pub row_next : (k : ℕ) → k < gates c
      → row_start (circuit_of c) s (k + 1) ≡ row_start (circuit_of c) s k + charge (kind_of (gate_at c k).code) * record_length (scheme_of (get_or s 2 0))
  row_next k h = rw (start_at (k + 1) (omega arith), start_at k (omega arith)) (start_next (get_or s 2 0) (gate_at c) k)

  -- past them all the last record starts
  pub row_end : row_start (circuit_of c) s (gates c) ≡ last_start (get_or s 2 0) (charges (circuit_of c).gates)
  unfolding circuit_of
  row_end = start_at (gates c) (omega arith)

  -- in a material of the right length
  module _ (whole : length s ≡ material_length (get_or s 2 0) (last_bytes (hashed s) (outputs c)) (charges (circuit_of c).gates)) where
    -- which ends the material
    pub last_ends : last_start (get_or s 2 0) (charges (circuit_of c).gates) + 2 + last_bytes (hashed s) (outputs c) ≡ length s
    last_ends = sym (whole ∙ length_last (get_or s 2 0) (last_bytes (hashed s) (outputs c)) (charges (circuit_of c).gates))

    -- a charged gate's record ends before it
    pub row_room : (k : ℕ) → k < gates c
        → row_start (circuit_of c) s k + charge (kind_of (gate_at c k).code) * record_length (scheme_of (get_or s 2 0)) + 2 + outputs c ≤ length s
    unfolding circuit_of
    row_room k h = rw (start_at k (omega arith)) (omega (arith, last_ends, last_low (hashed s) (outputs c), record_fits (get_or s 2 0) (gate_at c) k (gates c) h))

-- ---- none of 12 to 16 holds

pub record FileHolds (c s : List ℕ) : Type 0 where
  pub header : 9 ≤ length s
  pub known : Known (get_or s 2 0)
  pub whole : length s ≡ material_length (get_or s 2 0) (last_bytes (hashed s) (outputs c)) (charges (circuit_of c).gates)

pub file_holds : (c s : List ℕ) → file_verdict (sizes_of c) s ≡ fine → FileHolds c s
unfolding file_verdict sizes_of
file_holds c s e =
    let a = then_fine _ _ e in
    let b = then_fine _ _ a.0 in
    let d = then_fine _ _ b.0 in
    let f = then_fine _ _ d.0 in
    record {
      header = ltb-false _ _ (refuse_fine _ _ _ f.0);
      known = scheme_fine (get_or s 2 0) d.1;
      whole = eqb-true _ _ (not-false _ (refuse_fine _ _ _ a.1));
    }

pub filed_holds : (c : List ℕ) (z : Sizes) (s : List ℕ) → Filed c z s → FileHolds c s
filed_holds c z s known = file_holds c s (rw known.circuit.sizes at known.filed)
