-- The last record: a law for each return of `check_last`. Assumes nothing.
use Rattle.std.specs.Prelude.{Result}
use Rattle.model.specs.declared.Refusal.{Refusal}
use Prim.Native.Nat.{ℕ, ◌+◌, ◌≤◌}
use native.Mathlib.Omega.{arith}
use mathlib.Core.Path.{◌≡◌, ◌∙◌}
use mathlib.Core.Bool.{true, false}
use mathlib.Core.List.{List}
use lib.ListN.{length}
use Rattle.model.specs.declared.Wire.{Wire}
use Rattle.model.specs.Circuit.{mark_at}
use Rattle.model.specs.Ending.{ending_of}
use Rattle.model.specs.Material.{hashed}
use Rattle.model.specs.Refusals.{refused, refuse, ◌then◌, first_of, stored_verdict, last_verdict}
use Rattle.model.specs.Operations.{ran_of}
use Rattle.material.specs.declared.reader.Standing.{Standing}
use Rattle.material.specs.Reader.{standing_at}
use Rattle.material.proofs.ReaderLaws.{is_last, last_record_law}

-- what the reader found
module _ (s : List ℕ) (start m : ℕ) (fits : start + 2 + m ≤ length s) (x : Standing) (is_x : x ≡ standing_at s start) where
  mark : is_last x ≡ mark_at s start 0x47 (ending_of (hashed s)).last_mark
  mark = rw is_x (last_record_law s start (omega arith))

  wrong : is_last x ≡ false → refused 18 start ≡ last_verdict s start m
  unfolding last_verdict ◌then◌ refuse
  wrong h = simp (← mark, h)

  pub last_gate : (w : Wire) → x ≡ Standing.Gate w → refused 18 start ≡ last_verdict s start m
  last_gate w e = wrong (rw e)

  pub last_cut : (w : Wire) → x ≡ Standing.Cut w → refused 18 start ≡ last_verdict s start m
  last_cut w e = wrong (rw e)

  pub last_nothing : x ≡ Standing.Nothing → refused 18 start ≡ last_verdict s start m
  last_nothing e = wrong (rw e)

  pub last_marked : x ≡ Standing.Last → (r : Result Unit Refusal) → ran_of r ≡ first_of (stored_verdict (ending_of (hashed s)) s start) m → ran_of r ≡ last_verdict s start m
  unfolding last_verdict ◌then◌ refuse
  last_marked e r is_r = let h : true ≡ mark_at s start 0x47 (ending_of (hashed s)).last_mark = rw e at mark in is_r ∙ simp (← h)

pub ruleset last_cases = (last_gate, last_cut, last_nothing, last_marked)
