-- What pick hands back: the part's bytes, and where it lies. Document 01, "Operations": "a part of the one list or the other".
-- A lent list is a reference: `now` are its bytes, and `ref_ptr` is its place, a block of memory and an offset in it.
use Rattle.std.specs.Prelude.{ℕ, ◌+◌, ◌*◌, ◌-◌, ◌≡◌, List, cond, eqb}
use Rattle.std.specs.Borrow.{Bor}
use Rattle.model.specs.Refusals.{fine, pick_verdict}
use Rattle.model.specs.Operations.{pick_part}

-- the place so many bytes into a list
abbrev pub place_in : Bor (List ℕ) → ℕ → ℕ × ℕ
place_in s at = (s.ref_ptr.0, at + s.ref_ptr.1)

-- r is the part of the bit's list at the wire's place, and no equal part from elsewhere; refused, an empty one
pub record PartIs (zs os : Bor (List ℕ)) (w bit : ℕ) (r : Bor (List ℕ)) : Type 0 where
  pub bytes : r.now ≡ pick_part zs.now os.now w bit
  pub place : pick_verdict zs.now os.now w bit ≡ fine → r.ref_ptr ≡ place_in (cond (eqb bit 0) zs os) (16 * (w - 1))
