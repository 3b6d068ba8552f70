-- The operation: refusals 21 and 19, what they tell where neither holds, and the circuit that is left. Assumes nothing.
use Rattle.std.specs.Prelude.{Result, Ok, Err}
use Prim.Native.Nat.{ℕ, ◌*◌, ◌-◌, ◌≤◌}
use native.Mathlib.Omega.{arith}
use mathlib.Core.Path.{◌≡◌, sym, ◌∙◌}
use mathlib.Core.List.{List}
use borrow.Author.Tests.{leb-true, not-false}
use lib.ListN.{length, take}
use lib.Seq.{take_at}
use mir.Syntax.{w16, w64}
use mir.Val.{Fits}
use Rattle.model.specs.declared.Refusal.{Refusal}
use Rattle.model.specs.Bytes.{over}
use Rattle.model.specs.Refusals.{fine, refused, verdict_of, room_verdict}
use Rattle.model.specs.Operations.{yes, no, ran_of}
use Rattle.model.proofs.Verdicts.{then_refused, then_done, ran_refused, ran_done, refuse_fine, and_both}
use Rattle.model.proofs.Conditions.{room_fine}
use Rattle.model.proofs.Records.{bytes_long}
use Rattle.comparator.specs.Comparator.{comparator_gates, comparator_bytes, comparator_length, width_verdict, comparator_verdict, ComparatorIs}
use Rattle.comparator.specs.Parts.{WriteStart}
use Rattle.comparator.proofs.WriteLaws.{gates_many}
use Rattle.comparator.proofs.CompareLaws.{compares}

-- ---- 21: what it tells of a width that it does not refuse
record WidthHolds (w : ℕ) : Type 0 where
  low : 1 ≤ w
  high : w ≤ 64

width_fine : (w : ℕ) → fine ≡ width_verdict w → WidthHolds w
unfolding width_verdict
width_fine w e =
    let a = and_both _ _ (not-false _ (refuse_fine _ _ _ (sym e))) in
    record { low = leb-true _ _ a.0; high = leb-true _ _ a.1 }

-- ---- the circuit's length
bytes_are : (w : ℕ) → 1 ≤ w → length (comparator_bytes w) ≡ comparator_length w
unfolding comparator_bytes comparator_length
bytes_are w h = omega (arith, bytes_long (2 * w) 1 (comparator_gates w), gates_many w h)

-- ---- the operation, whose buffer is o
module _ (w : ℕ) (o : List ℕ) where
  refused_is : (i x : ℕ) → refused i x ≡ comparator_verdict w (length o) → ComparatorIs w o (no (refused i x)) o
  refused_is i x e =
      record { answered = rw (← e); left = rw (← e); is_comparator = λ f. absurd (let z : ◌≡◌ {A = ℕ} 0 1 = (let g = e ∙ f in cc) in omega arith) }

  -- what the width's check answered
  module _ (r : Result Unit Refusal) (is_r : ran_of r ≡ width_verdict w) where
    pub width_refused : (f : Refusal) → r ≡ Err f → ComparatorIs w o (no (verdict_of f)) o
    unfolding comparator_verdict
    width_refused f e = refused_is _ _ (then_refused _ _ _ _ (ran_refused r _ is_r f e))

    module _ (done : r ≡ Ok tt) where
      allowed : WidthHolds w
      allowed = width_fine w (ran_done r _ is_r done)

      pub needed_fits : Fits w64 (28 * w)
      needed_fits = omega (arith, allowed.high)

      pub needed_low : 13 ≤ 28 * w
      needed_low = omega (arith, allowed.low)

      pub width_fits : Fits w16 w
      width_fits = omega (arith, allowed.high)

      -- and that of the room
      module _ (t : Result Unit Refusal) (is_t : ran_of t ≡ room_verdict (28 * w - 13) (length o)) where
        pub room_refused : (f : Refusal) → t ≡ Err f → ComparatorIs w o (no (verdict_of f)) o
        unfolding comparator_verdict comparator_length
        room_refused f e = refused_is _ _ (then_done _ _ _ (ran_done r _ is_r done) (ran_refused t _ is_t f e))

        module _ (fits : t ≡ Ok tt) where
          pub write_starts : WriteStart w o
          unfolding comparator_length
          write_starts = record { low = allowed.low; high = allowed.high; room = room_fine _ _ (sym (ran_done t _ is_t fits)) }

          is_fine : fine ≡ comparator_verdict w (length o)
          unfolding comparator_verdict comparator_length
          is_fine = then_done _ _ _ (ran_done r _ is_r done) (ran_done t _ is_t fits)

          front : take (comparator_length w) (over (comparator_bytes w) o) ≡ comparator_bytes w
          unfolding over
          front = take_at (comparator_bytes w) _ (comparator_length w) (bytes_are w allowed.low)

          pub comparator_done : (x : List ℕ) → x ≡ over (comparator_bytes w) o → ComparatorIs w o (yes (28 * w - 13)) x
          unfolding comparator_length
          comparator_done x e =
              record {
                answered = rw (← is_fine);
                left = rw (← is_fine) e;
                is_comparator = λ _. rw (e, front) (compares w allowed.low allowed.high);
              }

-- whatever the operation asks and answers
pub ruleset comparator_cases = (width_refused, needed_fits, needed_low, width_fits, room_refused, write_starts, comparator_done)
