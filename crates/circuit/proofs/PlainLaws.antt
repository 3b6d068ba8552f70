-- Plain: its refusals, what they tell where none holds, and what it leaves. Assumes nothing.
use Rattle.std.specs.Prelude.{Result, Ok, Err}
use Prim.Native.Nat.{ℕ, ◌+◌, ◌≤◌, ◌<◌}
use native.Mathlib.Decide.{dec_lt}
use native.Mathlib.Omega.{arith}
use mathlib.Core.Path.{◌≡◌, sym, ap, ◌∙◌}
use mathlib.Core.List.{List}
use borrow.Author.Tests.{ltb-false}
use lib.ListN.{length, get_or, take, get_or-eq_default}
use lib.Seq.{take_at}
use Rattle.model.specs.declared.Sizes.{Sizes}
use Rattle.model.specs.declared.Refusal.{Refusal}
use Rattle.model.specs.Bytes.{tabulate, over}
use Rattle.model.specs.Circuit.{gates, gate_at, circuit_of, plain_values, gate_value}
use Rattle.model.specs.Refusals.{fine, refused, ◌then◌, verdict_of, circuit_verdict, value_verdict, bits_verdict, values_verdict, room_verdict}
use Rattle.model.specs.Operations.{sizes_of, check_answer, ran_of, plain_verdict, PlainIs, answer_of}
use Rattle.model.proofs.Lists.{tabulate_length}
use Rattle.model.proofs.Buffers.{over_length, over_over}
use Rattle.model.proofs.Circuits.{wires_length}
use Rattle.model.proofs.Verdicts.{then_refused, then_assoc, then_fine, refuse_fine, first_each, ran_refused, ran_done}
use Rattle.model.proofs.Conditions.{ValuesHold, values_fine, room_fine}
use Rattle.circuit.specs.Accepted.{Accepted}
use Rattle.circuit.specs.Answers.{AllBits, plain_arguments, PlainStart}
use Rattle.circuit.proofs.AcceptedLaws.{check_refused, check_accepted, left_to_try, is_n, is_q}

-- what it tells that all values are bits
pub all_bits : (v : List ℕ) → bits_verdict v ≡ fine → AllBits v
unfolding value_verdict
all_bits v f i = go (dec_lt i (length v))
  where
    go : Dec (i < length v) → get_or v i 0 ≤ 1
    go (Dec.yes h) = ltb-false _ _ (refuse_fine _ _ _ (first_each (value_verdict v) (length v) i f h))
    go (Dec.no h) = rw (get_or-eq_default v 0 {n = i} (omega arith)) (omega arith)

-- ---- plain: the circuit's refusals, and then those by its sizes
module _ (c v : List ℕ) (room : ℕ) where
  plain_verdict_law : plain_verdict c v room ≡ (circuit_verdict c then plain_arguments (sizes_of c) v room)
  unfolding plain_verdict plain_arguments sizes_of
  plain_verdict_law = then_assoc _ _ _

module _ (c v o : List ℕ) where
  plain_refused : (i x : ℕ) → refused i x ≡ plain_verdict c v (length o) → PlainIs c v o (refused i x) o
  plain_refused i x e = record { answered = e; left = rw (← e) }

  -- check's answer r
  module _ (r : Result Sizes Refusal) (is_r : answer_of r ≡ check_answer c) where
    pub plain_circuit : (f : Refusal) → r ≡ Err f → PlainIs c v o (verdict_of f) o
    plain_circuit f e = plain_refused _ _ (rw plain_verdict_law (then_refused _ _ _ _ (check_refused c r is_r f e)))

    -- and that of what it left to try
    module _ (z : Sizes) (e : r ≡ Ok z) (t : Result Unit Refusal) (is_t : ran_of t ≡ plain_arguments z v (length o)) where
      known : Accepted c z
      known = check_accepted c r is_r z e

      tried : ran_of t ≡ plain_verdict c v (length o)
      tried = is_t ∙ left_to_try c z known (λ s. plain_arguments s v (length o)) ∙ sym (plain_verdict_law c v (length o))

      pub plain_turned : (f : Refusal) → t ≡ Err f → PlainIs c v o (verdict_of f) o
      plain_turned f g = plain_refused _ _ (ran_refused t _ tried f g)

      module _ (g : t ≡ Ok tt) where
        both : (values_verdict z.n v ≡ fine) × (room_verdict (z.n + z.q) (length o) ≡ fine)
        unfolding plain_arguments
        both = then_fine _ _ (sym (ran_done t _ is_t g))

        values : ValuesHold z.n v
        values = values_fine z.n v both.0

        room : z.n + z.q ≤ length o
        room = room_fine _ _ both.1

        pub go_copy : length v ≤ length o
        go_copy = omega (arith, values.as_many, room)

        -- d is the buffer after the values were copied to its front
        module _ (d : List ℕ) (is_d : d ≡ over v o) where
          front : take z.n d ≡ v
          unfolding over
          front = rw is_d (take_at v _ z.n values.as_many)

          pub go_gates : PlainStart c d z.n z.q
          go_gates = record {
            accepted = known.accepted;
            is_n = is_n c z known;
            is_q = is_q c z known;
            room = rw (is_d, over_length v o go_copy) room;
            bits = rw front (all_bits v values.are_bits);
          }

          wires_many : length (plain_values (circuit_of c) v) ≡ length v + z.q
          unfolding plain_values circuit_of
          wires_many =
              wires_length gate_value (tabulate (gates c) (gate_at c)) v
              ∙ ap (λ (x : ℕ). length v + x) (tabulate_length (gates c) (gate_at c) ∙ sym (is_q c z known))

          pub plain_done : (x : List ℕ) → x ≡ over (plain_values (circuit_of c) (take z.n d)) d → PlainIs c v o fine x
          plain_done x is_x =
              let y : over (plain_values (circuit_of c) v) (over v o) ≡ over (plain_values (circuit_of c) v) o =
              over_over (plain_values (circuit_of c) v) o v (omega (arith, wires_many)) (omega (arith, wires_many, values.as_many, room)) in
              let is_fine = ran_done t _ tried g in
              record { answered = is_fine; left = rw (← is_fine) (is_x ∙ rw (front, is_d) y) }

pub ruleset plain_cases = (plain_circuit, plain_turned, go_copy, go_gates, plain_done)
