-- The value list, and the plain values of the gates: the invariants, turns and ends of their loops. Assumes nothing.
use Prim.Native.Nat.{ℕ, zero, suc, ◌+◌, ◌*◌, ◌-◌, ◌/◌, ◌≤◌, ◌<◌}
use native.Mathlib.Numerals.{add-one}
use native.Mathlib.Omega.{arith}
use mathlib.Core.Path.{◌≡◌, refl, sym, ap, ◌∙◌}
use mathlib.Core.List.{List, [], ◌∷◌, ◌++◌}
use borrow.Author.Tests.{lt-ltb, le-ltb}
use lib.Bits.{bit_or, or_add_and, and_le_l, and_le_r}
use lib.ListN.{length, get_or, take, set, length-set, take-append-drop}
use lib.Seq.{length-take-le}
use Rattle.model.specs.declared.Gate.{Gate}
use Rattle.model.specs.Bytes.{tabulate, over}
use Rattle.model.specs.Circuit.{value, wires, gate_value, circuit_of, plain_values, inputs, gates, gate_at, gate_wire}
use Rattle.model.specs.Refusals.{fine, refused, refuse, first_of, value_verdict, bits_verdict}
use Rattle.model.proofs.Accepted.{HeaderHolds, GateHolds, accepted_header, gates_inside, accepted_gate}
use Rattle.model.proofs.Lists.{tabulate_snoc, tabulate_length}
use Rattle.model.proofs.Buffers.{over_get, over_set}
use Rattle.model.proofs.Circuits.{wires_snoc, wires_length}
use Rattle.model.proofs.Verdicts.{first_next, first_found}
use Rattle.circuit.specs.Answers.{AllBits, PlainStart}

-- ---- search_values: the first i values are bits
pub record Checking (v : List ℕ) (i : ℕ) : Type 0 where
  pub within : i ≤ length v
  pub no_fault : first_of (value_verdict v) i ≡ fine

pub values_start : (v : List ℕ) → Checking v 0
unfolding first_of
values_start v = record { within = omega arith; no_fault = refl }

module _ (v : List ℕ) (i : ℕ) (inv : Checking v i) where
  pub values_turn : i < length v → get_or v i 0 ≤ 1 → Checking v (i + 1)
  unfolding value_verdict refuse
  values_turn h l = record { within = omega arith; no_fault = first_next (value_verdict v) i inv.no_fault (simp (le-ltb _ _ l)) }

  pub values_fault : i < length v → 1 < get_or v i 0 → refused 10 i ≡ bits_verdict v
  unfolding value_verdict refuse
  values_fault h l = sym (first_found (value_verdict v) i (length v) 10 i inv.no_fault h (simp (lt-ltb _ _ l)))

  pub values_end : length v ≤ i → fine ≡ bits_verdict v
  values_end l =
      let w = inv.within in
      let e : length v ≡ i = omega arith in
      rw (e, inv.no_fault)

-- ---- beyond_bits: all is what the first i values have beyond their lowest bits
pub record Gathering (v : List ℕ) (all i : ℕ) : Type 0 where
  pub within : i ≤ length v
  pub if_none : all ≡ 0 → Checking v i

pub gather_start : (v : List ℕ) → Gathering v 0 0
gather_start v = record { within = omega arith; if_none = λ _. values_start v }

module _ (v : List ℕ) (all i : ℕ) (inv : Gathering v all i) where
  pub gather_turn : i < length v → Gathering v (bit_or all (get_or v i 0 / 2)) (i + 1)
  gather_turn h = record { within = omega arith; if_none = λ none. values_turn v i (inv.if_none (before none)) h (bit none) }
    where
      before : bit_or all (get_or v i 0 / 2) ≡ 0 → all ≡ 0
      before e = omega (arith, or_add_and all (get_or v i 0 / 2), and_le_r all (get_or v i 0 / 2))

      bit : bit_or all (get_or v i 0 / 2) ≡ 0 → get_or v i 0 ≤ 1
      bit e = omega (arith, or_add_and all (get_or v i 0 / 2), and_le_l all (get_or v i 0 / 2))

  pub gather_end : length v ≤ i → all ≡ 0 → fine ≡ bits_verdict v
  gather_end l none = values_end v i (inv.if_none none) l

pub ruleset values_cases = (values_start, values_turn, values_fault, values_end)

pub ruleset gather_cases = (gather_start, gather_turn, gather_end)

-- ---- plain_gates

-- the values after k gates
pub values_to : List ℕ → List ℕ → ℕ → List ℕ
values_to c v k = wires gate_value (tabulate k (gate_at c)) v

values_length : (c v : List ℕ) (k : ℕ) → length (values_to c v k) ≡ length v + k
unfolding values_to
values_length c v k = wires_length gate_value (tabulate k (gate_at c)) v ∙ ap (λ (x : ℕ). length v + x) (tabulate_length k (gate_at c))

values_more : (c v : List ℕ) (k : ℕ) → values_to c v (suc k) ≡ values_to c v k ++ (gate_value (values_to c v k) (gate_at c k) ∷ [])
unfolding values_to
values_more c v k =
    ap (λ (gs : List Gate). wires gate_value gs v) (tabulate_snoc k (gate_at c)) ∙ wires_snoc gate_value (tabulate k (gate_at c)) (gate_at c k) v

snoc_bits : (w : List ℕ) (x : ℕ) → AllBits w → x ≤ 1 → AllBits (w ++ (x ∷ []))
snoc_bits [] x h l zero = l
snoc_bits [] x h l (suc i) = omega arith
snoc_bits (y ∷ w) x h l zero = h zero
snoc_bits (y ∷ w) x h l (suc i) = snoc_bits w x (λ j. h (suc j)) l i

value_bit : (code u v : ℕ) → value code u v ≤ 1
unfolding value
value_bit code u v = omega arith

values_bits : (c v : List ℕ) (k : ℕ) → AllBits v → AllBits (values_to c v k)
values_bits c v zero b = unfold values_to wires in b
values_bits c v (suc k) b =
    rw values_more (snoc_bits (values_to c v k) _ (values_bits c v k b) (unfold gate_value in (value_bit _ _ _)))

-- d is the buffer after k gates of q, and o at the start, whose first n bytes are the inputs' values
pub record Evaluating (c o : List ℕ) (n q k : ℕ) (d : List ℕ) : Type 0 where
  pub within : k ≤ q
  pub same_length : length d ≡ length o
  pub so_far : d ≡ over (values_to c (take n o) k) o

module _ (c o : List ℕ) (n q : ℕ) (start : PlainStart c o n q) where
  pub plain_start : Evaluating c o n q 0 o
  unfolding values_to wires over
  plain_start =
      record {
        within = omega arith;
        same_length = refl;
        so_far = rw (length-take-le n o (omega (arith, start.room))) (sym (take-append-drop n o));
      }

  in_circuit : HeaderHolds c
  in_circuit = accepted_header c start.accepted

  -- gate k as it was read
  module _ (k : ℕ) (more : k < q) where
    pub gate_room : 8 + 7 * k + 7 ≤ length c
    gate_room = omega (arith, gates_inside c in_circuit, start.is_q)

    pub gate_small : k < 65536
    gate_small = omega (arith, in_circuit.sizes.sum, start.is_q)

    operands : GateHolds (gate_wire (inputs c) k) (gate_at c k)
    operands = accepted_gate c k start.accepted (omega (arith, start.is_q))

    module _ (g : Gate) (is_g : g ≡ gate_at c k) where
      pub gate_low : 1 ≤ g.a.0
      gate_low = rw is_g operands.a_low

      gate_order : g.a.0 < g.b.0
      gate_order = rw is_g operands.order

      gate_high : g.b.0 < gate_wire n k
      gate_high = rw (is_g, start.is_n) operands.b_high

      pub gate_low_2 : 1 ≤ g.b.0
      gate_low_2 = omega (arith, gate_order)

      -- the buffer
      module _ (d : List ℕ) (inv : Evaluating c o n q k d) where
        so_many : length (values_to c (take n o) k) ≡ n + k
        so_many = values_length c (take n o) k ∙ ap (λ (x : ℕ). x + k) (length-take-le n o (omega (arith, start.room)))

        at_wire : (i : ℕ) → i < n + k → get_or d i 0 ≡ get_or (values_to c (take n o) k) i 0
        at_wire i h = rw inv.so_far (over_get (values_to c (take n o) k) o i (omega (arith, so_many)))

        bit_at : (i : ℕ) → i < n + k → get_or d i 0 ≤ 1
        bit_at i h = rw (at_wire i h) (values_bits c (take n o) k start.bits i)

        pub read_a : g.a.0 - 1 < length d
        read_a = omega (arith, gate_low, gate_order, gate_high, start.room, inv.same_length)

        pub read_b : g.b.0 - 1 < length d
        read_b = omega (arith, gate_order, gate_high, start.room, inv.same_length)

        pub bit_a : get_or d (g.a.0 - 1) 0 ≤ 1
        bit_a = bit_at (g.a.0 - 1) (omega (arith, gate_low, gate_order, gate_high))

        pub bit_b : get_or d (g.b.0 - 1) 0 ≤ 1
        bit_b = bit_at (g.b.0 - 1) (omega (arith, gate_low, gate_order, gate_high))

        pub plain_turn : (x : ℕ) → x ≡ value g.code (get_or d (g.a.0 - 1) 0) (get_or d (g.b.0 - 1) 0) → Evaluating c o n q (k + 1) (set d (n + k) x)
        plain_turn x is_x =
            let low = gate_low in
            let order = gate_order in
            let high = gate_high in
            let e : x ≡ gate_value (values_to c (take n o) k) (gate_at c k) =
            is_x ∙ unfold gate_value in (rw (at_wire (g.a.0 - 1) (omega arith), at_wire (g.b.0 - 1) (omega arith), is_g)) in
            record {
              within = omega arith;
              same_length = simp length-set inv.same_length;
              so_far = rw (add-one, values_more, inv.so_far, e) (over_set (values_to c (take n o) k) o (n + k) _ so_many (omega (arith, start.room)));
            }

  pub plain_end : (d : List ℕ) (k : ℕ) → Evaluating c o n q k d → q ≤ k → d ≡ over (plain_values (circuit_of c) (take n o)) o
  unfolding plain_values circuit_of values_to
  plain_end d k inv h =
      let w = inv.within in
      let e : k ≡ gates c = omega (arith, start.is_q) in
      inv.so_far ∙ rw e

pub ruleset gate_cases = (plain_start, gate_room, gate_small, gate_low, gate_low_2, read_a, read_b, bit_a, bit_b, plain_turn, plain_end)
