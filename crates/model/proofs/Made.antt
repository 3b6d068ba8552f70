-- The circuit made from n, m and gates that keep their limits: it is accepted, and it is the circuit of those gates. Assumes nothing.
use Prim.Native.Nat.{ℕ, zero, suc, ◌+◌, ◌≤◌, ◌<◌}
use native.Mathlib.Nat.{add-zero, le_of_suc-le-suc, not-suc-le-zero}
use native.Mathlib.Omega.{arith}
use mathlib.Core.Path.{◌≡◌, refl}
use mathlib.Core.Bool.{true, false}
use mathlib.Core.List.{List, ◌++◌}
use borrow.Author.Tests.{lt-ltb, le-leb}
use lib.ListN.{length, get_or}
use Rattle.model.specs.declared.Gate.{Gate}
use Rattle.model.specs.Circuit as C
use Rattle.model.specs.Circuit.{Kind, charges, circuit_of, gate_at, gate_wire, last_wires, most_outputs, sizes_hold, operands_hold, circuit_bytes}
use Rattle.model.specs.Refusals.{fine, refuse, ◌then◌, is_refused, gate_verdict, record_verdict, outputs_verdict, circuit_verdict}
use Rattle.model.specs.Operations.{sizes_of}
use Rattle.model.proofs.Lists.{from_cong, tabulate_get_d}
use Rattle.model.proofs.Codes.{Used}
use Rattle.model.proofs.Verdicts.{first_all}
use Rattle.model.proofs.Accepted.{SizesHold, sizes_kept, GateHolds, GatesHold, no_gate_law, gate}
use Rattle.model.proofs.Records.{no_gate, not_named, mark_made, gate_made, inputs_made, outputs_made, gates_made, head_made}

-- ---- gates that keep their limits

-- more gates, on the wires after
pub gates_append : {w : ℕ} {gs hs : List Gate} → GatesHold w gs → GatesHold (w + length gs) hs → GatesHold w (gs ++ hs)
gates_append {w} no_gate_law h = rw (add-zero w) at h
gates_append {w} (gate {gs = gs} g rest) h =
    let at : w + suc (length gs) ≡ suc w + length gs = omega arith in
    gate g (gates_append rest (rw at at h))

-- gate k
pub gate_each : {w : ℕ} {gs : List Gate} → GatesHold w gs → (k : ℕ) → k < length gs → GateHolds (w + k) (get_or gs k no_gate)
gate_each no_gate_law k h = absurd (not-suc-le-zero h)
gate_each {w} (gate g rest) zero h = rw (add-zero w) g
gate_each {w} (gate g rest) (suc k) h =
    let at : w + suc k ≡ suc w + k = omega arith in
    rw at (gate_each rest k (le_of_suc-le-suc h))

in_use : (k : Kind) → Used k → is_refused k ≡ false
in_use (C.charged u v x) h = refl
in_use (C.free p q c) h = refl
in_use C.refused h = elim h [ ]

-- 6 and 7 do not refuse it
gate_fine : (own : ℕ) (g : Gate) → GateHolds own g → gate_verdict own g ≡ fine
unfolding gate_verdict operands_hold refuse ◌then◌
gate_fine own g h = rw (le-leb _ _ h.a_low, lt-ltb _ _ h.order, lt-ltb _ _ h.b_high, in_use _ h.used)

-- ---- the circuit made from them
pub record Makes (n m : ℕ) (gs : List Gate) : Type 0 where
  pub sizes : SizesHold n m (length gs)
  pub few_outputs : m ≤ length gs
  pub gates_hold : GatesHold (suc n) gs

module _ (n m : ℕ) (gs : List Gate) (made : Makes n m gs) where
  n_fits : n ≤ 65535
  n_fits = omega (arith, made.sizes.n_high)

  m_fits : m ≤ 65535
  m_fits = omega (arith, made.few_outputs, made.sizes.sum)

  few : length gs ≤ 65535
  few = omega (arith, made.sizes.sum)

  sizes_fine : sizes_hold false n m (length gs) ≡ true
  unfolding most_outputs
  sizes_fine = sizes_kept false n m (length gs) made.sizes made.few_outputs

  gate_at_law : (k : ℕ) → k < length gs → GateHolds (gate_wire n k) (get_or gs k no_gate)
  gate_at_law k h =
      let at : suc n + k ≡ gate_wire n k = omega arith in
      rw at at (gate_each made.gates_hold k h)

  gate_is : (k : ℕ) → k < length gs → gate_at (circuit_bytes n m gs) k ≡ get_or gs k no_gate
  gate_is k h =
      let g = gate_at_law k h in
      gate_made n m gs k h
      (record { a_fits = omega (arith, g.order, g.b_high, made.sizes.sum); b_fits = omega (arith, g.b_high, made.sizes.sum) })

  record_fine : (k : ℕ) → k < length gs → record_verdict (circuit_bytes n m gs) n k ≡ fine
  unfolding record_verdict refuse ◌then◌
  record_fine k h = rw (mark_made n m gs k h, gate_is k h) (gate_fine (gate_wire n k) (get_or gs k no_gate) (gate_at_law k h))

  pub made_accepted : circuit_verdict (circuit_bytes n m gs) ≡ fine
  unfolding circuit_verdict outputs_verdict refuse ◌then◌
  made_accepted =
      rw (
        head_made n m gs n_fits m_fits few,
        sizes_fine,
        inputs_made n m gs n_fits m_fits few,
        gates_made n m gs n_fits m_fits few,
        not_named n m gs,
        first_all (record_verdict (circuit_bytes n m gs) n) (length gs) record_fine,
      )

  pub made_circuit : circuit_of (circuit_bytes n m gs) ≡ record { n = n; gates = gs; outputs = last_wires n (length gs) m }
  unfolding circuit_of
  made_circuit =
      rw (
        not_named n m gs,
        inputs_made n m gs n_fits m_fits few,
        outputs_made n m gs n_fits m_fits few,
        gates_made n m gs n_fits m_fits few,
        from_cong 0 (length gs) (gate_at (circuit_bytes n m gs)) (λ k. get_or gs k no_gate) (λ k h. gate_is k (omega arith)),
        tabulate_get_d no_gate gs,
      )

  pub made_sizes : sizes_of (circuit_bytes n m gs) ≡ record { n = n; m = m; q = length gs; p = charges gs }
  unfolding sizes_of
  made_sizes =
      rw (
        made_circuit,
        inputs_made n m gs n_fits m_fits few,
        outputs_made n m gs n_fits m_fits few,
        gates_made n m gs n_fits m_fits few,
      )
