-- A gate's operands: what their reads ask, and what was read. Assumes nothing.
use Prim.Native.Nat.{ℕ, ◌+◌, ◌*◌, ◌≤◌, ◌<◌}
use native.Mathlib.Omega.{arith}
use mathlib.Core.Path.{◌≡◌, ap, ◌∙◌}
use mathlib.Core.List.{List}
use lib.ListN.{length}
use Rattle.model.specs.declared.Gate.{Gate}
use Rattle.model.specs.Circuit.{inputs, gate_at, gate_wire}
use Rattle.model.specs.Evaluation.{token_at}
use Rattle.model.proofs.Accepted.{HeaderHolds, GateHolds, accepted_header, gates_inside, accepted_gate}
use Rattle.garble.specs.Walk.{OperandsStart, GateInIs}
use Rattle.garble.specs.declared.gate.GateIn.{GateIn}

module _ (c : List ℕ) (n k : ℕ) (z : List ℕ) (start : OperandsStart c n k z) where
  in_circuit : HeaderHolds c
  in_circuit = accepted_header c start.accepted

  operands : GateHolds (gate_wire (inputs c) k) (gate_at c k)
  operands = accepted_gate c k start.accepted start.more

  pub gate_room : 8 + 7 * k + 7 ≤ length c
  gate_room = omega (arith, gates_inside c in_circuit, start.more)

  pub gate_small : k < 65536
  gate_small = omega (arith, in_circuit.sizes.sum, start.more)

  pub own_small : n + k + 1 < 65536
  own_small = omega (arith, in_circuit.sizes.sum, start.more, start.is_n)

  module _ (g : Gate) (is_g : g ≡ gate_at c k) where
    pub low_a : 1 ≤ g.a.0
    low_a = rw is_g operands.a_low

    order : g.a.0 < g.b.0
    order = rw is_g operands.order

    high_b : g.b.0 < gate_wire (inputs c) k
    high_b = rw is_g operands.b_high

    pub low_b : 1 ≤ g.b.0
    low_b = omega (arith, order)

    pub high_a : 16 * g.a.0 ≤ length z
    high_a = omega (arith, order, high_b, start.more, start.room)

    pub top_b : 16 * g.b.0 ≤ length z
    top_b = omega (arith, high_b, start.more, start.room)

    pub operands_read : (r : GateIn) → r.code ≡ g.code → r.own.0 ≡ n + k + 1 → r.xa.bytes ≡ token_at z g.a.0 → r.xb.bytes ≡ token_at z g.b.0 → GateInIs c n k z r
    operands_read r e f h i = record {
      is_code = e ∙ ap (λ (x : Gate). x.code) is_g;
      is_own = f;
      is_xa = h ∙ rw is_g;
      is_xb = i ∙ rw is_g;
    }

pub ruleset operand_needs = (gate_room, gate_small, own_small, low_a, low_b, high_a, top_b, operands_read)
