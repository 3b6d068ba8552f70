-- One gate of the walk: what it starts from, by its kind, and what it leaves. Assumes nothing.
use Prim.Native.Nat.{ℕ, suc, ◌+◌, ◌*◌, ◌-◌, ◌≤◌, ◌<◌}
use native.Mathlib.Nat.{one-mul, zero-mul, add-zero}
use native.Mathlib.Omega.{arith}
use mathlib.Core.Path.{◌≡◌, sym, ap, ◌∙◌}
use mathlib.Core.List.{List}
use lib.ListN.{length, drop, take-append-drop}
use mir.Syntax.{w64}
use mir.Val.{Fits}
use Rattle.model.specs.declared.AndGate.{AndGate}
use Rattle.model.specs.declared.XorGate.{XorGate}
use Rattle.model.specs.declared.Wanted.{Wanted}
use Rattle.model.specs.declared.Kind as Kinds
use Rattle.model.specs.Bytes.{tabulate, put}
use Rattle.model.specs.Circuit.{Kind, charged, free, refused, kind_of, charges, circuit_of, inputs, outputs, gates, gate_at, gate_wire, wire}
use Rattle.model.specs.Aes.{Block, block}
use Rattle.model.specs.Tokens.{garbling_of, seed_block, offset, free_zero}
use Rattle.model.specs.Scheme.{record_length}
use Rattle.model.specs.Garbling.{scheme_of, site_of, zero_at, zero_step}
use Rattle.model.specs.Material.{record_of}
use Rattle.model.specs.Evaluation.{token_at}
use Rattle.model.specs.Calls.{garble_calls_at}
use Rattle.model.proofs.Lists.{tabulate_length}
use Rattle.model.proofs.Circuits.{charges_le}
use Rattle.model.proofs.Places.{length_last, last_high, record_fits, record_high}
use Rattle.model.proofs.Buffers.{put_none}
use Rattle.model.proofs.Codes.{Used, used_charged, used_free}
use Rattle.model.proofs.Blocks.{Blocks, blocks_length, join_at}
use Rattle.model.proofs.Lengths.{input_zeros_blocks, zeros_blocks}
use Rattle.model.proofs.Accepted.{GateHolds, accepted_header, accepted_gate}
use Rattle.circuit.specs.Answers.{meaning}
use Rattle.garble.specs.Held.{FreshIs}
use Rattle.garble.specs.Walk.{zeros_to, site_at, WalkOf, OperandsStart, GateInIs, StepStart, StepIs, ChargedStart, ChargedIs}
use Rattle.garble.specs.declared.plan.Plan.{Plan}
use Rattle.garble.specs.declared.gate.GateIn.{GateIn}

not_refused : (k : Kind) → Used k → k ≡ refused → ⊥
not_refused _ used_charged e = let z : ◌≡◌ {A = ℕ} 0 1 = cc in omega arith
not_refused _ used_free e = let z : ◌≡◌ {A = ℕ} 0 1 = cc in omega arith

module _ (c seed : List ℕ) (want : Wanted) (plan : Plan) (walk : WalkOf c seed want plan) where
  offset_is : plan.r.bytes ≡ offset (garbling_of c seed want)
  unfolding offset seed_block
  offset_is = walk.plan_is.is_offset

  -- the zero tokens of the wires before gate k
  pub zeros_many : (k : ℕ) → Blocks (inputs c + k) (zeros_to c seed want k)
  unfolding zeros_to circuit_of
  zeros_many k = rw tabulate_length at (zeros_blocks (garbling_of c seed want) (tabulate k (gate_at c)) (input_zeros_blocks (garbling_of c seed want)))

  module _ (k at : ℕ) (m z : List ℕ) (start : StepStart c seed want k at m z) where
    pub step_operands : OperandsStart c plan.n k z
    step_operands = record { accepted = walk.accepted; is_n = walk.plan_is.is_n; more = start.more; room = start.wires_room }

    -- no place past a record overflows
    pub step_next : Fits w64 (at + plan.stride)
    step_next =
        let few : charges (tabulate k (gate_at c)) ≤ 65535 =
        omega (arith, charges_le (tabulate k (gate_at c)), tabulate_length k (gate_at c), start.more, (accepted_header c walk.accepted).sizes.sum) in
        omega (arith, start.is_at, last_high want.scheme (charges (tabulate k (gate_at c))) few, walk.plan_is.is_stride, record_high want.scheme)

    pub step_slot : 16 * (plan.n + k) + 16 ≤ length z
    step_slot = omega (arith, start.more, start.wires_room, walk.plan_is.is_n)

    holds : GateHolds (gate_wire (inputs c) k) (gate_at c k)
    holds = accepted_gate c k walk.accepted start.more

    -- a token in the buffer is that of its wire
    token : (a : ℕ) → 1 ≤ a → a < gate_wire (inputs c) k → token_at z a ≡ wire (block 0) (zeros_to c seed want k) a
    unfolding token_at
    token a h l =
        rw (← take-append-drop (16 * (inputs c + k)) z, start.so_far)
        (join_at (zeros_many k) (a - 1) (omega arith) (drop (16 * (inputs c + k)) z))

    -- what was read is what garbling knows at the gate
    module _ (g : GateIn) (is_g : GateInIs c plan.n k z g) where
      xa_is : g.xa.bytes ≡ wire (block 0) (zeros_to c seed want k) (gate_at c k).a.0
      xa_is = is_g.is_xa ∙ token (gate_at c k).a.0 holds.a_low (omega (arith, holds.order, holds.b_high))

      xb_is : g.xb.bytes ≡ wire (block 0) (zeros_to c seed want k) (gate_at c k).b.0
      xb_is = is_g.is_xb ∙ token (gate_at c k).b.0 (omega (arith, holds.a_low, holds.order)) holds.b_high

      own_is : g.own.0 ≡ suc (length (zeros_to c seed want k))
      own_is = is_g.is_own ∙ omega (arith, blocks_length (zeros_many k), walk.plan_is.is_n)

      pub site_is : site_at plan g ≡ site_of (garbling_of c seed want) (zeros_to c seed want k) (gate_at c k)
      unfolding site_at site_of seed_block
      site_is = rw (walk.plan_is.is_seed, walk.plan_is.is_wanted, offset_is, own_is, is_g.is_code, xa_is, xb_is)

      -- the block that scheme 1 asks for, by the gate as it was read
      pub step_fresh : (s : Block) (y : Wanted) (f : Block) → FreshIs s y (gate_at c k).code (gate_wire plan.n k) f → FreshIs s y g.code g.own.0 f
      step_fresh s y f fresh = rw (is_g.is_code, is_g.is_own) fresh

      -- the kind as `code_kind` gave it
      module _ (kind : Kinds.Kind) (is_kind : meaning kind ≡ kind_of g.code) where
        code_kind : kind_of (gate_at c k).code ≡ meaning kind
        code_kind = sym (is_kind ∙ ap kind_of is_g.is_code)

        -- ---- a charged gate
        module _ (x : AndGate) (e : kind ≡ Kinds.Kind.Charged x) where
          pub charged_is : kind_of (gate_at c k).code ≡ charged x.u.bit x.v.bit x.own.bit
          charged_is = code_kind ∙ ap meaning e

          room : at + record_length (scheme_of want.scheme) ≤ length m
          unfolding circuit_of
          room =
              let fits = rw charged_is at (record_fits want.scheme (gate_at c) k (gates c) start.more) in
              omega (arith, fits, start.is_at, start.file_room, length_last want.scheme (outputs c) (charges (tabulate (gates c) (gate_at c))))

          pub step_charged_start : ChargedStart want.scheme plan.stored g.code x.u.bit x.v.bit x.own.bit m at z (16 * (plan.n + k))
          step_charged_start = record {
            known = walk.known;
            is_stored = walk.plan_is.is_stored;
            is_charged_kind = ap kind_of is_g.is_code ∙ charged_is;
            record_room = room;
            slot_room = step_slot;
          }

          pub step_charged : (m' z' : List ℕ) (calls : ℕ)
              → ChargedIs want.scheme (site_at plan g) m at z (16 * (plan.n + k)) m' z' calls
              → StepIs c seed want k at m z (at + plan.stride) calls m' z'
          step_charged m' z' calls done = record {
            zeros_left = done.zeros_left ∙ rw (site_is, walk.plan_is.is_n) (unfold zero_step zero_at in (rw charged_is));
            material_left = done.material_left ∙ rw site_is (unfold record_of in (rw charged_is));
            is_next = rw (charged_is, one-mul, walk.plan_is.is_stride);
            calls_made = done.calls_made ∙ rw site_is (unfold garble_calls_at in (rw charged_is));
          }

        -- ---- a free gate
        module _ (x : XorGate) (e : kind ≡ Kinds.Kind.Free x) where
          free_is : kind_of (gate_at c k).code ≡ free x.p.bit x.q.bit x.c.bit
          free_is = code_kind ∙ ap meaning e

          pub step_free : (y z' : List ℕ) → y ≡ free_zero x.p.bit x.q.bit x.c.bit plan.r.bytes g.xa.bytes g.xb.bytes → z' ≡ put z (16 * (plan.n + k)) y → StepIs c seed want k at m z at 0 m z'
          step_free y z' is_y is_z = record {
            zeros_left = is_z ∙ rw (walk.plan_is.is_n, is_y) (unfold zero_step zero_at site_of in (rw (free_is, offset_is, xa_is, xb_is)));
            material_left = put_none m at ∙ unfold record_of in (rw free_is);
            is_next = rw (free_is, zero-mul) (sym (add-zero at));
            calls_made = unfold garble_calls_at in (rw free_is);
          }

        -- ---- no other gate is accepted
        pub step_refused : kind ≡ Kinds.Kind.Refused → StepIs c seed want k at m z at 0 m z
        step_refused e = absurd (not_refused _ holds.used (code_kind ∙ ap meaning e))

pub ruleset step_cases = (step_operands, step_next, step_charged_start, step_fresh, step_charged, step_slot, step_free, step_refused)
