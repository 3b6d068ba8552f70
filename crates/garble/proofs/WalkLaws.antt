-- The walk over the gates: its invariant, its turn and its end. Assumes nothing.
use Prim.Native.Nat.{ℕ, ◌+◌, ◌*◌, ◌≤◌, ◌<◌}
use native.Mathlib.Numerals.{add-one}
use native.Mathlib.Omega.{arith}
use mathlib.Core.Path.{◌≡◌, refl, sym, ap, ap₂, ◌∙◌}
use mathlib.Core.List.{List, ◌++◌, append_assoc, append-nil}
use lib.ListN.{length, take, drop, length-append, take-append-drop}
use lib.Seq.{take_at}
use mir.Syntax.{w64}
use mir.Val.{Fits}
use Rattle.model.specs.declared.Gate.{Gate}
use Rattle.model.specs.declared.Wanted.{Wanted}
use Rattle.model.specs.Bytes.{tabulate, over}
use Rattle.model.specs.Circuit.{kind_of, charge, charges, circuit_of, inputs, outputs, gates, gate_at, wires}
use Rattle.model.specs.Aes.{Block}
use Rattle.model.specs.Tokens.{Garbling, garbling_of, input_zeros}
use Rattle.model.specs.Scheme.{record_length}
use Rattle.model.specs.Garbling.{scheme_of, site_of, zero_step, zero_tokens}
use Rattle.model.specs.Material.{join_blocks, last_start, header, record_of, records}
use Rattle.model.specs.Calls.{garble_calls}
use Rattle.model.proofs.Lists.{tabulate_snoc, tabulate_length}
use Rattle.model.proofs.Circuits.{charge_le, charges_le, wires_snoc}
use Rattle.model.proofs.Places.{length_last, start_first, start_next, record_fits}
use Rattle.model.proofs.Buffers.{over_put, put_length}
use Rattle.model.proofs.Blocks.{join_length}
use Rattle.model.proofs.Lengths.{input_zeros_blocks, zero_tokens_blocks, zero_step_wide, header_length, record_length_law, records_length}
use Rattle.model.proofs.OneMore.{records_snoc}
use Rattle.model.proofs.Calls.{garble_calls_at_law, garble_calls_all, garble_calls_snoc}
use Rattle.model.proofs.Accepted.{accepted_header, gates_inside}
use Rattle.model.proofs.Filling.{over_block}
use Rattle.garble.specs.Held.{HeldIs, GatesRoom}
use Rattle.garble.specs.Walk.{zeros_to, WalkOf, StepStart, StepIs, GatesStart, GatesIs}
use Rattle.garble.specs.declared.plan.Plan.{Plan}
use Rattle.garble.specs.declared.seed.Held.{Held}
use Rattle.garble.proofs.StepLaws.{zeros_many}

-- the bytes of the material up to the last record of some gates, and of all zero tokens
pub front_long : (γ : Garbling) (gs : List Gate) → length (header γ ++ records γ gs (input_zeros γ)) ≡ last_start γ.scheme (charges gs)
unfolding last_start
front_long γ gs = length-append (header γ) _ ∙ rw (header_length γ, records_length γ gs (input_zeros γ))

pub zeros_long : (c seed : List ℕ) (want : Wanted) → length (join_blocks (zero_tokens (garbling_of c seed want))) ≡ 16 * (inputs c + gates c)
unfolding circuit_of
zeros_long c seed want = join_length (rw tabulate_length at (zero_tokens_blocks (garbling_of c seed want)))

-- the records of the first k gates
records_to : List ℕ → List ℕ → Wanted → ℕ → List ℕ
records_to c seed want k = records (garbling_of c seed want) (tabulate k (gate_at c)) (input_zeros (garbling_of c seed want))

-- k gates are done, by so many encryptions, and h is held: m and z were m₀ and z₀ at the start
pub record Walking (c seed : List ℕ) (want : Wanted) (q : ℕ) (m₀ z₀ : List ℕ) (h : Held) (k at calls : ℕ) (m z : List ℕ) : Type 0 where
  pub within : k ≤ q
  pub held_is : HeldIs seed want.run h
  pub is_at : at ≡ last_start want.scheme (charges (tabulate k (gate_at c)))
  pub material_length_law : length m ≡ length m₀
  pub zeros_length : length z ≡ length z₀
  material : m ≡ over (header (garbling_of c seed want) ++ records_to c seed want k) m₀
  zeros : z ≡ over (join_blocks (zeros_to c seed want k)) z₀
  counted : calls ≡ garble_calls (garbling_of c seed want) (tabulate k (gate_at c)) (input_zeros (garbling_of c seed want))

module _ (c seed : List ℕ) (want : Wanted) (plan : Plan) (walk : WalkOf c seed want plan)
    (q : ℕ) (m₀ z₀ : List ℕ) (start : GatesStart c seed want q m₀ z₀) where
  -- a buffer whose front is p
  front : (p o : List ℕ) (k : ℕ) → length p ≡ k → take k o ≡ p → o ≡ over p o
  unfolding over
  front p o k l e = rw l (sym (ap (λ (x : List ℕ). x ++ drop k o) (sym e) ∙ take-append-drop k o))

  pub walk_start : (h : Held) → HeldIs seed want.run h → Walking c seed want q m₀ z₀ h 0 9 0 m₀ z₀
  unfolding records_to records zeros_to wires charges circuit_of garble_calls
  walk_start h is_h = record {
    within = omega arith;
    held_is = is_h;
    is_at = sym (start_first want.scheme (gate_at c));
    material_length_law = refl;
    zeros_length = refl;
    material = rw append-nil (front (header (garbling_of c seed want)) m₀ 9 (header_length (garbling_of c seed want)) start.header_front);
    zeros =
        front (join_blocks (input_zeros (garbling_of c seed want))) z₀ (16 * inputs c)
        (join_length (input_zeros_blocks (garbling_of c seed want))) start.inputs_front;
    counted = refl;
  }

  -- the gates can be read ahead
  pub walk_ahead : GatesRoom c plan.n q
  walk_ahead =
      let header_holds = accepted_header c walk.accepted in
      record { room = omega (arith, gates_inside c header_holds, start.is_q); few = omega (arith, header_holds.sizes.sum, start.is_q, walk.plan_is.is_n) }

  module _ (h : Held) (k at calls : ℕ) (m z : List ℕ) (inv : Walking c seed want q m₀ z₀ h k at calls m z) where
    pub walk_end : q ≤ k → GatesIs c seed want m₀ z₀ m z calls
    unfolding records_to zeros_to zero_tokens circuit_of
    walk_end l =
        let e : k ≡ gates c = omega (arith, inv.within, start.is_q) in
        record { zeros_left = inv.zeros ∙ rw e; material_left = inv.material ∙ rw e; calls_made = inv.counted ∙ rw e }

    module _ (more : k < q) where
      below : k < gates c
      below = omega (arith, start.is_q)

      pub walk_step : StepStart c seed want k at m z
      unfolding over
      walk_step = record {
        more = below;
        is_at = inv.is_at;
        file_room = omega (arith, start.file_room, inv.material_length_law);
        wires_room = omega (arith, start.wires_room, inv.zeros_length);
        so_far = rw inv.zeros (take_at (join_blocks (zeros_to c seed want k)) _ (16 * (inputs c + k)) (join_length (zeros_many c seed want plan walk k)));
      }

      -- the record of gate k fits
      record_room : at + charge (kind_of (gate_at c k).code) * record_length (scheme_of want.scheme) ≤ length m₀
      unfolding circuit_of
      record_room =
          omega (
            arith,
            record_fits want.scheme (gate_at c) k (gates c) below,
            length_last want.scheme (outputs c) (charges (tabulate (gates c) (gate_at c))),
            inv.is_at,
            start.file_room,
          )

      module _ (next made : ℕ) (m' z' : List ℕ) (done : StepIs c seed want k at m z next made m' z') where
        -- no count overflows
        pub walk_calls : Fits w64 (calls + made)
        walk_calls =
            let gs = tabulate k (gate_at c) in
            omega (
              arith,
              inv.counted,
              garble_calls_all (garbling_of c seed want) gs (input_zeros (garbling_of c seed want)),
              charges_le gs,
              tabulate_length k (gate_at c),
              below,
              (accepted_header c walk.accepted).sizes.sum,
              done.calls_made,
              garble_calls_at_law (garbling_of c seed want) (kind_of (gate_at c k).code) (site_of (garbling_of c seed want) (zeros_to c seed want k) (gate_at c k)),
              charge_le (kind_of (gate_at c k).code),
            )

        piece : List ℕ
        piece = record_of (garbling_of c seed want) (kind_of (gate_at c k).code) (site_of (garbling_of c seed want) (zeros_to c seed want k) (gate_at c k))

        piece_long : length piece ≡ charge (kind_of (gate_at c k).code) * record_length (scheme_of want.scheme)
        unfolding piece
        piece_long = record_length_law (garbling_of c seed want) (kind_of (gate_at c k).code) _

        material_next : m' ≡ over (header (garbling_of c seed want) ++ records_to c seed want (k + 1)) m₀
        unfolding piece records_to zeros_to
        material_next =
            done.material_left
            ∙ rw (inv.material, add-one, tabulate_snoc k (gate_at c), records_snoc (garbling_of c seed want) (tabulate k (gate_at c)) (gate_at c k) (input_zeros (garbling_of c seed want)))
            (over_put (header (garbling_of c seed want) ++ records_to c seed want k) m₀ piece at (front_long (garbling_of c seed want) (tabulate k (gate_at c)) ∙ sym inv.is_at) (omega (arith, piece_long, record_room))
            ∙ ap (λ (l : List ℕ). over l m₀) (append_assoc (header (garbling_of c seed want)) (records_to c seed want k) piece))

        token : Block
        token = zero_step (garbling_of c seed want) (zeros_to c seed want k) (gate_at c k)

        token_wide : length token ≡ 16
        unfolding token
        token_wide = zero_step_wide (garbling_of c seed want) _ (gate_at c k)

        zeros_next : z' ≡ over (join_blocks (zeros_to c seed want (k + 1))) z₀
        unfolding token zeros_to
        zeros_next =
            done.zeros_left
            ∙ rw (inv.zeros, add-one, tabulate_snoc k (gate_at c), wires_snoc (zero_step (garbling_of c seed want)) (tabulate k (gate_at c)) (gate_at c k) (input_zeros (garbling_of c seed want)))
            (over_block (zeros_many c seed want plan walk k) token z₀ token_wide (omega (arith, below, start.wires_room)))

        counted_next : calls + made ≡ garble_calls (garbling_of c seed want) (tabulate (k + 1) (gate_at c)) (input_zeros (garbling_of c seed want))
        unfolding zeros_to
        counted_next =
            rw (add-one, tabulate_snoc k (gate_at c), garble_calls_snoc (garbling_of c seed want) (tabulate k (gate_at c)) (gate_at c k) (input_zeros (garbling_of c seed want)))
            (ap₂ (λ (x y : ℕ). x + y) inv.counted done.calls_made)

        pub walk_turn : (held : Held) → HeldIs seed want.run held → Walking c seed want q m₀ z₀ held (k + 1) next (calls + made) m' z'
        unfolding piece token
        walk_turn held is_held_lem = record {
          within = omega arith;
          held_is = is_held_lem;
          is_at = done.is_next ∙ rw inv.is_at (sym (start_next want.scheme (gate_at c) k));
          material_length_law =
              ap length done.material_left ∙ put_length m at piece (omega (arith, piece_long, record_room, inv.material_length_law)) ∙ inv.material_length_law;
          zeros_length =
              ap length done.zeros_left ∙ put_length z (16 * (inputs c + k)) token (omega (arith, token_wide, below, start.wires_room, inv.zeros_length)) ∙ inv.zeros_length;
          material = material_next;
          zeros = zeros_next;
          counted = counted_next;
        }

pub ruleset walk_cases = (walk_start, walk_ahead, walk_step, walk_calls, walk_turn, walk_end)
