-- The gates and the last record: what the last record starts from, and the material whole. Assumes nothing.
use Prim.Native.Nat.{ℕ, suc, ◌+◌, ◌*◌, ◌≤◌}
use native.Mathlib.Omega.{arith}
use mathlib.Core.Path.{◌≡◌, refl, sym, ap, ap₂, ◌∙◌}
use mathlib.Core.Bool.{Bool, true, false, cond}
use mathlib.Core.List.{List, ◌∷◌, ◌++◌}
use lib.ListN.{length}
use mir.Syntax.{w64}
use mir.Val.{Fits}
use Rattle.model.specs.declared.Sizes.{Sizes}
use Rattle.model.specs.declared.Wanted.{Wanted}
use Rattle.model.specs.Bytes.{over}
use Rattle.model.specs.Circuit.{circuit_of, outputs}
use Rattle.model.specs.Aes.{◌⊕◌}
use Rattle.model.specs.Tokens.{wants_hashes, garbling_of, seed_block, offset, one_token, input_zeros}
use Rattle.model.specs.Garbling.{zero_tokens}
use Rattle.model.specs.Ending.{Ending, ending_of}
use Rattle.model.specs.Material.{join_blocks, last_start, last_bytes, zero_of, header, records, stored_of, last_record, material}
use Rattle.model.specs.Calls.{output_calls}
use Rattle.model.specs.Operations.{file_length}
use Rattle.model.specs.Evaluation.{token_at}
use Rattle.model.proofs.Places.{length_last}
use Rattle.model.proofs.Buffers.{over_length, over_put}
use Rattle.model.proofs.Blocks.{token_at_front}
use Rattle.model.proofs.Outputs.{outputs_many}
use Rattle.model.proofs.Calls.{garble_calls_all, output_calls_2m}
use Rattle.model.proofs.Accepted.{Within, none, more, accepted_circuit}
use Rattle.model.proofs.Lengths.{zero_tokens_blocks, last_length}
use Rattle.circuit.proofs.AcceptedLaws as Sized
use Rattle.garble.specs.declared.plan.Plan.{Plan}
use Rattle.garble.specs.Walk.{WalkOf, GatesIs, stored_from, last_of, LastStart, LastIs, BodyStart, BodyIs}
use Rattle.garble.proofs.WalkLaws.{front_long, zeros_long}

module _ (c seed : List ℕ) (want : Wanted) (plan : Plan) (walk : WalkOf c seed want plan)
    (s : Sizes) (m z : List ℕ) (start : BodyStart c seed want s m z) where
  is_m : s.m ≡ outputs c
  is_m = Sized.is_m c s start.sized

  -- nothing overflows
  pub few_charged : s.p ≤ 65535
  few_charged = Sized.few_charges c s start.sized

  -- ---- after the gates
  module _ (m1 z1 : List ℕ) (calls : ℕ) (done : GatesIs c seed want m z m1 z1 calls) where
    zeros_same : length z1 ≡ length z
    zeros_same =
        ap length done.zeros_left ∙ over_length (join_blocks (zero_tokens (garbling_of c seed want))) z (omega (arith, zeros_long c seed want, start.gates_start.wires_room))

    so_far : List ℕ
    so_far = header (garbling_of c seed want) ++ records (garbling_of c seed want) (circuit_of c).gates (input_zeros (garbling_of c seed want))

    so_long : length so_far ≡ last_start want.scheme s.p
    unfolding so_far
    so_long = front_long (garbling_of c seed want) (circuit_of c).gates ∙ rw (Sized.is_p c s start.sized)

    file_room : last_start want.scheme s.p + 2 + last_bytes (wants_hashes want) s.m ≤ length m
    unfolding file_length
    file_room = rw (← length_last want.scheme (last_bytes (wants_hashes want) s.m) s.p, is_m, Sized.is_p c s start.sized) start.file_room

    material_same : length m1 ≡ length m
    unfolding so_far
    material_same = ap length done.material_left ∙ over_length so_far m (omega (arith, so_long, file_room))

    pub body_last : (at : ℕ) → at ≡ last_start want.scheme s.p → LastStart c want s z1 m1 at
    body_last at is_at = record {
      sized = start.sized;
      tokens = rw zeros_same start.gates_start.wires_room;
      room = omega (arith, is_at, material_same, file_room);
    }

    -- the zero tokens are those of the buffer
    shown : (k : ℕ) → 1 ≤ k → k ≤ (circuit_of c).n + length (circuit_of c).gates → token_at z1 k ≡ zero_of (garbling_of c seed want) k
    unfolding over zero_of
    shown k l h = rw done.zeros_left (token_at_front (zero_tokens_blocks (garbling_of c seed want)) k l h _)

    offset_is : plan.r.bytes ≡ offset (garbling_of c seed want)
    unfolding offset seed_block
    offset_is = walk.plan_is.is_offset

    stored_one : (E : Ending) (k w : ℕ) → 1 ≤ w → w ≤ (circuit_of c).n + length (circuit_of c).gates
        → E.stored k (token_at z1 w) (token_at z1 w ⊕ plan.r.bytes) ≡ E.stored k (zero_of (garbling_of c seed want) w) (one_token (garbling_of c seed want) (zero_of (garbling_of c seed want) w))
    unfolding one_token
    stored_one E k w l h = rw (shown w l h, offset_is)

    stored_are : (E : Ending) (k : ℕ) {ws : List ℕ} → Within ((circuit_of c).n + length (circuit_of c).gates) ws
        → stored_from E z1 plan.r.bytes k ws ≡ stored_of (garbling_of c seed want) E k ws
    unfolding stored_from stored_of
    stored_are E k none = refl
    stored_are E k (more {w = w} l h t) = ap₂ (λ (x y : List ℕ). x ++ y) (stored_one E k w l h) (stored_are E (suc k) t)

    last_is : last_of c plan.r.bytes z1 (wants_hashes want) ≡ last_record (garbling_of c seed want)
    unfolding last_of last_record
    last_is =
        ap (λ (l : List ℕ). 0x47 ∷ (ending_of (wants_hashes want)).last_mark ∷ l)
        (stored_are (ending_of (wants_hashes want)) 1 (accepted_circuit c start.sized.accepted).outputs_within)

    few_gates : calls ≤ 262140
    few_gates =
        omega (
          arith,
          done.calls_made,
          garble_calls_all (garbling_of c seed want) (circuit_of c).gates (input_zeros (garbling_of c seed want)),
          Sized.is_p c s start.sized,
          few_charged,
        )

    -- the last record as it was written
    module _ (at : ℕ) (is_at : at ≡ last_start want.scheme s.p) (m2 : List ℕ) (hashes : ℕ) (last : LastIs c want plan.r.bytes z1 m1 at m2 hashes) where
      few_hashes : (b : Bool) → cond b (2 * outputs c) 0 ≤ 131070
      few_hashes true = omega (arith, Sized.few_outputs c s start.sized, is_m)
      few_hashes false = omega arith

      pub body_calls : Fits w64 (calls + hashes)
      body_calls = omega (arith, few_gates, last.calls_made, few_hashes (wants_hashes want))

      hashes_made : hashes ≡ output_calls (garbling_of c seed want)
      hashes_made = last.calls_made ∙ rw (← outputs_many c) (sym (output_calls_2m (garbling_of c seed want)))

      pub body_done : BodyIs c seed want m z m2 z1 (calls + hashes)
      unfolding so_far material
      body_done = record {
        zeros_left = done.zeros_left;
        material_left =
            last.left
            ∙ rw (is_at, last_is, done.material_left)
            (over_put so_far m (last_record (garbling_of c seed want)) (last_start want.scheme s.p) so_long
            (omega (arith, file_room, rw (outputs_many c, ← is_m) at (last_length (garbling_of c seed want)))));
        calls_made = ap₂ (λ (x y : ℕ). x + y) done.calls_made hashes_made;
      }

pub ruleset body_cases = (few_charged, body_last, body_calls, body_done)
