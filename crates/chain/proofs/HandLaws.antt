-- What each call leaves, and so what the next one gets: the bytes that demand 3 speaks of. Assumes nothing.
use Prim.Native.Nat.{ℕ, zero, suc, ◌+◌, ◌*◌}
use native.Mathlib.Omega.{arith}
use mathlib.Core.Path.{◌≡◌, refl, sym, ◌∙◌}
use mathlib.Core.List.{List, map}
use mathlib.Core.Bool.{Bool, true, false}
use lib.Dec.{ltb}
use lib.ListN.{length, take, length-map}
use Rattle.model.specs.declared.Garbled.{Garbled}
use Rattle.model.specs.declared.Wanted.{Wanted}
use Rattle.model.specs.Bytes.{over}
use Rattle.model.specs.Circuit.{circuit_of, inputs, outputs, gates}
use Rattle.model.specs.Tokens.{Garbling, wants_hashes, garbling_of}
use Rattle.model.specs.Material.{material}
use Rattle.model.specs.Evaluation.{output_tokens}
use Rattle.model.specs.Refusals.{Verdict, fine, refused, refuse, ◌then◌, first_of, mark_verdict, room_verdict, clash_at, clash_verdict}
use Rattle.model.specs.Operations.{no, yes, sizes_of, file_length, garble_verdict, garble_made, evaluate_verdict, evaluate_calls_of, GarbleIs, EncodeIs, EvaluateIs, OutputTokensIs, DecodeIs}
use Rattle.model.specs.Demand3.{Allowed, chain_material, chain_zeros, chain_ones, chain_inputs, chain_tokens, chain_bits, carries}
use Rattle.model.proofs.Verdicts.{then_fine, yes_given, no_turned}
use Rattle.model.proofs.Outputs.{outputs_many}
use Rattle.model.proofs.Lengths.{material_length_law}
use Rattle.model.proofs.OldEnding as Old
use Rattle.model.proofs.Demand3.{inputs_long, tokens_long, zeros_long, ones_long, outputs_long, only_room, demand_3}
use Rattle.garble.specs.Whole.{WholeStart}
use Rattle.garble.specs.Written.{EncodeStart}
use Rattle.garble.proofs.GarbleIsLaws.{garble_fine}
use Rattle.garble.proofs.EncodeIsLaws.{encode_fine}
use Rattle.chain.specs.Chain.{IsRoom, GarbleStops, by_room, by_clash}
use Rattle.chain.proofs.PartLaws.{whole_front, front_part}

-- ---- a refusal that the rooms give is 19

refuse_19 : (b : Bool) (n i x : ℕ) → refused i x ≡ refuse b 19 n → IsRoom (refused i x)
unfolding refuse
refuse_19 true n i x e = record { needed = n; is_19 = e }
refuse_19 false n i x e = absurd (let z : ◌≡◌ {A = ℕ} 0 1 = cc in omega arith)

room_only : (a k i x : ℕ) → refused i x ≡ room_verdict a k → IsRoom (refused i x)
unfolding room_verdict
room_only a k i x e = refuse_19 (ltb k a) a i x e

then_only : (v w : Verdict) (i x : ℕ) → (refused i x ≡ v → IsRoom (refused i x)) → (refused i x ≡ w → IsRoom (refused i x))
    → refused i x ≡ (v then w) → IsRoom (refused i x)
unfolding ◌then◌
then_only fine w i x f g e = g e
then_only (refused j y) w i x f g e = f e

-- ---- and one of garble is 19, or 30 where it is to write hashes

stops_then : (want : Wanted) (v w : Verdict) (i x : ℕ) → (refused i x ≡ v → GarbleStops want (refused i x)) → (refused i x ≡ w → GarbleStops want (refused i x))
    → refused i x ≡ (v then w) → GarbleStops want (refused i x)
unfolding ◌then◌
stops_then want fine w i x f g e = g e
stops_then want (refused j y) w i x f g e = f e

nothing_refused : (i x : ℕ) → refused i x ≡ fine → ⊥
nothing_refused i x e = let z : ◌≡◌ {A = ℕ} 0 1 = cc in omega arith

module _ (γ : Garbling) (want : Wanted) (by_hash : wants_hashes want ≡ true) where
  pair_stops : (k i x : ℕ) (b : Bool) → refused i x ≡ refuse b 30 k → GarbleStops want (refused i x)
  unfolding refuse
  pair_stops k i x true e = rw e (by_clash k by_hash)
  pair_stops k i x false e = absurd (nothing_refused i x e)

  first_stops : (m i x : ℕ) → refused i x ≡ first_of (clash_at γ) m → GarbleStops want (refused i x)
  unfolding first_of clash_at
  first_stops zero i x e = absurd (nothing_refused i x e)
  first_stops (suc m) i x e = stops_then want _ _ i x (first_stops m i x) (pair_stops (m + 1) i x _) e

clash_stops : (c seed : List ℕ) (want : Wanted) (i x : ℕ) → refused i x ≡ clash_verdict (garbling_of c seed want) → GarbleStops want (refused i x)
unfolding clash_verdict
clash_stops c seed want i x = go (wants_hashes want) refl
  where
    go : (b : Bool) → wants_hashes want ≡ b → refused i x ≡ clash_verdict (garbling_of c seed want) → GarbleStops want (refused i x)
    go true h e = first_stops (garbling_of c seed want) want h (length (circuit_of c).outputs) i x e
    go false h e = absurd (nothing_refused i x (e ∙ Old.no_clash (garbling_of c seed want) h))

-- ---- garble refused
pub garble_refused : (c seed : List ℕ) (want : Wanted) (v f z o f' z' o' : List ℕ) (i x : ℕ)
    → GarbleIs c seed want f z o (no (refused i x)) f' z' o' → Allowed c seed want v → GarbleStops want (refused i x)
garble_refused c seed want v f z o f' z' o' i x answers permitted =
    let d = no_turned (garble_verdict c seed want (length f) (length z) (length o) then clash_verdict (garbling_of c seed want)) (refused i x) (garble_made c seed want) answers.answered in
    stops_then want _ _ i x
    (λ e. by_room (then_only _ _ i x (then_only _ _ i x (room_only _ _ i x) (room_only _ _ i x)) (room_only _ _ i x) (e ∙ (only_room c seed want v permitted).garble_room (length f) (length z) (length o))))
    (clash_stops c seed want i x)
    (d.is_w ∙ sym d.is_v)

-- ---- garble ran
module _ (c seed : List ℕ) (want : Wanted) (f z o f' z' o' : List ℕ) (made : Garbled) (ran : GarbleIs c seed want f z o (yes made) f' z' o') where
  both_fine : (garble_verdict c seed want (length f) (length z) (length o) ≡ fine) × (clash_verdict (garbling_of c seed want) ≡ fine)
  both_fine = then_fine _ _ (yes_given _ made (garble_made c seed want) ran.answered).is_fine

  pub was_fine : garble_verdict c seed want (length f) (length z) (length o) ≡ fine
  was_fine = both_fine.0

  pub no_clash : clash_verdict (garbling_of c seed want) ≡ fine
  no_clash = both_fine.1

  marked : mark_verdict want.mark ≡ fine
  unfolding garble_verdict
  marked =
      let a = then_fine _ _ was_fine in
      let b = then_fine _ _ a.0 in
      let d = then_fine _ _ b.0 in
      let g = then_fine _ _ d.0 in
      (then_fine _ _ g.0).1

  pub garbled : WholeStart c seed want (sizes_of c) f z o
  garbled = garble_fine c seed want f z o was_fine

  pub garble_made_law : made ≡ garble_made c seed want
  garble_made_law = (yes_given (garble_verdict c seed want (length f) (length z) (length o) then clash_verdict (garbling_of c seed want)) made (garble_made c seed want) ran.answered).is_result

  -- the bytes of the material that garble wrote
  pub file_is : (v : List ℕ) → take (file_length c want) f' ≡ chain_material c seed want v
  unfolding chain_material file_length
  file_is v =
      let γ = garbling_of c seed want in
      let long = material_length_law γ in
      rw (ran.material_left, was_fine, no_clash) (whole_front (material γ) f _ (rw (outputs_many c) at long))

  pub zeros_are : (v : List ℕ) → z' ≡ over (chain_zeros c seed want v) z
  unfolding chain_zeros
  zeros_are v = ran.zeros_left ∙ rw (was_fine, no_clash)

  pub ones_are : (v : List ℕ) → o' ≡ over (chain_ones c seed want v) o
  unfolding chain_ones
  ones_are v = ran.ones_left ∙ rw (was_fine, no_clash)

  -- the two lists that encode gets
  module _ (v : List ℕ) (permitted : Allowed c seed want v) where
    zeros_handed : take (16 * inputs c) z' ≡ take (16 * inputs c) (chain_zeros c seed want v)
    zeros_handed = rw (zeros_are v) (front_part (chain_zeros c seed want v) z (16 * inputs c) (omega (arith, zeros_long c seed want v permitted)))

    ones_handed : take (16 * inputs c) o' ≡ chain_ones c seed want v
    ones_handed = rw (ones_are v) (whole_front _ o _ (ones_long c seed want v permitted))

    pub encode_refused : (t t' : List ℕ) (i x : ℕ) → EncodeIs c v (take (16 * inputs c) z') (take (16 * inputs c) o') t (refused i x) t' → IsRoom (refused i x)
    encode_refused t t' i x answers =
        room_only _ _ i x ((rw (zeros_handed, ones_handed) at answers.answered) ∙ (only_room c seed want v permitted).encode_room (length t))

  -- ---- encode ran
  module _ (v t t' : List ℕ) (encoded : EncodeIs c v (take (16 * inputs c) z') (take (16 * inputs c) o') t fine t') where
    encode_start : EncodeStart (inputs c) v (take (16 * inputs c) z') (take (16 * inputs c) o') t
    encode_start = encode_fine c v _ _ t (sym encoded.answered)

    pub allowed : Allowed c seed want v
    allowed = record {
      accepted = garbled.sized.accepted;
      known = garbled.known;
      marked = marked;
      seed_bytes = garbled.seed_length;
      one_each = encode_start.values;
      bits = encode_start.bits;
    }

    tokens_encoded : t' ≡ over (chain_inputs c seed want v) t
    unfolding chain_inputs
    tokens_encoded = encoded.left ∙ rw (← encoded.answered, zeros_handed v allowed, ones_handed v allowed)

    tokens_handed : take (16 * inputs c) t' ≡ chain_inputs c seed want v
    tokens_handed = rw tokens_encoded (whole_front _ t _ (inputs_long c seed want v allowed))

    abbrev file : List ℕ
    file = take (file_length c want) f'

    pub evaluate_refused : (w w' : List ℕ) (i x : ℕ) → EvaluateIs c (take (16 * inputs c) t') file w (no (refused i x)) w' → IsRoom (refused i x)
    evaluate_refused w w' i x answers =
        let e = rw (tokens_handed, file_is v) at answers.answered in
        let d = no_turned (evaluate_verdict c (chain_inputs c seed want v) (chain_material c seed want v) (length w)) (refused i x) _ e in
        room_only _ _ i x (d.is_w ∙ sym d.is_v ∙ (only_room c seed want v allowed).evaluate_room (length w))

    -- ---- evaluate ran
    module _ (w w' : List ℕ) (evaluated : EvaluateIs c (take (16 * inputs c) t') file w (yes (evaluate_calls_of c (take (16 * inputs c) t') file)) w') where
      evaluate_was_fine : evaluate_verdict c (take (16 * inputs c) t') file (length w) ≡ fine
      evaluate_was_fine = (yes_given _ (evaluate_calls_of c (take (16 * inputs c) t') file) (evaluate_calls_of c (take (16 * inputs c) t') file) evaluated.answered).is_fine

      pub wires_are : w' ≡ over (chain_tokens c seed want v) w
      unfolding chain_tokens
      wires_are = evaluated.left ∙ rw (evaluate_was_fine, tokens_handed, file_is v)

      wires_handed : take (16 * (inputs c + gates c)) w' ≡ chain_tokens c seed want v
      wires_handed = rw wires_are (whole_front _ w _ (tokens_long c seed want v allowed))

      pub outputs_refused : (y y' : List ℕ) (i x : ℕ) → OutputTokensIs c (take (16 * (inputs c + gates c)) w') y (refused i x) y' → IsRoom (refused i x)
      outputs_refused y y' i x answers =
          room_only _ _ i x ((rw wires_handed at answers.answered) ∙ (only_room c seed want v allowed).output_tokens_room (length y))

      -- ---- the outputs' tokens were taken
      module _ (y y' : List ℕ) (gathered : OutputTokensIs c (take (16 * (inputs c + gates c)) w') y fine y') where
        outputs_are : y' ≡ over (output_tokens (circuit_of c) (chain_tokens c seed want v)) y
        outputs_are = gathered.left ∙ rw (← gathered.answered, wires_handed)

        outputs_handed : take (16 * outputs c) y' ≡ output_tokens (circuit_of c) (chain_tokens c seed want v)
        outputs_handed = rw outputs_are (whole_front _ y _ (outputs_long c seed want v allowed))

        pub decode_refused : (b b' : List ℕ) (i x : ℕ) → DecodeIs c (take (16 * outputs c) y') file b (refused i x) b' → IsRoom (refused i x)
        decode_refused b b' i x answers =
            let e = rw (outputs_handed, file_is v) at answers.answered in
            room_only _ _ i x (e ∙ (only_room c seed want v allowed).decode_room (length b))

        -- ---- decode ran
        module _ (b b' : List ℕ) (decoded : DecodeIs c (take (16 * outputs c) y') file b fine b') where
          bits_are : b' ≡ over (chain_bits c seed want v) b
          unfolding chain_bits
          bits_are = decoded.left ∙ rw (← decoded.answered, outputs_handed, file_is v)

          bits_long : length (chain_bits c seed want v) ≡ outputs c
          bits_long = rw ((demand_3 c seed want v allowed).decoded no_clash) (length-map (circuit_of c).outputs (carries c v) ∙ outputs_many c)

          pub bits_handed : take (outputs c) b' ≡ map (carries c v) (circuit_of c).outputs
          bits_handed = rw bits_are (whole_front _ b _ bits_long) ∙ (demand_3 c seed want v allowed).decoded no_clash
