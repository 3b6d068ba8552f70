-- `chain`: what each call leaves for the calls after it, and a law for each place where the chain ends. Assumes nothing.
use Prim.Native.Nat.{ℕ, ◌+◌, ◌*◌, ◌≤◌}
use native.Mathlib.Omega.{arith}
use mathlib.Core.Path.{◌≡◌, refl, sym, ap, ◌∙◌}
use mathlib.Core.List.{List}
use lib.ListN.{length, take}
use mir.Syntax.{w64}
use mir.Val.{Fits}
use Rattle.std.specs.Prelude.{Result, Ok, Err}
use Rattle.model.specs.declared.Garbled.{Garbled}
use Rattle.model.specs.declared.Sizes.{Sizes}
use Rattle.model.specs.declared.Wanted.{Wanted}
use Rattle.model.specs.declared.Refusal.{Refusal}
use Rattle.model.specs.Circuit.{circuit_of, inputs, outputs, gates}
use Rattle.model.specs.Tokens.{garbling_of}
use Rattle.model.specs.Garbling.{zero_tokens, input_ones}
use Rattle.model.specs.Material.{join_blocks, material}
use Rattle.model.specs.Evaluation.{encode_bytes, evaluate_bytes, output_tokens}
use Rattle.model.specs.Refusals.{fine, refused, verdict_of, clash_verdict}
use Rattle.model.specs.Operations.{no, yes, file_length, sizes_of, answer_of, ran_of, check_answer, garble_verdict, garble_made, evaluate_verdict, evaluate_calls_of, output_tokens_verdict, GarbleIs, EncodeIs, EvaluateIs, OutputTokensIs, DecodeIs}
use Rattle.model.proofs.Verdicts.{yes_given, then_fine}
use Rattle.model.proofs.Conditions.{room_fine}
use Rattle.circuit.specs.Accepted.{Accepted, Bounded}
use Rattle.circuit.proofs.AcceptedLaws as A
use Rattle.circuit.proofs.AcceptedLaws.{check_accepted, check_bounded, is_n, is_m, is_q}
use Rattle.garble.specs.Whole.{WholeStart}
use Rattle.garble.proofs.EncodeIsLaws.{encode_fine}
use Rattle.evaluate.proofs.RestLaws.{evaluate_verdict_law, rest_holds}
use Rattle.chain.specs.declared.Stopped.{Stopped}
use Rattle.chain.specs.Chain.{EndedAtGarble, EndedAtEncode, EndedAtEvaluate, EndedAtOutputs, ChainIs}
use Rattle.chain.proofs.PartLaws.{over_long}
use Rattle.chain.proofs.HandLaws as H
use Rattle.chain.proofs.RightLaws.{wires_right, bits_right}
use Rattle.chain.proofs.StoppedLaws.{Becomes, is_err}

-- a verdict is not both
other : (i x : ℕ) → fine ≡ refused i x → ⊥
other i x e = absurd (let z : ◌≡◌ {A = ℕ} 0 1 = cc in omega arith)

-- ---- garble ran, and check after it: g is what garble answered, s what check did
pub record Started (c seed : List ℕ) (want : Wanted) (f z o f' z' o' : List ℕ) (g : Garbled) (s : Sizes) : Type 0 where
  pub garbled : GarbleIs c seed want f z o (yes (garble_made c seed want)) f' z' o'
  pub is_length : g.length ≡ file_length c want
  pub known : Accepted c s
  pub all_zeros : 16 * s.n ≤ length z'
  pub all_ones : 16 * s.n ≤ length o'

module _ {c seed : List ℕ} {want : Wanted} {f z o : List ℕ} {r : Result Garbled Refusal} {f' z' o' : List ℕ}
    (answers : GarbleIs c seed want f z o (answer_of r) f' z' o') where
  pub garble_refused : (e : Refusal) → r ≡ Err e → (v t w y b : List ℕ) → EndedAtGarble c seed want v f z o t w y b f' z' o' t w y b (verdict_of e)
  garble_refused e h v t w y b =
      let refused_by : GarbleIs c seed want f z o (no (verdict_of e)) f' z' o' = rw h at answers in
      record {
        garble_is = refused_by;
        only_these = H.garble_refused c seed want v f z o f' z' o' _ _ refused_by;
        tokens_kept = refl;
        wires_kept = refl;
        outputs_kept = refl;
        bits_kept = refl;
      }

  module _ {g : Garbled} (h : r ≡ Ok g) where
    done : GarbleIs c seed want f z o (yes g) f' z' o'
    done = rw h at answers

    was_fine : garble_verdict c seed want (length f) (length z) (length o) ≡ fine
    was_fine = H.was_fine c seed want f z o f' z' o' g done

    no_clash : clash_verdict (garbling_of c seed want) ≡ fine
    no_clash = H.no_clash c seed want f z o f' z' o' g done

    is_made : g ≡ garble_made c seed want
    is_made = H.garble_made_law c seed want f z o f' z' o' g done

    length_made : g.length ≡ file_length c want
    unfolding garble_made
    length_made = ap (λ (x : Garbled). x.length) is_made

    start : WholeStart c seed want (sizes_of c) f z o
    start = H.garbled c seed want f z o f' z' o' g done

    pub material_among : g.length ≤ length f'
    material_among =
        rw (length_made, answers.material_left, was_fine, no_clash)
        (omega (arith, start.file_room, over_long (material (garbling_of c seed want)) f))

    module _ {q : Result Sizes Refusal} (is_q : answer_of q ≡ check_answer c) where
      -- check cannot refuse what garble accepted
      pub check_refused : (e : Refusal) → q ≡ Err e → (v t w y b : List ℕ) → EndedAtGarble c seed want v f z o t w y b f' z' o' t w y b (verdict_of e)
      check_refused e j v t w y b = absurd (other _ _ (sym (A.check_refused c q is_q e j ∙ start.sized.accepted)))

      pub started : {s : Sizes} → q ≡ Ok s → Started c seed want f z o f' z' o' g s
      started {s = s} j =
          let known : Accepted c s = check_accepted c q is_q s j in
          record {
            garbled = rw is_made at done;
            is_length = length_made;
            known = known;
            all_zeros =
                rw (is_n c s known, answers.zeros_left, was_fine, no_clash)
                (omega (arith, start.wires_room, over_long (join_blocks (zero_tokens (garbling_of c seed want))) z));
            all_ones =
                rw (is_n c s known, answers.ones_left, was_fine, no_clash)
                (omega (arith, start.inputs_room, over_long (join_blocks (input_ones (garbling_of c seed want))) o));
          }

module _ {c seed : List ℕ} {want : Wanted} {f z o f' z' o' : List ℕ} {g : Garbled} {s : Sizes} (so_far : Started c seed want f z o f' z' o' g s) where
  -- ---- encode's answer r
  module _ {v t t' : List ℕ} {r : Result Unit Refusal} (answers : EncodeIs c v (take (16 * s.n) z') (take (16 * s.n) o') t (ran_of r) t') where
    pub encode_refused : (e : Refusal) → r ≡ Err e → (w y b : List ℕ) → EndedAtEncode c seed want v f z o t w y b f' z' o' t' w y b (verdict_of e)
    encode_refused e h w y b =
        let refused_by : EncodeIs c v (take (16 * inputs c) z') (take (16 * inputs c) o') t (verdict_of e) t' = rw (h, is_n c s so_far.known) at answers in
        record {
          garble_ran = so_far.garbled;
          encode_is = refused_by;
          only_19 = λ a. H.encode_refused c seed want f z o f' z' o' (garble_made c seed want) so_far.garbled v a t t' _ _ refused_by;
          wires_kept = refl;
          outputs_kept = refl;
          bits_kept = refl;
        }

    pub encoded : r ≡ Ok tt → EncodeIs c v (take (16 * inputs c) z') (take (16 * inputs c) o') t fine t'
    encoded h = rw (h, is_n c s so_far.known) at answers

  module _ {v t t' : List ℕ} (encode_ran : EncodeIs c v (take (16 * inputs c) z') (take (16 * inputs c) o') t fine t') where
    pub tokens_among : 16 * s.n ≤ length t'
    tokens_among =
        let zs : List ℕ = take (16 * inputs c) z' in
        let os : List ℕ = take (16 * inputs c) o' in
        let room = (encode_fine c v zs os t (sym encode_ran.answered)).room in
        rw (is_n c s so_far.known, encode_ran.left, ← encode_ran.answered) (omega (arith, room, over_long (encode_bytes (circuit_of c) v zs os) t))

    -- ---- evaluate's answer r
    module _ {w w' : List ℕ} {r : Result ℕ Refusal} (answers : EvaluateIs c (take (16 * s.n) t') (take g.length f') w (answer_of r) w') where
      pub evaluate_refused : (e : Refusal) → r ≡ Err e → (y b : List ℕ) → EndedAtEvaluate c seed want v f z o t w y b f' z' o' t' w' y b (verdict_of e)
      evaluate_refused e h y b =
          let refused_by : EvaluateIs c (take (16 * inputs c) t') (take (file_length c want) f') w (no (verdict_of e)) w' =
          rw (h, so_far.is_length, is_n c s so_far.known) at answers in
          record {
            garble_ran = so_far.garbled;
            encode_ran = encode_ran;
            evaluate_is = refused_by;
            only_19 = H.evaluate_refused c seed want f z o f' z' o' (garble_made c seed want) so_far.garbled v t t' encode_ran w w' _ _ refused_by;
            outputs_kept = refl;
            bits_kept = refl;
          }

      pub evaluated : {k : ℕ} → r ≡ Ok k
          → EvaluateIs c (take (16 * inputs c) t') (take (file_length c want) f') w (yes (evaluate_calls_of c (take (16 * inputs c) t') (take (file_length c want) f'))) w'
      evaluated {k = k} h =
          let ts : List ℕ = take (16 * inputs c) t' in
          let file : List ℕ = take (file_length c want) f' in
          let done : EvaluateIs c ts file w (yes k) w' = rw (h, so_far.is_length, is_n c s so_far.known) at answers in
          rw (yes_given _ k (evaluate_calls_of c ts file) done.answered).is_result at done

    module _ {w w' : List ℕ}
        (evaluate_ran : EvaluateIs c (take (16 * inputs c) t') (take (file_length c want) f') w (yes (evaluate_calls_of c (take (16 * inputs c) t') (take (file_length c want) f'))) w') where
      pub wires_among : 16 * (s.n + s.q) ≤ length w'
      wires_among =
          let ts : List ℕ = take (16 * inputs c) t' in
          let file : List ℕ = take (file_length c want) f' in
          let calls = evaluate_calls_of c ts file in
          let was_fine = (yes_given (evaluate_verdict c ts file (length w)) calls calls evaluate_ran.answered).is_fine in
          let rest = (then_fine _ _ (rw (evaluate_verdict_law c ts file (length w)) at was_fine)).1 in
          let room = (rest_holds c (inputs c) ts file _ _ rest).roomy in
          rw (is_n c s so_far.known, is_q c s so_far.known, evaluate_ran.left, was_fine) (omega (arith, room, over_long (evaluate_bytes (circuit_of c) ts file) w))

      -- ---- the answer r of the call that takes the outputs' tokens
      module _ {y y' : List ℕ} {r : Result Unit Refusal} (answers : OutputTokensIs c (take (16 * (s.n + s.q)) w') y (ran_of r) y') where
        pub outputs_refused : (e : Refusal) → r ≡ Err e → (b : List ℕ) → EndedAtOutputs c seed want v f z o t w y b f' z' o' t' w' y' b (verdict_of e)
        outputs_refused e h b =
            let refused_by : OutputTokensIs c (take (16 * (inputs c + gates c)) w') y (verdict_of e) y' = rw (h, is_n c s so_far.known, is_q c s so_far.known) at answers in
            record {
              garble_ran = so_far.garbled;
              encode_ran = encode_ran;
              evaluate_ran = evaluate_ran;
              outputs_is = refused_by;
              only_19 = H.outputs_refused c seed want f z o f' z' o' (garble_made c seed want) so_far.garbled v t t' encode_ran w w' evaluate_ran y y' _ _ refused_by;
              wires_right = wires_right c seed want v f z o t w y b f' z' o' t' w' y' b so_far.garbled encode_ran evaluate_ran;
              bits_kept = refl;
            }

        pub gathered : r ≡ Ok tt → OutputTokensIs c (take (16 * (inputs c + gates c)) w') y fine y'
        gathered h = rw (h, is_n c s so_far.known, is_q c s so_far.known) at answers

      module _ {y y' : List ℕ} (outputs_ran : OutputTokensIs c (take (16 * (inputs c + gates c)) w') y fine y') where
        pub outputs_among : 16 * s.m ≤ length y'
        unfolding output_tokens_verdict
        outputs_among =
            let ws : List ℕ = take (16 * (inputs c + gates c)) w' in
            let room = room_fine _ _ (then_fine _ _ (sym outputs_ran.answered)).1 in
            rw (is_m c s so_far.known, outputs_ran.left, ← outputs_ran.answered) (omega (arith, room, over_long (output_tokens (circuit_of c) ws) y))

        -- ---- decode's answer r, and so the chain's, a
        pub chain_ended : {b b' : List ℕ} (r : Result Unit Refusal) (a : Result Unit Stopped) → Becomes Stopped.Decode r a
            → DecodeIs c (take (16 * s.m) y') (take g.length f') b (ran_of r) b' → ChainIs c seed want v f z o t w y b a f' z' o' t' w' y' b'
        chain_ended {b = b} {b' = b'} (Ok x) a becomes answers =
            let ran : DecodeIs c (take (16 * outputs c) y') (take (file_length c want) f') b fine b' = rw (so_far.is_length, is_m c s so_far.known) at answers in
            rw becomes
            (record {
              garble_ran = so_far.garbled;
              encode_ran = encode_ran;
              evaluate_ran = evaluate_ran;
              outputs_ran = outputs_ran;
              decode_ran = ran;
              wires_right = wires_right c seed want v f z o t w y b f' z' o' t' w' y' b' so_far.garbled encode_ran evaluate_ran;
              bits_right = bits_right c seed want v f z o t w y b f' z' o' t' w' y' b' so_far.garbled encode_ran evaluate_ran outputs_ran ran;
            })
        chain_ended {b = b} {b' = b'} (Err e) a becomes answers =
            let refused_by : DecodeIs c (take (16 * outputs c) y') (take (file_length c want) f') b (verdict_of e) b' =
            rw (so_far.is_length, is_m c s so_far.known) at answers in
            rw (is_err a (Stopped.Decode e) becomes)
            (record {
              garble_ran = so_far.garbled;
              encode_ran = encode_ran;
              evaluate_ran = evaluate_ran;
              outputs_ran = outputs_ran;
              decode_is = refused_by;
              only_19 = H.decode_refused c seed want f z o f' z' o' (garble_made c seed want) so_far.garbled v t t' encode_ran w w' evaluate_ran y y' outputs_ran b b' _ _ refused_by;
              wires_right = wires_right c seed want v f z o t w y b f' z' o' t' w' y' b' so_far.garbled encode_ran evaluate_ran;
            })

-- no count of bytes overflows
module _ (s : Sizes) (bounded : Bounded s) where
  pub tokens_fit : Fits w64 (16 * s.n)
  tokens_fit = omega (arith, bounded.wires)

  pub sum_fits : Fits w64 (s.n + s.q)
  sum_fits = omega (arith, bounded.wires)

  pub wires_fit : Fits w64 (16 * (s.n + s.q))
  wires_fit = omega (arith, bounded.wires)

  pub outputs_fit : Fits w64 (16 * s.m)
  outputs_fit = omega (arith, bounded.outputs)

-- whatever the chain asks of the sizes, and of garble and check, which come first
pub ruleset chain_cases = (check_bounded, tokens_fit, sum_fits, wires_fit, outputs_fit, garble_refused, material_among, check_refused)
