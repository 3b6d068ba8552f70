-- DEMAND 3, of the bytes in the buffers when the chain has ended: the theorem of this project.
--
-- "Take every accepted circuit, each scheme, every 16-byte seed and every list of input bits, one for each input. The circuit is
-- garbled by that scheme from that seed, the bits are encoded with the tokens so made, and evaluation works that encoding through
-- the material so made. Then on every wire the distance, bit by bit, between the token that evaluation leaves there and that wire's
-- zero token .. is the all-zero block exactly when the plain circuit carries 0 there, and the seed's offset R exactly when it carries
-- 1. Decoding the tokens that evaluation left on the outputs, with the same material, gives exactly the bits that the plain circuit
-- carries there, in the order of the outputs."
--
-- With a run number (02, job 4), for each of them: "the tokens' distance is R of that run." With outputs by name (02, job 8) too, of which "Decoded bits
-- follow the list's order": their tokens are gathered in that order before they are decoded. With both marks (02, job 12): "Where 30 refuses garble, demand
-- 3's chain ends there, as it does with 19."
--
-- Letters: c is the circuit's bytes, v the value list. The seven buffers are the material f, the zero tokens z, the one tokens o, the
-- encoded tokens t, the tokens of all wires w, those of the outputs y and the bits b; f', z', o', t', w', y', b' are they when the chain has ended.
use Rattle.std.specs.Prelude.{ℕ, ◌+◌, ◌*◌, ◌≤◌, ◌≡◌, true, ◌↔◌, List, Result, Ok, Err, map, take}
use Rattle.model.specs.declared.Wanted.{Wanted}
use Rattle.model.specs.Circuit.{circuit_of, inputs, outputs, gates}
use Rattle.model.specs.Aes.{block}
use Rattle.model.specs.Tokens.{wants_hashes, garbling_of, offset, distance}
use Rattle.model.specs.Evaluation.{token_at}
use Rattle.model.specs.Refusals.{Verdict, fine, refused, verdict_of}
use Rattle.model.specs.Operations.{Answer, yes, no, file_length, garble_made, evaluate_calls_of, GarbleIs, EncodeIs, EvaluateIs, OutputTokensIs, DecodeIs}
use Rattle.model.specs.Demand3.{Allowed, carries}
use Rattle.chain.specs.declared.Stopped.{Stopped}

-- on every wire k, the distance between the token in w' and the zero token in z'
pub record WiresRight (c seed : List ℕ) (want : Wanted) (v z' w' : List ℕ) : Type 0 where
  pub allowed : Allowed c seed want v
  pub at_zero : (k : ℕ) → 1 ≤ k → k ≤ inputs c + gates c
      → (distance (token_at w' k) (token_at z' k) ≡ block 0) ↔ (carries c v k ≡ 0)
  pub at_one : (k : ℕ) → 1 ≤ k → k ≤ inputs c + gates c
      → (distance (token_at w' k) (token_at z' k) ≡ offset (garbling_of c seed want)) ↔ (carries c v k ≡ 1)

-- the decoded bytes
pub record BitsRight (c v b' : List ℕ) : Type 0 where
  pub decoded : take (outputs c) b' ≡ map (carries c v) (circuit_of c).outputs

-- refusal 19, a buffer too short: "With the arguments that demand 3 names, only 19 can refuse one of the four"; the same of the call that takes
-- the outputs' tokens
pub record IsRoom (e : Verdict) : Type 0 where
  pub needed : ℕ
  pub is_19 : e ≡ refused 19 needed

-- and of garble 30 beside it, where its material is to end in hashes: "Where 30 refuses garble, demand 3's chain ends there" (02, job 12)
pub data GarbleStops (want : Wanted) : Verdict → Type 0 where
  by_room : {e : Verdict} → IsRoom e → GarbleStops want e
  by_clash : (k : ℕ) → wants_hashes want ≡ true → GarbleStops want (refused 30 k)

-- ---- what each of the calls answered and left: a call gets the front of what the calls before it wrote

module _ (c seed : List ℕ) (want : Wanted) (v f z o t w y b f' z' o' t' w' y' b' : List ℕ) where
  -- "evaluate gets .. garble's material": the bytes of it that garble wrote
  abbrev pub file : List ℕ
  file = take (file_length c want) f'

  -- garble ran
  abbrev pub GarbleRan : Type 0
  GarbleRan = GarbleIs c seed want f z o (yes (garble_made c seed want)) f' z' o'

  -- "Encode gets the first 16n bytes of the zero tokens and the one tokens, as garble wrote them"; it answered r
  abbrev pub EncodeAnswers : Verdict → Type 0
  EncodeAnswers r = EncodeIs c v (take (16 * inputs c) z') (take (16 * inputs c) o') t r t'

  -- "evaluate gets encode's bytes and garble's material"
  abbrev pub EvaluateAnswers : Answer ℕ → Type 0
  EvaluateAnswers r = EvaluateIs c (take (16 * inputs c) t') file w r w'

  abbrev pub EvaluateRan : Type 0
  EvaluateRan = EvaluateAnswers (yes (evaluate_calls_of c (take (16 * inputs c) t') file))

  -- the outputs' tokens are taken from evaluate's tokens of all wires
  abbrev pub OutputsAnswers : Verdict → Type 0
  OutputsAnswers r = OutputTokensIs c (take (16 * (inputs c + gates c)) w') y r y'

  -- "decode gets that material and evaluate's tokens of the m outputs"
  abbrev pub DecodeAnswers : Verdict → Type 0
  DecodeAnswers r = DecodeIs c (take (16 * outputs c) y') file b r b'

  -- ---- where the chain ended

  pub record EndedAtGarble (e : Verdict) : Type 0 where
    pub garble_is : GarbleIs c seed want f z o (no e) f' z' o'
    pub only_these : Allowed c seed want v → GarbleStops want e
    pub tokens_kept : t' ≡ t
    pub wires_kept : w' ≡ w
    pub outputs_kept : y' ≡ y
    pub bits_kept : b' ≡ b

  pub record EndedAtEncode (e : Verdict) : Type 0 where
    pub garble_ran : GarbleRan
    pub encode_is : EncodeAnswers e
    pub only_19 : Allowed c seed want v → IsRoom e
    pub wires_kept : w' ≡ w
    pub outputs_kept : y' ≡ y
    pub bits_kept : b' ≡ b

  pub record EndedAtEvaluate (e : Verdict) : Type 0 where
    pub garble_ran : GarbleRan
    pub encode_ran : EncodeAnswers fine
    pub evaluate_is : EvaluateAnswers (no e)
    pub only_19 : IsRoom e
    pub outputs_kept : y' ≡ y
    pub bits_kept : b' ≡ b

  -- evaluation ran: every wire is right
  pub record EndedAtOutputs (e : Verdict) : Type 0 where
    pub garble_ran : GarbleRan
    pub encode_ran : EncodeAnswers fine
    pub evaluate_ran : EvaluateRan
    pub outputs_is : OutputsAnswers e
    pub only_19 : IsRoom e
    pub wires_right : WiresRight c seed want v z' w'
    pub bits_kept : b' ≡ b

  pub record EndedAtDecode (e : Verdict) : Type 0 where
    pub garble_ran : GarbleRan
    pub encode_ran : EncodeAnswers fine
    pub evaluate_ran : EvaluateRan
    pub outputs_ran : OutputsAnswers fine
    pub decode_is : DecodeAnswers e
    pub only_19 : IsRoom e
    pub wires_right : WiresRight c seed want v z' w'

  -- all ran: every wire and every bit is right
  pub record Ended : Type 0 where
    pub garble_ran : GarbleRan
    pub encode_ran : EncodeAnswers fine
    pub evaluate_ran : EvaluateRan
    pub outputs_ran : OutputsAnswers fine
    pub decode_ran : DecodeAnswers fine
    pub wires_right : WiresRight c seed want v z' w'
    pub bits_right : BitsRight c v b'

-- the chain's answer r, for every argument
abbrev pub ChainIs : (c seed : List ℕ) (want : Wanted) (v f z o t w y b : List ℕ) → Result Unit Stopped → (f' z' o' t' w' y' b' : List ℕ) → Type 0
ChainIs c seed want v f z o t w y b (Err (Stopped.Garble e)) f' z' o' t' w' y' b' = EndedAtGarble c seed want v f z o t w y b f' z' o' t' w' y' b' (verdict_of e)
ChainIs c seed want v f z o t w y b (Err (Stopped.Encode e)) f' z' o' t' w' y' b' = EndedAtEncode c seed want v f z o t w y b f' z' o' t' w' y' b' (verdict_of e)
ChainIs c seed want v f z o t w y b (Err (Stopped.Evaluate e)) f' z' o' t' w' y' b' = EndedAtEvaluate c seed want v f z o t w y b f' z' o' t' w' y' b' (verdict_of e)
ChainIs c seed want v f z o t w y b (Err (Stopped.Outputs e)) f' z' o' t' w' y' b' = EndedAtOutputs c seed want v f z o t w y b f' z' o' t' w' y' b' (verdict_of e)
ChainIs c seed want v f z o t w y b (Err (Stopped.Decode e)) f' z' o' t' w' y' b' = EndedAtDecode c seed want v f z o t w y b f' z' o' t' w' y' b' (verdict_of e)
ChainIs c seed want v f z o t w y b (Ok _) f' z' o' t' w' y' b' = Ended c seed want v f z o t w y b f' z' o' t' w' y' b'
