-- Demand 3: the chain of garble, encode, evaluate and decode is right on every wire. Document 01, "Operations".
use Rattle.std.specs.Prelude.{ℕ, ◌+◌, ◌*◌, ◌≤◌, ◌<◌, ◌≡◌, ◌↔◌, true, ◌||◌, List, map, length, get_or, take}
use Rattle.model.specs.declared.Wanted.{Wanted}
use Rattle.model.specs.Circuit.{Circuit, circuit_of, inputs, outputs, gates, wire, plain_values}
use Rattle.model.specs.Aes.{Block, block}
use Rattle.model.specs.Tokens.{Garbling, garbling_of, distance, offset}
use Rattle.model.specs.Garbling.{Known, zero_tokens, input_ones}
use Rattle.model.specs.Ending.{agrees, first_hash, second_hash}
use Rattle.model.specs.Material.{join_blocks, material}
use Rattle.model.specs.Evaluation.{stored_at, decode, encode_bytes, evaluate_bytes, decode_bytes, token_at, output_tokens}
use Rattle.model.specs.Refusals.{fine, ◌then◌, circuit_verdict, mark_verdict, room_verdict, clash_verdict}
use Rattle.model.specs.Operations.{file_length, garble_verdict, encode_verdict, evaluate_verdict, output_tokens_verdict, decode_verdict}

-- "every accepted circuit, each scheme, every 16-byte seed and every list of input bits, one for each input"; and every run number (02, job 4), of
-- which nothing is asked, and both marks (02, job 12)
pub record Allowed (c seed : List ℕ) (want : Wanted) (values : List ℕ) : Type 0 where
  pub accepted : circuit_verdict c ≡ fine
  pub known : Known want.scheme
  pub marked : mark_verdict want.mark ≡ fine
  pub seed_bytes : length seed ≡ 16
  pub one_each : length values ≡ inputs c
  pub bits : (i : ℕ) → get_or values i 0 ≤ 1

-- what the plain circuit carries on wire w
unfoldable pub carries : List ℕ → List ℕ → ℕ → ℕ
carries c values w = wire 0 (plain_values (circuit_of c) values) w

module _ (c seed : List ℕ) (want : Wanted) (values : List ℕ) where
  -- "The circuit is garbled by that scheme from that seed", for that run
  abbrev pub chained : Garbling
  chained = garbling_of c seed want

  unfoldable pub chain_material : List ℕ
  chain_material = material chained

  unfoldable pub chain_zeros : List ℕ
  chain_zeros = join_blocks (zero_tokens chained)

  unfoldable pub chain_ones : List ℕ
  chain_ones = join_blocks (input_ones chained)

  -- "the bits are encoded with the tokens so made": "Encode gets the first 16n bytes of the zero tokens and the one tokens"
  unfoldable pub chain_inputs : List ℕ
  chain_inputs = encode_bytes (circuit_of c) values (take (16 * inputs c) chain_zeros) chain_ones

  -- "evaluation works that encoding through the material so made"
  unfoldable pub chain_tokens : List ℕ
  chain_tokens = evaluate_bytes (circuit_of c) chain_inputs chain_material

  -- "decode gets that material and evaluate's tokens of the m outputs"
  unfoldable pub chain_bits : List ℕ
  chain_bits = decode_bytes (circuit_of c) (output_tokens (circuit_of c) chain_tokens) chain_material

  -- "on every wire the distance .. between the token that evaluation leaves there and that wire's zero token"
  unfoldable pub distance_at : ℕ → Block
  distance_at w = distance (token_at chain_tokens w) (token_at chain_zeros w)

  -- "is the all-zero block exactly when the plain circuit carries 0 there, and the seed's offset R exactly when it carries 1.
  -- Decoding the tokens that evaluation left on the outputs, with the same material, gives exactly the bits that the plain
  -- circuit carries there, in the order of the outputs." "the tokens' distance is R of that run" (02, job 4)
  pub record Demand3 : Type 0 where
    pub at_zero : (w : ℕ) → 1 ≤ w → w ≤ inputs c + gates c → (distance_at w ≡ block 0) ↔ (carries c values w ≡ 0)
    pub at_one : (w : ℕ) → 1 ≤ w → w ≤ inputs c + gates c → (distance_at w ≡ offset chained) ↔ (carries c values w ≡ 1)
    -- "Where 30 refuses garble, demand 3's chain ends there" (02, job 12)
    pub decoded : clash_verdict chained ≡ fine → chain_bits ≡ map (carries c values) (circuit_of c).outputs

  -- "With the arguments that demand 3 names, only 19 can refuse one of the four"; the same of what takes the outputs' tokens (02, job 8). Each says what
  -- its buffers' rooms say
  pub record OnlyRoom : Type 0 where
    pub garble_room : (km kz ko : ℕ) → garble_verdict c seed want km kz ko
        ≡ (room_verdict (file_length c want) km
        then room_verdict (16 * (inputs c + gates c)) kz
        then room_verdict (16 * inputs c) ko)
    pub encode_room : (k : ℕ) → encode_verdict c values (take (16 * inputs c) chain_zeros) chain_ones k ≡ room_verdict (16 * inputs c) k
    pub evaluate_room : (k : ℕ) → evaluate_verdict c chain_inputs chain_material k ≡ room_verdict (16 * (inputs c + gates c)) k
    pub output_tokens_room : (k : ℕ) → output_tokens_verdict c chain_tokens k ≡ room_verdict (16 * outputs c) k
    pub decode_room : (k : ℕ) → decode_verdict c (output_tokens (circuit_of c) chain_tokens) chain_material k ≡ room_verdict (outputs c) k

-- Any tokens ts of the outputs, over any material s of mark 47 4A: they decode only if each agrees with a hash that is stored for its output, and then
-- its bit is 0 exactly where it agrees with the first (02, job 12)
pub record DecodesByHash (c : Circuit) (ts : List Block) (s : List ℕ) : Type 0 where
  pub one_agrees : (i : ℕ) → i < length c.outputs
      → (agrees (i + 1) (get_or ts i (block 0)) (first_hash (stored_at c s i)) || agrees (i + 1) (get_or ts i (block 0)) (second_hash (stored_at c s i))) ≡ true
  pub first_is_0 : (i : ℕ) → i < length c.outputs
      → (get_or (decode c ts s) i 0 ≡ 0) ↔ (agrees (i + 1) (get_or ts i (block 0)) (first_hash (stored_at c s i)) ≡ true)
