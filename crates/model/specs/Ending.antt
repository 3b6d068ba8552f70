-- What a material ends in: what its last record has of an output, and how the output's token is decoded by it. Document 01, "Material" and
-- "Operations", give one, colours; 02, job 12, a second, hashes.
use Rattle.std.specs.Prelude.{ℕ, ◌+◌, ◌*◌, Bool, true, false, not, cond, ◌||◌, List, [], ◌∷◌, ◌++◌, ltb, get_or, take, drop}
use Rattle.model.specs.Bytes.{equal_bytes}
use Rattle.model.specs.Aes.{Block}
use Rattle.model.specs.Tokens.{colour, decoded}
use Rattle.model.specs.Hashes.{Call, hash_call, hash}

-- Outputs are numbered from 1. The bytes of one are any, but where garbling makes them.
pub record Ending : Type 0 where
  pub header_mark : ℕ  -- the second byte of the header's mark, after 47
  pub last_mark : ℕ  -- and that of the last record's
  pub size : ℕ  -- how many bytes the last record has of an output
  pub stored : ℕ → Block → Block → List ℕ  -- those that garbling makes of output k, from its zero and its one token
  pub calls : ℕ → Block → Block → List Call  -- by these encryptions
  pub clash : List ℕ → Bool  -- 30: such bytes do not tell the output's two tokens apart
  pub wrong : List ℕ → Bool  -- 18: an output may not have these bytes
  pub unknown : ℕ → Block → List ℕ → Bool  -- 29: a token of output k is not one that its bytes stand for
  pub bit : ℕ → Block → List ℕ → ℕ  -- what the token decodes to

-- 01: "mark 47 48"; "Last: mark 47 44 and m bytes, each the colour (0 or 1) of an output's zero token."; decoding, "each the token's colour ⊕ the
-- material's byte"
unfoldable pub colours : Ending
colours = record {
  header_mark = 0x48;
  last_mark = 0x44;
  size = 1;
  stored = λ k X Y. colour X ∷ [];
  calls = λ k X Y. [];
  clash = λ bs. false;
  wrong = λ bs. ltb 1 (get_or bs 0 0);
  unknown = λ k t bs. false;
  bit = λ k t bs. decoded (colour t) (get_or bs 0 0);
}

-- "t = 2 times (65,536+k)"
unfoldable pub output_tweak : ℕ → ℕ
output_tweak k = 2 * (65536 + k)

-- a token of output k, and one of the hashes that are stored
unfoldable pub agrees : ℕ → Block → List ℕ → Bool
agrees k t h = equal_bytes (hash t (output_tweak k)) h

-- the two in an output's bytes
unfoldable pub first_hash : List ℕ → List ℕ
first_hash bs = take 16 bs

unfoldable pub second_hash : List ℕ → List ℕ
second_hash bs = take 16 (drop 16 bs)

-- 02, job 12: "header mark 47 4A .. mark 47 41 and, for each output k from 1, H(zero token, t) and H(one token, t), 32 bytes, .. H of scheme 3";
-- "Decoding gives 0 if the first hash agrees, else 1 if the second does."
unfoldable pub hashes : Ending
hashes = record {
  header_mark = 0x4A;
  last_mark = 0x41;
  size = 32;
  stored = λ k X Y. hash X (output_tweak k) ++ hash Y (output_tweak k);
  calls = λ k X Y. hash_call X (output_tweak k) ∷ hash_call Y (output_tweak k) ∷ [];
  clash = λ bs. equal_bytes (first_hash bs) (second_hash bs);
  wrong = λ bs. false;
  unknown = λ k t bs. not (agrees k t (first_hash bs) || agrees k t (second_hash bs));
  bit = λ k t bs. cond (agrees k t (first_hash bs)) 0 1;
}

-- by whether the header's mark is 47 4A
unfoldable pub ending_of : Bool → Ending
ending_of true = hashes
ending_of false = colours
