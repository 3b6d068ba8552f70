-- Evaluation of a garbled circuit, over anyone's rows. Document 01, "Tokens", "Scheme 1" to "Scheme 3", "Material" and "Operations".
use Rattle.std.specs.Prelude.{ℕ, zero, suc, ◌+◌, ◌*◌, ◌-◌, List, [], ◌∷◌, ◌++◌, map, length, get_or, take, drop}
use Rattle.model.specs.declared.Gate.{Gate}
use Rattle.model.specs.Bytes.{tabulate}
use Rattle.model.specs.Circuit.{Circuit, Kind, charged, free, refused, kind_of, wire}
use Rattle.model.specs.Aes.{Block, block}
use Rattle.model.specs.Tokens.{free_token}
use Rattle.model.specs.Scheme.{Scheme, record_length}
use Rattle.model.specs.Garbling.{own, scheme_of}
use Rattle.model.specs.Ending.{Ending, ending_of}
use Rattle.model.specs.Material.{join_blocks, hashed, last_bytes}

-- the first k blocks of bytes
unfoldable pub cut : ℕ → List ℕ → List Block
cut zero bs = []
cut (suc k) bs = take 16 bs ∷ cut k (drop 16 bs)

-- ---- encoding: "for each input its token in the zero list for value 0, in the one list for value 1"

unfoldable pub encode : List ℕ → List Block → List Block → List Block
encode [] zs os = []
encode (v ∷ vs) zs os = get_or (get_or zs 0 (block 0) ∷ get_or os 0 (block 0) ∷ []) v (block 0) ∷ encode vs (drop 1 zs) (drop 1 os)

-- ---- evaluating: bs is what is left of the material, from the next row record on

module _ (S : Scheme) where
  -- the token of a gate's wire g, holding A and B
  unfoldable pub open_at : Kind → ℕ → List ℕ → Block → Block → Block
  open_at (charged u v x) g bs A B = S.opened g (cut S.stored (drop 4 bs)) A B
  open_at (free p q c) g bs A B = free_token p q A B
  open_at refused g bs A B = block 0

  unfoldable pub open_step : List ℕ → List Block → Gate → Block
  open_step bs ts g = open_at (kind_of g.code) (own ts) bs (wire (block 0) ts g.a.0) (wire (block 0) ts g.b.0)

  -- what is left past the gate's record
  unfoldable pub past : Kind → List ℕ → List ℕ
  past (charged u v x) bs = drop (record_length S) bs
  past (free p q c) bs = bs
  past refused bs = bs

  -- the tokens of all wires, from those of the wires before the gates gs
  unfoldable pub open_gates : List Gate → List ℕ → List Block → List Block
  open_gates [] bs ts = ts
  open_gates (g ∷ gs) bs ts = open_gates gs (past (kind_of g.code) bs) (ts ++ (open_step bs ts g ∷ []))

-- the tokens of all wires; the header has 9 bytes, and its byte 2 is the scheme
unfoldable pub evaluate : Circuit → List Block → List ℕ → List Block
evaluate c ts material = open_gates (scheme_of (get_or material 2 0)) c.gates (drop 9 material) ts

-- ---- decoding

-- the bytes of output i, from 0, where those of all outputs start at an index of s
unfoldable pub bytes_for : Ending → List ℕ → ℕ → ℕ → List ℕ
bytes_for E s at i = take E.size (drop (at + E.size * i) s)

-- and in a material, at its end, by its mark
unfoldable pub stored_at : Circuit → List ℕ → ℕ → List ℕ
stored_at c s i = bytes_for (ending_of (hashed s)) s (length s - last_bytes (hashed s) (length c.outputs)) i

-- the bit of each output
unfoldable pub decode : Circuit → List Block → List ℕ → List ℕ
decode c ts s = tabulate (length c.outputs) (λ i. (ending_of (hashed s)).bit (i + 1) (get_or ts i (block 0)) (stored_at c s i))

-- ---- the same on bytes

unfoldable pub encode_bytes : Circuit → List ℕ → List ℕ → List ℕ → List ℕ
encode_bytes c values zs os = join_blocks (encode values (cut c.n zs) (cut c.n os))

unfoldable pub evaluate_bytes : Circuit → List ℕ → List ℕ → List ℕ
evaluate_bytes c tokens material = join_blocks (evaluate c (cut c.n tokens) material)

unfoldable pub decode_bytes : Circuit → List ℕ → List ℕ → List ℕ
decode_bytes c tokens material = decode c (cut (length c.outputs) tokens) material

-- the token of wire w in a list of tokens
unfoldable pub token_at : List ℕ → ℕ → Block
token_at bytes w = take 16 (drop (16 * (w - 1)) bytes)

-- the tokens of the outputs, in their order
unfoldable pub output_tokens : Circuit → List ℕ → List ℕ
output_tokens c bytes = join_blocks (map (token_at bytes) c.outputs)
