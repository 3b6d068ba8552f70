-- Document 01, "Material"; document 02, job 12: material that ends in hashes.
use Rattle.std.specs.Prelude.{ℕ, suc, ◌+◌, ◌*◌, Bool, List, [], ◌∷◌, ◌++◌, length}
use Rattle.model.specs.declared.Gate.{Gate}
use Rattle.model.specs.Bytes.{two}
use Rattle.model.specs.Circuit.{Kind, charged, free, refused, kind_of, mark_at, wire}
use Rattle.model.specs.Aes.{Block, block}
use Rattle.model.specs.Tokens.{Garbling, input_zeros, one_token}
use Rattle.model.specs.Scheme.{Site, record_length}
use Rattle.model.specs.Ending.{Ending, ending_of}
use Rattle.model.specs.Garbling.{scheme_of, site_of, zero_step, zero_tokens}

-- blocks, one after the other
unfoldable pub join_blocks : List Block → List ℕ
join_blocks [] = []
join_blocks (x ∷ xs) = x ++ join_blocks xs

-- where the last record starts: past the "header of 9 bytes" and the records of p charged gates
unfoldable pub last_start : ℕ → ℕ → ℕ
last_start scheme p = 9 + p * record_length (scheme_of scheme)

-- "Material with header mark 47 4A" (02, job 12): whether a file is such
unfoldable pub hashed : List ℕ → Bool
hashed s = mark_at s 0 0x47 0x4A

-- the bytes of the last record past its mark: of m outputs, by whether they are hashes
unfoldable pub last_bytes : Bool → ℕ → ℕ
last_bytes by_hash m = (ending_of by_hash).size * m

-- "Length 11+m+p(4+16r)", and for 47 4A "9+p(4+16r)+2+32m" (02, job 12): of p charged gates, with b bytes after the last record's mark. A record
-- has 4+16r bytes
unfoldable pub material_length : ℕ → ℕ → ℕ → ℕ
material_length scheme b p = 11 + b + p * record_length (scheme_of scheme)

module _ (γ : Garbling) where
  -- "Header of 9 bytes: mark 47 48, scheme byte (1 to 3), n, m, q of 2 bytes each."; and 4 (02, job 7), and the mark 47 4A (02, job 12)
  unfoldable pub header : List ℕ
  header = 0x47 ∷ (ending_of γ.hashed).header_mark ∷ γ.scheme ∷ two γ.circuit.n ++ two (length γ.circuit.outputs) ++ two (length γ.circuit.gates)

  -- "For each charged gate in order: mark 47 54, its wire number (2 bytes), its r rows"
  unfoldable pub record_of : Kind → Site → List ℕ
  record_of (charged u v x) s = 0x47 ∷ 0x54 ∷ two s.g ++ join_blocks ((scheme_of γ.scheme).rows s)
  record_of (free p q c) s = []
  record_of refused s = []

  -- the records of the gates gs, which come after the wires of zero tokens xs
  unfoldable pub records : List Gate → List Block → List ℕ
  records [] xs = []
  records (g ∷ gs) xs = record_of (kind_of g.code) (site_of γ xs g) ++ records gs (xs ++ (zero_step γ xs g ∷ []))

  -- the zero token of wire w
  unfoldable pub zero_of : ℕ → Block
  zero_of w = wire (block 0) (zero_tokens γ) w

  -- what is stored of the outputs ws, from number k on
  unfoldable pub stored_of : Ending → ℕ → List ℕ → List ℕ
  stored_of E k [] = []
  stored_of E k (w ∷ ws) = E.stored k (zero_of w) (one_token γ (zero_of w)) ++ stored_of E (suc k) ws

  -- "Last: mark 47 44 and" a colour for each output; or "mark 47 41 and, for each output k from 1," two hashes
  unfoldable pub last_record : List ℕ
  last_record = 0x47 ∷ (ending_of γ.hashed).last_mark ∷ stored_of (ending_of γ.hashed) 1 γ.circuit.outputs

  unfoldable pub material : List ℕ
  material = header ++ records γ.circuit.gates (input_zeros γ) ++ last_record
