-- The encryptions that are counted, 01's calls of π. Document 01, "Scheme 1" to "Scheme 3"; "Four questions": a count is "the sum over gates of the
-- scheme's own calls". "The hash now receives its key with each call .. and each call is one encryption in the count." (02, job 7)
use Rattle.std.specs.Prelude.{ℕ, suc, ◌+◌, ◌*◌, cond, List, [], ◌∷◌, ◌++◌, map, eqb, length}
use Rattle.model.specs.declared.Gate.{Gate}
use Rattle.model.specs.Circuit.{Kind, charged, free, refused, kind_of, wire}
use Rattle.model.specs.Aes.{Block, ◌⊕◌, block, fixed_key}
use Rattle.model.specs.Tokens.{Garbling, colour, one_token}
use Rattle.model.specs.Scheme.{Site}
use Rattle.model.specs.Gax.{key_block, token_of}
use Rattle.model.specs.Hashes.{Call, hash_call_of}
use Rattle.model.specs.HalfGates.{half_a, half_b, generator_tweak, evaluator_tweak}
use Rattle.model.specs.Garbling.{scheme_of, own, site_of, zero_step}
use Rattle.model.specs.Ending.{Ending, ending_of}
use Rattle.model.specs.Material.{zero_of}
use Rattle.model.specs.Evaluation.{open_step, past}

-- What a scheme asks of its cipher E, whatever E seals, or of its hash H.
pub data Ask : Type 0 where
  sealing : (A B : Block) (T : ℕ) → Ask
  hashing : (x : Block) (i : ℕ) → Ask

-- The one encryption that it takes, by the scheme byte k: "E(A,B,T,Z) = π(K) ⊕ K ⊕ Z, K = 2A ⊕ 4B ⊕ T", where π is AES under the fixed key; or that of
-- the scheme's hash.
unfoldable pub call_for : ℕ → Ask → Call
call_for k (sealing A B T) = record { key = fixed_key; input = key_block A B T }
call_for k (hashing x i) = hash_call_of k x i

-- ---- at a charged gate, garbling

-- schemes 1 and 2: the tokens of colours c and d, and the tweak 4g+2c+d
unfoldable pub sealing_at : Site → ℕ → ℕ → Ask
sealing_at s c d = sealing (token_of s.R s.Xa c) (token_of s.R s.Xb d) (4 * s.g + 2 * c + d)

-- "For each pair of truth values, with tokens A and B of colours c and d": all four pairs, that of colours 0,0 also where row 0 is not stored
unfoldable pub sealings : Site → List Ask
sealings s = sealing_at s 0 0 ∷ sealing_at s 0 1 ∷ sealing_at s 1 0 ∷ sealing_at s 1 1 ∷ []

-- schemes 3 and 4: "H(A,j) ⊕ H(A⊕R,j)" of row G, "H(B,k) ⊕ H(B⊕R,k)" of row E; X of the gate takes two of them again
unfoldable pub hashings : Site → List Ask
hashings s =
    hashing (half_a s) (generator_tweak s.g) ∷ hashing (half_a s ⊕ s.R) (generator_tweak s.g)
    ∷ hashing (half_b s) (evaluator_tweak s.g) ∷ hashing (half_b s ⊕ s.R) (evaluator_tweak s.g) ∷ []

-- by a scheme byte
unfoldable pub garble_asks : ℕ → Site → List Ask
garble_asks k s = cond (eqb k 1) (sealings s) (cond (eqb k 2) (sealings s) (hashings s))

unfoldable pub garbled_calls : ℕ → Site → List Call
garbled_calls k s = map (call_for k) (garble_asks k s)

-- ---- at a charged gate of wire g, evaluating, with A and B held

-- schemes 1 and 2: "the gate's token is E(A,B,4g+2c+d, that row)"
unfoldable pub sealing_held : ℕ → Block → Block → List Ask
sealing_held g A B = sealing A B (4 * g + 2 * colour A + colour B) ∷ []

-- schemes 3 and 4: "H(A,j)" and "H(B,k)"
unfoldable pub hashings_held : ℕ → Block → Block → List Ask
hashings_held g A B = hashing A (generator_tweak g) ∷ hashing B (evaluator_tweak g) ∷ []

-- by a scheme byte
unfoldable pub evaluate_asks : ℕ → ℕ → Block → Block → List Ask
evaluate_asks k g A B = cond (eqb k 1) (sealing_held g A B) (cond (eqb k 2) (sealing_held g A B) (hashings_held g A B))

unfoldable pub opened_calls : ℕ → ℕ → Block → Block → List Call
opened_calls k g A B = map (call_for k) (evaluate_asks k g A B)

-- ---- as many, summed over the gates: a free gate asks nothing

module _ (γ : Garbling) where
  unfoldable pub garble_calls_at : Kind → Site → ℕ
  garble_calls_at (charged u v x) s = length (garbled_calls γ.scheme s)
  garble_calls_at (free p q c) s = 0
  garble_calls_at refused s = 0

  -- the gates gs, which come after the wires of zero tokens xs
  unfoldable pub garble_calls : List Gate → List Block → ℕ
  garble_calls [] xs = 0
  garble_calls (g ∷ gs) xs = garble_calls_at (kind_of g.code) (site_of γ xs g) + garble_calls gs (xs ++ (zero_step γ xs g ∷ []))

  -- "for 47 4A adds 2m calls" (02, job 12): those of the outputs ws, from number k on
  unfoldable pub calls_of : Ending → ℕ → List ℕ → List Call
  calls_of E k [] = []
  calls_of E k (w ∷ ws) = E.calls k (zero_of γ w) (one_token γ (zero_of γ w)) ++ calls_of E (suc k) ws

  unfoldable pub output_calls : ℕ
  output_calls = length (calls_of (ending_of γ.hashed) 1 γ.circuit.outputs)

-- k is the scheme byte
module _ (k : ℕ) where
  unfoldable pub evaluate_calls_at : Kind → ℕ → Block → Block → ℕ
  evaluate_calls_at (charged u v x) g A B = length (opened_calls k g A B)
  evaluate_calls_at (free p q c) g A B = 0
  evaluate_calls_at refused g A B = 0

  -- the gates gs, which come after the wires of tokens ts; bs is what is left of the material, from the next row record on
  unfoldable pub evaluate_calls : List Gate → List ℕ → List Block → ℕ
  evaluate_calls [] bs ts = 0
  evaluate_calls (g ∷ gs) bs ts =
      evaluate_calls_at (kind_of g.code) (own ts) (wire (block 0) ts g.a.0) (wire (block 0) ts g.b.0)
      + evaluate_calls gs (past (scheme_of k) (kind_of g.code) bs) (ts ++ (open_step (scheme_of k) bs ts g ∷ []))
