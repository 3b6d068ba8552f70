-- Document 01, "Scheme 1, GaX", over any dual-key cipher E.
use Rattle.std.specs.Prelude.{ℕ, ◌+◌, ◌*◌, List, [], ◌∷◌, get_or}
use Rattle.model.specs.Circuit.{value}
use Rattle.model.specs.Aes.{Block, ◌⊕◌, block, times, double, quadruple, π}
use Rattle.model.specs.Tokens.{colour, decoded}
use Rattle.model.specs.Scheme.{Site, Scheme}

-- "E(A,B,T,Z) = π(K) ⊕ K ⊕ Z, K = 2A ⊕ 4B ⊕ T" (source 000, Fig. 1, A2)
unfoldable pub key_block : Block → Block → ℕ → Block
key_block a b t = double a ⊕ quadruple b ⊕ block t

unfoldable pub dual_key : Block → Block → ℕ → Block → Block
dual_key a b t z = π (key_block a b t) ⊕ key_block a b t ⊕ z

-- The operands' tokens of colours c and d carry the truth values c ⊕ colour of Xa and d ⊕ colour of Xb, since R has colour 1.
unfoldable pub carried : Block → ℕ → ℕ
carried x c = decoded c (colour x)

-- the token of colour c on a wire of zero token x
unfoldable pub token_of : Block → Block → ℕ → Block
token_of r x c = x ⊕ times (carried x c) r

-- the gate's value for the pair of truth values that the colours c and d carry
unfoldable pub value_at : Site → ℕ → ℕ → ℕ
value_at s c d = value s.code (carried s.Xa c) (carried s.Xb d)

module _ (E : Block → Block → ℕ → Block → Block) where
  -- E of z under the tokens of colours c and d, tweak 4g+2c+d (source 000, Fig. 3 has the gate's index alone)
  unfoldable pub sealed : Site → ℕ → ℕ → Block → Block
  sealed s c d z = E (token_of s.R s.Xa c) (token_of s.R s.Xb d) (4 * s.g + 2 * c + d) z

  -- "row 2c+d holds E(A,B,4g+2c+d, the gate's token for its value)", where x is the gate's zero token
  unfoldable pub row_at : Site → Block → ℕ → ℕ → Block
  row_at s x c d = sealed s c d (x ⊕ times (value_at s c d) s.R)

  -- "Evaluation opens row 2c+d of the colours c and d of the tokens A and B held"
  unfoldable pub open_row : ℕ → List Block → Block → Block → Block
  open_row g rows a b = E a b (4 * g + 2 * colour a + colour b) (get_or rows (2 * colour a + colour b) (block 0))

  -- "X of charged gate g is AES under the seed of block g. .. Four rows."
  unfoldable pub gax : Scheme
  gax = record {
    stored = 4;
    zero_token = λ s. s.fresh;
    rows = λ s. row_at s s.fresh 0 0 ∷ row_at s s.fresh 0 1 ∷ row_at s s.fresh 1 0 ∷ row_at s s.fresh 1 1 ∷ [];
    opened = open_row;
  }
