-- Document 01, "Scheme 3, half-gates", over any tweakable hash H; "Scheme 4 has scheme 3's steps and rows" (02, job 7). The steps are those of Zahur,
-- Rosulek and Evans (2015).
use Rattle.std.specs.Prelude.{ℕ, ◌+◌, ◌-◌, ◌*◌, [], ◌∷◌, get_or}
use Rattle.model.specs.Circuit.{Kind, charged, free, refused, kind_of}
use Rattle.model.specs.Aes.{Block, ◌⊕◌, block, times}
use Rattle.model.specs.Tokens.{colour}
use Rattle.model.specs.Scheme.{Site, Scheme}

-- "Of the four truth pairs of a charged code one has a value of its own; call it (u,v). α=1-u, β=1-v, γ=1 if that value is 0, else 0."
abbrev pub alpha : Kind → ℕ
alpha (charged u v x) = 1 - u
alpha (free p q c) = 0
alpha refused = 0

abbrev pub beta : Kind → ℕ
beta (charged u v x) = 1 - v
beta (free p q c) = 0
beta refused = 0

abbrev pub gamma : Kind → ℕ
gamma (charged u v x) = 1 - x
gamma (free p q c) = 0
gamma refused = 0

-- "Put A = Xa ⊕ αR, B = Xb ⊕ βR, with colours s and t"
unfoldable pub half_a : Site → Block
half_a s = s.Xa ⊕ times (alpha (kind_of s.code)) s.R

unfoldable pub half_b : Site → Block
half_b s = s.Xb ⊕ times (beta (kind_of s.code)) s.R

-- "j=2g, k=2g+1", g the wire number
abbrev pub generator_tweak : ℕ → ℕ
generator_tweak g = 2 * g

abbrev pub evaluator_tweak : ℕ → ℕ
evaluator_tweak g = 2 * g + 1

module _ (H : Block → ℕ → Block) where
  -- "Row G = H(A,j) ⊕ H(A⊕R,j) ⊕ tR."
  unfoldable pub row_g : Site → Block
  row_g s = H (half_a s) (generator_tweak s.g) ⊕ H (half_a s ⊕ s.R) (generator_tweak s.g) ⊕ times (colour (half_b s)) s.R

  -- "Row E = H(B,k) ⊕ H(B⊕R,k) ⊕ A."
  unfoldable pub row_e : Site → Block
  row_e s = H (half_b s) (evaluator_tweak s.g) ⊕ H (half_b s ⊕ s.R) (evaluator_tweak s.g) ⊕ half_a s

  -- "Evaluation, holding A and B of colours s and t: H(A,j) ⊕ sG ⊕ H(B,k) ⊕ t(E⊕A)."
  unfoldable pub joined : ℕ → Block → Block → Block → Block → Block
  joined g G E A B = H A (generator_tweak g) ⊕ times (colour A) G ⊕ H B (evaluator_tweak g) ⊕ times (colour B) (E ⊕ A)

  -- "X of the gate = H(A,j) ⊕ sG ⊕ H(B,k) ⊕ t(E⊕A) ⊕ γR."
  unfoldable pub half_zero : Site → Block
  half_zero s = joined s.g (row_g s) (row_e s) (half_a s) (half_b s) ⊕ times (gamma (kind_of s.code)) s.R

  unfoldable pub half : Scheme
  half = record {
    stored = 2;
    zero_token = half_zero;
    rows = λ s. row_g s ∷ row_e s ∷ [];
    opened = λ g rows. joined g (get_or rows 0 (block 0)) (get_or rows 1 (block 0));
  }
