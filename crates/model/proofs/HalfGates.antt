-- Half-gates are sound, over any hash H. Assumes nothing.
use Prim.Native.Nat.{ℕ, zero, suc, ◌+◌, ◌*◌}
use mathlib.Core.Path.{◌≡◌, refl, ap₂}
use lib.Bits.{differ}
use lib.ListN.{length}
use Rattle.model.specs.Circuit.{kind_of, value}
use Rattle.model.specs.Aes.{Block, ◌⊕◌, times}
use Rattle.model.specs.Scheme.{Site}
use Rattle.model.specs.HalfGates.{alpha, beta, half_a, half_b, row_g, row_e, joined, half_zero, half}
use Rattle.model.proofs.Bits.{Bit, b0, b1, bit_differ, bit_product}
use Rattle.model.proofs.Xor.{⊕_length}
use Rattle.model.proofs.XorRules.{xors_times}
use Rattle.model.proofs.Tokens.{Offset, token_for, token_zero, token_one, token_from, colour_bit, token_colour}
use Rattle.model.proofs.Codes.{Charged, charged_negated}
use Rattle.model.proofs.Blocks.{none, more}
use Rattle.model.proofs.Sound.{Sound}

-- one of two blocks, by a bit
pick : ℕ → Block → Block → Block
pick zero x y = x
pick (suc b) x y = y

pick_0 : (x y : Block) → pick 0 x y ≡ x
unfolding pick
pick_0 x y = refl

pick_1 : (x y : Block) → pick 1 x y ≡ y
unfolding pick
pick_1 x y = refl

ruleset picks = (pick_0, pick_1, xors_times)

-- The identity behind the rows. hA and hA' are the hashes of A and A ⊕ R, hB and hB' those of B and B ⊕ R; s and t are the
-- colours of A and B; u and v are what the tokens held carry, where A and B carry 0.
module _ (hA hA' hB hB' A R : Block) where
  identity : {s t u v : ℕ} → Bit s → Bit t → Bit u → Bit v
      → pick u hA hA' ⊕ times (differ s u) (hA ⊕ hA' ⊕ times t R) ⊕ pick v hB hB' ⊕ times (differ t v) ((hB ⊕ hB' ⊕ A) ⊕ (A ⊕ times u R))
      ≡ (hA ⊕ times s (hA ⊕ hA' ⊕ times t R) ⊕ hB ⊕ times t ((hB ⊕ hB' ⊕ A) ⊕ A)) ⊕ times (u * v) R
  identity b0 b0 b0 b0 = simp picks
  identity b0 b0 b0 b1 = simp picks
  identity b0 b0 b1 b0 = simp picks
  identity b0 b0 b1 b1 = simp picks
  identity b0 b1 b0 b0 = simp picks
  identity b0 b1 b0 b1 = simp picks
  identity b0 b1 b1 b0 = simp picks
  identity b0 b1 b1 b1 = simp picks
  identity b1 b0 b0 b0 = simp picks
  identity b1 b0 b0 b1 = simp picks
  identity b1 b0 b1 b0 = simp picks
  identity b1 b0 b1 b1 = simp picks
  identity b1 b1 b0 b0 = simp picks
  identity b1 b1 b0 b1 = simp picks
  identity b1 b1 b1 b0 = simp picks
  identity b1 b1 b1 b1 = simp picks

half_a_wide : (s : Site) → length (half_a s) ≡ 16
unfolding half_a
half_a_wide s = ⊕_length _ _

half_b_wide : (s : Site) → length (half_b s) ≡ 16
unfolding half_b
half_b_wide s = ⊕_length _ _

module _ (H : Block → ℕ → Block) where
  hash_of_token : {u : ℕ} (A R : Block) (i : ℕ) → length A ≡ 16 → Bit u → H (token_for R A u) i ≡ pick u (H A i) (H (A ⊕ R) i)
  hash_of_token A R i h b0 = rw (pick_0, token_zero R A h)
  hash_of_token A R i h b1 = rw (pick_1, token_one R A)

  -- evaluation's sum of the site's rows, from the tokens held
  abbrev sum : Site → Block → Block → Block
  sum s = joined H s.g (row_g H s) (row_e H s)

  -- from tokens that carry u and v where A and B carry 0, it is the token for uv
  and_gate_evaluates : (s : Site) (u v : ℕ) → Offset s.R → Bit u → Bit v
      → sum s (token_for s.R (half_a s) u) (token_for s.R (half_b s) v) ≡ token_for s.R (sum s (half_a s) (half_b s)) (u * v)
  unfolding joined row_g row_e
  and_gate_evaluates s u v o p q =
      let a = hash_of_token (half_a s) s.R (2 * s.g) (half_a_wide s) p in
      let b = hash_of_token (half_b s) s.R (2 * s.g + 1) (half_b_wide s) q in
      rw (a, b, token_colour (half_a s) o p, token_colour (half_b s) o q)
      (identity _ _ _ _ _ _ (colour_bit (half_a s)) (colour_bit (half_b s)) p q)

  -- any charged gate is such an AND with negations
  half_gate_evaluates : (s : Site) (u v : ℕ) → Offset s.R → Charged (kind_of s.code) → Bit u → Bit v
      → sum s (token_for s.R s.Xa u) (token_for s.R s.Xb v) ≡ token_for s.R (half_zero H s) (value s.code u v)
  unfolding half_zero
  half_gate_evaluates s u v o c p q =
      let n = charged_negated s.code c in
      let u' : Bit (differ (alpha (kind_of s.code)) u) = bit_differ n.bit_α p in
      let v' : Bit (differ (beta (kind_of s.code)) v) = bit_differ n.bit_β q in
      rw (n.at u v p q, ← token_from s.R (sum s (half_a s) (half_b s)) n.bit_γ (bit_product u' v'), ← and_gate_evaluates s _ _ o u' v')
      (ap₂ (sum s) (unfold half_a in (token_from s.R s.Xa n.bit_α p)) (unfold half_b in (token_from s.R s.Xb n.bit_β q)))

  row_g_wide : (s : Site) → length (row_g H s) ≡ 16
  unfolding row_g
  row_g_wide s = ⊕_length _ _

  row_e_wide : (s : Site) → length (row_e H s) ≡ 16
  unfolding row_e
  row_e_wide s = ⊕_length _ _

  pub half_sound : Sound (half H)
  unfolding half
  half_sound = record {
    rows_wide = λ s. more (row_g_wide s) (more (row_e_wide s) none);
    zero_wide = λ s h. unfold half_zero in (⊕_length _ _);
    opened_wide = λ g rows A B. unfold joined in (⊕_length _ _);
    opens = half_gate_evaluates;
  }
