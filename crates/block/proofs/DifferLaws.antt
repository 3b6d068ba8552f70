-- Two blocks that are the same, or not, by their words. Assumes nothing.
use Prim.Native.Nat.{ℕ, ◌+◌, ◌/◌, ◌%◌, ◌^◌, ◌<◌}
use native.Mathlib.Omega.{arith}
use mathlib.Core.Path.{◌≡◌, refl, sym, ap, ◌∙◌}
use mathlib.Core.Bool.{Bool, true, false, cond}
use mathlib.Core.List.{◌++◌}
use lib.Bits.{bit_or, or_lt, or_add_and, and_le_l, and_le_r}
use mir.Syntax.{w8, w64}
use mir.Val.{Fits}
use lib.ListN.{length, take, drop}
use lib.Seq.{take_at, drop_at}
use Rattle.model.specs.Bytes.{number, bytes_of, equal_bytes}
use Rattle.model.specs.Aes.{Block, ◌⊕◌, block}
use Rattle.model.proofs.Number.{number_bytes, length_bytes}
use Rattle.model.proofs.Xor.{⊕_assoc, ⊕_comm, ⊕_self, ⊕_zero}
use Rattle.model.proofs.Equal.{equal_true, not_equal}
use Rattle.block.specs.declared.halves.Halves.{Halves}
use Rattle.block.specs.Halves.{block_of}

-- the sum is block 0 exactly where they are the same
sum_none : (a b : Block) → length a ≡ 16 → length b ≡ 16 → a ⊕ b ≡ block 0 → a ≡ b
sum_none a b la lb e =
    sym (⊕_zero a la) ∙ ap (λ (x : Block). a ⊕ x) (sym (⊕_self b)) ∙ sym (⊕_assoc a b b) ∙ ap (λ (x : Block). x ⊕ b) e ∙ ⊕_comm (block 0) b ∙ ⊕_zero b lb

-- two words, and their block
module _ (h l : ℕ) (lh : h < 2 ^ 64) (ll : l < 2 ^ 64) where
  words_none : bytes_of 8 h ++ bytes_of 8 l ≡ block 0 → (h ≡ 0) × (l ≡ 0)
  unfolding block
  words_none e =
      let x : bytes_of 8 h ≡ bytes_of 8 0 = sym (take_at (bytes_of 8 h) (bytes_of 8 l) 8 (length_bytes 8 h)) ∙ ap (take 8) e ∙ unfold bytes_of in refl in
      let y : bytes_of 8 l ≡ bytes_of 8 0 = sym (drop_at (bytes_of 8 h) (bytes_of 8 l) 8 (length_bytes 8 h)) ∙ ap (drop 8) e ∙ unfold bytes_of in refl in (
        omega (arith, sym (number_bytes 8 h) ∙ ap number x ∙ number_bytes 8 0),
        omega (arith, sym (number_bytes 8 l) ∙ ap number y ∙ number_bytes 8 0),
      )

-- the words d of a ⊕ b
module _ (a b : Block) (la : length a ≡ 16) (lb : length b ≡ 16) (d : Halves) (lh : d.high < 2 ^ 64) (ll : d.low < 2 ^ 64) (is_d : block_of d ≡ a ⊕ b) where
  same_words : a ≡ b → (d.high ≡ 0) × (d.low ≡ 0)
  unfolding block_of
  same_words e = words_none d.high d.low lh ll (is_d ∙ rw e (⊕_self b))

  other_words : d.high ≡ 0 → d.low ≡ 0 → a ≡ b
  unfolding block_of
  other_words e f = sum_none a b la lb (sym is_d ∙ rw (e, f) (unfold bytes_of block in refl))

  -- their bits together, folded to one
  fold_is : (x : ℕ) → x < 2 ^ 64 → x ≡ bit_or d.high d.low → (x / 4294967296 + x % 4294967296 + 8589934591) / 8589934592 ≡ cond (equal_bytes a b) 0 1
  fold_is x lx is_x = go (equal_bytes a b) refl
    where
      none : x ≡ 0 → a ≡ b
      none z =
          let o = or_add_and d.high d.low in
          let u = and_le_l d.high d.low in
          let v = and_le_r d.high d.low in
          other_words (omega (arith, o, u, v, is_x, z)) (omega (arith, o, u, v, is_x, z))

      some : (x ≡ 0 → ⊥) → (x / 4294967296 + x % 4294967296 + 8589934591) / 8589934592 ≡ 1
      some n = omega (arith, n, lx)

      go : (t : Bool) → equal_bytes a b ≡ t → (x / 4294967296 + x % 4294967296 + 8589934591) / 8589934592 ≡ cond t 0 1
      go true e =
          let w = same_words (equal_true a b e) in
          let z : x ≡ 0 = omega (arith, is_x, or_add_and d.high d.low, w.0, w.1) in
          omega (arith, z)
      go false e = some (λ z. not_equal a b e (none z))

-- ---- differs: the words d as they were made, of the words u and v
module _ (d : Halves) (lh : d.high < 2 ^ 64) (ll : d.low < 2 ^ 64) where
  both_fit : bit_or d.high d.low < 2 ^ 64
  both_fit = or_lt 64 d.high d.low lh ll

  pub differ_sum : Fits w64 (bit_or d.high d.low / 4294967296 + bit_or d.high d.low % 4294967296)
  differ_sum = omega (arith, both_fit)

  pub differ_more : Fits w64 (bit_or d.high d.low / 4294967296 + bit_or d.high d.low % 4294967296 + 8589934591)
  differ_more = omega (arith, both_fit)

  pub differ_bit : Fits w8 ((bit_or d.high d.low / 4294967296 + bit_or d.high d.low % 4294967296 + 8589934591) / 8589934592)
  differ_bit = omega (arith, both_fit)

  pub differ_is : (a b : Block) → length a ≡ 16 → length b ≡ 16 → (u v : Halves) → block_of u ≡ a → block_of v ≡ b → block_of d ≡ block_of u ⊕ block_of v
      → (bit_or d.high d.low / 4294967296 + bit_or d.high d.low % 4294967296 + 8589934591) / 8589934592 ≡ cond (equal_bytes a b) 0 1
  differ_is a b la lb u v is_u is_v is_d = fold_is a b la lb d lh ll (is_d ∙ rw (is_u, is_v)) (bit_or d.high d.low) both_fit refl

pub ruleset differ_cases = (differ_sum, differ_more, differ_bit, differ_is)
