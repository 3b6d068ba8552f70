-- Two figures as the values of a comparator's inputs. Assumes nothing.
use Prim.Native.Nat.{ℕ, zero, suc, ◌+◌, ◌*◌, ◌/◌, ◌%◌, ◌^◌, ◌≤◌, ◌<◌}
use native.Mathlib.Omega.{arith}
use mathlib.Core.Path.{◌≡◌, ◌∙◌}
use mathlib.Core.List.{List, [], ◌∷◌, ◌++◌}
use lib.ListN.{length, get_or, length-append, get_or-append}
use lib.Seq.{get_or-append-add}
use Rattle.model.specs.Bytes.{from}
use Rattle.model.proofs.Lists.{tabulate_length, entry}
use Rattle.comparator.specs.Compares.{figure_bits, figures}

pub is_bit : (z : ℕ) → z % 2 ≤ 1
is_bit z = omega arith

-- lists of bits
bits_from_law : (f : ℕ → ℕ) → ((k : ℕ) → f k ≤ 1) → (i n j : ℕ) → get_or (from i n f) j 0 ≤ 1
bits_from_law f h i zero j = omega arith
bits_from_law f h i (suc n) zero = h i
bits_from_law f h i (suc n) (suc j) = bits_from_law f h (suc i) n j

bits_append : (xs ys : List ℕ) → ((i : ℕ) → get_or xs i 0 ≤ 1) → ((i : ℕ) → get_or ys i 0 ≤ 1) → (i : ℕ) → get_or (xs ++ ys) i 0 ≤ 1
bits_append [] ys h l i = l i
bits_append (x ∷ xs) ys h l zero = h 0
bits_append (x ∷ xs) ys h l (suc i) = bits_append xs ys (λ j. h (suc j)) l i

module _ (w : ℕ) where
  bits_long : (z : ℕ) → length (figure_bits w z) ≡ w
  unfolding figure_bits
  bits_long z = tabulate_length w _

  bit_at : (z k : ℕ) → k < w → get_or (figure_bits w z) k 0 ≡ z / 2 ^ k % 2
  unfolding figure_bits
  bit_at z k h = entry 0 w _ k h

  module _ (x y : ℕ) where
    pub figures_long : length (figures w x y) ≡ 2 * w
    unfolding figures
    figures_long = simp length-append (omega (arith, bits_long x, bits_long y))

    pub price_at : (k : ℕ) → k < w → get_or (figures w x y) k 0 ≡ x / 2 ^ k % 2
    unfolding figures
    price_at k h = get_or-append (figure_bits w x) (figure_bits w y) 0 k (omega (arith, bits_long x)) ∙ bit_at x k h

    pub ceiling_at : (k : ℕ) → k < w → get_or (figures w x y) (w + k) 0 ≡ y / 2 ^ k % 2
    unfolding figures
    ceiling_at k h =
        let at : w + k ≡ length (figure_bits w x) + k = omega (arith, bits_long x) in
        rw at (get_or-append-add (figure_bits w x) (figure_bits w y) k 0) ∙ bit_at y k h

    -- every value is a bit
    pub figures_bits : (i : ℕ) → get_or (figures w x y) i 0 ≤ 1
    unfolding figures figure_bits
    figures_bits i =
        bits_append (figure_bits w x) (figure_bits w y) (bits_from_law _ (λ k. is_bit (x / 2 ^ k)) 0 w) (bits_from_law _ (λ k. is_bit (y / 2 ^ k)) 0 w) i
