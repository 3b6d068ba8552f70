-- Keys in halves of a block, their rows turned back. Assumes nothing.
use mathlib.Core.Path.{◌≡◌, refl, sym, ap, ap₂, ◌∙◌}
use mathlib.Core.List.{List, ◌++◌}
use Prim.Native.Nat.{ℕ, zero, suc, ◌+◌, ◌*◌, ◌/◌, ◌%◌, ◌^◌, ◌<◌}
use native.Mathlib.Omega.{arith}
use lib.ListN.{take, drop}
use Rattle.model.specs.Aes.{Block, shift_rows}
use Rattle.aes.specs.declared.packed.Words.{Words}
use Rattle.aes.specs.Tables.{word_of, state_of}
use Rattle.planes.specs.declared.packing.Halves.{Halves}
use Rattle.planes.specs.Packing.{bytes_of8, of_halves, rows_from}
use Rattle.planes.specs.Sliced.{turn_by}
use Rattle.planes.proofs.Lanes.{eight}

-- ---- columns and halves

pub joins_two : (a b x : ℕ) → a < 2 ^ 32 → b < 2 ^ 32 → x ≡ a + b * 2 ^ 32 → bytes_of8 x ≡ word_of a ++ word_of b
unfolding bytes_of8 word_of
joins_two a b x ha hb e = eight (omega arith) (omega arith) (omega arith) (omega arith) (omega arith) (omega arith) (omega arith) (omega arith)

pub state_halves : (k : Words) (h : Halves) → bytes_of8 h.first ≡ word_of k.a ++ word_of k.b → bytes_of8 h.second ≡ word_of k.c ++ word_of k.d → of_halves h ≡ state_of k
unfolding of_halves state_of word_of
state_halves k h e f = ap₂ (λ (s t : List ℕ). s ++ t) e f

columns_of : (x : ℕ) → x < 2 ^ 64 → bytes_of8 x ≡ word_of (x % 2 ^ 32) ++ word_of (x / 2 ^ 32)
columns_of x h = joins_two (x % 2 ^ 32) (x / 2 ^ 32) x (omega arith) (omega arith) (omega arith)

pub stands_between : (x y z : ℕ) → x < 2 ^ 64 → y < 2 ^ 64 → bytes_of8 z ≡ word_of (x / 2 ^ 32) ++ word_of (y % 2 ^ 32) → bytes_of8 z ≡ drop 4 (bytes_of8 x) ++ take 4 (bytes_of8 y)
unfolding word_of
stands_between x y z hx hy e = e ∙ sym (ap₂ (λ (s t : List ℕ). drop 4 s ++ take 4 t) (columns_of x hx) (columns_of y hy))

-- ---- turned back once

abbrev odd : ℕ
odd = 0xFF00FF00FF00FF00

abbrev lower : ℕ
lower = 0xFFFF0000FFFF0000

module _ (k h : Halves) (p q u v : ℕ) where
  pub turns_once : bytes_of8 p ≡ drop 4 (bytes_of8 k.second) ++ take 4 (bytes_of8 k.first) → bytes_of8 q ≡ drop 4 (bytes_of8 k.first) ++ take 4 (bytes_of8 k.second) →
      bytes_of8 u ≡ rows_from odd (bytes_of8 k.first) (bytes_of8 p) → bytes_of8 v ≡ rows_from odd (bytes_of8 k.second) (bytes_of8 q) →
      bytes_of8 h.first ≡ rows_from lower (bytes_of8 u) (bytes_of8 v) → bytes_of8 h.second ≡ rows_from lower (bytes_of8 v) (bytes_of8 u) → shift_rows (of_halves h) ≡ of_halves k
  unfolding of_halves shift_rows rows_from bytes_of8
  turns_once is_p is_q is_u is_v is_first is_second =
      let x = bytes_of8 k.first in
      let y = bytes_of8 k.second in
      let from_u : bytes_of8 u ≡ rows_from odd x (drop 4 y ++ take 4 x) = is_u ∙ ap (rows_from odd x) is_p in
      let from_v : bytes_of8 v ≡ rows_from odd y (drop 4 x ++ take 4 y) = is_v ∙ ap (rows_from odd y) is_q in
      ap₂ (λ (s t : List ℕ). shift_rows (s ++ t)) (is_first ∙ ap₂ (rows_from lower) from_u from_v) (is_second ∙ ap₂ (rows_from lower) from_v from_u)

-- ---- once or not at all, and twice more

pub turned_not : (r : ℕ) (k : Halves) → r % 2 ≡ 0 → turn_by (r % 2) (of_halves k) ≡ of_halves k
unfolding turn_by
turned_not r k e = ap (λ (n : ℕ). turn_by n (of_halves k)) e

pub turned_yes : (r : ℕ) (k h : Halves) → (r % 2 ≡ 0 → ⊥) → shift_rows (of_halves h) ≡ of_halves k → turn_by (r % 2) (of_halves h) ≡ of_halves k
unfolding turn_by
turned_yes r k h n e =
    let one : r % 2 ≡ 1 = omega arith in
    ap (λ (n : ℕ). turn_by n (of_halves h)) one ∙ e

pub turned_few : (r : ℕ) (k h : Halves) → r % 4 < 2 → turn_by (r % 2) (of_halves h) ≡ of_halves k → turn_by (r % 4) (of_halves h) ≡ of_halves k
turned_few r k h l e =
    let same : r % 4 ≡ r % 2 = omega arith in
    ap (λ (n : ℕ). turn_by n (of_halves h)) same ∙ e

-- rows 1 and 3 by two columns is ShiftRows twice
twice_more : (g h : Halves) → bytes_of8 g.first ≡ rows_from odd (bytes_of8 h.first) (bytes_of8 h.second) → bytes_of8 g.second ≡ rows_from odd (bytes_of8 h.second) (bytes_of8 h.first) →
    shift_rows (shift_rows (of_halves g)) ≡ of_halves h
unfolding of_halves shift_rows rows_from bytes_of8
twice_more g h e f = ap₂ (λ (s t : List ℕ). shift_rows (shift_rows (s ++ t))) e f

turn_by_more : (s : Block) (n : ℕ) → n < 2 → turn_by (n + 2) s ≡ turn_by n (shift_rows (shift_rows s))
unfolding turn_by
turn_by_more s zero h = refl
turn_by_more s (suc zero) h = refl
turn_by_more s (suc (suc n)) h = absurd (omega arith)

pub turned_more : (r : ℕ) (k g h : Halves) → (r % 4 < 2 → ⊥) → turn_by (r % 2) (of_halves h) ≡ of_halves k →
    bytes_of8 g.first ≡ rows_from odd (bytes_of8 h.first) (bytes_of8 h.second) → bytes_of8 g.second ≡ rows_from odd (bytes_of8 h.second) (bytes_of8 h.first) →
    turn_by (r % 4) (of_halves g) ≡ of_halves k
turned_more r k g h n e is_first is_second =
    let more : r % 4 ≡ r % 2 + 2 = omega arith in
    ap (λ (n : ℕ). turn_by n (of_halves g)) more ∙ turn_by_more (of_halves g) (r % 2) (omega arith) ∙ ap (turn_by (r % 2)) (twice_more g h is_first is_second) ∙ e
