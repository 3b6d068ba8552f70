-- Blocks one after the other in bytes: `join_blocks`, `cut` and `token_at` undo one another. Assumes nothing.
use Prim.Native.Nat.{ℕ, zero, suc, ◌+◌, ◌*◌, ◌-◌, ◌≤◌, ◌<◌}
use native.Mathlib.Nat.{le_of_suc-le-suc, not-suc-le-zero, sub-zero, zero-sub, suc-sub-suc}
use native.Mathlib.Omega.{arith}
use mathlib.Core.Path.{◌≡◌, refl, sym, ap, ap₂, ◌∙◌}
use mathlib.Core.List.{List, [], ◌∷◌, ◌++◌, map, append_assoc, append-nil}
use lib.ListN.{length, get_or, take, drop, length-append, length-drop, take-append-drop, drop_of_length-le}
use lib.Seq.{length-take-le, take_at, drop_at, take-take, take-nil, drop-drop}
use Rattle.model.specs.Circuit.{wire}
use Rattle.model.specs.Aes.{Block, block}
use Rattle.model.specs.Material.{join_blocks}
use Rattle.model.specs.Evaluation.{cut, token_at}

-- k blocks of 16 bytes each
pub data Blocks : ℕ → List Block → Type 0 where
  none : Blocks 0 []
  more : {k : ℕ} {x : Block} {xs : List Block} → length x ≡ 16 → Blocks k xs → Blocks (suc k) (x ∷ xs)

pub blocks_length : {k : ℕ} {xs : List Block} → Blocks k xs → length xs ≡ k
blocks_length none = refl
blocks_length (more h r) = ap suc (blocks_length r)

pub blocks_snoc : {k : ℕ} {xs : List Block} (x : Block) → Blocks k xs → length x ≡ 16 → Blocks (suc k) (xs ++ (x ∷ []))
blocks_snoc x none h = more h none
blocks_snoc x (more e r) h = more e (blocks_snoc x r h)

pub blocks_map : (f : Block → Block) → ((x : Block) → length (f x) ≡ 16) → {k : ℕ} {xs : List Block} → Blocks k xs → Blocks k (map f xs)
blocks_map f h none = none
blocks_map f h (more e r) = more (h _) (blocks_map f h r)

-- each of them
pub blocks_wide : {k : ℕ} {xs : List Block} → Blocks k xs → (i : ℕ) → i < k → length (get_or xs i (block 0)) ≡ 16
blocks_wide none i h = absurd (not-suc-le-zero h)
blocks_wide (more e r) zero h = e
blocks_wide (more e r) (suc i) h = blocks_wide r i (le_of_suc-le-suc h)

-- ---- joined

pub join_length : {k : ℕ} {xs : List Block} → Blocks k xs → length (join_blocks xs) ≡ 16 * k
unfolding join_blocks
join_length none = refl
join_length (more {k} {x} {xs} h r) = simp (length-append, h, join_length r) (omega arith)

pub join_append : (xs ys : List Block) → join_blocks (xs ++ ys) ≡ join_blocks xs ++ join_blocks ys
unfolding join_blocks
join_append [] ys = refl
join_append (x ∷ xs) ys = rw (join_append xs ys, append_assoc)

pub join_snoc : (xs : List Block) (x : Block) → join_blocks (xs ++ (x ∷ [])) ≡ join_blocks xs ++ x
unfolding join_blocks
join_snoc xs x = join_append xs (x ∷ []) ∙ ap (join_blocks xs ++◌) (append-nil x)

-- ---- cut

pub cut_length : (k : ℕ) (bs : List ℕ) → length (cut k bs) ≡ k
unfolding cut
cut_length zero bs = refl
cut_length (suc k) bs = ap suc (cut_length k (drop 16 bs))

times_suc : (i : ℕ) → 16 * suc i ≡ 16 + 16 * i
times_suc i = omega arith

-- one block more
pub cut_snoc : (k : ℕ) (bs : List ℕ) → cut (suc k) bs ≡ cut k bs ++ (take 16 (drop (16 * k) bs) ∷ [])
unfolding cut
cut_snoc zero bs = refl
cut_snoc (suc k) bs = rw (times_suc k, ← drop-drop (16 * k) 16 bs) (ap (take 16 bs ∷◌) (cut_snoc k (drop 16 bs)))

pub cut_at : (k i : ℕ) (bs : List ℕ) → i < k → get_or (cut k bs) i (block 0) ≡ take 16 (drop (16 * i) bs)
unfolding cut
cut_at zero i bs h = absurd (not-suc-le-zero h)
cut_at (suc k) zero bs h = refl
cut_at (suc k) (suc i) bs h = rw (times_suc i, ← drop-drop (16 * i) 16 bs) (cut_at k i (drop 16 bs) (le_of_suc-le-suc h))

drop_take : (n m : ℕ) (l : List ℕ) → drop n (take m l) ≡ take (m - n) (drop n l)
drop_take zero m l = rw sub-zero
drop_take (suc n) zero l = rw zero-sub
drop_take (suc n) (suc m) [] = sym (take-nil (suc m - suc n))
drop_take (suc n) (suc m) (x ∷ l) = rw suc-sub-suc (drop_take n m l)

-- the first 16k bytes decide the first k blocks
pub cut_take : (k m : ℕ) (bs : List ℕ) → 16 * k ≤ m → cut k (take m bs) ≡ cut k bs
unfolding cut
cut_take zero m bs h = refl
cut_take (suc k) m bs h =
    ap₂ ◌∷◌ (take-take 16 m bs (omega arith)) (ap (cut k) (drop_take 16 m bs) ∙ cut_take k (m - 16) (drop 16 bs) (omega arith))

pub cut_blocks : (k : ℕ) (bs : List ℕ) → 16 * k ≤ length bs → Blocks k (cut k bs)
unfolding cut
cut_blocks zero bs h = none
cut_blocks (suc k) bs h = more (length-take-le 16 bs (omega arith)) (cut_blocks k (drop 16 bs) (rw length-drop (omega arith)))

-- ---- joined and cut

pub cut_join_append : {k : ℕ} {xs : List Block} → Blocks k xs → (rest : List ℕ) → cut k (join_blocks xs ++ rest) ≡ xs
unfolding join_blocks cut
cut_join_append none rest = refl
cut_join_append (more {k} {x} {xs} h r) rest =
    rw (append_assoc, take_at x (join_blocks xs ++ rest) 16 h, drop_at x (join_blocks xs ++ rest) 16 h, cut_join_append r rest)

pub cut_join : {k : ℕ} {xs : List Block} → Blocks k xs → cut k (join_blocks xs) ≡ xs
cut_join r = rw append-nil at (cut_join_append r [])

pub join_cut : (k : ℕ) (bs : List ℕ) → length bs ≡ 16 * k → join_blocks (cut k bs) ≡ bs
unfolding join_blocks cut
join_cut zero bs h = sym (drop_of_length-le bs {i = 0} (omega arith))
join_cut (suc k) bs h = rw (join_cut k (drop 16 bs) (rw length-drop (omega arith))) (take-append-drop 16 bs)

-- block i, from 0
pub join_at : {k : ℕ} {xs : List Block} → Blocks k xs → (i : ℕ) → i < k → (rest : List ℕ)
    → take 16 (drop (16 * i) (join_blocks xs ++ rest)) ≡ get_or xs i (block 0)
unfolding join_blocks
join_at none i h rest = absurd (not-suc-le-zero h)
join_at (more {x = x} {xs} e r) zero h rest = rw append_assoc (take_at x _ 16 e)
join_at (more {x = x} {xs} e r) (suc i) h rest =
    rw (append_assoc, times_suc i, ← drop-drop (16 * i) 16, drop_at x (join_blocks xs ++ rest) 16 e) (join_at r i (le_of_suc-le-suc h) rest)

-- the token of wire w, from 1, where more may follow
pub token_at_front : {k : ℕ} {xs : List Block} → Blocks k xs → (w : ℕ) → 1 ≤ w → w ≤ k → (rest : List ℕ)
    → token_at (join_blocks xs ++ rest) w ≡ wire (block 0) xs w
unfolding token_at
token_at_front r w h l rest = join_at r (w - 1) (omega arith) rest

pub token_at_wire : {k : ℕ} {xs : List Block} → Blocks k xs → (w : ℕ) → 1 ≤ w → w ≤ k → token_at (join_blocks xs) w ≡ wire (block 0) xs w
token_at_wire r w h l = rw append-nil at (token_at_front r w h l [])
