-- Laws of `over` and `put`: what a buffer holds after bytes were written at its front or at an index. Assumes nothing.
use Prim.Native.Nat.{ℕ, suc, ◌+◌, ◌-◌, ◌≤◌, ◌<◌}
use native.Mathlib.Numerals.{add-one}
use native.Mathlib.Omega.{arith}
use mathlib.Core.Path.{◌≡◌, refl, sym, ap, ◌∙◌}
use mathlib.Core.List.{List, [], ◌∷◌, ◌++◌, append_assoc, append-nil}
use lib.ListN.{length, get_or, take, drop, set, length-append, length-drop, length-set, take-append-drop, drop_of_length-le, get_or-append}
use lib.Seq.{drop-cons, set_at, take-suc, take_all, length-take-le, drop-append-le, drop-append-add, drop_at, take_at, drop-drop}
use borrow.Rule.Slice.PartMut.{put_mid}
use Rattle.model.specs.Bytes.{over, put}

-- ---- a buffer that is filled from the front: p is written, o is the buffer at the start
module _ (p o : List ℕ) where
  pub over_length : length p ≤ length o → length (over p o) ≡ length o
  unfolding over
  over_length h = simp (length-append, length-drop) (omega arith)

  pub over_get : (i : ℕ) → i < length p → get_or (over p o) i 0 ≡ get_or p i 0
  unfolding over
  over_get i h = get_or-append p _ 0 i h

  -- one byte more
  pub over_set : (j v : ℕ) → length p ≡ j → j < length o → set (over p o) j v ≡ over (p ++ (v ∷ [])) o
  unfolding over
  over_set j v e h =
      let l : length p < length o = omega arith in
      let m : length (p ++ (v ∷ [])) ≡ suc (length p) = simp length-append (omega arith) in
      rw (m, drop-cons o (length p) 0 l, append_assoc) (set_at p _ _ v j e)

  -- what was written before at the front does not matter
  pub over_over : (r : List ℕ) → length r ≤ length p → length p ≤ length o → over p (over r o) ≡ over p o
  unfolding over
  over_over r h l =
      let d : ℕ = length p - length r in
      let e : length p ≡ length r + d = omega arith in
      ap (λ (t : List ℕ). p ++ t)
      (ap (λ (k : ℕ). drop k (r ++ drop (length r) o)) e ∙ drop-append-add r _ d ∙ drop-drop d (length r) o ∙ ap (λ (k : ℕ). drop k o) (sym e))

  -- more bytes, right after those written
  pub over_put : (b : List ℕ) (j : ℕ) → length p ≡ j → j + length b ≤ length o → put (over p o) j b ≡ over (p ++ b) o
  unfolding put over
  over_put b j e h =
      let m : length (p ++ b) ≡ length p + length b = length-append p b in
      rw (← e, m, take_at p _ (length p) refl, drop_at p _ (length p) refl, drop-drop, ← append_assoc)

  pub over_whole : length o ≤ length p → over p o ≡ p
  unfolding over
  over_whole h = rw (drop_of_length-le o h) (append-nil p)

-- nothing is written yet
pub over_none : (o : List ℕ) → o ≡ over [] o
unfolding over
over_none o = refl

-- ---- bytes at an index
module _ (o : List ℕ) (at : ℕ) where
  pub put_length : (b : List ℕ) → at + length b ≤ length o → length (put o at b) ≡ length o
  unfolding put over
  put_length b h = simp (length-append, length-take-le at o (omega arith), length-drop) (omega arith)

  -- more bytes, right after those written
  pub put_put : (a b : List ℕ) (j : ℕ) → j ≡ at + length a → at + length a + length b ≤ length o → put (put o at a) j b ≡ put o at (a ++ b)
  unfolding put over
  put_put a b j e h =
      let l : length (take at o) ≡ at = length-take-le at o (omega arith) in
      let t : length (take at o ++ a) ≡ j = length-append (take at o) a ∙ omega (arith, l, e) in
      let d : length a + length b ≡ length (a ++ b) = sym (length-append a b) in
      rw (← append_assoc (take at o) a, take_at (take at o ++ a) _ j t, drop_at (take at o ++ a) _ j t)
      (append_assoc (take at o) a _ ∙ ap (λ (x : List ℕ). take at o ++ x) (rw (drop-drop (length b) (length a) (drop at o), append_assoc, ← d)))

  -- no bytes
  pub put_none : o ≡ put o at []
  unfolding put over
  put_none = sym (take-append-drop at o)

-- ---- copying a list to the front
module _ (src o : List ℕ) where
  pub record Copied (j : ℕ) (d : List ℕ) : Type 0 where
    pub within : j ≤ length src
    pub same_length : length d ≡ length o
    pub so_far : d ≡ over (take j src) o

  pub copy_start : Copied 0 o
  unfolding over
  copy_start = record { within = omega arith; same_length = refl; so_far = refl }

  pub copy_turn : (j : ℕ) (d : List ℕ) → length src ≤ length o → j < length src → Copied j d → Copied (j + 1) (set d j (get_or src j 0))
  copy_turn j d h l inv =
      let t : take (suc j) src ≡ take j src ++ (get_or src j 0 ∷ []) = take-suc src j 0 l in
      let e : set (over (take j src) o) j (get_or src j 0) ≡ over (take j src ++ (get_or src j 0 ∷ [])) o =
      over_set (take j src) o j _ (length-take-le j src (omega arith)) (omega arith) in
      record { within = omega arith; same_length = simp length-set inv.same_length; so_far = rw (inv.so_far, e, add-one, t) }

  pub copy_end : (j : ℕ) (d : List ℕ) → Copied j d → length src ≤ j → d ≡ over src o
  copy_end j d inv h = rw (inv.so_far, take_all j src h)

-- ---- a part of a buffer, lent and written at its front
drop_take_drop : (m k : ℕ) (l : List ℕ) → m ≤ k → k ≤ length l → drop m (take k l) ++ drop k l ≡ drop m l
drop_take_drop m k l h i =
    sym (drop-append-le m (take k l) (drop k l) (let e = length-take-le k l i in omega arith)) ∙ ap (drop m) (take-append-drop k l)

pub part_over : (o b : List ℕ) (a k : ℕ) (y : List ℕ) → a + k ≤ length o → length b ≤ k → y ≡ over b (take k (drop a o)) → put_mid a k o y ≡ put o a b
unfolding put over
part_over o b a k y h l e =
    rw (e, append_assoc, drop_take_drop (length b) k (drop a o) l (simp length-drop (omega arith)))

-- the same of all that is left of a buffer from an index on
pub rest_over : (o b y : List ℕ) (a : ℕ) → a + length b ≤ length o → y ≡ over b (take (length o - a) (drop a o)) → put_mid a (length o - a) o y ≡ put o a b
rest_over o b y a h e = part_over o b a (length o - a) y (omega arith) (omega arith) e
