-- Laws of `tabulate`: equal tables, one more entry, and a list as the table of its entries. Assumes nothing.
use mathlib.Core.Path.{◌≡◌, refl, sym, ap, ap₂, ◌∙◌}
use mathlib.Core.List.{List, [], ◌∷◌, ◌++◌, map}
use Prim.Native.Nat.{ℕ, zero, suc, ◌+◌, ◌<◌, ◌≤◌}
use native.Mathlib.Nat.{add-zero, add-suc, suc-add, zero-add, le_of_suc-le-suc, not-suc-le-zero}
use native.Mathlib.Numerals.{add-one}
use native.Mathlib.Omega.{arith}
use lib.ListN.{length, get_or, take, drop, set, length-drop}
use lib.Seq.{get_or-take, get_or-drop, length-take-le, take-suc-set, take_all}
use Rattle.model.specs.Bytes.{from, tabulate}

module _ {A : Type 0} where
  pub from_cong : (i n : ℕ) (f g : ℕ → A) → ((k : ℕ) → k < i + n → f k ≡ g k) → from i n f ≡ from i n g
  from_cong i zero f g h = refl
  from_cong i (suc n) f g h =
      ap₂ {A = A} {B = List A} {C = List A} (λ x xs. x ∷ xs) (h i (omega arith)) (from_cong (suc i) n f g (λ k l. h k (omega arith)))

  from_snoc : (i n : ℕ) (f : ℕ → A) → from i (suc n) f ≡ from i n f ++ (f (i + n) ∷ [])
  from_snoc i zero f = ap (λ (k : ℕ). f k ∷ []) (sym (add-zero i))
  from_snoc i (suc n) f =
      ap (λ (r : List A). f i ∷ r) (from_snoc (suc i) n f ∙ ap (λ (k : ℕ). from (suc i) n f ++ (f k ∷ [])) (suc-add i n ∙ sym (add-suc i n)))

  -- a table with one entry more
  pub tabulate_snoc : (n : ℕ) (f : ℕ → A) → tabulate (suc n) f ≡ tabulate n f ++ (f n ∷ [])
  tabulate_snoc n f = from_snoc 0 n f ∙ ap (λ (k : ℕ). tabulate n f ++ (f k ∷ [])) (zero-add n)

  from_length : (i n : ℕ) (f : ℕ → A) → length (from i n f) ≡ n
  from_length i zero f = refl
  from_length i (suc n) f = ap suc (from_length (suc i) n f)

  pub tabulate_length : (n : ℕ) (f : ℕ → A) → length (tabulate n f) ≡ n
  tabulate_length n f = from_length 0 n f

  -- a list that is filled from the front, one store a turn, with f 0, f 1, ..
  pub filled : (r : List A) (i : ℕ) (f : ℕ → A) → i < length r → take i r ≡ tabulate i f → take (i + 1) (set r i (f i)) ≡ tabulate (i + 1) f
  filled r i f h e =
      rw (add-one i) (take-suc-set r i (f i) h ∙ ap (λ (x : List A). x ++ (f i ∷ [])) e ∙ sym (tabulate_snoc i f))

  pub full : (r : List A) (i n : ℕ) (f : ℕ → A) → length r ≡ n → i ≡ n → take i r ≡ tabulate i f → r ≡ tabulate n f
  full r i n f l h e = sym (take_all i r (omega arith)) ∙ e ∙ ap (λ (k : ℕ). tabulate k f) h

  -- entry k of a table, and its first entries
  from_entry : (d : A) (i n : ℕ) (f : ℕ → A) (k : ℕ) → k < n → get_or (from i n f) k d ≡ f (i + k)
  from_entry d i zero f k h = absurd (not-suc-le-zero h)
  from_entry d i (suc n) f zero h = ap f (sym (add-zero i))
  from_entry d i (suc n) f (suc k) h = from_entry d (suc i) n f k (le_of_suc-le-suc h) ∙ ap f (suc-add i k ∙ sym (add-suc i k))

  pub entry : (d : A) (n : ℕ) (f : ℕ → A) (k : ℕ) → k < n → get_or (tabulate n f) k d ≡ f k
  entry d n f k h = from_entry d 0 n f k h ∙ ap f (zero-add k)

  -- functions that have the same table of sixteen entries agree on those
  pub agree : (d : A) (f g : ℕ → A) → tabulate 16 f ≡ tabulate 16 g → (k : ℕ) → k ≤ 15 → f k ≡ g k
  agree d f g e k h = sym (entry d 16 f k (omega arith)) ∙ ap (λ (xs : List A). get_or xs k d) e ∙ entry d 16 g k (omega arith)

  from_take : (i k n : ℕ) (f : ℕ → A) → k ≤ n → take k (from i n f) ≡ from i k f
  from_take i zero n f h = refl
  from_take i (suc k) zero f h = absurd (not-suc-le-zero h)
  from_take i (suc k) (suc n) f h = ap (λ (r : List A). f i ∷ r) (from_take (suc i) k n f (le_of_suc-le-suc h))

  pub tabulate_take : (k n : ℕ) (f : ℕ → A) → k ≤ n → take k (tabulate n f) ≡ tabulate k f
  tabulate_take k n f h = from_take 0 k n f h

-- a function on each entry
from_map : {A B : Type 0} (g : A → B) (i n : ℕ) (f : ℕ → A) → map g (from i n f) ≡ from i n (λ k. g (f k))
from_map g i zero f = refl
from_map {A} {B} g i (suc n) f = ap (λ (r : List B). g (f i) ∷ r) (from_map g (suc i) n f)

pub tabulate_map : {A B : Type 0} (g : A → B) (n : ℕ) (f : ℕ → A) → map g (tabulate n f) ≡ tabulate n (λ k. g (f k))
tabulate_map g n f = from_map g 0 n f

-- a list is the table of its entries, d what stands past its end
module _ {A : Type 0} (d : A) where
  from_suc : (i n : ℕ) (x : A) (l : List A) → from (suc i) n (λ k. get_or (x ∷ l) k d) ≡ from i n (λ k. get_or l k d)
  from_suc i zero x l = refl
  from_suc i (suc n) x l = ap (λ (r : List A). get_or l i d ∷ r) (from_suc (suc i) n x l)

  pub tabulate_get_d : (l : List A) → tabulate (length l) (λ i. get_or l i d) ≡ l
  tabulate_get_d [] = refl
  tabulate_get_d (x ∷ l) = ap (λ (r : List A). x ∷ r) (from_suc 0 (length l) x l ∙ tabulate_get_d l)

-- the same of numbers, by their count
pub elements : (n : ℕ) (l : List ℕ) → length l ≡ n → tabulate n (λ i. get_or l i 0) ≡ l
elements n l h = ap (λ (n : ℕ). tabulate n (λ i. get_or l i 0)) (sym h) ∙ tabulate_get_d 0 l

-- a function on each of them
pub map_elements : {A : Type 0} (g : ℕ → A) (n : ℕ) (l : List ℕ) → length l ≡ n → map g l ≡ tabulate n (λ i. g (get_or l i 0))
map_elements g n l h = ap (map g) (sym (elements n l h)) ∙ tabulate_map g n (λ i. get_or l i 0)

-- so is a part of a list
pub part : (s : List ℕ) (at n : ℕ) → at + n ≤ length s → tabulate n (λ i. get_or s (at + i) 0) ≡ take n (drop at s)
part s at n h =
    from_cong 0 n (λ i. get_or s (at + i) 0) (λ i. get_or (take n (drop at s)) i 0)
    (λ i k. sym (get_or-take n (drop at s) i 0 (omega arith) ∙ get_or-drop at s i 0))
    ∙ elements n (take n (drop at s)) (length-take-le n (drop at s) (omega (arith, length-drop at s)))
