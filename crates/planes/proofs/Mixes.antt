-- Exclusive or and MixColumns on planes, lane by lane. Assumes nothing.
use mathlib.Core.Path.{◌≡◌, refl, sym, subst, ap, ap₂, ◌∙◌}
use mathlib.Core.List.{List, [], ◌∷◌}
use Prim.Native.Nat.{ℕ, ◌%◌, ◌<◌}
use native.Mathlib.Omega.{arith}
use lib.Bits.{bit_xor, xor_lt}
use lib.ListN.{get_or}
use Rattle.model.specs.Bytes.{tabulate}
use Rattle.model.specs.Aes.{xtime, mix_byte, bit}
use Rattle.model.proofs.Lists.{entry}
use Rattle.model.proofs.XorRules.{sums}
use Rattle.model.proofs.Mix.{xtime_byte, xtime_sum, mix_sum}
use Rattle.planes.specs.declared.planes.Planes.{Planes}
use Rattle.planes.specs.Lanes.{planes_of, lane, byte_at, Added}
use Rattle.planes.specs.Rotations.{Moved}
use Rattle.planes.specs.Mixing.{below, MixedBy, MixedAt, Mixed, MixedFrom}
use Rattle.planes.proofs.Lanes.{eight, at_each, bit_xor_law, bits_of, lane_bits, byte_lt, lane_is}

-- ---- exclusive or

abbrev zip : List ℕ → List ℕ → List ℕ
zip a b = tabulate 8 (λ i. bit_xor (get_or a i 0) (get_or b i 0))

bits_xor : (x y : ℕ) → bits_of (bit_xor x y) ≡ zip (bits_of x) (bits_of y)
bits_xor x y = eight (bit_xor_law x y 0) (bit_xor_law x y 1) (bit_xor_law x y 2) (bit_xor_law x y 3) (bit_xor_law x y 4) (bit_xor_law x y 5) (bit_xor_law x y 6) (bit_xor_law x y 7)

pub adds : (p q r : Planes) → planes_of r ≡ zip (planes_of p) (planes_of q) → Added p q r
unfolding Added planes_of lane
adds p q r e l h =
    lane_is r l _ (xor_lt 8 _ _ (byte_lt p l) (byte_lt q l))
    (ap (lane l) e
    ∙ eight (bit_xor_law p.p0 q.p0 l) (bit_xor_law p.p1 q.p1 l) (bit_xor_law p.p2 q.p2 l) (bit_xor_law p.p3 q.p3 l) (bit_xor_law p.p4 q.p4 l)
    (bit_xor_law p.p5 q.p5 l) (bit_xor_law p.p6 q.p6 l) (bit_xor_law p.p7 q.p7 l)
    ∙ ap₂ zip (lane_bits p l) (lane_bits q l) ∙ sym (bits_xor (byte_at p l) (byte_at q l)))

-- ---- a byte of a mixed column

-- {02} times a byte, in bits
abbrev times_bits : List ℕ → List ℕ
times_bits t =
    get_or t 7 0 ∷ bit_xor (get_or t 0 0) (get_or t 7 0) ∷ get_or t 1 0 ∷ bit_xor (get_or t 2 0) (get_or t 7 0) ∷ bit_xor (get_or t 3 0) (get_or t 7 0) ∷ get_or t 4 0 ∷ get_or t 5 0 ∷ get_or t 6 0 ∷ []

times_bits_law : (t : ℕ) → t < 256 → bits_of (xtime t) ≡ times_bits (bits_of t)
unfolding xtime bit
times_bits_law t h =
    let check : tabulate 256 (λ t. bits_of (xtime t)) ≡ tabulate 256 (λ t. times_bits (bits_of t)) = refl in
    sym (entry [] 256 (λ t. bits_of (xtime t)) t h) ∙ ap (λ (v : List (List ℕ)). get_or v t []) check ∙ entry [] 256 (λ t. times_bits (bits_of t)) t h

abbrev mix_bits : List ℕ → List ℕ → List ℕ → List ℕ
mix_bits b cd ab = zip (zip b cd) (times_bits ab)

pub mixes : (b cd ab r : Planes) → planes_of r ≡ mix_bits (planes_of b) (planes_of cd) (planes_of ab) → Mixed b cd ab r
unfolding Mixed planes_of lane
mixes b cd ab r e l k =
    let three : (x y z : ℕ) → bit (bit_xor (bit_xor x y) z) l ≡ bit_xor (bit_xor (bit x l) (bit y l)) (bit z l) =
    λ x y z. bit_xor_law (bit_xor x y) z l ∙ ap (λ (s : ℕ). bit_xor s (bit z l)) (bit_xor_law x y l) in
    let four : (x y z w : ℕ) → bit (bit_xor (bit_xor x y) (bit_xor z w)) l ≡ bit_xor (bit_xor (bit x l) (bit y l)) (bit_xor (bit z l) (bit w l)) =
    λ x y z w. three x y (bit_xor z w) ∙ ap (bit_xor (bit_xor (bit x l) (bit y l))) (bit_xor_law z w l) in
    let all : lane l (planes_of r) ≡ mix_bits (lane l (planes_of b)) (lane l (planes_of cd)) (lane l (planes_of ab)) =
    ap (lane l) e
    ∙ eight (three b.p0 cd.p0 ab.p7) (four b.p1 cd.p1 ab.p0 ab.p7) (three b.p2 cd.p2 ab.p1) (four b.p3 cd.p3 ab.p2 ab.p7)
    (four b.p4 cd.p4 ab.p3 ab.p7) (three b.p5 cd.p5 ab.p4) (three b.p6 cd.p6 ab.p5) (three b.p7 cd.p7 ab.p6) in
    lane_is r l _ (xor_lt 8 _ _ (xor_lt 8 _ _ (byte_lt b l) (byte_lt cd l)) (xtime_byte (byte_at ab l) (byte_lt ab l)))
    (all ∙ ap₂ (λ (x y : List ℕ). mix_bits x y (lane l (planes_of ab))) (lane_bits b l) (lane_bits cd l)
    ∙ ap (mix_bits (bits_of (byte_at b l)) (bits_of (byte_at cd l))) (lane_bits ab l)
    ∙ sym (bits_xor (bit_xor (byte_at b l) (byte_at cd l)) (xtime (byte_at ab l)) ∙ ap₂ zip (bits_xor (byte_at b l) (byte_at cd l)) (times_bits_law (byte_at ab l) (byte_lt ab l))))

-- ---- columns

pub mixes_from : (g : ℕ → ℕ) → ((l : ℕ) → g l < 64) → (a b sum far r : Planes) → Added a b sum → Moved g sum far → Mixed b far sum r → MixedFrom g a b r
unfolding Added Moved Mixed MixedFrom
mixes_from g inside a b sum far r is_sum is_far is_r l h =
    is_r l h ∙ ap₂ (λ (x y : ℕ). bit_xor (bit_xor (byte_at b l) x) (xtime y)) (is_far l h ∙ is_sum (g l) (inside l)) (is_sum l h)

mix_order : (a b c d : ℕ) → a < 256 → b < 256 → bit_xor (bit_xor b (bit_xor c d)) (xtime (bit_xor a b)) ≡ mix_byte a b c d
mix_order a b c d ha hb = rw (xtime_sum a b ha hb, mix_sum a b c d) (simp sums)

below_lt : (k l : ℕ) → below k l < 64
unfolding below
below_lt k l = omega arith

-- the lanes f and g are those of the next row and of the one after, k columns on for each
pub mixes_by : (k : ℕ) (f g : ℕ → ℕ) (a b r : Planes) → Moved f a b → MixedFrom g a b r → tabulate 64 f ≡ tabulate 64 (below k) →
    tabulate 64 g ≡ tabulate 64 (λ l. below k (below k l)) → MixedBy k a r
unfolding Moved MixedFrom MixedBy
mixes_by k f g a b r is_b is_r is_f is_g l h =
    let next : (l : ℕ) → l < 64 → byte_at b l ≡ byte_at a (below k l) = λ l h. is_b l h ∙ ap (byte_at a) (at_each 64 f (below k) is_f l h) in
    let m : ℕ = below k (below k l) in
    is_r l h ∙ ap (λ (n : ℕ). bit_xor (bit_xor (byte_at b l) (bit_xor (byte_at a n) (byte_at b n))) (xtime (bit_xor (byte_at a l) (byte_at b l)))) (at_each 64 g (λ l. below k (below k l)) is_g l h)
    ∙ ap₂ (λ (x y : ℕ). bit_xor (bit_xor x (bit_xor (byte_at a m) y)) (xtime (bit_xor (byte_at a l) x))) (next l h) (next m (below_lt k (below k l)))
    ∙ mix_order (byte_at a l) (byte_at a (below k l)) (byte_at a m) (byte_at a (below k m)) (byte_lt a l) (byte_lt a (below k l))

-- ---- a round's

pub mixed_last : {r : ℕ} {q : Planes} → r ≡ 10 → MixedAt r q q
mixed_last e = record { last = λ h. refl; other = λ n. absurd (n e) }

pub mixed_other : {r : ℕ} {q x : Planes} (k : ℕ) → (r ≡ 10 → ⊥) → r % 4 ≡ k → MixedBy k q x → MixedAt r q x
mixed_other {r} {q} {x} k n e h = record { last = λ g. absurd (n g); other = λ g. subst (λ (i : ℕ). MixedBy i q x) (sym e) h }
