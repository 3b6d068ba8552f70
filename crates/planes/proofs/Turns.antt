-- Words and planes rotated, lane by lane. Assumes nothing.
use mathlib.Core.Path.{◌≡◌, ap, ap₂, ◌∙◌}
use mathlib.Core.Bool.{Bool, true, false, cond}
use Prim.Native.Nat.{ℕ, zero, suc, ◌+◌, ◌*◌, ◌-◌, ◌/◌, ◌%◌, ◌^◌, ◌<◌}
use native.Mathlib.Omega.{arith}
use native.Mathlib.Nat.{mod-lt, zero-lt-suc}
use lib.Dec.{eqb}
use lib.Bits.{bit_xor, bit_and, bit_or, and_zero_r, or_zero_l, or_zero_r, or_self}
use Rattle.std.specs.Int.{w64, rotate_right}
use Rattle.model.specs.Aes.{bit}
use Rattle.planes.specs.declared.planes.Planes.{Planes}
use Rattle.planes.specs.Lanes.{planes_of, lane, from_bits, byte_at}
use Rattle.planes.specs.Rotations.{around, either, Moves, Moved}
use Rattle.planes.proofs.Lanes.{eight, bit_xor_law, bit_and_law, bit_or_law, bit_lt, and_one, ones, all_ones}
use Rattle.planes.proofs.Shifts.{Cut, before, after, cut, bit_right, bit_past, bit_left_after, bit_left_before, bit_within}

by_fewer : (n x : ℕ) → n < 64 → x < 2 ^ 64 → Moves (around n) x (bit_or (x / 2 ^ n) (x * 2 ^ (64 - n) % 2 ^ 64))
unfolding Moves
by_fewer n x hn hx l hl =
    bit_or_law (x / 2 ^ n) (x * 2 ^ (64 - n) % 2 ^ 64) l ∙ ap₂ bit_or (bit_right x n l) (bit_within (x * 2 ^ (64 - n)) l hl) ∙ cases (cut (64 - n) l)
  where
    cases : Cut (64 - n) l → bit_or (bit x (n + l)) (bit (x * 2 ^ (64 - n)) l) ≡ bit x (around n l)
    cases (before d e) =
        let p : n + l ≡ around n l = omega arith in
        ap (λ (s : ℕ). bit_or (bit x (n + l)) (bit (x * 2 ^ s) l)) e ∙ ap (bit_or (bit x (n + l))) (bit_left_before x l d) ∙ or_zero_r (bit x (n + l)) ∙ ap (bit x) p
    cases (after k e) =
        let p : n + l ≡ 64 + k = omega arith in
        let q : k ≡ around n l = omega arith in
        ap₂ bit_or (ap (bit x) p ∙ bit_past x k hx) (ap (bit (x * 2 ^ (64 - n))) e ∙ bit_left_after x (64 - n) k) ∙ or_zero_l (bit x k) ∙ ap (bit x) q

-- std's rotation, by n or by what is left of n: by none it puts the word beside itself
by_rest : (x k : ℕ) → x < 2 ^ 64 → k < 64 → Moves (around k) x (bit_or (x / 2 ^ k) (x * 2 ^ ((64 - k) % 64) % 2 ^ 64))
unfolding Moves bit
by_rest x zero hx hk l hl =
    let p : l ≡ around 0 l = omega arith in
    let whole : x * 2 ^ 0 % 2 ^ 64 ≡ x = omega arith in
    let none : x / 2 ^ 0 ≡ x = omega arith in
    ap (λ (y : ℕ). bit y l) (ap₂ bit_or none whole ∙ or_self x) ∙ ap (bit x) p
by_rest x (suc k) hx hk l hl =
    let p : (64 - suc k) % 64 ≡ 64 - suc k = omega arith in
    ap (λ (n : ℕ). bit (bit_or (x / 2 ^ suc k) (x * 2 ^ n % 2 ^ 64)) l) p ∙ by_fewer (suc k) x hk hx l hl

pub rotates : (n x r : ℕ) → x < 2 ^ 64 → r ≡ rotate_right w64 x n → Moves (around n) x r
unfolding Moves
rotates n x r hx e l hl =
    let p : around (n % 64) l ≡ around n l = omega arith in
    ap (λ (y : ℕ). bit y l) e ∙ by_rest x (n % 64) hx (mod-lt n (zero-lt-suc 63)) l hl ∙ ap (bit x) p

-- of two bits the one that a third chooses
choose : (b c s : ℕ) → b < 2 → c < 2 → s < 2 → (x u v : ℕ) → b ≡ bit x u → c ≡ bit x v → bit_or (bit_and b s) (bit_and c (bit_xor s 1)) ≡ bit x (cond (eqb s 1) u v)
choose b c zero hb hc hs x u v p q = ap₂ bit_or (and_zero_r b) (and_one c hc) ∙ or_zero_l c ∙ q
choose b c (suc zero) hb hc hs x u v p q = ap₂ bit_or (and_one b hb) (and_zero_r c) ∙ or_zero_r b ∙ p
choose b c (suc (suc s)) hb hc hs x u v p q = absurd (omega arith)

-- two rotations of a word, merged by a mask
pub merges : (mask n m x a b : ℕ) → x < 2 ^ 64 → a ≡ rotate_right w64 x n → b ≡ rotate_right w64 x m → Moves (either mask n m) x (bit_or (bit_and a mask) (bit_and b (bit_xor mask ones)))
unfolding Moves
merges mask n m x a b hx is_a is_b l hl =
    bit_or_law (bit_and a mask) (bit_and b (bit_xor mask ones)) l ∙ ap₂ bit_or (bit_and_law a mask l) (bit_and_law b (bit_xor mask ones) l)
    ∙ ap (λ (s : ℕ). bit_or (bit_and (bit a l) (bit mask l)) (bit_and (bit b l) s)) (bit_xor_law mask ones l ∙ ap (bit_xor (bit mask l)) (all_ones l hl))
    ∙ choose (bit a l) (bit b l) (bit mask l) (bit_lt a l) (bit_lt b l) (bit_lt mask l) x (around n l) (around m l) (rotates n x a hx is_a l hl) (rotates m x b hx is_b l hl)

-- words moved alike are planes moved
pub all_moved : (f : ℕ → ℕ) (q r : Planes) → Moves f q.p0 r.p0 → Moves f q.p1 r.p1 → Moves f q.p2 r.p2 → Moves f q.p3 r.p3 →
    Moves f q.p4 r.p4 → Moves f q.p5 r.p5 → Moves f q.p6 r.p6 → Moves f q.p7 r.p7 → Moved f q r
unfolding Moves Moved byte_at lane planes_of
all_moved f q r m0 m1 m2 m3 m4 m5 m6 m7 l h = ap from_bits (eight (m0 l h) (m1 l h) (m2 l h) (m3 l h) (m4 l h) (m5 l h) (m6 l h) (m7 l h))

-- lanes stay lanes
pub around_lt : (n l : ℕ) → around n l < 64
around_lt n l = mod-lt (l + n) (zero-lt-suc 63)

pub either_lt : (mask n m l : ℕ) → either mask n m l < 64
either_lt mask n m l = go (eqb (bit mask l) 1)
  where
    go : (b : Bool) → cond b (around n l) (around m l) < 64
    go true = around_lt n l
    go false = around_lt m l
