-- The lines, one number after the other. Assumes nothing.
use Prim.Native.Nat.{ℕ, ◌+◌, ◌≤◌}
use native.Mathlib.Omega.{arith}
use mathlib.Core.Path.{◌≡◌}
use mathlib.Core.List.{List, [], ◌∷◌, ◌++◌, append_assoc}
use lib.ListN.{length}
use Rattle.model.specs.declared.Refusal.{Refusal}
use Rattle.model.specs.declared.Sizes.{Sizes}
use Rattle.model.specs.Bytes.{over}
use Rattle.model.specs.Decimal.{decimal}
use Rattle.model.specs.Material.{material_length}
use Rattle.model.specs.Refusals.{number_of, place_of}
use Rattle.model.specs.Program.{line, sizes_line, lengths_line, refused_word, refused_line}
use Rattle.circuit.specs.Answers.{TurnedIs}
use Rattle.text.specs.Written.{Wrote}
use Rattle.text.proofs.WriteLaws.{wrote_front, wrote_then}

-- a number and a blank, as they are written
abbrev Blank : ℕ → List ℕ → ℕ → ℕ → List ℕ → Type 0
Blank x o at end left = Wrote 21 (decimal x ++ (0x20 ∷ [])) o at end left

-- the last number and a line feed
abbrev Feed : ℕ → List ℕ → ℕ → ℕ → List ℕ → Type 0
Feed x o at end left = Wrote 21 (decimal x ++ (0x0A ∷ [])) o at end left

line_last : (x : ℕ) (o : List ℕ) (at e : ℕ) (p : List ℕ) → Feed x o at e p → Wrote 21 (line (x ∷ [])) o at e p
unfolding line
line_last x o at e p w = w

line_more : (k x y : ℕ) (ys o : List ℕ) (at e f : ℕ) (p q : List ℕ)
    → at + 21 + k ≤ length o → Blank x o at e p → Wrote k (line (y ∷ ys)) p e f q → Wrote (21 + k) (line (x ∷ y ∷ ys)) o at f q
unfolding line
line_more k x y ys o at e f p q h w v =
    rw (append_assoc (decimal x) (0x20 ∷ []) (line (y ∷ ys))) at (wrote_then 21 k (decimal x ++ (0x20 ∷ [])) (line (y ∷ ys)) o at e f p q h w v)

line_two : (x y : ℕ) (o : List ℕ) (at e f : ℕ) (p q : List ℕ)
    → at + 42 ≤ length o → Blank x o at e p → Feed y p e f q → Wrote 42 (line (x ∷ y ∷ [])) o at f q
line_two x y o at e f p q h w v = line_more 21 x y [] o at e f p q (omega arith) w (line_last y p e f q v)

line_three : (x y z : ℕ) (o : List ℕ) (at e f g : ℕ) (p q r : List ℕ)
    → at + 63 ≤ length o → Blank x o at e p → Blank y p e f q → Feed z q f g r → Wrote 63 (line (x ∷ y ∷ z ∷ [])) o at g r
line_three x y z o at e f g p q r h w v u =
    line_more 42 x y (z ∷ []) o at e g p r (omega arith) w
    (line_two y z p e f g q r (omega (arith, w.is_end, w.few, w.kept)) v u)

-- ---- a law for each line

pub sizes_written : (z : Sizes) (o : List ℕ) (a b c d : ℕ) (p q r s : List ℕ)
    → 84 ≤ length o → Blank z.n o 0 a p → Blank z.m p a b q → Blank z.q q b c r → Feed z.p r c d s → Wrote 84 (sizes_line z) o 0 d s
unfolding sizes_line
sizes_written z o a b c d p q r s h w v u t =
    line_more 63 z.n z.m (z.q ∷ z.p ∷ []) o 0 a d p s (omega arith) w
    (line_three z.m z.q z.p p a b c d q r s (omega (arith, w.is_end, w.few, w.kept)) v u t)

pub lengths_written : (m p x y z : ℕ) (o : List ℕ) (at a b c : ℕ) (s t u : List ℕ)
    → at + 63 ≤ length o → Blank x o at a s → Blank y s a b t → Feed z t b c u
    → x ≡ material_length 1 m p → y ≡ material_length 2 m p → z ≡ material_length 3 m p → Wrote 63 (lengths_line m p) o at c u
unfolding lengths_line
lengths_written m p x y z o at a b c s t u h w v k is_x is_y is_z =
    rw (← is_x, ← is_y, ← is_z) (line_three x y z o at a b c s t u h w v k)

pub refusal_written : (f : Refusal) (number place : ℕ) (o p q r : List ℕ) (a b : ℕ)
    → 50 ≤ length o → p ≡ over refused_word o → TurnedIs f number place → Blank number p 8 a q → Feed place q a b r
    → Wrote 50 (refused_line (number_of f) (place_of f)) o 0 b r
unfolding refused_line refused_word
refusal_written f number place o p q r a b h e is w v =
    let front : Wrote 8 refused_word o 0 8 p = wrote_front refused_word o p (omega arith) e in
    rw (← is.is_number, ← is.is_place)
    (wrote_then 8 42 refused_word (line (number ∷ place ∷ [])) o 0 8 b p r (omega arith) front
    (line_two number place p 8 a b q r (omega (arith, front.kept)) w v))
