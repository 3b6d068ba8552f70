-- One bit more of a comparison: what the four gates carry, and that this is price ≤ ceiling of the bits so far and of this one. Assumes nothing.
use Prim.Native.Nat.{ℕ, zero, suc, ◌+◌, ◌*◌, ◌-◌, ◌≤◌, ◌<◌}
use native.Mathlib.Omega.{arith}
use mathlib.Core.Path.{◌≡◌, refl}
use mathlib.Core.List.{List, [], ◌∷◌, ◌++◌, append_assoc}
use lib.ListN.{length, get_or, get_or-append}
use lib.Seq.{get_or-append-add}
use Rattle.model.specs.Circuit.{value, wires, gate_value}
use Rattle.comparator.specs.Comparator.{gate, bit_gates}

-- ---- the values

-- c is 1 and x ≤ y, or c is 0 and y < x
pub data Says (c x y : ℕ) : Type 0 where
  at_most : c ≡ 1 → x ≤ y → Says c x y
  above : c ≡ 0 → y < x → Says c x y

-- of the lowest bits alone
pub first_says : (a b : ℕ) → a ≤ 1 → b ≤ 1 → Says (value 11 a b) a b
unfolding value
first_says zero zero h l = at_most refl (omega arith)
first_says zero (suc zero) h l = at_most refl (omega arith)
first_says (suc zero) zero h l = above refl (omega arith)
first_says (suc zero) (suc zero) h l = at_most refl (omega arith)
first_says (suc (suc a)) b h l = absurd (omega arith)
first_says zero (suc (suc b)) h l = absurd (omega arith)
first_says (suc zero) (suc (suc b)) h l = absurd (omega arith)

-- what the last of the four gates carries, from bit a of the price, bit b of the ceiling, and c of the bits below
abbrev pub next_bit : ℕ → ℕ → ℕ → ℕ
next_bit a b c = value 6 c (value 8 (value 9 a c) (value 6 b c))

-- x and y are the numbers of the bits below, under a power n of 2
pub next_says : (n x y a b c : ℕ) → x < n → y < n → a ≤ 1 → b ≤ 1 → Says c x y → Says (next_bit a b c) (a * n + x) (b * n + y)
unfolding value
next_says n x y zero zero c hx hy h l (at_most e s) = at_most (rw e) (omega arith)
next_says n x y zero zero c hx hy h l (above e s) = above (rw e) (omega arith)
next_says n x y zero (suc zero) c hx hy h l (at_most e s) = at_most (rw e) (omega arith)
next_says n x y zero (suc zero) c hx hy h l (above e s) = at_most (rw e) (omega arith)
next_says n x y (suc zero) zero c hx hy h l (at_most e s) = above (rw e) (omega arith)
next_says n x y (suc zero) zero c hx hy h l (above e s) = above (rw e) (omega arith)
next_says n x y (suc zero) (suc zero) c hx hy h l (at_most e s) = at_most (rw e) (omega arith)
next_says n x y (suc zero) (suc zero) c hx hy h l (above e s) = above (rw e) (omega arith)
next_says n x y (suc (suc a)) b c hx hy h l s = absurd (omega arith)
next_says n x y zero (suc (suc b)) c hx hy h l s = absurd (omega arith)
next_says n x y (suc zero) (suc (suc b)) c hx hy h l s = absurd (omega arith)

-- ---- the wires: ws are those before the four gates, the last of them says it of the bits below
module _ (ws : List ℕ) (price ceiling below : ℕ) (low : 1 ≤ price) (first : price < below) (low' : 1 ≤ ceiling) (second : ceiling < below)
    (long : length ws ≡ below) where
  abbrev a : ℕ
  a = get_or ws (price - 1) 0

  abbrev b : ℕ
  b = get_or ws (ceiling - 1) 0

  abbrev c : ℕ
  c = get_or ws (below - 1) 0

  abbrev t : ℕ
  t = value 9 a c

  abbrev u : ℕ
  u = value 6 b c

  abbrev v : ℕ
  v = value 8 t u

  kept : (more : List ℕ) (i : ℕ) → i < below → get_or (ws ++ more) i 0 ≡ get_or ws i 0
  kept more i h = get_or-append ws more 0 i (omega (arith, long))

  new : (more : List ℕ) (i j : ℕ) → i ≡ below + j → get_or (ws ++ more) i 0 ≡ get_or more j 0
  new more i j e =
      let at : i ≡ length ws + j = omega (arith, long) in
      rw at (get_or-append-add ws more j 0)

  is_t : gate_value ws (gate price below 9) ≡ t
  unfolding gate_value
  is_t = refl

  is_u : gate_value (ws ++ (t ∷ [])) (gate ceiling below 6) ≡ u
  unfolding gate_value
  is_u = rw (kept (t ∷ []) (ceiling - 1) (omega arith), kept (t ∷ []) (below - 1) (omega arith))

  is_v : gate_value (ws ++ (t ∷ u ∷ [])) (gate (below + 1) (below + 2) 8) ≡ v
  unfolding gate_value
  is_v = rw (new (t ∷ u ∷ []) (below + 1 - 1) 0 (omega arith), new (t ∷ u ∷ []) (below + 2 - 1) 1 (omega arith))

  is_next : gate_value (ws ++ (t ∷ u ∷ v ∷ [])) (gate below (below + 3) 6) ≡ next_bit a b c
  unfolding gate_value
  is_next = rw (kept (t ∷ u ∷ v ∷ []) (below - 1) (omega arith), new (t ∷ u ∷ v ∷ []) (below + 3 - 1) 2 (omega arith))

  pub bit_wires : wires gate_value (bit_gates price ceiling below) ws ≡ ws ++ (t ∷ u ∷ v ∷ next_bit a b c ∷ [])
  unfolding wires bit_gates
  bit_wires =
      rw (
        is_t,
        is_u,
        append_assoc ws (t ∷ []) (u ∷ []),
        is_v,
        append_assoc ws (t ∷ u ∷ []) (v ∷ []),
        is_next,
        append_assoc ws (t ∷ u ∷ v ∷ []) (next_bit a b c ∷ []),
      )
