-- Schedules in planes, §5.2, one for each of four blocks.
use Rattle.std.specs.Prelude.{ℕ, zero, suc, ◌+◌, ◌*◌, ◌%◌, ◌<◌, ◌≤◌, ◌≡◌, List, length, get_or}
use Rattle.std.specs.Coded.{Coded-set, coded_list, coded_ℕ}
use Rattle.model.specs.Bytes.{tabulate}
use Rattle.model.specs.Aes.{Block, ◌⊕◌, shift_rows, round_key}
use Rattle.planes.specs.declared.planes.Planes.{Planes}
use Rattle.planes.specs.declared.packing.Halves.{Halves}
use Rattle.planes.specs.Lanes.{block_at}
use Rattle.planes.specs.Packing.{of_halves}

-- the planes of the keys of round r: words 8r to 8r + 7
unfoldable pub key_planes : List ℕ → ℕ → Planes
key_planes k r =
    let word : ℕ → ℕ = λ b. get_or k (8 * r + b) 0 in
    record { p0 = word 0; p1 = word 1; p2 = word 2; p3 = word 3; p4 = word 4; p5 = word 5; p6 = word 6; p7 = word 7 }

-- hex 63 in every byte: what SubBytes, §5.1.1, leaves out
unfoldable pub all63 : Block
all63 = tabulate 16 (λ i. 0x63)

-- the key s of round r as it stands in planes: with hex 63 from round 1 on
unfoldable pub held : ℕ → Block → Block
held zero s = s
held (suc r) s = s ⊕ all63

-- k has the first key and those from round r on of the schedules ws: the key of round n in block b is that of the schedule ws b, its rows turned
-- as the state's, of which ShiftRows was left out n times by then
pub record SlicedFrom (r : ℕ) (ws : ℕ → List ℕ) (k : List ℕ) : Type 0 where
  pub first : (b : ℕ) → b < 4 → block_at 0 b (key_planes k 0) ≡ round_key (ws b) 0
  pub others : (n : ℕ) → r ≤ n → n < 11 → (b : ℕ) → b < 4 → block_at (n % 4) b (key_planes k n) ≡ round_key (ws b) n ⊕ all63

-- and all of them
unfoldable pub IsSliced : (ℕ → List ℕ) → List ℕ → Type 0
IsSliced ws k = SlicedFrom 1 ws k

-- a fact of a schedule, and so one that a struct may keep of it
pub IsSliced-prop : (ws : ℕ → List ℕ) (k : List ℕ) → IsProp (IsSliced ws k)
unfolding IsSliced
IsSliced-prop ws k p q = λ i. record {
  first = λ b hb. Coded-set (coded_list coded_ℕ) _ _ (p.first b hb) (q.first b hb) i;
  others = λ n h0 hn b hb. Coded-set (coded_list coded_ℕ) _ _ (p.others n h0 hn b hb) (q.others n h0 hn b hb) i;
}

-- the schedule u for blocks 0 and 1, and v for the others
abbrev pub by_pair : List ℕ → List ℕ → ℕ → List ℕ
by_pair u v zero = u
by_pair u v (suc zero) = u
by_pair u v (suc (suc b)) = v

-- p has the key x of round r for blocks 0 and 1, and y for the others, their rows turned likewise
unfoldable pub PairIn : ℕ → Halves → Halves → Planes → Type 0
PairIn r x y p = (b : ℕ) → b < 4 → block_at (r % 4) b p ≡ by_pair (of_halves x) (of_halves y) b

-- k' is k with these keys put in as those of round r, with hex 63 where it belongs
pub record KeyPut (r : ℕ) (x y : Halves) (k k' : List ℕ) : Type 0 where
  pub size : length k' ≡ 88
  pub here : (b : ℕ) → b < 4 → block_at (r % 4) b (key_planes k' r) ≡ held r (by_pair (of_halves x) (of_halves y) b)
  pub before : (n : ℕ) → n < r → key_planes k' n ≡ key_planes k n

-- ShiftRows k times
unfoldable pub turn_by : ℕ → Block → Block
turn_by zero s = s
turn_by (suc k) s = shift_rows (turn_by k s)
