-- Document 02, job 1: "writes the circuit for a width w from 1 to 64". "Which gates do it is left free": these are the gates chosen, the same for
-- everybody, since both sides of an exchange must hold the same bytes; docs/FORMATS.md has them in words.
use Rattle.std.specs.Prelude.{ℕ, zero, suc, ◌+◌, ◌*◌, ◌-◌, ◌≡◌, List, [], ◌∷◌, ◌++◌, not, ◌&&◌, length, take, leb}
use Rattle.model.specs.declared.Gate.{Gate}
use Rattle.model.specs.Circuit.{circuit_bytes}
use Rattle.model.specs.Refusals.{Verdict, fine, refuse, ◌then◌, room_verdict}
use Rattle.model.specs.Operations.{Answer, answer, written}
use Rattle.comparator.specs.Compares.{Compares}

-- ---- the gates

abbrev pub gate : ℕ → ℕ → ℕ → Gate
gate a b code = record { a = record { 0 = a }; b = record { 0 = b }; code = code }

-- of the lowest bit alone price ≤ ceiling is one gate, NOT price OR ceiling
abbrev pub first_gate : ℕ → Gate
first_gate w = gate 1 (w + 1) 11

-- one bit more, from its wires in the price and in the ceiling and from the wire c that says it of the bits below:
-- t = price XNOR c, u = ceiling XOR c, v = t AND u; c XOR v says it of this bit too
unfoldable pub bit_gates : ℕ → ℕ → ℕ → List Gate
bit_gates price ceiling c = gate price c 9 ∷ gate ceiling c 6 ∷ gate (c + 1) (c + 2) 8 ∷ gate c (c + 3) 6 ∷ []

-- the wire that says it of the k + 1 lowest bits, in a comparator of width w
abbrev pub so_far : ℕ → ℕ → ℕ
so_far w k = 2 * w + 1 + 4 * k

-- the gates of the bit after those
abbrev pub next_gates : ℕ → ℕ → List Gate
next_gates w k = bit_gates (k + 2) (w + k + 2) (so_far w k)

-- the gates of k bits above the lowest
unfoldable pub bits_to : ℕ → ℕ → List Gate
bits_to w zero = []
bits_to w (suc k) = bits_to w k ++ next_gates w k

unfoldable pub comparator_gates : ℕ → List Gate
comparator_gates w = first_gate w ∷ bits_to w (w - 1)

-- ---- the file

unfoldable pub comparator_bytes : ℕ → List ℕ
comparator_bytes w = circuit_bytes (2 * w) 1 (comparator_gates w)

-- 8 + 7q bytes, where q = 4w - 3
unfoldable pub comparator_length : ℕ → ℕ
comparator_length w = 28 * w - 13

-- ---- the operation

-- "21 when w is outside 1 to 64 (place w), before refusal 19"
unfoldable pub width_verdict : ℕ → Verdict
width_verdict w = refuse (not (leb 1 w && leb w 64)) 21 w

unfoldable pub comparator_verdict : ℕ → ℕ → Verdict
comparator_verdict w room = width_verdict w then room_verdict (comparator_length w) room

-- the answer r, "its length", and the buffer, o at entry and x at exit; what is written is a comparator of width w
pub record ComparatorIs (w : ℕ) (o : List ℕ) (r : Answer ℕ) (x : List ℕ) : Type 0 where
  pub answered : r ≡ answer (comparator_verdict w (length o)) (comparator_length w)
  pub left : x ≡ written (comparator_verdict w (length o)) (comparator_bytes w) o
  pub is_comparator : comparator_verdict w (length o) ≡ fine → Compares w (take (comparator_length w) x)
