-- A comparator's bytes, written gate by gate. Assumes nothing.
use Prim.Native.Nat.{ℕ, zero, suc, ◌+◌, ◌*◌, ◌-◌, ◌≤◌, ◌<◌}
use native.Mathlib.Numerals.{add-one}
use native.Mathlib.Omega.{arith}
use mathlib.Core.Path.{◌≡◌, refl, sym, ◌∙◌}
use mathlib.Core.List.{List, ◌∷◌, ◌++◌}
use lib.ListN.{length, length-append}
use Rattle.model.specs.Bytes.{two, over, put}
use Rattle.model.specs.Circuit.{gate_bytes, record_bytes, circuit_bytes}
use Rattle.model.proofs.Buffers.{over_put, put_length, put_put, put_none}
use Rattle.model.proofs.Records.{records_append, records_long}
use Rattle.comparator.specs.Comparator.{gate, first_gate, bit_gates, next_gates, bits_to, comparator_gates, comparator_bytes, comparator_length}
use Rattle.comparator.specs.Parts.{BitStart, WriteStart}

-- ---- four gates, one after the other
module _ (o : List ℕ) (at price ceiling below : ℕ) (start : BitStart at below o) where
  pub bit_written : (a b c d : List ℕ) → a ≡ put o at (gate_bytes (gate price below 9)) → b ≡ put a (at + 7) (gate_bytes (gate ceiling below 6))
      → c ≡ put b (at + 14) (gate_bytes (gate (below + 1) (below + 2) 8)) → d ≡ put c (at + 21) (gate_bytes (gate below (below + 3) 6))
      → d ≡ put o at (record_bytes (bit_gates price ceiling below))
  unfolding gate_bytes record_bytes bit_gates
  bit_written a b c d e f g h =
      let room = start.room in
      let t : List ℕ = gate_bytes (gate price below 9) in
      let u : List ℕ = gate_bytes (gate ceiling below 6) in
      let v : List ℕ = gate_bytes (gate (below + 1) (below + 2) 8) in
      let y : List ℕ = gate_bytes (gate below (below + 3) 6) in
      rw (h, g, f, e, put_put o at t u (at + 7) refl (omega arith), put_put o at (t ++ u) v (at + 14) refl (omega arith))
      (put_put o at (t ++ u ++ v) y (at + 21) refl (omega arith))

-- ---- how many gates there are
pub bits_many : (w k : ℕ) → length (bits_to w k) ≡ 4 * k
unfolding bits_to bit_gates
bits_many w zero = refl
bits_many w (suc k) = simp length-append (omega (arith, bits_many w k))

pub gates_many : (w : ℕ) → 1 ≤ w → length (comparator_gates w) ≡ 4 * w - 3
unfolding comparator_gates
gates_many w h = omega (arith, bits_many w (w - 1))

-- ---- the gates of k bits above the lowest, after the header and the first gate
module _ (w : ℕ) (o : List ℕ) where
  pub record Writing (k : ℕ) (d : List ℕ) : Type 0 where
    pub within : k + 1 ≤ w
    pub same_length : length d ≡ length o
    pub so_far : d ≡ put o 15 (record_bytes (bits_to w k))

  module _ (start : WriteStart w o) where
    pub bits_start : Writing 0 o
    unfolding bits_to record_bytes
    bits_start = record { within = start.low; same_length = refl; so_far = put_none o 15 }

    long : (k : ℕ) → length (record_bytes (bits_to w k)) ≡ 28 * k
    long k = omega (arith, records_long (bits_to w k), bits_many w k)

    bit_long : (k : ℕ) → length (record_bytes (next_gates w k)) ≡ 28
    unfolding bit_gates record_bytes gate_bytes
    bit_long k = refl

    one_more : (k : ℕ) → record_bytes (bits_to w k) ++ record_bytes (next_gates w k) ≡ record_bytes (bits_to w (k + 1))
    unfolding bits_to
    one_more k = rw (add-one k) (sym (records_append (bits_to w k) (next_gates w k)))

    pub bits_turn : (k : ℕ) (d x : List ℕ) → Writing k d → k < w - 1 → x ≡ put d (15 + 28 * k) (record_bytes (next_gates w k))
        → Writing (k + 1) x
    unfolding comparator_length
    bits_turn k d x inv h e =
        let bits : List ℕ = record_bytes (bits_to w k) in
        let bit : List ℕ = record_bytes (next_gates w k) in
        let room : 15 + length bits + length bit ≤ length o = omega (arith, start.room, long k, bit_long k) in
        record {
          within = omega arith;
          same_length = rw e (put_length d (15 + 28 * k) bit (omega (arith, room, long k, inv.same_length)) ∙ inv.same_length);
          so_far = rw (e, inv.so_far, ← one_more k) (put_put o 15 bits bit (15 + 28 * k) (omega (arith, long k)) room);
        }

    pub bits_end : (k : ℕ) (d : List ℕ) → Writing k d → w ≤ k + 1 → d ≡ put o 15 (record_bytes (bits_to w (w - 1)))
    bits_end k d inv h = let last : w - 1 ≡ k = omega (arith, inv.within) in rw last inv.so_far

    -- ---- all of it
    pub comparator_written : (a b c : List ℕ) → a ≡ over (0x43 ∷ 0x48 ∷ two (2 * w) ++ two 1 ++ two (4 * w - 3)) o
        → b ≡ put a 8 (gate_bytes (first_gate w)) → c ≡ put b 15 (record_bytes (bits_to w (w - 1))) → c ≡ over (comparator_bytes w) o
    unfolding comparator_bytes comparator_gates comparator_length circuit_bytes record_bytes gate_bytes
    comparator_written a b c e f g =
        let head : List ℕ = 0x43 ∷ 0x48 ∷ two (2 * w) ++ two 1 ++ two (4 * w - 3) in
        let first : List ℕ = gate_bytes (first_gate w) in
        let rest : List ℕ = record_bytes (bits_to w (w - 1)) in
        let room : 15 + length rest ≤ length o = omega (arith, start.room, start.low, long (w - 1)) in
        let many : length (first_gate w ∷ bits_to w (w - 1)) ≡ 4 * w - 3 = gates_many w start.low in
        rw (g, f, e, over_put head o first 8 refl (omega (arith, room)), many) (over_put (head ++ first) o rest 15 refl room)
