-- The bytes made from n, m and a list of gate records: what is read back from them. Assumes nothing.
use Prim.Native.Nat.{ℕ, zero, suc, ◌+◌, ◌*◌, ◌≤◌, ◌<◌}
use native.Mathlib.Nat.{le_of_suc-le-suc, not-suc-le-zero}
use native.Mathlib.Omega.{arith}
use mathlib.Core.Path.{◌≡◌, refl, sym, ◌∙◌}
use mathlib.Core.Bool.{Bool, true, false, not}
use mathlib.Core.List.{List, [], ◌∷◌, ◌++◌, append_assoc}
use borrow.Author.Tests.{le-ltb, eq-eqb}
use lib.ListN.{length, get_or, get_or-append}
use lib.Seq.{get_or-append-add}
use Rattle.model.specs.declared.Gate.{Gate}
use Rattle.model.specs.Bytes.{be16, two}
use Rattle.model.specs.Circuit.{mark_at, inputs, outputs, gates, named, record_at, gate_at, sizes_hold, circuit_length, gate_bytes, record_bytes, circuit_bytes}
use Rattle.model.specs.Refusals.{fine, refuse, ◌then◌, head_verdict}
use Rattle.model.proofs.OwnMaterial.{two_back}

-- what stands past the end of a list of gates
abbrev pub no_gate : Gate
no_gate = record { a = record { 0 = 0 }; b = record { 0 = 0 }; code = 0 }

-- "n, m and operands have 16 bits"
pub record GateFits (g : Gate) : Type 0 where
  pub a_fits : g.a.0 ≤ 65535
  pub b_fits : g.b.0 ≤ 65535

-- ---- the records

pub records_append : (gs hs : List Gate) → record_bytes (gs ++ hs) ≡ record_bytes gs ++ record_bytes hs
unfolding record_bytes
records_append [] hs = refl
records_append (g ∷ gs) hs = rw (records_append gs hs) (sym (append_assoc (gate_bytes g) (record_bytes gs) (record_bytes hs)))

pub records_long : (gs : List Gate) → length (record_bytes gs) ≡ 7 * length gs
unfolding record_bytes gate_bytes
records_long [] = refl
records_long (g ∷ gs) = omega (arith, records_long gs)

-- byte i of record k
record_byte : (gs : List Gate) (k i : ℕ) → k < length gs → i < 7 → get_or (record_bytes gs) (7 * k + i) 0 ≡ get_or (gate_bytes (get_or gs k no_gate)) i 0
unfolding record_bytes
record_byte [] k i h l = absurd (not-suc-le-zero h)
record_byte (g ∷ gs) zero i h l =
    let at : 7 * 0 + i ≡ i = omega arith in
    let long : length (gate_bytes g) ≡ 7 = unfold gate_bytes in refl in
    rw at (get_or-append (gate_bytes g) (record_bytes gs) 0 i (omega (arith, long)))
record_byte (g ∷ gs) (suc k) i h l =
    let long : length (gate_bytes g) ≡ 7 = unfold gate_bytes in refl in
    let at : 7 * suc k + i ≡ length (gate_bytes g) + (7 * k + i) = omega (arith, long) in
    rw at (get_or-append-add (gate_bytes g) (record_bytes gs) (7 * k + i) 0 ∙ record_byte gs k i (le_of_suc-le-suc h) l)

-- ---- the circuit's bytes
module _ (n m : ℕ) (gs : List Gate) where
  pub bytes_long : length (circuit_bytes n m gs) ≡ 8 + 7 * length gs
  unfolding circuit_bytes
  bytes_long = omega (arith, records_long gs)

  -- they have the mark 43 48
  pub not_named : named (circuit_bytes n m gs) ≡ false
  unfolding circuit_bytes named mark_at
  not_named = refl

  -- byte i of gate record k
  byte_at : (k i : ℕ) → k < length gs → i < 7 → get_or (circuit_bytes n m gs) (record_at k + i) 0 ≡ get_or (gate_bytes (get_or gs k no_gate)) i 0
  unfolding circuit_bytes
  byte_at k i h l =
      let head : List ℕ = 0x43 ∷ 0x48 ∷ two n ++ two m ++ two (length gs) in
      let at : record_at k + i ≡ length head + (7 * k + i) = omega arith in
      rw at (get_or-append-add head (record_bytes gs) (7 * k + i) 0 ∙ record_byte gs k i h l)

  module _ (k : ℕ) (h : k < length gs) where
    -- each record has its mark
    pub mark_made : mark_at (circuit_bytes n m gs) (record_at k) 0x43 0x47 ≡ true
    unfolding mark_at gate_bytes
    mark_made =
        let at : record_at k ≡ record_at k + 0 = omega arith in
        rw (rw (← at) at (byte_at k 0 h (omega arith)), byte_at k 1 h (omega arith))

    -- and is the gate that it was made from
    pub gate_made : GateFits (get_or gs k no_gate) → gate_at (circuit_bytes n m gs) k ≡ get_or gs k no_gate
    unfolding gate_at be16 gate_bytes
    gate_made fits =
        let g : Gate = get_or gs k no_gate in
        let at3 : record_at k + 2 + 1 ≡ record_at k + 3 = omega arith in
        let at5 : record_at k + 4 + 1 ≡ record_at k + 5 = omega arith in
        rw (
          at3,
          at5,
          byte_at k 2 h (omega arith),
          byte_at k 3 h (omega arith),
          byte_at k 4 h (omega arith),
          byte_at k 5 h (omega arith),
          byte_at k 6 h (omega arith),
          two_back g.a.0 fits.a_fits,
          two_back g.b.0 fits.b_fits,
        )

  module _ (n_fits : n ≤ 65535) (m_fits : m ≤ 65535) (few : length gs ≤ 65535) where
    pub inputs_made : inputs (circuit_bytes n m gs) ≡ n
    unfolding circuit_bytes inputs be16
    inputs_made = two_back n n_fits

    pub outputs_made : outputs (circuit_bytes n m gs) ≡ m
    unfolding circuit_bytes outputs be16
    outputs_made = two_back m m_fits

    pub gates_made : gates (circuit_bytes n m gs) ≡ length gs
    unfolding circuit_bytes gates be16
    gates_made = two_back (length gs) few

    -- of 1 to 4, only 3 can hold
    pub head_made : head_verdict (circuit_bytes n m gs) ≡ refuse (not (sizes_hold false n m (length gs))) 3 2
    unfolding head_verdict circuit_length ◌then◌ refuse
    head_made =
        let long = bytes_long in
        let mark : mark_at (circuit_bytes n m gs) 0 0x43 0x48 ≡ true = unfold circuit_bytes mark_at in refl in
        let by_name = not_named in
        rw (
          le-ltb (length (circuit_bytes n m gs)) 8 (omega (arith, long)),
          mark,
          by_name,
          inputs_made,
          outputs_made,
          gates_made,
          eq-eqb (length (circuit_bytes n m gs)) (8 + 7 * length gs) long,
        ) (either (sizes_hold false n m (length gs)))
      where
        either : (b : Bool) → (fine then fine then refuse (not b) 3 2 then fine) ≡ refuse (not b) 3 2
        either true = refl
        either false = refl
