-- Document 01, "Circuit": gates and their codes, the file, the limits, and what the plain circuit carries. Document 02, job 8: outputs by name.
use Rattle.std.specs.Prelude.{ℕ, ◌+◌, ◌*◌, ◌/◌, ◌%◌, ◌^◌, ◌-◌, List, [], ◌∷◌, ◌++◌, Bool, cond, ◌&&◌, length, get_or, leb, ltb, eqb}
use Rattle.model.specs.declared.Gate.{Gate}
use Rattle.model.specs.Bytes.{tabulate, be16, two}

-- n inputs, the gates in file order, and the wires of the outputs in their order
pub record Circuit : Type 0 where
  pub n : ℕ
  pub gates : List Gate
  pub outputs : List ℕ

-- ---- codes

-- "bit 2u+v (bit 0 lowest) is the gate's value for a=u, b=v"
unfoldable pub value : ℕ → ℕ → ℕ → ℕ
value code u v = code / 2 ^ (2 * u + v) % 2

-- What a code means. `charged u v x`: of the four truth pairs, (u, v) has a value of its own, x.
-- `free p q c`: the value is pu ⊕ qv ⊕ c.
pub data Kind : Type 0 where
  charged : (u v x : ℕ) → Kind
  free : (p q c : ℕ) → Kind
  refused : Kind

-- "Codes 1, 2, 4, 7, 8, 11, 13, 14 are charged gates; 6 (XOR) and 9 (XNOR) are free"; and 02, job 2: "Codes 3, 5, 10 and 12 become free
-- gates", "Refusal 7 is left for 0, 15 and codes above 15." A line for each group of four, from code 0.
unfoldable pub kinds : List Kind
kinds =
    refused ∷ charged 0 0 1 ∷ charged 0 1 1 ∷ free 1 0 1
    ∷ charged 1 0 1 ∷ free 0 1 1 ∷ free 1 1 0 ∷ charged 1 1 0
    ∷ charged 1 1 1 ∷ free 1 1 1 ∷ free 0 1 0 ∷ charged 1 0 0
    ∷ free 1 0 0 ∷ charged 0 1 0 ∷ charged 0 0 0 ∷ refused ∷ []

unfoldable pub kind_of : ℕ → Kind
kind_of code = get_or kinds code refused

-- the code of gate k of a circuit, from 0; past its gates a code that is refused
unfoldable pub code_at : Circuit → ℕ → ℕ
code_at c k = (get_or c.gates k (record { a = record { 0 = 0 }; b = record { 0 = 0 }; code = 0 })).code

-- how much a gate adds to p
abbrev pub charge : Kind → ℕ
charge (charged u v x) = 1
charge (free p q c) = 0
charge refused = 0

-- "p is the number of charged gates"
unfoldable pub charges : List Gate → ℕ
charges [] = 0
charges (g ∷ gs) = charge (kind_of g.code) + charges gs

-- ---- the file: a header of 8 bytes, q gate records of 7 bytes, and by the mark of 02, job 8, m output records of 4 bytes

-- the two bytes at an index are this mark
unfoldable pub mark_at : List ℕ → ℕ → ℕ → ℕ → Bool
mark_at s at x y = eqb (get_or s at 0) x && eqb (get_or s (at + 1) 0) y

-- "mark 43 48, then n, m, q of 2 bytes each"
unfoldable pub inputs : List ℕ → ℕ
inputs s = be16 s 2

unfoldable pub outputs : List ℕ → ℕ
outputs s = be16 s 4

unfoldable pub gates : List ℕ → ℕ
gates s = be16 s 6

-- 02, job 8: "A circuit whose header mark is 43 49"
unfoldable pub named : List ℕ → Bool
named s = mark_at s 0 0x43 0x49

-- gate record k, from 0: "mark 43 47, operands a and b of 2 bytes each, a code of 1 byte"
abbrev pub record_at : ℕ → ℕ
record_at k = 8 + 7 * k

unfoldable pub gate_at : List ℕ → ℕ → Gate
gate_at s k = record { a = record { 0 = be16 s (record_at k + 2) }; b = record { 0 = be16 s (record_at k + 4) }; code = get_or s (record_at k + 6) 0 }

-- "The last m wires are the outputs."
unfoldable pub last_wires : ℕ → ℕ → ℕ → List ℕ
last_wires n q m = tabulate m (λ i. n + q - m + 1 + i)

-- 02, job 8: "carries, after its gates, m output records: mark 43 4F and a wire number of 2 bytes". Record k, from 0
abbrev pub output_record_at : List ℕ → ℕ → ℕ
output_record_at s k = record_at (gates s) + 4 * k

unfoldable pub output_at : List ℕ → ℕ → ℕ
output_at s k = be16 s (output_record_at s k + 2)

-- the circuit that bytes are. "The output list replaces "the last m" in every operation; 43 48 circuits stand for the list of their last m wires."
unfoldable pub circuit_of : List ℕ → Circuit
circuit_of s = record {
  n = inputs s;
  gates = tabulate (gates s) (gate_at s);
  outputs = cond (named s) (tabulate (outputs s) (output_at s)) (last_wires (inputs s) (gates s) (outputs s));
}

-- ---- limits

-- "m from 1 to q"; where outputs are named, "m is at most n+q" (02, job 8)
unfoldable pub most_outputs : Bool → ℕ → ℕ → ℕ
most_outputs by_name n q = cond by_name (n + q) q

-- "n from 2 to 4,096; m from 1 to q; q at least 1; n+q at most 65,535"
unfoldable pub sizes_hold : Bool → ℕ → ℕ → ℕ → Bool
sizes_hold by_name n m q = leb 2 n && leb n 4096 && leb 1 m && leb m (most_outputs by_name n q) && leb 1 q && leb (n + q) 65535

-- "Its length is 8+7q."; where outputs are named, "the length is 8+7q+4m" (02, job 8)
unfoldable pub circuit_length : Bool → ℕ → ℕ → ℕ
circuit_length by_name m q = cond by_name (8 + 7 * q + 4 * m) (8 + 7 * q)

-- "1 ≤ a < b < the gate's own wire number"
unfoldable pub operands_hold : ℕ → Gate → Bool
operands_hold own g = leb 1 g.a.0 && ltb g.a.0 g.b.0 && ltb g.b.0 own

-- the wire number of gate k, from 0: "one wire per gate, n+1 to n+q in file order"
abbrev pub gate_wire : ℕ → ℕ → ℕ
gate_wire n k = n + k + 1

-- ---- "n, m and the gates already read, as a list of records, each with two operands and a code"

-- a gate's record
unfoldable pub gate_bytes : Gate → List ℕ
gate_bytes g = 0x43 ∷ 0x47 ∷ two g.a.0 ++ two g.b.0 ++ (g.code ∷ [])

unfoldable pub record_bytes : List Gate → List ℕ
record_bytes [] = []
record_bytes (g ∷ gs) = gate_bytes g ++ record_bytes gs

-- "the bytes made from them"; "q is the list's length"
unfoldable pub circuit_bytes : ℕ → ℕ → List Gate → List ℕ
circuit_bytes n m gs = 0x43 ∷ 0x48 ∷ two n ++ two m ++ two (length gs) ++ record_bytes gs

-- ---- what stands on the wires

-- wire w of a list with an entry for each wire; "wires are numbered from 1"
abbrev pub wire : {A : Type 0} → A → List A → ℕ → A
wire d ws w = get_or ws (w - 1) d

-- all wires, from those of the inputs: each gate adds its own, made from those before it
unfoldable pub wires : {A : Type 0} → (List A → Gate → A) → List Gate → List A → List A
wires step [] ws = ws
wires step (g ∷ gs) ws = wires step gs (ws ++ (step ws g ∷ []))

-- "a gate's wire the value that its code has for the bits on a and b"
unfoldable pub gate_value : List ℕ → Gate → ℕ
gate_value vs g = value g.code (wire 0 vs g.a.0) (wire 0 vs g.b.0)

-- "an input wire carries its bit of the value list": the values on all wires
unfoldable pub plain_values : Circuit → List ℕ → List ℕ
plain_values c vs = wires gate_value c.gates vs
