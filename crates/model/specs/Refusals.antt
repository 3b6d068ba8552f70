-- Document 01, "Turned down, by number"; and of document 02, jobs 1 and 5, the numbers 21 to 24, job 8, 25 and 26, job 11, 27 and 28, which nothing
-- gives yet, and job 12, 29 and 30.
use Rattle.std.specs.Prelude.{ℕ, zero, suc, ◌+◌, ◌*◌, ◌%◌, List, Bool, true, false, not, cond, ◌&&◌, ◌||◌, length, get_or, take, ltb, leb, eqb}
use Rattle.model.specs.declared.Gate.{Gate}
use Rattle.model.specs.declared.Sizes.{Sizes}
use Rattle.model.specs.declared.Refusal.{Refusal}
use Rattle.model.specs.declared.Refusal.TheVariants.{CircuitShort, CircuitMark, Limits, CircuitLength, GateMark, Operands, Code, SeedLength, ValuesLength, Value, TokensLength, MaterialShort, MaterialMark, Scheme, MaterialSizes, MaterialLength, RowRecord, LastRecord, Room, PickWire, Width, TextLine, TextCounts, TextOutput, OutputMark, OutputWire, CommandOutside, NotReady, OutputToken, OutputHashes}
use Rattle.model.specs.Bytes.{be16}
use Rattle.model.specs.Circuit as C
use Rattle.model.specs.Circuit.{Circuit, Kind, kind_of, charges, code_at, mark_at, inputs, outputs, gates, named, record_at, gate_at, output_record_at, output_at, sizes_hold, circuit_length, operands_hold, gate_wire}
use Rattle.model.specs.Aes.{Block, block}
use Rattle.model.specs.Tokens.{Garbling, one_token}
use Rattle.model.specs.Ending.{Ending, ending_of}
use Rattle.model.specs.Material.{last_start, material_length, hashed, last_bytes, zero_of}
use Rattle.model.specs.Evaluation.{bytes_for, stored_at}

-- "A refusal is its number and a place"; `fine` is none
pub data Verdict : Type 0 where
  fine : Verdict
  refused : (number place : ℕ) → Verdict

-- refusal i at place x, where its condition holds
unfoldable pub refuse : Bool → ℕ → ℕ → Verdict
refuse true i x = refused i x
refuse false i x = fine

infixl 5 ◌then◌
-- "Conditions are tried in rising number, .. and the first that holds is given."
unfoldable pub ◌then◌ : Verdict → Verdict → Verdict
◌then◌ fine v = v
◌then◌ (refused i x) v = refused i x

-- a search: the first refusal among f 0, .., f (k - 1)
unfoldable pub first_of : (ℕ → Verdict) → ℕ → Verdict
first_of f zero = fine
first_of f (suc k) = first_of f k then f k

-- ---- the list's numbers and places, for each case of the code's enum

abbrev pub number_of : Refusal → ℕ
number_of (CircuitShort l) = 1
number_of CircuitMark = 2
number_of Limits = 3
number_of (CircuitLength l) = 4
number_of (GateMark w) = 5
number_of (Operands w) = 6
number_of (Code w) = 7
number_of (SeedLength l) = 8
number_of (ValuesLength l) = 9
number_of (Value i) = 10
number_of (TokensLength l) = 11
number_of (MaterialShort l) = 12
number_of MaterialMark = 13
number_of (Scheme b) = 14
number_of MaterialSizes = 15
number_of (MaterialLength l) = 16
number_of (RowRecord w) = 17
number_of (LastRecord at) = 18
number_of (Room l) = 19
number_of (PickWire w) = 20
number_of (Width w) = 21
number_of (TextLine k) = 22
number_of TextCounts = 23
number_of (TextOutput k) = 24
number_of (OutputMark k) = 25
number_of (OutputWire k) = 26
number_of (CommandOutside c) = 27
number_of NotReady = 28
number_of (OutputToken k) = 29
number_of (OutputHashes k) = 30

abbrev pub place_of : Refusal → ℕ
place_of (CircuitShort l) = l
place_of CircuitMark = 0
place_of Limits = 2
place_of (CircuitLength l) = l
place_of (GateMark w) = w.0
place_of (Operands w) = w.0
place_of (Code w) = w.0
place_of (SeedLength l) = l
place_of (ValuesLength l) = l
place_of (Value i) = i
place_of (TokensLength l) = l
place_of (MaterialShort l) = l
place_of MaterialMark = 0
place_of (Scheme b) = b
place_of MaterialSizes = 3
place_of (MaterialLength l) = l
place_of (RowRecord w) = w.0
place_of (LastRecord at) = at
place_of (Room l) = l
place_of (PickWire w) = w.0
place_of (Width w) = w
place_of (TextLine k) = k
place_of TextCounts = 1
place_of (TextOutput k) = k
place_of (OutputMark k) = k
place_of (OutputWire k) = k
place_of (CommandOutside c) = c
place_of NotReady = 0
place_of (OutputToken k) = k
place_of (OutputHashes k) = k

-- the verdict that a refusal of the code is
abbrev pub verdict_of : Refusal → Verdict
verdict_of f = refused (number_of f) (place_of f)

-- ---- 1 to 4: the circuit's header. "A circuit whose header mark is 43 49 ..; refusals 2, 3 and 4 read so." (02, job 8)

unfoldable pub head_verdict : List ℕ → Verdict
head_verdict s =
    refuse (ltb (length s) 8) 1 (length s)
    then refuse (not (mark_at s 0 0x43 0x48 || named s)) 2 0
    then refuse (not (sizes_hold (named s) (inputs s) (outputs s) (gates s))) 3 2
    then refuse (not (eqb (length s) (circuit_length (named s) (outputs s) (gates s)))) 4 (length s)

-- ---- 5 to 7: "Gates are searched in file order; the search leaves at the first gate with a fault, and that gate's lowest number is given."

abbrev pub is_refused : Kind → Bool
is_refused (C.charged u v x) = false
is_refused (C.free p q c) = false
is_refused C.refused = true

abbrev pub is_charged : Kind → Bool
is_charged (C.charged u v x) = true
is_charged (C.free p q c) = false
is_charged C.refused = false

-- 6 and 7 of a gate, by its own wire number
unfoldable pub gate_verdict : ℕ → Gate → Verdict
gate_verdict own g =
    refuse (not (operands_hold own g)) 6 own
    then refuse (is_refused (kind_of g.code)) 7 own

-- 5 to 7 of gate record k, in a circuit of n inputs
unfoldable pub record_verdict : List ℕ → ℕ → ℕ → Verdict
record_verdict s n k =
    refuse (not (mark_at s (record_at k) 0x43 0x47)) 5 (gate_wire n k)
    then gate_verdict (gate_wire n k) (gate_at s k)

-- 5 to 7 of the first k gates
abbrev pub gates_verdict : List ℕ → ℕ → ℕ → Verdict
gates_verdict s n k = first_of (record_verdict s n) k

-- ---- 25 and 26 (02, job 8)

-- of output record k, from 0: "25 when an output record's mark differs (output from 1), 26 when its wire is 0 or above n+q (output)"
unfoldable pub output_verdict : List ℕ → ℕ → Verdict
output_verdict s k =
    refuse (not (mark_at s (output_record_at s k) 0x43 0x4F)) 25 (k + 1)
    then refuse (not (leb 1 (output_at s k) && leb (output_at s k) (inputs s + gates s))) 26 (k + 1)

-- "the first faulty record deciding, by its lower number"; a circuit of mark 43 48 has no output record
unfoldable pub outputs_verdict : List ℕ → Verdict
outputs_verdict s = cond (named s) (first_of (output_verdict s) (outputs s)) fine

-- 1 to 7, and 25 and 26 "right after 7". "A circuit is accepted if none of the conditions that check tries holds."
unfoldable pub circuit_verdict : List ℕ → Verdict
circuit_verdict s = head_verdict s then gates_verdict s (inputs s) (gates s) then outputs_verdict s

-- ---- 8: "The seed is not 16 bytes (its length)."

unfoldable pub seed_verdict : List ℕ → Verdict
seed_verdict seed = refuse (not (eqb (length seed) 16)) 8 (length seed)

-- ---- 9 and 10: the value list, for n inputs

-- 10 at index i
unfoldable pub value_verdict : List ℕ → ℕ → Verdict
value_verdict v i = refuse (ltb 1 (get_or v i 0)) 10 i

-- 10: "index of the first, from 0"
abbrev pub bits_verdict : List ℕ → Verdict
bits_verdict v = first_of (value_verdict v) (length v)

-- 9: "The value list has not n bytes (its length)."; and 10
unfoldable pub values_verdict : ℕ → List ℕ → Verdict
values_verdict n v = refuse (not (eqb (length v) n)) 9 (length v) then bits_verdict v

-- ---- 11: "A token list handed in has the wrong length": k tokens of 16 bytes are due

unfoldable pub tokens_verdict : ℕ → List ℕ → Verdict
tokens_verdict k ts = refuse (not (eqb (length ts) (16 * k))) 11 (length ts)

-- ---- 14: "The scheme is not 1, 2 or 3 (the scheme)."; "Refusal 14 admits 4" (02, job 7)

unfoldable pub scheme_verdict : ℕ → Verdict
scheme_verdict scheme = refuse (not (leb 1 scheme && leb scheme 4)) 14 scheme

-- ---- 13 of an argument: "Refusal 13 admits both marks, also for that argument" (02, job 12)

unfoldable pub mark_verdict : ℕ → Verdict
mark_verdict mark = refuse (not (eqb mark 0x4748 || eqb mark 0x474A)) 13 0

-- ---- 12 to 18: the material s, for a circuit. "Material is well-formed for a circuit if none of conditions 12 to 18 holds."

-- n, m, q and p of a circuit
unfoldable pub circuit_sizes : Circuit → Sizes
circuit_sizes c = record { n = c.n; m = length c.outputs; q = length c.gates; p = charges c.gates }

-- the header's n, m and q are these
unfoldable pub same_sizes : Sizes → List ℕ → Bool
same_sizes z s = eqb (be16 s 3) z.n && eqb (be16 s 5) z.m && eqb (be16 s 7) z.q

-- 12 to 16: the header and the length, for a circuit of these sizes
unfoldable pub file_verdict : Sizes → List ℕ → Verdict
file_verdict z s =
    refuse (ltb (length s) 9) 12 (length s)
    then refuse (not (mark_at s 0 0x47 0x48 || hashed s)) 13 0
    then scheme_verdict (get_or s 2 0)
    then refuse (not (same_sizes z s)) 15 3
    then refuse (not (eqb (length s) (material_length (get_or s 2 0) (last_bytes (hashed s) z.m) z.p))) 16 (length s)

-- where the row record of gate k stands, or would stand: where the last record would start, were the charged gates before it all
unfoldable pub row_start : Circuit → List ℕ → ℕ → ℕ
row_start c s k = last_start (get_or s 2 0) (charges (take k c.gates))

-- the record at an index has the mark 47 54 and this wire number
unfoldable pub row_record_at : List ℕ → ℕ → ℕ → Bool
row_record_at s at own = mark_at s at 0x47 0x54 && eqb (be16 s (at + 2)) own

-- 17 of gate k: "A row record has a wrong mark or wire number (the wire number due)."
unfoldable pub row_verdict : Circuit → List ℕ → ℕ → Verdict
row_verdict c s k =
    refuse (is_charged (kind_of (code_at c k)) && not (row_record_at s (row_start c s k) (gate_wire c.n k))) 17 (gate_wire c.n k)

-- 18 of a last record that starts at an index and has m outputs: "The last record's mark is wrong or a byte of it exceeds 1 (its start)."; for 47 4A,
-- "18 looks at the mark 47 41 only" (02, job 12)
unfoldable pub stored_verdict : Ending → List ℕ → ℕ → ℕ → Verdict
stored_verdict E s start i = refuse (E.wrong (bytes_for E s (start + 2) i)) 18 start

unfoldable pub last_verdict : List ℕ → ℕ → ℕ → Verdict
last_verdict s start m =
    refuse (not (mark_at s start 0x47 (ending_of (hashed s)).last_mark)) 18 start
    then first_of (stored_verdict (ending_of (hashed s)) s start) m

unfoldable pub material_verdict : Circuit → List ℕ → Verdict
material_verdict c s =
    file_verdict (circuit_sizes c) s
    then first_of (row_verdict c s) (length c.gates)
    then last_verdict s (last_start (get_or s 2 0) (charges c.gates)) (length c.outputs)

-- ---- 19: "An output buffer is too short (bytes needed"

unfoldable pub room_verdict : ℕ → ℕ → Verdict
room_verdict needed room = refuse (ltb room needed) 19 needed

-- ---- pick's: 10 for its bit, 11 where "the two lengths differ or are no multiple of 16", 20 where its wire "is 0 or past the lists"

unfoldable pub pick_verdict : List ℕ → List ℕ → ℕ → ℕ → Verdict
pick_verdict zs os w bit =
    refuse (ltb 1 bit) 10 0
    then refuse (not (eqb (length zs) (length os) && eqb (length zs % 16) 0)) 11 (length zs)
    then refuse (not (leb 1 w && leb (16 * w) (length zs))) 20 w

-- ---- 29 and 30 (02, job 12)

-- 29 "when no hash agrees (first k)", of the outputs' tokens ts
unfoldable pub token_verdict : Circuit → List Block → List ℕ → ℕ → Verdict
token_verdict c ts s i = refuse ((ending_of (hashed s)).unknown (i + 1) (get_or ts i (block 0)) (stored_at c s i)) 29 (i + 1)

unfoldable pub unknown_verdict : Circuit → List Block → List ℕ → Verdict
unknown_verdict c ts s = first_of (token_verdict c ts s) (length c.outputs)

module _ (γ : Garbling) where
  -- what garbling stores of output i, from 0
  unfoldable pub made_for : ℕ → List ℕ
  made_for i = (ending_of γ.hashed).stored (i + 1) (zero_of γ (get_or γ.circuit.outputs i 0)) (one_token γ (zero_of γ (get_or γ.circuit.outputs i 0)))

  -- 30 "when garbling finds both hashes of an output equal (first k)"
  unfoldable pub clash_at : ℕ → Verdict
  clash_at i = refuse ((ending_of γ.hashed).clash (made_for i)) 30 (i + 1)

  unfoldable pub clash_verdict : Verdict
  clash_verdict = first_of clash_at (length γ.circuit.outputs)
