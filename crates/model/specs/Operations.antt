-- Document 01, "Operations". Each answer and each buffer at exit, for every argument.
use Rattle.std.specs.Prelude.{ℕ, ◌+◌, ◌*◌, ◌≡◌, List, [], Result, Ok, Err, cond, length, get_or, drop, replicate, ltb, eqb}
use Rattle.model.specs.declared.Sizes.{Sizes}
use Rattle.model.specs.declared.Refusal.{Refusal}
use Rattle.model.specs.declared.Garbled.{Garbled}
use Rattle.model.specs.declared.Gate.{Gate}
use Rattle.model.specs.declared.Wanted.{Wanted}
use Rattle.model.specs.Bytes.{over}
use Rattle.model.specs.Circuit.{charges, circuit_of, inputs, outputs, gates, circuit_bytes, plain_values}
use Rattle.model.specs.Tokens.{wants_hashes, garbling_of, input_zeros}
use Rattle.model.specs.Garbling.{zero_tokens, input_ones}
use Rattle.model.specs.Material.{last_bytes, material_length, join_blocks, material}
use Rattle.model.specs.Evaluation.{cut, encode_bytes, evaluate_bytes, decode_bytes, token_at, output_tokens}
use Rattle.model.specs.Calls.{garble_calls, output_calls, evaluate_calls}
use Rattle.model.specs.Refusals.{Verdict, fine, refused, refuse, ◌then◌, verdict_of, circuit_verdict, seed_verdict, values_verdict, tokens_verdict, scheme_verdict, mark_verdict, material_verdict, room_verdict, pick_verdict, unknown_verdict, clash_verdict}

-- what an operation answers: a refusal, or its results
pub data Answer (A : Type 0) : Type 0 where
  no : Verdict → Answer A
  yes : A → Answer A

-- what the code answers: its results, or the refusal
abbrev pub answer_of : {A : Type 0} → Result A Refusal → Answer A
answer_of (Ok x) = yes x
answer_of (Err f) = no (verdict_of f)

-- the same where there are no results but the bytes that are written
abbrev pub ran_of : Result Unit Refusal → Verdict
ran_of (Ok x) = fine
ran_of (Err f) = verdict_of f

-- the results, if nothing refuses
abbrev pub answer : {A : Type 0} → Verdict → A → Answer A
answer fine a = yes a
answer (refused i x) a = no (refused i x)

-- a buffer at exit: the new bytes at its front, if nothing refuses; "all buffers are unchanged" by a refusal
abbrev pub written : Verdict → List ℕ → List ℕ → List ℕ
written fine new old = over new old
written (refused i x) new old = old

-- ---- "Check: n, m, q, p."

unfoldable pub sizes_of : List ℕ → Sizes
sizes_of s = record { n = inputs s; m = outputs s; q = gates s; p = charges (circuit_of s).gates }

abbrev pub check_answer : List ℕ → Answer Sizes
check_answer s = answer (circuit_verdict s) (sizes_of s)

-- ---- "Plain: value list (n bytes) to a value byte for every wire (n+q bytes)."

-- 1 to 7, 25, 26, 9, 10, 19: c is the circuit's bytes, v the value list, and room the length of the buffer
unfoldable pub plain_verdict : List ℕ → List ℕ → ℕ → Verdict
plain_verdict c v room =
    circuit_verdict c
    then values_verdict (inputs c) v
    then room_verdict (inputs c + gates c) room

-- plain's answer r, and the buffer, o at entry and x at exit
pub record PlainIs (c v o : List ℕ) (r : Verdict) (x : List ℕ) : Type 0 where
  pub answered : r ≡ plain_verdict c v (length o)
  pub left : x ≡ written (plain_verdict c v (length o)) (plain_values (circuit_of c) v) o

-- ---- "Garble (circuit, seed, scheme as a byte): material; zero tokens of all wires, 16(n+q) bytes; one tokens of the inputs, 16n bytes"; "Garbling
-- takes a run number of 64 bits" (02, job 4), of which no verdict speaks

-- the material's length, for what is wanted of a circuit's bytes
unfoldable pub file_length : List ℕ → Wanted → ℕ
file_length c want = material_length want.scheme (last_bytes (wants_hashes want) (outputs c)) (charges (circuit_of c).gates)

-- 1 to 7, 25, 26, 8, 13, 14, and 19 for the three buffers in turn, of the lengths km, kz and ko
unfoldable pub garble_verdict : List ℕ → List ℕ → Wanted → ℕ → ℕ → ℕ → Verdict
garble_verdict c seed want km kz ko =
    circuit_verdict c
    then seed_verdict seed
    then mark_verdict want.mark
    then scheme_verdict want.scheme
    then room_verdict (file_length c want) km
    then room_verdict (16 * (inputs c + gates c)) kz
    then room_verdict (16 * inputs c) ko

abbrev pub made : ℕ → ℕ → Garbled
made l k = record { length = l; calls = k }

-- "Returns the material's length and the calls of π made"
unfoldable pub garble_made : List ℕ → List ℕ → Wanted → Garbled
garble_made c seed want =
    made (file_length c want)
    (garble_calls (garbling_of c seed want) (circuit_of c).gates (input_zeros (garbling_of c seed want)) + output_calls (garbling_of c seed want))

-- what a buffer of garble gets once nothing before 30 refuses: the bytes that are defined, or as many zeros. "30 alone changes buffers ..: the bytes
-- garbling would have written are zero, all others unchanged." (02, job 12)
abbrev pub wiped : Verdict → List ℕ → List ℕ
wiped fine new = new
wiped (refused i x) new = replicate (length new) 0

-- garble's answer r, and its three buffers: m, z, o at entry and m', z', o' at exit
pub record GarbleIs (c seed : List ℕ) (want : Wanted) (m z o : List ℕ) (r : Answer Garbled) (m' z' o' : List ℕ) : Type 0 where
  pub answered : r ≡ answer (garble_verdict c seed want (length m) (length z) (length o) then clash_verdict (garbling_of c seed want)) (garble_made c seed want)
  pub material_left : m' ≡ written (garble_verdict c seed want (length m) (length z) (length o)) (wiped (clash_verdict (garbling_of c seed want)) (material (garbling_of c seed want))) m
  pub zeros_left : z' ≡ written (garble_verdict c seed want (length m) (length z) (length o)) (wiped (clash_verdict (garbling_of c seed want)) (join_blocks (zero_tokens (garbling_of c seed want)))) z
  pub ones_left : o' ≡ written (garble_verdict c seed want (length m) (length z) (length o)) (wiped (clash_verdict (garbling_of c seed want)) (join_blocks (input_ones (garbling_of c seed want)))) o

-- ---- "Encode (circuit, values, the inputs' zero and one lists): 16n bytes"

-- 1 to 7, 25, 26, 9, 10, 11 for the two lists in turn, 19
unfoldable pub encode_verdict : List ℕ → List ℕ → List ℕ → List ℕ → ℕ → Verdict
encode_verdict c v zs os room =
    circuit_verdict c
    then values_verdict (inputs c) v
    then tokens_verdict (inputs c) zs
    then tokens_verdict (inputs c) os
    then room_verdict (16 * inputs c) room

pub record EncodeIs (c v zs os o : List ℕ) (r : Verdict) (x : List ℕ) : Type 0 where
  pub answered : r ≡ encode_verdict c v zs os (length o)
  pub left : x ≡ written (encode_verdict c v zs os (length o)) (encode_bytes (circuit_of c) v zs os) o

-- ---- "Evaluate (circuit, input tokens, material): tokens of all wires, 16(n+q) bytes; returns the calls of π"

-- 1 to 7, 25, 26, 11, 12 to 18, 19
unfoldable pub evaluate_verdict : List ℕ → List ℕ → List ℕ → ℕ → Verdict
evaluate_verdict c ts s room =
    circuit_verdict c
    then tokens_verdict (inputs c) ts
    then material_verdict (circuit_of c) s
    then room_verdict (16 * (inputs c + gates c)) room

-- the encryptions made, from the circuit, the input tokens and the material
unfoldable pub evaluate_calls_of : List ℕ → List ℕ → List ℕ → ℕ
evaluate_calls_of c ts s = evaluate_calls (get_or s 2 0) (circuit_of c).gates (drop 9 s) (cut (inputs c) ts)

-- evaluate's answer r, and the buffer, o at entry and x at exit; ts are the input tokens and s the material
pub record EvaluateIs (c ts s o : List ℕ) (r : Answer ℕ) (x : List ℕ) : Type 0 where
  pub answered : r ≡ answer (evaluate_verdict c ts s (length o)) (evaluate_calls_of c ts s)
  pub left : x ≡ written (evaluate_verdict c ts s (length o)) (evaluate_bytes (circuit_of c) ts s) o

-- ---- evaluate, handed n, m and the gates as a list of records (01, Circuit): "the answer that the bytes made from them would get"

-- "more than 65,535 records are refusal 3"
unfoldable pub evaluate_gates_verdict : ℕ → ℕ → List Gate → List ℕ → List ℕ → ℕ → Verdict
evaluate_gates_verdict n m gs ts s room = refuse (ltb 65535 (length gs)) 3 2 then evaluate_verdict (circuit_bytes n m gs) ts s room

pub record EvaluateGatesIs (n m : ℕ) (gs : List Gate) (ts s o : List ℕ) (r : Answer ℕ) (x : List ℕ) : Type 0 where
  pub answered : r ≡ answer (evaluate_gates_verdict n m gs ts s (length o)) (evaluate_calls_of (circuit_bytes n m gs) ts s)
  pub left : x ≡ written (evaluate_gates_verdict n m gs ts s (length o)) (evaluate_bytes (circuit_of (circuit_bytes n m gs)) ts s) o

-- ---- the outputs' tokens among those of all wires, 16(n+q) bytes, in the order of the outputs: 16m bytes, what decode gets (02, job 8: "Decoded bits
-- follow the list's order.")

-- 1 to 7, 25, 26, 11, 19
unfoldable pub output_tokens_verdict : List ℕ → List ℕ → ℕ → Verdict
output_tokens_verdict c ws room =
    circuit_verdict c
    then tokens_verdict (inputs c + gates c) ws
    then room_verdict (16 * outputs c) room

-- the answer r, and the buffer, o at entry and x at exit; ws are the tokens of all wires
pub record OutputTokensIs (c ws o : List ℕ) (r : Verdict) (x : List ℕ) : Type 0 where
  pub answered : r ≡ output_tokens_verdict c ws (length o)
  pub left : x ≡ written (output_tokens_verdict c ws (length o)) (output_tokens (circuit_of c) ws) o

-- ---- "Decode (circuit, output tokens of 16m bytes, material): m bytes"

-- 1 to 7, 25, 26, 11, 12 to 18, 19, 29
unfoldable pub decode_verdict : List ℕ → List ℕ → List ℕ → ℕ → Verdict
decode_verdict c ts s room =
    circuit_verdict c
    then tokens_verdict (outputs c) ts
    then material_verdict (circuit_of c) s
    then room_verdict (outputs c) room
    then unknown_verdict (circuit_of c) (cut (length (circuit_of c).outputs) ts) s

pub record DecodeIs (c ts s o : List ℕ) (r : Verdict) (x : List ℕ) : Type 0 where
  pub answered : r ≡ decode_verdict c ts s (length o)
  pub left : x ≡ written (decode_verdict c ts s (length o)) (decode_bytes (circuit_of c) ts s) o

-- ---- "Pick .. hands back the 16 bytes of one wire (16 bits, from 1) for one bit (a byte)"; "Refused, the part is empty"

abbrev pub part_of : Verdict → List ℕ → List ℕ
part_of fine part = part
part_of (refused i x) part = []

unfoldable pub pick_part : List ℕ → List ℕ → ℕ → ℕ → List ℕ
pick_part zs os w bit = part_of (pick_verdict zs os w bit) (token_at (cond (eqb bit 0) zs os) w)
