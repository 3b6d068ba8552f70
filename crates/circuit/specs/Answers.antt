-- The answers of the inner functions, in the model's terms.
use Rattle.std.specs.Prelude.{ℕ, zero, suc, ◌+◌, ◌*◌, ◌≤◌, ◌≡◌, List, [], ◌∷◌, length, get_or, take}
use Rattle.model.specs.declared.Gate.{Gate}
use Rattle.model.specs.declared.Kind as Kinds
use Rattle.model.specs.declared.Refusal.{Refusal}
use Rattle.model.specs.declared.Sizes.{Sizes}
use Rattle.model.specs.Bytes.{tabulate}
use Rattle.model.specs.Circuit.{Kind, charged, free, refused, kind_of, charge, charges, inputs, outputs, gates, gate_at}
use Rattle.model.specs.Refusals.{Verdict, fine, ◌then◌, number_of, place_of, head_verdict, gate_verdict, record_verdict, gates_verdict, circuit_verdict, values_verdict, room_verdict}
use Rattle.model.specs.Operations.{Answer, answer}
use Rattle.circuit.specs.declared.header.Header.{Header}

-- ---- codes

abbrev pub meaning : Kinds.Kind → Kind
meaning (Kinds.Kind.Charged g) = charged g.u.bit g.v.bit g.own.bit
meaning (Kinds.Kind.Free g) = free g.p.bit g.q.bit g.c.bit
meaning Kinds.Kind.Refused = refused

-- a gate of a free kind takes its operand a where a is 1, and b with it where both is 1; where a is 0 it takes b alone
pub record TakesIs (k : Kind) (a both : ℕ) : Type 0 where
  pub q : ℕ
  pub c : ℕ
  pub is_free : k ≡ free a q c
  pub is_both : both ≡ a * q
  pub bit_a : a ≤ 1
  pub bit_q : q ≤ 1
  pub one : 1 ≤ a + q

-- what a kind has, as four bits: whether it is charged; and of a charged one its pair and the value there, of a free one p, q and c
abbrev pub kind_bits : Kind → List ℕ
kind_bits (charged u v x) = 1 ∷ u ∷ v ∷ x ∷ []
kind_bits (free p q c) = 0 ∷ p ∷ q ∷ c ∷ []
kind_bits refused = 0 ∷ 0 ∷ 0 ∷ 0 ∷ []

abbrev pub kind_bit : ℕ → Kind → ℕ
kind_bit i k = get_or (kind_bits k) i 0

-- four bits in one number, sixteen places apart
abbrev pub apart : ℕ → ℕ → ℕ → ℕ → ℕ
apart w x y z = w + 0x10000 * x + 0x100000000 * y + 0x1000000000000 * z

abbrev pub bits_apart : Kind → ℕ
bits_apart k = apart (kind_bit 0 k) (kind_bit 1 k) (kind_bit 2 k) (kind_bit 3 k)

-- those of i codes from one on in one number, a place for each, the lowest code lowest
unfoldable pub bits_from : ℕ → ℕ → ℕ
bits_from zero code = 0
bits_from (suc i) code = bits_apart (kind_of code) + 2 * bits_from i (code + 1)

-- ---- the header

abbrev pub header_answer : List ℕ → Answer Header
header_answer s = answer (head_verdict s) (record { n = inputs s; m = outputs s; q = gates s })

-- ---- the gates: a gate without a fault adds its charge to p

abbrev pub gate_answer : ℕ → Gate → Answer ℕ
gate_answer own g = answer (gate_verdict own g) (charge (kind_of g.code))

abbrev pub record_answer : List ℕ → ℕ → ℕ → Answer ℕ
record_answer s n k = answer (record_verdict s n k) (charge (kind_of (gate_at s k).code))

abbrev pub search_answer : List ℕ → ℕ → ℕ → Answer ℕ
search_answer s n q = answer (gates_verdict s n q) (charges (tabulate q (gate_at s)))

-- ---- plain

-- every value is 0 or 1
abbrev pub AllBits : List ℕ → Type 0
AllBits v = (i : ℕ) → get_or v i 0 ≤ 1

-- 9, 10, 19 by a circuit's sizes: with the circuit's own before them, the model's `plain_verdict`, as `plain_verdict_law` of proofs/PlainLaws.antt shows
unfoldable pub plain_arguments : Sizes → List ℕ → ℕ → Verdict
plain_arguments z v room = values_verdict z.n v then room_verdict (z.n + z.q) room

-- what the gates' evaluation starts from: an accepted circuit c, and the values of its inputs at the front of the buffer o
pub record PlainStart (c o : List ℕ) (n q : ℕ) : Type 0 where
  pub accepted : circuit_verdict c ≡ fine
  pub is_n : n ≡ inputs c
  pub is_q : q ≡ gates c
  pub room : n + q ≤ length o
  pub bits : AllBits (take n o)

-- ---- a refusal as numbers

pub record TurnedIs (f : Refusal) (number place : ℕ) : Type 0 where
  pub is_number : number ≡ number_of f
  pub is_place : place ≡ place_of f
