-- The outputs: the search over the output records, its turns and its ends; and that `output_wire` reads the output's record, or that its sum does not
-- overflow and is the output's wire. Assumes nothing.
use Rattle.std.specs.Prelude.{Result, Ok, Err}
use Prim.Native.Nat.{ℕ, ◌+◌, ◌*◌, ◌-◌, ◌≤◌, ◌<◌}
use native.Mathlib.Omega.{arith}
use mathlib.Core.Path.{◌≡◌, refl, sym, ◌∙◌}
use mathlib.Core.Bool.{Bool, true, false, not}
use mathlib.Core.List.{List}
use borrow.Author.Tests.{le-leb, lt-leb, eq-eqb, ne_eqb, not-true, not-false}
use lib.ListN.{length, get_or}
use mir.Syntax.{w16, w64}
use mir.Val.{Fits}
use Rattle.model.specs.declared.Refusal.{Refusal}
use Rattle.model.specs.declared.Sizes.{Sizes}
use Rattle.model.specs.Bytes.{be16}
use Rattle.model.specs.Circuit.{circuit_of, mark_at, named, output_at}
use Rattle.model.specs.Refusals.{Verdict, fine, refused, refuse, ◌then◌, first_of, verdict_of, output_verdict, outputs_verdict}
use Rattle.model.specs.Operations.{ran_of}
use Rattle.model.proofs.Accepted.{HeaderHolds, header_holds, gates_inside, outputs_inside}
use Rattle.model.proofs.Outputs.{named_output, last_output}
use Rattle.model.proofs.Verdicts.{first_next, first_found, ran_refused, ran_done}
use Rattle.circuit.specs.declared.header.Header.{Header}
use Rattle.circuit.specs.Outputs.{HeaderIs, NamedStart, RecordStart, OutputStart}
use Rattle.circuit.proofs.AcceptedLaws.{limits, is_n, is_m, is_q, few_wires}

-- ---- read_output: record k, and the wire w that it has
module _ (c : List ℕ) (h : Header) (k : ℕ) (start : RecordStart c h k) where
  header : HeaderIs c h
  header = start.start.header

  holds : HeaderHolds c
  holds = header_holds c header.head

  -- no wire is above 65,535, and no record past the 65,535th
  pub record_few : h.n + h.q ≤ 65535
  record_few = rw (header.is_n, header.is_q) holds.sizes.sum

  pub record_gates : h.q < 65536
  record_gates = omega (arith, record_few)

  pub record_small : k < 65536
  record_small = omega (arith, start.more, header.is_m, holds.sizes.m_high, holds.sizes.sum)

  pub record_wires : Fits w64 (h.n + h.q)
  record_wires = omega (arith, record_few)

  -- where it stands
  module _ (at : ℕ) (is_at : at ≡ 8 + 7 * h.q + 4 * k) where
    inside : at + 4 ≤ length c
    inside = omega (arith, is_at, start.more, header.is_m, header.is_q, outputs_inside c holds start.start.by_name)

    pub record_second : at + 1 < length c
    record_second = omega (arith, inside)

    pub record_next : Fits w64 (at + 2)
    record_next = omega (arith, is_at, record_few, record_small)

    pub record_wire : at + 2 + 1 < length c
    record_wire = omega (arith, inside)

    module _ (b : Bool) (is_b : b ≡ mark_at c at 0x43 0x4F) where
      pub record_mark : not b ≡ true → refused 25 (k + 1) ≡ output_verdict c k
      unfolding output_verdict refuse ◌then◌
      record_mark e = rw (← header.is_q, ← is_at, ← is_b, not-true b e)

      module _ (e : not b ≡ false) (w : ℕ) (is_w : w ≡ be16 c (at + 2)) where
        pub record_low : w < 1 → refused 26 (k + 1) ≡ output_verdict c k
        unfolding output_verdict output_at refuse ◌then◌
        record_low l = simp (← header.is_q, ← is_at, ← is_b, not-false b e, ← is_w, lt-leb _ _ l)

        module _ (l : 1 ≤ w) where
          pub record_high : h.n + h.q < w → refused 26 (k + 1) ≡ output_verdict c k
          unfolding output_verdict output_at refuse ◌then◌
          record_high m = simp (← header.is_q, ← header.is_n, ← is_at, ← is_b, not-false b e, ← is_w, le-leb _ _ l, lt-leb _ _ m)

          pub record_fine : w ≤ h.n + h.q → fine ≡ output_verdict c k
          unfolding output_verdict output_at refuse ◌then◌
          record_fine m = simp (← header.is_q, ← header.is_n, ← is_at, ← is_b, not-false b e, ← is_w, le-leb _ _ l, le-leb _ _ m)

pub ruleset record_cases = (record_gates, record_small, record_wires, record_second, record_next, record_wire, record_mark, record_low, record_high, record_fine)

-- ---- search_outputs
pub marked_room : (c : List ℕ) (h : Header) → HeaderIs c h → 2 ≤ length c
marked_room c h start = omega (arith, gates_inside c (header_holds c start.head))

module _ (c : List ℕ) (h : Header) (start : HeaderIs c h) (b : Bool) (is_b : b ≡ named c) where
  pub outputs_none : not b ≡ true → fine ≡ outputs_verdict c
  unfolding outputs_verdict
  outputs_none e = rw (← is_b, not-true b e)

  pub outputs_named : not b ≡ false → NamedStart c h
  outputs_named e = record { header = start; by_name = sym is_b ∙ not-false b e }

  pub outputs_searched : not b ≡ false → (v : Verdict) → v ≡ first_of (output_verdict c) h.m → v ≡ outputs_verdict c
  unfolding outputs_verdict
  outputs_searched e v is = is ∙ rw (start.is_m, ← is_b, not-false b e)

pub ruleset outputs_cases = (marked_room, outputs_none, outputs_named, outputs_searched)

-- ---- output_wire
module _ (c : List ℕ) (z : Sizes) (i : ℕ) (start : OutputStart c z i) where
  few : z.n + z.q ≤ 65535
  few = few_wires c z start.sized

  more : i < z.m
  more = rw (is_m c z start.sized) start.more

  pub output_marked : 2 ≤ length c
  output_marked = omega (arith, gates_inside c (limits c z start.sized))

  pub output_gates : z.q < 65536
  output_gates = omega (arith, few)

  pub output_wires : Fits w64 (z.n + z.q)
  output_wires = omega (arith, few)

  pub output_among : z.m ≤ z.n + z.q
  output_among = rw (is_n c z start.sized, is_m c z start.sized, is_q c z start.sized) (omega (arith, (limits c z start.sized).sizes.m_high))

  pub output_small : i < 65536
  output_small = omega (arith, few, output_among, more)

  module _ (x : ℕ) (h : x ≤ 1) where
    pub output_first : Fits w64 (z.n + z.q - z.m + x)
    output_first = omega (arith, few)

    pub output_sum : Fits w64 (z.n + z.q - z.m + x + i)
    output_sum = omega (arith, few, output_among, more)

    -- a wire has 16 bits
    pub output_fits : Fits w16 (z.n + z.q - z.m + x + i)
    output_fits = omega (arith, few, output_among, more)

  -- by the mark
  module _ (b : Bool) (is_b : b ≡ named c) where
    pub output_is : b ≡ false → z.n + z.q - z.m + 1 + i ≡ get_or (circuit_of c).outputs i 0
    output_is e =
        rw (is_n c z start.sized, is_m c z start.sized, is_q c z start.sized) (sym (last_output c (sym is_b ∙ e) i start.more))

    module _ (e : b ≡ true) (at : ℕ) (is_at : at ≡ 8 + 7 * z.q + 4 * i) where
      pub output_past : (x : ℕ) → x ≤ 2 → Fits w64 (at + x)
      output_past x h = omega (arith, is_at, few, output_among, more)

      pub output_inside : (x : ℕ) → x ≤ 2 → at + x + 1 < length c
      output_inside x h =
          omega (arith, is_at, more, is_m c z start.sized, is_q c z start.sized, outputs_inside c (limits c z start.sized) (sym is_b ∙ e))

      pub output_read : (w : ℕ) → w ≡ be16 c (at + 2) → w ≡ get_or (circuit_of c).outputs i 0
      unfolding output_at
      output_read w is = is ∙ rw (is_at, is_q c z start.sized) (sym (named_output c (sym is_b ∙ e) i start.more))

pub ruleset output_cases = (output_marked, output_gates, output_small, output_wires, output_among, output_first, output_sum, output_fits, output_is, output_past, output_inside, output_read)
