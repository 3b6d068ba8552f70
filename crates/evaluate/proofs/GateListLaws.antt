-- Evaluation over a list of gate records: a law for each return of the functions of src/list.rt. Assumes nothing.
use Prim.Native.Nat.{ℕ, zero, suc, ◌+◌, ◌*◌, ◌-◌, ◌≤◌, ◌<◌, ◌^◌}
use native.Mathlib.Numerals.{add-one}
use native.Mathlib.Omega.{arith}
use mathlib.Core.Path.{◌≡◌, refl, sym, ap, ◌∙◌}
use mathlib.Core.Bool.{Bool, true, false, ◌&&◌, not, cond}
use mathlib.Core.List.{List}
use borrow.Author.Tests.{le-leb, lt-leb, lt-ltb, le-ltb, leb-true, leb-false, eq-eqb, eqb-true, eqb-false, ne_eqb, not-true, not-false}
use lib.Dec.{leb, eqb}
use lib.ListN.{length, get_or, get_or-eq_default}
use mir.Syntax.{w16, w64}
use mir.Val.{Fits}
use Rattle.std.specs.Prelude.{Result, Ok, Err, Option, None, Some}
use Rattle.model.specs.declared.Gate.{Gate}
use Rattle.model.specs.declared.Sizes.{Sizes}
use Rattle.model.specs.declared.Refusal.{Refusal}
use Rattle.model.specs.Bytes.{tabulate, over}
use Rattle.model.specs.Circuit.{circuit_of, inputs, outputs, gates, gate_at, kind_of, charge, charges, sizes_hold, circuit_bytes}
use Rattle.model.specs.Scheme.{record_length}
use Rattle.model.specs.Garbling.{scheme_of}
use Rattle.model.specs.Refusals.{Verdict, fine, refused, refuse, ◌then◌, first_of, verdict_of, head_verdict, gate_verdict, record_verdict, gates_verdict, outputs_verdict, circuit_verdict, file_verdict, row_record_at}
use Rattle.model.specs.Operations.{no, yes, answer_of, ran_of, sizes_of, evaluate_verdict, EvaluateIs, evaluate_gates_verdict, EvaluateGatesIs}
use Rattle.model.proofs.Lists.{tabulate_snoc, tabulate_length}
use Rattle.model.proofs.Circuits.{charge_le, charges_le, charges_snoc}
use Rattle.model.proofs.Places.{record_high, record_low}
use Rattle.model.proofs.Accepted.{SizesHold, header_holds}
use Rattle.model.proofs.Records.{no_gate, GateFits, inputs_made, outputs_made, gates_made, not_named, head_made, gate_made, mark_made}
use Rattle.model.proofs.Verdicts.{then_fine, refuse_fine, and_both, then_nothing, then_refused, Given, yes_given, Turned, no_turned, no_given, first_next, first_found, ran_refused, ran_done}
use Rattle.circuit.specs.Accepted.{Accepted}
use Rattle.circuit.specs.Answers as Read
use Rattle.circuit.proofs.AcceptedLaws.{is_n, left_to_try}
use Rattle.material.specs.declared.records.Cursor.{Cursor}
use Rattle.material.specs.Answers.{Filed, step_of, row_answer, records_answer}
use Rattle.material.proofs.RowLaws.{row_room, filed_holds}
use Rattle.material.proofs.MaterialLaws.{filed}
use Rattle.material.proofs.RecordLaws.{Reading, records_start, at_turn, gate_passed, turn_next, records_end, records_fault, one_charged, answer_free, answer_wrong, answer_right}
use Rattle.evaluate.specs.declared.list.Tried.{Tried}
use Rattle.evaluate.specs.Answers.{rest_verdict}
use Rattle.evaluate.specs.Walk.{TokenStart, OpenedTo, WiresStart, WalkStart, Walking, WalkedIs}
use Rattle.evaluate.specs.GateList.{limits_verdict, limits_answer, ListStart, stride, row_passed, CursorFits, rows_seen, tried_answer, ListSeen, RowsSeen, StartsAt, RowRoom, pass_answer}
use Rattle.evaluate.proofs.RestLaws.{evaluate_verdict_law}
use Rattle.evaluate.proofs.WalkLaws.{walk_scheme, walk_start, walk_few, walk_end, walk_token, walk_stepped, wires_walk, wires_done}
use Rattle.evaluate.proofs.EvaluateLaws.{evaluate_fine, evaluate_made}

-- ---- begin, of the limits as they were tried

pub begun_first : (n m q : ℕ) (b : Bool) → q ≤ 65535 → b ≡ sizes_hold false n m q → b ≡ true
    → yes (record { n = n; m = m; q = q; p = 0 }) ≡ limits_answer n m q
unfolding refuse
begun_first n m q b few is_b h = rw (le-leb _ _ few, ← is_b, h)

-- ---- stride_of, of the bytes as they were counted

pub stride_none : (s : List ℕ) (bytes : ℕ) → length s ≤ 2 → bytes ≡ record_length (scheme_of 0) → bytes ≡ stride s
stride_none s bytes h e = e ∙ ap (λ (x : ℕ). record_length (scheme_of x)) (sym (get_or-eq_default s 0 h))

-- ---- row_passed

module _ (s : List ℕ) (bytes x due : ℕ) (here : Option Cursor) where
  pub passed_lost : here ≡ None → None ≡ row_passed s bytes x due here
  unfolding row_passed
  passed_lost e = rw e

  pub passed_free : x ≡ 0 → here ≡ row_passed s bytes x due here
  passed_free e = by here
    where
      by : (h : Option Cursor) → h ≡ row_passed s bytes x due h
      by None = unfold row_passed in refl
      by (Some at) = unfold row_passed in rw (eq-eqb _ _ e)

  module _ (at : Cursor) (is_at : here ≡ Some at) where
    module _ (n : x ≡ 0 → ⊥) where
      pub passed_short : length s < at.at + 4 → None ≡ row_passed s bytes x due here
      unfolding row_passed
      passed_short h = rw (is_at, ne_eqb _ _ n, lt-leb _ _ h)

      -- whether its record is there, as it was read
      module _ (l : at.at + 4 ≤ length s) (b : Bool) (is_b : b ≡ row_record_at s at.at due) where
        pub passed_wrong : not b ≡ true → None ≡ row_passed s bytes x due here
        unfolding row_passed
        passed_wrong e = rw (is_at, ne_eqb _ _ n, le-leb _ _ l, ← is_b, not-true b e)

        pub passed_right : not b ≡ false → (there : Cursor) → there.at ≡ at.at + bytes → Some there ≡ row_passed s bytes x due here
        unfolding row_passed
        passed_right e there is_there =
            rw (is_at, ne_eqb _ _ n, le-leb _ _ l, ← is_b, not-false b e) (ap (λ (y : ℕ). Some (record { at = y })) is_there)

pub ruleset passed_cases = (passed_lost, passed_free, passed_short, passed_wrong, passed_right)

-- what a place past a row record tells of that before it
record Came (s : List ℕ) (bytes x due : ℕ) (here : Option Cursor) (there : Cursor) : Type 0 where
  before : Cursor
  is_before : here ≡ Some before
  free : x ≡ 0 → there ≡ before
  found : (x ≡ 0 → ⊥) → row_record_at s before.at due ≡ true
  gone : (x ≡ 0 → ⊥) → there.at ≡ before.at + bytes
  near : there.at ≤ before.at + bytes

not_none : {A : Type 0} {at : Cursor} → None ≡ Some at → A
not_none e = absurd (let z : ◌≡◌ {A = ℕ} 0 1 = cc in omega arith)

came : (s : List ℕ) (bytes x due : ℕ) (here : Option Cursor) (there : Cursor) → row_passed s bytes x due here ≡ Some there → Came s bytes x due here there
unfolding row_passed
came s bytes x due None there e = not_none e
came s bytes x due (Some before) there e = charged (eqb x 0) refl (leb (before.at + 4) (length s)) (row_record_at s before.at due) refl e
  where
    charged : (b : Bool) → eqb x 0 ≡ b → (l r : Bool) → row_record_at s before.at due ≡ r
        → cond b (Some before) (cond (l && r) (Some (record { at = before.at + bytes })) None) ≡ Some there → Came s bytes x due (Some before) there
    charged true is_b l r is_r h =
        let same : there ≡ before = cc in
        let none : x ≡ 0 = eqb-true _ _ is_b in
        record {
          before = before;
          is_before = refl;
          free = λ _. same;
          found = λ n. absurd (n none);
          gone = λ n. absurd (n none);
          near = rw same (omega arith);
        }
    charged false is_b true true is_r h =
        let past : there ≡ record { at = before.at + bytes } = cc in
        let some : x ≡ 0 → ⊥ = eqb-false _ _ is_b in
        record {
          before = before;
          is_before = refl;
          free = λ e. absurd (some e);
          found = λ _. is_r;
          gone = λ _. rw past;
          near = rw past (omega arith);
        }
    charged false is_b true false is_r h = not_none h
    charged false is_b false r is_r h = not_none h

-- ---- where the row record of gate k is due, as it was seen

module _ (c s : List ℕ) where
  seen_next : (k : ℕ) → rows_seen c s (k + 1) ≡ row_passed s (stride s) (charge (kind_of (gate_at c k).code)) (inputs c + k + 1) (rows_seen c s k)
  unfolding rows_seen
  seen_next k = rw (add-one k)

  -- no further than k row records of four rows reach
  seen_near : (k : ℕ) (at : Cursor) → rows_seen c s k ≡ Some at → at.at ≤ 9 + 68 * k
  unfolding rows_seen
  seen_near zero at e = let first : at ≡ record { at = 9 } = cc in rw first (omega arith)
  seen_near (suc k) at e =
      let go = came s (stride s) (charge (kind_of (gate_at c k).code)) (inputs c + k + 1) (rows_seen c s k) at e in
      omega (arith, go.near, seen_near k go.before go.is_before, record_high (get_or s 2 0))

  -- once the circuit, and the material's header and length, are known to be right, the row records before it are right too
  module _ (z : Sizes) (known : Filed c z s) where
    module _ (k : ℕ) (more : k < z.q) (at : Cursor) (go : Came s (stride s) (charge (kind_of (gate_at c k).code)) (inputs c + k + 1) (rows_seen c s k) at)
        (reading : Reading c s z.q k go.before) where
      next : step_of (Ok at) ≡ pass_answer s go.before.at (gate_at c k).code (z.n + k + 1) → Reading c s z.q (suc k) at
      next is =
          let u = gate_passed c z s k go.before.at (at_turn c z s known k go.before reading more) (gate_at c k) refl (Ok at) is in
          rw (← add-one) (turn_next c z s known k go.before reading more (Ok at) u at refl)

      reading_next : Reading c s z.q (suc k) at
      reading_next = by (eqb (charge (kind_of (gate_at c k).code)) 0) refl
        where
          by : (b : Bool) → eqb (charge (kind_of (gate_at c k).code)) 0 ≡ b → Reading c s z.q (suc k) at
          by true is_b =
              let none : charge (kind_of (gate_at c k).code) ≡ 0 = eqb-true _ _ is_b in
              next (rw (go.free none) (answer_free s go.before.at (gate_at c k).code (z.n + k + 1) none))
          by false is_b =
              let some : charge (kind_of (gate_at c k).code) ≡ 0 → ⊥ = eqb-false _ _ is_b in
              let found : row_record_at s go.before.at (z.n + k + 1) ≡ true = rw (is_n c z known.circuit) (go.found some) in
              next (answer_right s go.before.at (gate_at c k).code (z.n + k + 1) some found at.at (go.gone some))

    seen_right : (k : ℕ) → k ≤ z.q → (at : Cursor) → rows_seen c s k ≡ Some at → Reading c s z.q k at
    unfolding rows_seen
    seen_right zero h at e = let first : at ≡ record { at = 9 } = cc in records_start c z s known at (rw first)
    seen_right (suc k) h at e =
        let go = came s (stride s) (charge (kind_of (gate_at c k).code)) (inputs c + k + 1) (rows_seen c s k) at e in
        reading_next k (omega arith) at go (seen_right k (omega arith) go.before go.is_before)

-- ---- the records of a list within the limits
module _ (z : Sizes) (gs : List Gate) (start : ListStart z gs) where
  c : List ℕ
  c = circuit_bytes z.n z.m gs

  n_made : inputs (circuit_bytes z.n z.m gs) ≡ z.n
  n_made = inputs_made z.n z.m gs start.n_fits start.m_fits start.few

  q_made : gates (circuit_bytes z.n z.m gs) ≡ z.q
  q_made = gates_made z.n z.m gs start.n_fits start.m_fits start.few ∙ sym start.is_q

  m_made : outputs (circuit_bytes z.n z.m gs) ≡ z.m
  m_made = outputs_made z.n z.m gs start.n_fits start.m_fits start.few

  head_fine : head_verdict (circuit_bytes z.n z.m gs) ≡ fine
  unfolding refuse
  head_fine = head_made z.n z.m gs start.n_fits start.m_fits start.few ∙ rw (← start.is_q, start.hold)

  held : SizesHold z.n z.m z.q
  held = rw (n_made, m_made, q_made) at (header_holds (circuit_bytes z.n z.m gs) head_fine).sizes

  pub list_some : 1 ≤ z.q
  list_some = held.q_low

  pub list_wires : z.n + z.q ≤ 65535
  list_wires = held.sum

  -- gate k of the circuit, as it was handed in
  module _ (k : ℕ) (more : k < z.q) (g : Gate) (is_g : g ≡ get_or gs k no_gate) (fits : (g.a.0 ≤ 65535) × (g.b.0 ≤ 65535)) where
    list_gate : g ≡ gate_at (circuit_bytes z.n z.m gs) k
    list_gate =
        let own : GateFits g = record { a_fits = fits.0; b_fits = fits.1 } in
        is_g ∙ sym (gate_made z.n z.m gs k (omega (arith, start.is_q)) (rw is_g at own))

    -- its verdict is that of the record
    at_record : record_verdict (circuit_bytes z.n z.m gs) (inputs (circuit_bytes z.n z.m gs)) k ≡ gate_verdict (z.n + k + 1) g
    unfolding record_verdict refuse ◌then◌
    at_record = rw (mark_made z.n z.m gs k (omega (arith, start.is_q)), ← list_gate, n_made)

-- ---- try_gates

-- k gates have no fault, so many of them are charged, and this was seen of the row records
pub record Trying (c s : List ℕ) (k charged : ℕ) (last next : Option Cursor) : Type 0 where
  pub no_fault : gates_verdict c (inputs c) k ≡ fine
  pub counted : charged ≡ charges (tabulate k (gate_at c))
  pub is_last : last ≡ rows_seen c s (k - 1)
  pub is_next : next ≡ rows_seen c s k

pub try_start : (c s : List ℕ) (first : Cursor) → first.at ≡ 9 → Trying c s 0 0 (Some first) (Some first)
unfolding first_of charges rows_seen
try_start c s first e =
    let same : ◌≡◌ {A = Option Cursor} (Some first) (Some (record { at = 9 })) = ap (λ (x : ℕ). Some (record { at = x })) e in
    record { no_fault = refl; counted = refl; is_last = same; is_next = same }

module _ (z : Sizes) (gs : List Gate) (start : ListStart z gs) (s : List ℕ) (k charged : ℕ) (last next : Option Cursor)
    (inv : Trying (circuit_bytes z.n z.m gs) s k charged last next) where
  pub try_end : k ≤ length gs → length gs ≤ k → yes (record { charged = charged; last = last }) ≡ tried_answer (circuit_bytes z.n z.m gs) s z.q
  try_end h l =
      let all : k ≡ z.q = omega (arith, start.is_q) in
      rw (← all, inv.no_fault, inv.counted, inv.is_last)

  pub try_own : k < length gs → Fits w16 (z.n + k + 1)
  try_own h = omega (arith, list_wires z gs start, start.is_q)

  module _ (more : k < length gs) (bytes : ℕ) (is_bytes : bytes ≡ stride s) where
    pub try_low : 4 ≤ bytes
    try_low = omega (arith, is_bytes, record_low (get_or s 2 0))

    pub try_fits : CursorFits bytes next
    try_fits at e =
        omega (arith, seen_near (circuit_bytes z.n z.m gs) s k at (sym inv.is_next ∙ e), start.few, is_bytes, record_high (get_or s 2 0))

    -- what was found at the gate
    module _ (g : Gate) (is_g : g ≡ get_or gs k no_gate) (fits : (g.a.0 ≤ 65535) × (g.b.0 ≤ 65535)) (r : Result ℕ Refusal)
        (is-r : answer_of r ≡ Read.gate_answer (z.n + k + 1) g) where
      few : k < z.q
      few = rw start.is_q more

      fine_gate : (x : ℕ) → r ≡ Ok x → Given (gate_verdict (z.n + k + 1) g) x (charge (kind_of g.code))
      fine_gate x e = yes_given (gate_verdict (z.n + k + 1) g) x (charge (kind_of g.code)) (rw e at is-r)

      at_most_one : (x : ℕ) → r ≡ Ok x → x ≤ 1
      at_most_one x e = rw (fine_gate x e).is_result (charge_le (kind_of g.code))

      pub try_counts : (x : ℕ) → r ≡ Ok x → Fits w64 (charged + x)
      try_counts x e =
          omega (
            arith,
            at_most_one x e,
            inv.counted,
            charges_le (tabulate k (gate_at (circuit_bytes z.n z.m gs))),
            tabulate_length k (gate_at (circuit_bytes z.n z.m gs)),
            start.few,
          )

      pub try_turn : (x : ℕ) → r ≡ Ok x → (there : Option Cursor) → there ≡ row_passed s bytes x (z.n + k + 1) next
          → Trying (circuit_bytes z.n z.m gs) s (k + 1) (charged + x) next there
      try_turn x e there is_there =
          let v = fine_gate x e in
          let gate : g ≡ gate_at (circuit_bytes z.n z.m gs) k = list_gate z gs start k few g is_g fits in
          record {
            no_fault = first_next _ k inv.no_fault (at_record z gs start k few g is_g fits ∙ v.is_fine);
            counted = rw (add-one, tabulate_snoc k (gate_at (circuit_bytes z.n z.m gs)), charges_snoc, ← gate, ← inv.counted, ← v.is_result);
            is_last = let same : k + 1 - 1 ≡ k = omega arith in rw same inv.is_next;
            is_next = rw (seen_next (circuit_bytes z.n z.m gs) s k, ← gate, ← v.is_result, n_made z gs start, ← inv.is_next, ← is_bytes) is_there;
          }

      pub try_fault : (f : Refusal) → r ≡ Err f → no (verdict_of f) ≡ tried_answer (circuit_bytes z.n z.m gs) s z.q
      try_fault f e = go (no_turned _ _ _ (rw e at is-r))
        where
          go : Turned (gate_verdict (z.n + k + 1) g) (verdict_of f) → no (verdict_of f) ≡ tried_answer (circuit_bytes z.n z.m gs) s z.q
          go v =
              let is : record_verdict (circuit_bytes z.n z.m gs) (inputs (circuit_bytes z.n z.m gs)) k ≡ refused v.number v.place =
              at_record z gs start k few g is_g fits ∙ v.is_v in
              rw (first_found (record_verdict (circuit_bytes z.n z.m gs) (inputs (circuit_bytes z.n z.m gs))) k z.q v.number v.place inv.no_fault few is, v.is_w)

pub ruleset try_cases = (try_start, try_end, try_own, try_low, try_fits, try_counts, try_turn, try_fault)

-- ---- start_of
module _ (q : ℕ) (last : Option Cursor) where
  pub starts_first : last ≡ None → (here : Cursor) → here.at ≡ 9 → StartsAt q last 0 here
  starts_first e here at = record { at_last = λ x f. not_none (sym e ∙ f); at_first = λ _. (refl, at) }

  pub starts_last : (here : Cursor) → last ≡ Some here → (k : ℕ) → k ≡ q - 1 → StartsAt q last k here
  starts_last here e k is_k = record { at_last = λ x f. (let same : here ≡ x = cc in (is_k, same)); at_first = λ f. not_none (sym f ∙ e) }

pub ruleset start_cases = (starts_first, starts_last)

-- ---- pass_row
module _ (s : List ℕ) (at bytes code due : ℕ) (room : RowRoom s at bytes code) (x : ℕ) (is_x : x ≡ charge (kind_of code)) where
  pub pass_free : x ≡ 0 → yes at ≡ pass_answer s at code due
  pass_free e = answer_free s at code due (sym is_x ∙ e)

  module _ (n : x ≡ 0 → ⊥) where
    charged : charge (kind_of code) ≡ 0 → ⊥
    charged e = n (is_x ∙ e)

    whole : at + bytes + 2 ≤ length s
    whole = omega (arith, rw (one_charged (kind_of code) charged).1 at room.room)

    pub pass_asks : at + 4 ≤ length s
    pass_asks = omega (arith, whole, room.is_bytes, record_low (get_or s 2 0))

    pub pass_fits : length s < 2 ^ 64 → at + bytes < 18446744073709551616
    pass_fits l = omega (arith, whole)

    -- whether its record is there, as it was read
    module _ (b : Bool) (is_b : b ≡ row_record_at s at due) where
      pub pass_wrong : not b ≡ true → no (refused 17 due) ≡ pass_answer s at code due
      pass_wrong e = answer_wrong s at code due charged (sym is_b ∙ not-true b e)

      pub pass_right : not b ≡ false → (there : ℕ) → there ≡ at + bytes → yes there ≡ pass_answer s at code due
      pass_right e there is_there = answer_right s at code due charged (sym is_b ∙ not-false b e) there (is_there ∙ rw room.is_bytes)

pub ruleset pass_cases = (pass_free, pass_asks, pass_fits, pass_wrong, pass_right)

-- ---- check_rows
module _ (z : Sizes) (gs : List Gate) (start : ListStart z gs) (s : List ℕ) (last : Option Cursor) (rows : RowsSeen (circuit_bytes z.n z.m gs) z s last) where
  pub rows_start : (k : ℕ) (here : Cursor) → StartsAt z.q last k here → Reading (circuit_bytes z.n z.m gs) s z.q k here
  rows_start k here at = by last refl
    where
      by : (l : Option Cursor) → last ≡ l → Reading (circuit_bytes z.n z.m gs) s z.q k here
      by None e =
          let first = at.at_first e in
          rw first.0 (records_start (circuit_bytes z.n z.m gs) z s rows.known here first.1)
      by (Some x) e =
          let first = at.at_last x e in
          rw (first.0, first.1)
          (seen_right (circuit_bytes z.n z.m gs) s z rows.known (z.q - 1) (omega arith) x (sym rows.is_last ∙ e))

  pub rows_low : (k : ℕ) (here : Cursor) → StartsAt z.q last k here → k ≤ z.q
  rows_low k here at = (rows_start k here at).within

  module _ (k : ℕ) (here : Cursor) (inv : Reading (circuit_bytes z.n z.m gs) s z.q k here) where
    pub rows_end : z.q ≤ k → yes here.at ≡ records_answer (circuit_bytes z.n z.m gs) s
    rows_end h = records_end (circuit_bytes z.n z.m gs) z s rows.known k here inv h

    pub rows_own : k < z.q → Fits w16 (z.n + k + 1)
    rows_own h = omega (arith, list_wires z gs start)

    module _ (more : k < z.q) (g : Gate) (is_g : g ≡ get_or gs k no_gate) (fits : (g.a.0 ≤ 65535) × (g.b.0 ≤ 65535)) where
      pub rows_room : (bytes : ℕ) → bytes ≡ stride s → RowRoom s here.at bytes g.code
      rows_room bytes is_bytes =
          let file = filed_holds (circuit_bytes z.n z.m gs) z s rows.known in
          let gate : g ≡ gate_at (circuit_bytes z.n z.m gs) k = list_gate z gs start k more g is_g fits in
          let h : k < gates (circuit_bytes z.n z.m gs) = omega (arith, q_made z gs start) in
          record {
            is_bytes = is_bytes;
            room = rw (is_bytes, gate, inv.placed) (omega (arith, row_room (circuit_bytes z.n z.m gs) s file.whole k h));
          }

      -- the answer to its record
      module _ (r : Result Cursor Refusal) (is-r : step_of r ≡ pass_answer s here.at g.code (z.n + k + 1)) where
        at_gate : step_of r ≡ row_answer (circuit_bytes z.n z.m gs) s k
        at_gate =
            gate_passed (circuit_bytes z.n z.m gs) z s k here.at (at_turn (circuit_bytes z.n z.m gs) z s rows.known k here inv more) g
            (list_gate z gs start k more g is_g fits) r is-r

        pub rows_turn : (there : Cursor) → r ≡ Ok there → Reading (circuit_bytes z.n z.m gs) s z.q (k + 1) there
        rows_turn there e = turn_next (circuit_bytes z.n z.m gs) z s rows.known k here inv more r at_gate there e

        pub rows_fault : (f : Refusal) → r ≡ Err f → no (verdict_of f) ≡ records_answer (circuit_bytes z.n z.m gs) s
        rows_fault f e = records_fault (circuit_bytes z.n z.m gs) z s rows.known k here inv more r at_gate f e

pub ruleset rows_cases = (list_some, rows_start, rows_low, rows_end, rows_own, rows_room, rows_turn, rows_fault)

-- ---- check_list_material
pub rows_known : (z : Sizes) (gs : List Gate) (s : List ℕ) (last : Option Cursor) → ListSeen (circuit_bytes z.n z.m gs) z s last → (r : Result Unit Refusal) → ran_of r ≡ file_verdict z s
    → r ≡ Ok tt → RowsSeen (circuit_bytes z.n z.m gs) z s last
rows_known z gs s last seen r is-r e = record { known = filed (circuit_bytes z.n z.m gs) z s seen.known r is-r e; is_last = seen.is_last }

-- ---- check_list
module _ (z : Sizes) (gs : List Gate) (start : ListStart z gs) (ts s : List ℕ) (room : ℕ) (t : Result Tried Refusal)
    (is_t : answer_of t ≡ tried_answer (circuit_bytes z.n z.m gs) s z.q) where
  by_gates : circuit_verdict (circuit_bytes z.n z.m gs) ≡ gates_verdict (circuit_bytes z.n z.m gs) (inputs (circuit_bytes z.n z.m gs)) z.q
  unfolding circuit_verdict outputs_verdict ◌then◌
  by_gates = rw (head_fine z gs start, not_named z.n z.m gs, q_made z gs start) (then_nothing _)

  pub list_fault : (f : Refusal) → t ≡ Err f → verdict_of f ≡ evaluate_verdict (circuit_bytes z.n z.m gs) ts s room
  list_fault f e = rw evaluate_verdict_law (then_refused _ _ _ _ (no_given _ _ _ (rw e at is_t) ∙ sym by_gates))

  module _ (tried : Tried) (e : t ≡ Ok tried) where
    abbrev counted : Sizes
    counted = record { n = z.n; m = z.m; q = z.q; p = tried.charged }

    found : Given (gates_verdict (circuit_bytes z.n z.m gs) (inputs (circuit_bytes z.n z.m gs)) z.q) tried
        (record { charged = charges (tabulate z.q (gate_at (circuit_bytes z.n z.m gs))); last = rows_seen (circuit_bytes z.n z.m gs) s (z.q - 1) })
    found = yes_given _ _ _ (rw e at is_t)

    known : Accepted (circuit_bytes z.n z.m gs) counted
    unfolding sizes_of circuit_of
    known = record {
      accepted = by_gates ∙ found.is_fine;
      sizes = rw (n_made z gs start, m_made z gs start, q_made z gs start, found.is_result);
    }

    pub list_counted : ListStart counted gs
    list_counted = record { n_fits = start.n_fits; m_fits = start.m_fits; is_q = start.is_q; few = start.few; hold = start.hold }

    pub list_seen : ListSeen (circuit_bytes z.n z.m gs) counted s tried.last
    list_seen = record { known = known; is_last = ap (λ (x : Tried). x.last) found.is_result }

    pub list_tried : (v : Verdict) → v ≡ rest_verdict (circuit_bytes z.n z.m gs) z.n ts s (16 * (z.n + z.q)) room
        → v ≡ evaluate_verdict (circuit_bytes z.n z.m gs) ts s room
    unfolding sizes_of
    list_tried v is_v =
        is_v
        ∙ left_to_try (circuit_bytes z.n z.m gs) counted known (λ x. rest_verdict (circuit_bytes z.n z.m gs) x.n ts s (16 * (x.n + x.q)) room)
        ∙ sym (evaluate_verdict_law (circuit_bytes z.n z.m gs) ts s room)

pub ruleset list_cases = (list_fault, list_counted, list_seen)

-- ---- write_list
module _ (z : Sizes) (gs : List Gate) (start : ListStart z gs) (s o : List ℕ) (walk : WalkStart (circuit_bytes z.n z.m gs) s z.n z.q o) (k at calls : ℕ) (d : List ℕ)
    (inv : Walking (circuit_bytes z.n z.m gs) s z.n z.q o k at calls d) where
  pub write_end : length gs ≤ k → WalkedIs (circuit_bytes z.n z.m gs) s z.n o calls d
  write_end l = walk_end (circuit_bytes z.n z.m gs) s z.n z.q o walk k at calls d inv (omega (arith, start.is_q))

  module _ (more : k < length gs) (g : Gate) (is_g : g ≡ get_or gs k no_gate) (fits : (g.a.0 ≤ 65535) × (g.b.0 ≤ 65535)) where
    few_gates : k < z.q
    few_gates = rw start.is_q more

    gate : g ≡ gate_at (circuit_bytes z.n z.m gs) k
    gate = list_gate z gs start k few_gates g is_g fits

    pub write_start : TokenStart (get_or s 2 0) z.n k g s at d
    write_start = walk_token (circuit_bytes z.n z.m gs) s z.n z.q o walk k at calls d inv few_gates g gate

    pub write_turn : (next calls' : ℕ) (d' : List ℕ) → OpenedTo (get_or s 2 0) z.n k g s at calls d next calls' d'
        → Walking (circuit_bytes z.n z.m gs) s z.n z.q o (k + 1) next calls' d'
    write_turn next calls' d' step = walk_stepped (circuit_bytes z.n z.m gs) s z.n z.q o walk k at calls d inv few_gates g gate next calls' d' step

pub ruleset write_cases = (walk_scheme, walk_start, walk_few, write_end, write_start, write_turn)

-- ---- walk_gates
module _ (n m : ℕ) (gs : List Gate) (ts s o : List ℕ) where
  turned_down : (i x : ℕ) → refused i x ≡ evaluate_gates_verdict n m gs ts s (length o) → EvaluateGatesIs n m gs ts s o (no (refused i x)) o
  turned_down i x e = record { answered = rw (← e); left = rw (← e) }

  -- with no more than 65,535 records the verdict is evaluate's
  by_bytes : length gs ≤ 65535 → evaluate_verdict (circuit_bytes n m gs) ts s (length o) ≡ evaluate_gates_verdict n m gs ts s (length o)
  unfolding evaluate_gates_verdict refuse ◌then◌
  by_bytes h = rw (le-ltb _ _ h)

  module _ (n_fits : n < 2 ^ 16) (m_fits : m < 2 ^ 16) (r : Result Sizes Refusal) (is-r : answer_of r ≡ limits_answer n m (length gs)) where
    by_limits : (i x : ℕ) → refused i x ≡ limits_verdict n m (length gs) → refused i x ≡ evaluate_gates_verdict n m gs ts s (length o)
    unfolding refuse circuit_verdict evaluate_gates_verdict ◌then◌
    by_limits i x e = by (leb (length gs) 65535) refl
      where
        by : (b : Bool) → leb (length gs) 65535 ≡ b → refused i x ≡ evaluate_gates_verdict n m gs ts s (length o)
        by true is_b =
            let few : length gs ≤ 65535 = leb-true _ _ is_b in
            let head : refused i x ≡ head_verdict (circuit_bytes n m gs) =
            rw is_b at e ∙ sym (head_made n m gs (omega arith) (omega arith) few) in
            rw (← by_bytes few, evaluate_verdict_law) (then_refused _ _ _ _ (then_refused _ _ _ _ (then_refused _ _ _ _ head)))
        by false is_b =
            let many : 65535 < length gs = leb-false _ _ is_b in
            rw is_b at e ∙ rw (lt-ltb _ _ many)

    pub gates_limits : (f : Refusal) → r ≡ Err f → EvaluateGatesIs n m gs ts s o (no (verdict_of f)) o
    gates_limits f e = turned_down _ _ (by_limits _ _ (no_given _ _ _ (rw e at is-r)))

    module _ (z : Sizes) (e : r ≡ Ok z) where
      found_sizes : Given (limits_verdict n m (length gs)) z (record { n = n; m = m; q = length gs; p = 0 })
      found_sizes = yes_given _ _ _ (rw e at is-r)

      within : (leb (length gs) 65535 ≡ true) × (sizes_hold false n m (length gs) ≡ true)
      within = and_both _ _ (not-false _ (refuse_fine _ _ _ found_sizes.is_fine))

      pub gates_start : ListStart z gs
      gates_start = record {
        n_fits = rw found_sizes.is_result (omega arith);
        m_fits = rw found_sizes.is_result (omega arith);
        is_q = rw found_sizes.is_result;
        few = leb-true _ _ within.0;
        hold = rw found_sizes.is_result within.1;
      }

      verdicts : evaluate_verdict (circuit_bytes z.n z.m gs) ts s (length o) ≡ evaluate_gates_verdict n m gs ts s (length o)
      verdicts = rw found_sizes.is_result (by_bytes (leb-true _ _ within.0))

      -- what was tried
      module _ (t : Result Unit Refusal) (is_t : ran_of t ≡ evaluate_verdict (circuit_bytes z.n z.m gs) ts s (length o)) where
        pub gates_turned : (f : Refusal) → t ≡ Err f → EvaluateGatesIs n m gs ts s o (no (verdict_of f)) o
        gates_turned f g = turned_down _ _ (ran_refused t _ is_t f g ∙ verdicts)

        module _ (g : t ≡ Ok tt) where
          is_fine : evaluate_verdict (circuit_bytes z.n z.m gs) ts s (length o) ≡ fine
          is_fine = sym (ran_done t _ is_t g)

          accepted : Accepted (circuit_bytes z.n z.m gs) (sizes_of (circuit_bytes z.n z.m gs))
          accepted = record { accepted = (then_fine _ _ (rw evaluate_verdict_law at is_fine)).0; sizes = refl }

          start : WiresStart (circuit_bytes z.n z.m gs) ts s z.n z.q o
          unfolding sizes_of
          start = rw (n_made z gs gates_start, q_made z gs gates_start) at (evaluate_fine (circuit_bytes z.n z.m gs) ts s o is_fine _ accepted)

          pub gates_room : length ts ≤ length o
          gates_room = omega (arith, start.tokens, start.walk.room)

          -- the tokens were copied to the front of the buffer
          module _ (d : List ℕ) (is_d : d ≡ over ts o) where
            pub gates_walk : WalkStart (circuit_bytes z.n z.m gs) s z.n z.q d
            gates_walk = wires_walk (circuit_bytes z.n z.m gs) ts s z.n z.q o start d is_d

            pub gates_done : (calls : ℕ) (x : List ℕ) → WalkedIs (circuit_bytes z.n z.m gs) s z.n d calls x → EvaluateGatesIs n m gs ts s o (yes calls) x
            gates_done calls x is =
                let made : EvaluateIs (circuit_bytes n m gs) ts s o (yes calls) x = rw found_sizes.is_result at
                (evaluate_made (circuit_bytes z.n z.m gs) ts s o is_fine calls x (wires_done (circuit_bytes z.n z.m gs) ts s z.n z.q o start d is_d calls x is)) in
                let v = by_bytes (leb-true _ _ within.0) in
                record { answered = rw (← v) made.answered; left = rw (← v) made.left }

pub ruleset gates_cases = (gates_limits, gates_start, gates_turned, gates_room, gates_walk, gates_done)
