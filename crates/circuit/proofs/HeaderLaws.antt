-- The header: the returns of `read_header`. Assumes nothing.
use Prim.Native.Nat.{ℕ, ◌+◌, ◌*◌, ◌≤◌, ◌<◌}
use mathlib.Core.Path.{◌≡◌, sym, ◌∙◌}
use mathlib.Core.Bool.{Bool, true, false, not, ◌||◌}
use mathlib.Core.List.{List}
use borrow.Author.Tests.{le-ltb, le-leb, lt-leb, eq-eqb, ne_eqb, not-false}
use lib.ListN.{length, get_or}
use lib.Dec.{leb, eqb}
use Rattle.model.specs.Bytes.{be16}
use Rattle.model.specs.Circuit.{mark_at, inputs, outputs, gates, named, most_outputs, sizes_hold, circuit_length}
use Rattle.model.specs.Refusals.{refused, refuse, ◌then◌, head_verdict}
use Rattle.model.specs.Operations.{no, yes}
use Rattle.circuit.specs.Answers.{header_answer}

-- ---- read_header
module _ (s : List ℕ) (l : 8 ≤ length s) (known : Bool) (is_Known : known ≡ (mark_at s 0 0x43 0x48 || named s)) where
  pub header_mark_law : not known ≡ true → no (refused 2 0) ≡ header_answer s
  unfolding head_verdict ◌then◌ refuse
  header_mark_law h = simp (le-ltb _ _ l, ← is_Known, h)

  -- the counts as they were read, whether they hold, and how many bytes there must be
  module _ (h : not known ≡ false) (by_name hold : Bool) (n m q whole : ℕ) (is-named : by_name ≡ named s)
      (is_n : n ≡ be16 s 2) (is_m : m ≡ be16 s 4) (is_q : q ≡ be16 s 6)
      (is_hold : hold ≡ sizes_hold by_name n m q) (is_whole : whole ≡ circuit_length by_name m q) where
    known_either : (mark_at s 0 0x43 0x48 || by_name) ≡ true
    known_either = rw is-named (sym is_Known ∙ not-false known h)

    pub header_limits : not hold ≡ true → no (refused 3 2) ≡ header_answer s
    unfolding head_verdict inputs outputs gates ◌then◌ refuse
    header_limits i = simp (le-ltb _ _ l, ← is-named, known_either, ← is_n, ← is_m, ← is_q, ← is_hold, i)

    pub header_length : not hold ≡ false → (length s ≡ whole → ⊥) → no (refused 4 (length s)) ≡ header_answer s
    unfolding head_verdict inputs outputs gates ◌then◌ refuse
    header_length i j = simp (le-ltb _ _ l, ← is-named, known_either, ← is_n, ← is_m, ← is_q, ← is_hold, i, ← is_whole, ne_eqb _ _ j)

    pub header_fine : not hold ≡ false → length s ≡ whole → yes (record { n = n; m = m; q = q }) ≡ header_answer s
    unfolding head_verdict inputs outputs gates ◌then◌ refuse
    header_fine i j = simp (le-ltb _ _ l, ← is-named, known_either, ← is_n, ← is_m, ← is_q, ← is_hold, i, ← is_whole, eq-eqb _ _ j)

pub ruleset header_cases = (header_mark_law, header_limits, header_length, header_fine)
