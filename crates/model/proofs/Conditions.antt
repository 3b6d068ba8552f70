-- Conditions that are tried in turn: what the tests of their parts give; and what it tells of an operation's arguments that one does not refuse.
-- Assumes nothing.
use Prim.Native.Nat.{ℕ, ◌*◌, ◌≤◌, ◌<◌}
use mathlib.Core.Path.{◌≡◌, sym, ◌∙◌}
use mathlib.Core.Bool.{Bool, true, false, not, ◌&&◌}
use mathlib.Core.List.{List}
use borrow.Author.Tests.{lt-ltb, le-ltb, le-leb, lt-leb, eq-eqb, ne_eqb, ltb-false, leb-true, eqb-true, not-true, not-false}
use lib.ListN.{length}
use lib.Dec.{ltb, leb, eqb}
use Rattle.model.specs.Garbling.{Known}
use Rattle.model.specs.Refusals.{Verdict, fine, refused, refuse, ◌then◌, seed_verdict, bits_verdict, values_verdict, tokens_verdict, scheme_verdict, room_verdict}
use Rattle.model.specs.Operations.{no, yes, answer}
use Rattle.model.proofs.Verdicts.{steps, then_fine, then_assoc, refuse_fine, and_both}

-- ---- an answer by its verdict, and a verdict by its condition
module _ {A : Type 0} (v : Verdict) where
  pub answer_no : (i x : ℕ) (a : A) → refused i x ≡ v → no (refused i x) ≡ answer v a
  answer_no i x a e = rw (← e)

  pub answer_yes : (a b : A) → fine ≡ v → a ≡ b → yes a ≡ answer v b
  answer_yes a b e f = rw (← e, f)

module _ (t : Bool) (i x : ℕ) where
  pub holds_refused : true ≡ t → refused i x ≡ refuse t i x
  unfolding refuse
  holds_refused e = rw (← e)

  pub fails_done : false ≡ t → fine ≡ refuse t i x
  unfolding refuse
  fails_done e = rw (← e)

-- ---- a condition by its parts
pub not_holds : (a : Bool) → false ≡ a → true ≡ not a
not_holds a e = rw (← e)

pub not_fails : (a : Bool) → true ≡ a → false ≡ not a
not_fails a e = rw (← e)

module _ (a b : Bool) where
  pub first_fails : false ≡ a → false ≡ (a && b)
  first_fails e = rw (← e)

  pub second_fails : true ≡ a → false ≡ b → false ≡ (a && b)
  second_fails e f = rw (← e) f

  pub both_hold : true ≡ a → true ≡ b → true ≡ (a && b)
  both_hold e f = rw (← e) f

  -- b as another function found it
  module _ (found : a ≡ b) where
    pub found_true : a ≡ true → true ≡ b
    found_true e = sym e ∙ found

    pub found_false : a ≡ false → false ≡ b
    found_false e = sym e ∙ found

    pub found_not : not a ≡ true → false ≡ b
    found_not e = found_false (not-true a e)

    pub found_so : not a ≡ false → true ≡ b
    found_so e = found_true (not-false a e)

-- ---- a test of two numbers
module _ (a b : ℕ) where
  pub less_holds : a < b → true ≡ ltb a b
  less_holds h = sym (lt-ltb _ _ h)

  pub less_fails : b ≤ a → false ≡ ltb a b
  less_fails h = sym (le-ltb _ _ h)

  pub most_holds : a ≤ b → true ≡ leb a b
  most_holds h = sym (le-leb _ _ h)

  pub most_fails : b < a → false ≡ leb a b
  most_fails h = sym (lt-leb _ _ h)

  pub same_holds : a ≡ b → true ≡ eqb a b
  same_holds h = sym (eq-eqb _ _ h)

  pub same_fails : (a ≡ b → ⊥) → false ≡ eqb a b
  same_fails h = sym (ne_eqb _ _ h)

  -- b as it was worked out
  module _ (l : ℕ) (is_l : l ≡ b) where
    pub made_holds : a ≡ l → true ≡ eqb a b
    made_holds h = same_holds (h ∙ is_l)

    pub made_fails : (a ≡ l → ⊥) → false ≡ eqb a b
    made_fails h = same_fails (λ e. h (e ∙ sym is_l))

-- with these, `search` answers each return of a function that tries conditions in turn
pub ruleset conditions = (answer_no, answer_yes, holds_refused, fails_done, not_holds, not_fails, first_fails, second_fails, both_hold, found_true, found_false, found_not, found_so, less_holds, less_fails, most_holds, most_fails, same_holds, same_fails, made_holds, made_fails, steps)

-- ---- 9 and 10 after what was tried before them, together or one after the other
pub values_apart : (u : Verdict) (n : ℕ) (v : List ℕ) → (u then values_verdict n v) ≡ (u then refuse (not (eqb (length v) n)) 9 (length v) then bits_verdict v)
unfolding values_verdict
values_apart u n v = sym (then_assoc u _ _)

-- ---- what it tells that one does not refuse

pub seed_fine : (seed : List ℕ) → seed_verdict seed ≡ fine → length seed ≡ 16
unfolding seed_verdict
seed_fine seed e = eqb-true _ _ (not-false _ (refuse_fine _ _ _ e))

pub record ValuesHold (n : ℕ) (v : List ℕ) : Type 0 where
  pub as_many : length v ≡ n
  pub are_bits : bits_verdict v ≡ fine

pub values_fine : (n : ℕ) (v : List ℕ) → values_verdict n v ≡ fine → ValuesHold n v
unfolding values_verdict
values_fine n v e = let a = then_fine _ _ e in record { as_many = eqb-true _ _ (not-false _ (refuse_fine _ _ _ a.0)); are_bits = a.1 }

pub tokens_fine : (k : ℕ) (ts : List ℕ) → tokens_verdict k ts ≡ fine → length ts ≡ 16 * k
unfolding tokens_verdict
tokens_fine k ts e = eqb-true _ _ (not-false _ (refuse_fine _ _ _ e))

pub scheme_fine : (scheme : ℕ) → scheme_verdict scheme ≡ fine → Known scheme
unfolding scheme_verdict
scheme_fine scheme e =
    let h = and_both _ _ (not-false _ (refuse_fine _ _ _ e)) in
    record { low = leb-true _ _ h.0; high = leb-true _ _ h.1 }

pub room_fine : (needed room : ℕ) → room_verdict needed room ≡ fine → needed ≤ room
unfolding room_verdict
room_fine needed room e = ltb-false _ _ (refuse_fine _ _ _ e)
