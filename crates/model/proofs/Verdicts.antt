-- Laws of refusals tried in turn. Assumes nothing.
use Prim.Native.Nat.{ℕ, zero, suc, ◌+◌, ◌-◌, ◌≤◌, ◌<◌}
use native.Mathlib.Nat.{add-zero, add-suc, le_of_suc-le-suc, eq-or-lt_of_le, not-suc-le-zero}
use native.Mathlib.Numerals.{add-one}
use native.Mathlib.Omega.{arith}
use mathlib.Core.Logic.{⊎_elim}
use mathlib.Core.Path.{◌≡◌, refl, sym, ap, ◌∙◌}
use mathlib.Core.Bool.{Bool, true, false, ◌&&◌, ◌||◌}
use lib.Bits.{bit_or, or_add_and, and_le_l, and_le_r}
use Rattle.std.specs.Prelude.{Result, Ok, Err}
use Rattle.std.specs.Result.{IsErrAnd}
use Rattle.std.proofs.lemmas.Result.{err_from_is_err_and}
use Rattle.model.specs.declared.Refusal.{Refusal}
use Rattle.model.specs.Refusals.{Verdict, fine, refused, refuse, ◌then◌, first_of, verdict_of}
use Rattle.model.specs.Operations.{Answer, no, yes, answer, answer_of, ran_of}

-- ---- what `fine` tells

pub then_fine : (v w : Verdict) → (v then w) ≡ fine → (v ≡ fine) × (w ≡ fine)
unfolding ◌then◌
then_fine fine w e = (refl, e)
then_fine (refused i x) w e = absurd (let z : ◌≡◌ {A = ℕ} 0 1 = cc in omega arith)

pub refuse_fine : (b : Bool) (i x : ℕ) → refuse b i x ≡ fine → b ≡ false
unfolding refuse
refuse_fine true i x e = absurd (let z : ◌≡◌ {A = ℕ} 0 1 = cc in omega arith)
refuse_fine false i x e = refl

pub and_both : (a b : Bool) → (a && b) ≡ true → (a ≡ true) × (b ≡ true)
and_both true b e = (refl, e)
and_both false b e = absurd (let z : ◌≡◌ {A = ℕ} 0 1 = cc in omega arith)

pub or_true : (b : Bool) → (b || true) ≡ true
or_true true = refl
or_true false = refl

pub or_false : (b : Bool) → (b || false) ≡ b
or_false true = refl
or_false false = refl

-- ---- refusals as steps: each is tried once those before it are done, and the first that refuses is the answer

-- where a step refuses, so does all that starts with it
pub then_refused : (i x : ℕ) (v w : Verdict) → refused i x ≡ v → refused i x ≡ (v then w)
unfolding ◌then◌
then_refused i x v w e = rw (← e)

-- where it is done, what comes after it decides
pub then_done : (u v w : Verdict) → fine ≡ v → u ≡ w → u ≡ (v then w)
unfolding ◌then◌
then_done u v w e g = rw (← e, g)

-- what refuses nothing may be left out
pub then_nothing : (v : Verdict) → (v then fine) ≡ v
unfolding ◌then◌
then_nothing fine = refl
then_nothing (refused i x) = refl

pub then_assoc : (u v w : Verdict) → ((u then v) then w) ≡ (u then (v then w))
unfolding ◌then◌
then_assoc fine v w = refl
then_assoc (refused i x) v w = refl

-- a step that answered r
module _ (r : Result Unit Refusal) (v : Verdict) (is_r : ran_of r ≡ v) where
  pub ran_refused : (f : Refusal) → r ≡ Err f → verdict_of f ≡ v
  ran_refused f e = rw e at is_r

  pub ran_done : r ≡ Ok tt → fine ≡ v
  ran_done e = rw e at is_r

-- a refusal that `?` hands on: r is what is answered
module _ {A : Type 0} (r : Result A Refusal) (f : Refusal) (handed_on : IsErrAnd r (λ e. e ≡ f)) where
  pub passed : r ≡ Err f
  passed = let p = err_from_is_err_and r handed_on in p.1 ∙ ap Err p.2

  pub no_passed : (v : Answer A) → no (verdict_of f) ≡ v → answer_of r ≡ v
  no_passed v e = rw passed e

pub ran_passed : (r : Result Unit Refusal) (f : Refusal) → IsErrAnd r (λ e. e ≡ f) → (v : Verdict) → verdict_of f ≡ v → ran_of r ≡ v
ran_passed r f h v e = rw (passed r f h) e

-- whatever a chain of steps answers
pub ruleset steps = (then_refused, then_done, ran_refused, ran_done, ran_passed, no_passed)

-- ---- a search by index

module _ (f : ℕ → Verdict) where
  first_stays : (k j i x : ℕ) → first_of f k ≡ refused i x → first_of f (k + j) ≡ refused i x
  unfolding first_of ◌then◌ refuse
  first_stays k zero i x e = rw add-zero e
  first_stays k (suc j) i x e = rw (add-suc, first_stays k j i x e)

  -- one more without a fault
  pub first_next : (k : ℕ) → first_of f k ≡ fine → f k ≡ fine → first_of f (k + 1) ≡ fine
  unfolding first_of ◌then◌ refuse
  first_next k e g = rw (add-one, e, g)

  -- the first fault is the search's, whatever comes after it
  pub first_found : (k q i x : ℕ) → first_of f k ≡ fine → k < q → f k ≡ refused i x → first_of f q ≡ refused i x
  unfolding first_of ◌then◌ refuse
  first_found k q i x e h g =
      let y : first_of f (suc k) ≡ refused i x = rw (e, g) in
      let at : q ≡ suc k + (q - suc k) = omega arith in
      rw at (first_stays (suc k) (q - suc k) i x y)

  -- no fault: none at any index
  pub first_each : (q k : ℕ) → first_of f q ≡ fine → k < q → f k ≡ fine
  unfolding first_of
  first_each zero k e h = absurd (not-suc-le-zero h)
  first_each (suc q) k e h =
      let a = then_fine _ _ e in
      ⊎_elim (λ i. rw i a.1) (λ i. first_each q k a.0 i) (eq-or-lt_of_le (le_of_suc-le-suc h))

  -- none at any index: no fault
  pub first_all : (q : ℕ) → ((k : ℕ) → k < q → f k ≡ fine) → first_of f q ≡ fine
  unfolding first_of ◌then◌
  first_all zero h = refl
  first_all (suc q) h = rw (first_all q (λ k l. h k (omega arith)), h q (omega arith))

-- a search whose turn k answered r: it goes on, or this is the fault that it tells
module _ (f : ℕ → Verdict) (k : ℕ) (so_far : first_of f k ≡ fine) (r : Result Unit Refusal) (is_r : ran_of r ≡ f k) where
  pub search_turn : r ≡ Ok tt → first_of f (k + 1) ≡ fine
  search_turn e = first_next f k so_far (sym (ran_done r _ is_r e))

  pub search_fault : (m : ℕ) → k < m → (e : Refusal) → r ≡ Err e → verdict_of e ≡ first_of f m
  search_fault m more e g = sym (first_found f k m _ _ so_far more (sym (ran_refused r _ is_r e g)))

pub search_start : (f : ℕ → Verdict) → first_of f 0 ≡ fine
unfolding first_of
search_start f = refl

pub ruleset search_cases = (search_start, search_turn, search_fault)

-- searches that find the same at each index
pub first_same : (f g : ℕ → Verdict) (q : ℕ) → ((k : ℕ) → k < q → f k ≡ g k) → first_of f q ≡ first_of g q
unfolding first_of
first_same f g zero h = refl
first_same f g (suc q) h = rw (first_same f g q (λ k l. h k (omega arith)), h q (omega arith))

-- ---- a search by a loop: no fault among the first i of m

pub record Searched (f : ℕ → Verdict) (m i : ℕ) : Type 0 where
  pub within : i ≤ m
  pub none_yet : first_of f i ≡ fine

module _ (f : ℕ → Verdict) (m : ℕ) where
  pub searched_start : Searched f m 0
  unfolding first_of
  searched_start = record { within = omega arith; none_yet = refl }

  module _ (i : ℕ) (inv : Searched f m i) where
    pub searched_turn : i < m → f i ≡ fine → Searched f m (i + 1)
    searched_turn h e = record { within = omega arith; none_yet = first_next f i inv.none_yet e }

    pub searched_found : i < m → (n x : ℕ) → f i ≡ refused n x → refused n x ≡ first_of f m
    searched_found h n x e = sym (first_found f i m n x inv.none_yet h e)

    pub searched_end : m ≤ i → fine ≡ first_of f m
    searched_end l = let e : m ≡ i = omega (arith, inv.within) in rw (e, inv.none_yet)

pub ruleset searched = (searched_start, searched_turn, searched_found, searched_end)

-- all of them together, without a branch: where `all` is 0 there was none

pub record Together (f : ℕ → Verdict) (m all i : ℕ) : Type 0 where
  pub within : i ≤ m
  pub if_none : all ≡ 0 → Searched f m i

module _ (f : ℕ → Verdict) (m : ℕ) where
  pub together_start : Together f m 0 0
  together_start = record { within = omega arith; if_none = λ _. searched_start f m }

  module _ (all i : ℕ) (inv : Together f m all i) where
    pub together_turn : i < m → (d : ℕ) → (d ≡ 0 → f i ≡ fine) → Together f m (bit_or all d) (i + 1)
    together_turn h d e = record { within = omega arith; if_none = λ none. searched_turn f m i (inv.if_none (before none)) h (e (last none)) }
      where
        before : bit_or all d ≡ 0 → all ≡ 0
        before none = omega (arith, or_add_and all d, and_le_r all d)

        last : bit_or all d ≡ 0 → d ≡ 0
        last none = omega (arith, or_add_and all d, and_le_l all d)

    pub together_end : m ≤ i → all ≡ 0 → fine ≡ first_of f m
    together_end l none = searched_end f m i (inv.if_none none) l

-- ---- what an answer tells of its verdict

pub record Given {A : Type 0} (v : Verdict) (a b : A) : Type 0 where
  pub is_fine : v ≡ fine
  pub is_result : a ≡ b

pub yes_given : {A : Type 0} (v : Verdict) (a b : A) → yes a ≡ answer v b → Given v a b
yes_given fine a b e = record { is_fine = refl; is_result = cc }
yes_given (refused i x) a b e = absurd (let z : ◌≡◌ {A = ℕ} 0 1 = cc in omega arith)

-- v and w are the same refusal
pub record Turned (v w : Verdict) : Type 0 where
  pub number : ℕ
  pub place : ℕ
  pub is_v : v ≡ refused number place
  pub is_w : w ≡ refused number place

pub no_turned : {A : Type 0} (v w : Verdict) (a : A) → no w ≡ answer v a → Turned v w
no_turned fine w a e = absurd (let z : ◌≡◌ {A = ℕ} 0 1 = cc in omega arith)
no_turned (refused i x) w a e = record { number = i; place = x; is_v = refl; is_w = cc }

pub no_given : {A : Type 0} (v w : Verdict) (a : A) → no w ≡ answer v a → w ≡ v
no_given {A} v w a e = go (no_turned v w a e)
  where
    go : Turned v w → w ≡ v
    go t = rw (t.is_v, t.is_w)

-- a refusal is given whatever the results would have been
pub no_other : {A B : Type 0} (v w : Verdict) (a : A) (b : B) → no w ≡ answer v a → no w ≡ answer v b
no_other {A} {B} v w a b e = go (no_turned v w a e)
  where
    go : Turned v w → no w ≡ answer v b
    go t = rw (t.is_v, t.is_w)

-- and whatever would have been tried after it
pub no_then : {A B : Type 0} (v w u : Verdict) (a : A) (b : B) → no w ≡ answer v a → no w ≡ answer (v then u) b
unfolding ◌then◌
no_then {A} {B} v w u a b e = go (no_turned v w a e)
  where
    go : Turned v w → no w ≡ answer (v then u) b
    go t = rw (t.is_v, t.is_w)
