-- A call's answer r, and what the chain makes of it, a: its refusal becomes the chain's, as `stop` says. Assumes nothing.
use mathlib.Core.Path.{◌≡◌, refl, sym, ap, ◌∙◌}
use Rattle.std.specs.Prelude.{Result, Ok, Err, IsErrAnd, MatchResult}
use Rattle.std.proofs.lemmas.Result.{err_from_is_err_and}
use Rattle.model.specs.declared.Refusal.{Refusal}
use Rattle.chain.specs.declared.Stopped.{Stopped}

-- what `map_err` says of the two
abbrev pub Becomes : {A : Type 0} → (Refusal → Stopped) → Result A Refusal → Result A Stopped → Type 0
Becomes stop r a = MatchResult r (λ x. a ≡ Ok x) (λ e. IsErrAnd a (λ d. d ≡ stop e))

pub is_err : {A : Type 0} (a : Result A Stopped) (d : Stopped) → IsErrAnd a (λ x. x ≡ d) → a ≡ Err d
is_err a d h = let p = err_from_is_err_and a h in p.1 ∙ ap Err p.2

module _ {A : Type 0} (stop : Refusal → Stopped) where
  -- the chain went on: so the call ran
  pub went_on : {r : Result A Refusal} {a : Result A Stopped} → Becomes stop r a → {x : A} → a ≡ Ok x → r ≡ Ok x
  went_on {r = Ok y} {a = a} becomes {x = x} e = let same : Ok y ≡ a = sym becomes in let z : y ≡ x = (let g = same ∙ e in cc) in ap Ok z
  went_on {r = Err f} becomes e = absurd (rw e at becomes)

  -- it stopped: so the call refused, and the chain answers that
  pub record StoppedBy (r : Result A Refusal) (answer : Result Unit Stopped) : Type 0 where
    pub refusal : Refusal
    pub refused : r ≡ Err refusal
    pub answered : answer ≡ Err (stop refusal)

  pub stopped : {r : Result A Refusal} {a : Result A Stopped} → Becomes stop r a → {d : Stopped} → a ≡ Err d
      → {answer : Result Unit Stopped} → IsErrAnd answer (λ x. x ≡ d) → StoppedBy r answer
  stopped {r = Ok y} becomes {d = d} e h = absurd (let g : Ok y ≡ Err d = sym becomes ∙ e in cc)
  stopped {r = Err f} becomes {d = d} e {answer = answer} h =
      record { refusal = f; refused = refl; answered = is_err answer d h ∙ ap Err (rw e at becomes) }
