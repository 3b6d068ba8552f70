-- An answer as a caller in C gets it (include/weighhare.h): the number that is returned, and the four words of `answer`.
use Rattle.std.specs.Prelude.{ℕ, ◌≡◌, List, [], ◌∷◌}
use Rattle.model.specs.declared.Garbled.{Garbled}
use Rattle.model.specs.declared.Sizes.{Sizes}
use Rattle.model.specs.Refusals.{Verdict, fine, refused}
use Rattle.model.specs.Operations.{Answer, no, yes}

pub data Out : Type 0 where
  out : (number : ℕ) (words : List ℕ) → Out

-- a refusal: its number, and its place in the first word; or neither, with no results
abbrev pub verdict_out : Verdict → Out
verdict_out fine = out 0 (0 ∷ 0 ∷ 0 ∷ 0 ∷ [])
verdict_out (refused i x) = out i (x ∷ 0 ∷ 0 ∷ 0 ∷ [])

-- an answer: a refusal, or the words of its results
abbrev pub answer_out : {A : Type 0} → (A → List ℕ) → Answer A → Out
answer_out words (no v) = verdict_out v
answer_out words (yes x) = out 0 (words x)

-- no results but the bytes that are written
abbrev pub no_words : Unit {0} → List ℕ
no_words x = 0 ∷ 0 ∷ 0 ∷ 0 ∷ []

-- check: "n, m, q, p"
abbrev pub sizes_words : Sizes → List ℕ
sizes_words z = z.n ∷ z.m ∷ z.q ∷ z.p ∷ []

abbrev pub sizes_out : Answer Sizes → Out
sizes_out = answer_out sizes_words

-- garble: "the material's length and the calls of π made"
abbrev pub made_words : Garbled → List ℕ
made_words g = g.length ∷ g.calls ∷ 0 ∷ 0 ∷ []

abbrev pub made_out : Answer Garbled → Out
made_out = answer_out made_words

-- one number. Evaluate: "the calls of π"; what writes a circuit: "its length" (02, job 1)
abbrev pub number_words : ℕ → List ℕ
number_words number = number ∷ 0 ∷ 0 ∷ 0 ∷ []

abbrev pub number_out : Answer ℕ → Out
number_out = answer_out number_words

-- What every contract says: the caller has the operation's answer, which `Is` defines, as `out_of` sets it out.
pub record Handed {X : Type 0} (Is : X → Type 0) (out_of : X → Out) (number : ℕ) (words : List ℕ) : Type 0 where
  pub result : X
  pub is : Is result
  pub set_out : out number words ≡ out_of result
