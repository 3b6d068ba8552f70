-- The whole text: a law for each return. Assumes nothing.
use Rattle.std.specs.Prelude.{Result, Ok, Err}
use Prim.Native.Nat.{ℕ, ◌≤◌, ◌<◌}
use native.Mathlib.Omega.{arith}
use mathlib.Core.Path.{◌≡◌, ap, ◌∙◌}
use mathlib.Core.List.{List}
use lib.ListN.{length, take, replicate}
use lib.Seq.{take_at}
use Rattle.model.specs.declared.Refusal.{Refusal}
use Rattle.model.specs.declared.Sizes.{Sizes}
use Rattle.model.specs.Bytes.{over, put}
use Rattle.model.specs.Refusals.{number_of, place_of}
use Rattle.model.specs.Operations.{check_answer, answer_of}
use Rattle.model.specs.Program.{sizes_line, lengths_line, refused_line, too_long_line, program_text}
use Rattle.model.proofs.Program.{program_long, program_checked}
use Rattle.circuit.specs.Accepted.{Accepted}
use Rattle.circuit.proofs.AcceptedLaws.{check_refused, check_accepted}
use Rattle.text.specs.Written.{Wrote, TextIs}
use Rattle.text.proofs.WriteLaws.{wrote_then}

-- a text of few bytes is one of at most 147
as_text : (k : ℕ) (new text o : List ℕ) (r : ℕ) (left : List ℕ) → k ≤ 147 → text ≡ new → Wrote k new o 0 r left → Wrote 147 text o 0 r left
as_text k new text o r left h e w =
    rw e (record { is_left = w.is_left; is_end = w.is_end; few = omega (arith, w.few); kept = w.kept })

module _ (s o : List ℕ) (r : ℕ) (left : List ℕ) where
  pub text_long : 65536 < length s → Wrote 9 too_long_line o 0 r left → Wrote 147 (program_text s) o 0 r left
  text_long h w = as_text 9 too_long_line (program_text s) o r left (omega arith) (program_long s h) w

  module _ (short : length s ≤ 65536) (t : Result Sizes Refusal) (is_t : answer_of t ≡ check_answer s) where
    pub text_refused : (f : Refusal) → t ≡ Err f → Wrote 50 (refused_line (number_of f) (place_of f)) o 0 r left → Wrote 147 (program_text s) o 0 r left
    text_refused f e w = as_text 50 _ (program_text s) o r left (omega arith) (program_checked s short ∙ rw (← check_refused s t is_t f e)) w

    pub text_accepted : (z : Sizes) (a : ℕ) (p : List ℕ)
        → t ≡ Ok z → 147 ≤ length o → Wrote 84 (sizes_line z) o 0 a p → Wrote 63 (lengths_line z.m z.p) p a r left
        → Wrote 147 (program_text s) o 0 r left
    text_accepted z a p e h w v = as_text 147 _ (program_text s) o r left (omega arith) (program_checked s short ∙ rw (known.accepted, ← known.sizes))
        (wrote_then 84 63 (sizes_line z) (lengths_line z.m z.p) o 0 a r p left (omega arith) w v)
      where
        known : Accepted s z
        known = check_accepted s t is_t z e

pub text_is : (s left : List ℕ) (len : ℕ) → Wrote 147 (program_text s) (replicate 147 0) 0 len left → TextIs s left len
unfolding put over
text_is s left len w = record {
  is_text = ap (take len) w.is_left ∙ take_at (program_text s) _ len (omega (arith, w.is_end));
  is_len = omega (arith, w.is_end);
  fits = omega (arith, w.is_end, w.few, w.kept);
}
