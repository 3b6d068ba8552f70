-- What a material ends in, by its mark: a law for each return of src/ending.rt. Assumes nothing.
use Rattle.std.specs.Prelude.{Result, Ok, Err}
use Rattle.std.specs.Result.{MatchResult, IsErrAnd}
use Rattle.std.proofs.lemmas.Result.{err_from_is_err_and}
use Rattle.model.specs.declared.Refusal.{Refusal}
use Prim.Native.Nat.{ℕ, zero, suc, ◌+◌, ◌*◌, ◌-◌, ◌≤◌, ◌<◌}
use native.Mathlib.Nat.{one-mul}
use native.Mathlib.Omega.{arith}
use mathlib.Core.Path.{◌≡◌, refl, sym, ap, ◌∙◌}
use mathlib.Core.Bool.{Bool, true, false, ◌&&◌, ◌||◌}
use mathlib.Core.List.{List, [], ◌∷◌}
use borrow.Author.Tests.{eq-eqb, ne_eqb}
use lib.Dec.{eqb}
use lib.ListN.{length, get_or, take, drop, length-take, length-drop}
use lib.Seq.{get_or-take, get_or-drop, take-take, take-add, drop-drop, length-take-le}
use Rattle.model.specs.Circuit.{mark_at}
use Rattle.model.specs.Ending.{first_hash, second_hash, colours, hashes, ending_of}
use Rattle.model.specs.Material.{hashed, last_bytes, material_length}
use Rattle.model.specs.Evaluation.{bytes_for}
use Rattle.model.specs.Refusals.{Verdict, fine, refused, refuse, ◌then◌, first_of, value_verdict, bits_verdict, mark_verdict, stored_verdict}
use Rattle.model.specs.Operations.{ran_of}
use Rattle.model.specs.Kept.{last_byte01}
use Rattle.model.proofs.Verdicts.{or_true, or_false, first_all, first_same}
use Rattle.model.proofs.Endings.{second_hash_law}
use Rattle.model.proofs.OldEnding.{byte_verdict}

and_nothing : (b : Bool) → false ≡ (b && false)
and_nothing true = refl
and_nothing false = refl

-- ---- is_hashed
pub hashed_short : (s : List ℕ) → length s < 2 → false ≡ hashed s
unfolding hashed mark_at
hashed_short [] h = refl
hashed_short (x ∷ []) h = and_nothing (eqb x 0x47)
hashed_short (x ∷ y ∷ s) h = absurd (omega arith)

pub hashed_marked : (s : List ℕ) (b : Bool) → b ≡ mark_at s 0 0x47 0x4A → b ≡ hashed s
unfolding hashed
hashed_marked s b e = e

pub ruleset hashed_cases = (hashed_short, hashed_marked)

-- ---- known_mark
module _ (s : List ℕ) (b : Bool) (is_b : b ≡ hashed s) where
  pub known_hashes : b ≡ true → true ≡ (mark_at s 0 0x47 0x48 || hashed s)
  known_hashes e = rw (← is_b, e) (sym (or_true (mark_at s 0 0x47 0x48)))

  pub known_colours : b ≡ false → (r : Bool) → r ≡ mark_at s 0 0x47 0x48 → r ≡ (mark_at s 0 0x47 0x48 || hashed s)
  known_colours e r is_r = is_r ∙ rw (← is_b, e) (sym (or_false (mark_at s 0 0x47 0x48)))

pub ruleset known_cases = (known_hashes, known_colours)

-- ---- check_mark
module _ (mark : ℕ) where
  pub mark_colours : mark ≡ 0x4748 → fine ≡ mark_verdict mark
  unfolding mark_verdict refuse
  mark_colours e = rw (eq-eqb mark 0x4748 e)

  pub mark_hashes : mark ≡ 0x474A → fine ≡ mark_verdict mark
  unfolding mark_verdict refuse
  mark_hashes e = rw (eq-eqb mark 0x474A e, or_true (eqb mark 0x4748))

  pub mark_other : (mark ≡ 0x4748 → ⊥) → (mark ≡ 0x474A → ⊥) → refused 13 0 ≡ mark_verdict mark
  unfolding mark_verdict refuse
  mark_other h l = rw (ne_eqb mark 0x4748 h, ne_eqb mark 0x474A l)

pub ruleset mark_cases = (mark_colours, mark_hashes, mark_other)

-- ---- header_mark, last_mark, last_bytes
pub header_hashes : (b : Bool) → b ≡ true → 0x4A ≡ (ending_of b).header_mark
unfolding ending_of hashes
header_hashes b e = rw e

pub header_colours : (b : Bool) → b ≡ false → 0x48 ≡ (ending_of b).header_mark
unfolding ending_of colours
header_colours b e = rw e

pub last_hashes : (b : Bool) → b ≡ true → 0x41 ≡ (ending_of b).last_mark
unfolding ending_of hashes
last_hashes b e = rw e

pub last_colours : (b : Bool) → b ≡ false → 0x44 ≡ (ending_of b).last_mark
unfolding ending_of colours
last_colours b e = rw e

pub bytes_hashes : (b : Bool) (m : ℕ) → b ≡ true → 32 * m ≡ last_bytes b m
unfolding last_bytes ending_of hashes
bytes_hashes b m e = rw e

pub bytes_colours : (b : Bool) (m : ℕ) → b ≡ false → m ≡ last_bytes b m
unfolding last_bytes ending_of colours
bytes_colours b m e = rw e (sym (one-mul m))

pub ruleset ending_cases = (header_hashes, header_colours, last_hashes, last_colours, bytes_hashes, bytes_colours)

-- ---- due_length, in src/file.rt
pub due_is : (s : List ℕ) (b : Bool) → b ≡ hashed s → (scheme m p last x : ℕ) → (last ≡ last_bytes b m) × (last ≤ 2097120) → x ≡ material_length scheme last p
    → x ≡ material_length scheme (last_bytes (hashed s) m) p
due_is s b is_b scheme m p last x is_last is_x = is_x ∙ rw (is_last.0, is_b)

-- the same, with 18 at a place for whatever refuses
abbrev as18 : ℕ → Verdict → Verdict
as18 x fine = fine
as18 x (refused i y) = refused 18 x

as18_refuse : (x : ℕ) (b : Bool) (i y : ℕ) → refuse b 18 x ≡ as18 x (refuse b i y)
unfolding refuse
as18_refuse x true i y = refl
as18_refuse x false i y = refl

as18_then : (x : ℕ) (v w : Verdict) → (as18 x v then as18 x w) ≡ as18 x (v then w)
unfolding ◌then◌
as18_then x fine w = refl
as18_then x (refused i y) w = refl

module _ (s : List ℕ) (start m : ℕ) where
  -- the m bytes, as a part of the material
  abbrev bytes : List ℕ
  bytes = take (start + 2 + m - (start + 2)) (drop (start + 2) s)

  bytes_first : (k : ℕ) → k ≤ m → first_of (last_byte01 s start) k ≡ as18 start (first_of (value_verdict bytes) k)
  unfolding first_of value_verdict last_byte01
  bytes_first zero h = refl
  bytes_first (suc k) h =
      let e : get_or bytes k 0 ≡ get_or s (start + 2 + k) 0 = get_or-take (start + 2 + m - (start + 2)) _ k 0 (omega arith) ∙ get_or-drop (start + 2) s k 0 in
      rw (bytes_first k (omega arith), as18_refuse start _ 10 k, ← e) (as18_then start _ _)

  -- ---- check_colours: the bytes as they were searched
  module _ (fits : start + 2 + m ≤ length s) (t : Result Unit Refusal) (is_t : ran_of t ≡ bits_verdict bytes) where
    many : length bytes ≡ m
    many = simp (length-take, length-drop) (omega arith)

    searched : as18 start (ran_of t) ≡ first_of (stored_verdict colours s start) m
    searched = rw (is_t, many, first_same _ _ m (λ i h. byte_verdict s start i)) (sym (bytes_first m (omega arith)))

    bytes_fine : t ≡ Ok tt → fine ≡ first_of (stored_verdict colours s start) m
    bytes_fine e = rw e at searched

    bytes_fault : (f : Refusal) → t ≡ Err f → refused 18 start ≡ first_of (stored_verdict colours s start) m
    bytes_fault f e = rw e at searched

    -- and the search's fault made that of the record, as Q says of it
    module _ (Q : Refusal → Refusal → Type 0) (is_Q : (f e : Refusal) → Q f e → e ≡ Refusal.LastRecord start) (r : Result Unit Refusal) where
      pub bytes_searched : MatchResult t (λ x. r ≡ Ok x) (λ f. IsErrAnd r (Q f)) → ran_of r ≡ first_of (stored_verdict colours s start) m
      bytes_searched h = go t refl h
        where
          go : (u : Result Unit Refusal) → t ≡ u → MatchResult u (λ x. r ≡ Ok x) (λ f. IsErrAnd r (Q f)) → ran_of r ≡ first_of (stored_verdict colours s start) m
          go (Ok x) e h = rw h (bytes_fine e)
          go (Err f) e h = let p = err_from_is_err_and r h in rw (p.1, is_Q f p.0 p.2) (bytes_fault f e)

-- ---- check_stored
module _ (s : List ℕ) (start m : ℕ) (b : Bool) (is_b : b ≡ hashed s) where
  pub stored_hashes : b ≡ true → fine ≡ first_of (stored_verdict (ending_of (hashed s)) s start) m
  unfolding ending_of stored_verdict refuse
  stored_hashes e = rw (← is_b, e) (sym (unfold hashes in first_all _ m (λ i h. refl)))

  pub stored_colours : b ≡ false → (r : Result Unit Refusal) → ran_of r ≡ first_of (stored_verdict colours s start) m
      → ran_of r ≡ first_of (stored_verdict (ending_of (hashed s)) s start) m
  unfolding ending_of
  stored_colours e r is_r = is_r ∙ rw (← is_b, e)

pub ruleset stored_cases = (stored_hashes, stored_colours)

-- ---- the two hashes of output i, from 0, where those of all outputs start at an index of s
module _ (s : List ℕ) (at i : ℕ) where
  pub first_at : first_hash (bytes_for hashes s at i) ≡ take 16 (drop (at + 32 * i) s)
  unfolding first_hash bytes_for hashes
  first_at = take-take 16 32 (drop (at + 32 * i) s) (omega arith)

  pub second_at : at + 32 * i + 32 ≤ length s → second_hash (bytes_for hashes s at i) ≡ take 16 (drop (at + 32 * i + 16) s)
  unfolding bytes_for hashes
  second_at room =
      let x = drop (at + 32 * i) s in
      let long : length x ≡ length s - (at + 32 * i) = length-drop (at + 32 * i) s in
      let more : length (drop 16 x) ≡ length x - 16 = length-drop 16 x in
      rw (take-add 16 16 x, second_hash_law (take 16 x) (take 16 (drop 16 x)) (length-take-le 16 x (omega (arith, long))) (length-take-le 16 (drop 16 x) (omega (arith, long, more))))
      (ap (take 16) (drop-drop 16 (at + 32 * i) s))
