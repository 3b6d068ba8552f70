-- 30: the search of the pairs in a material as it was written, and the zeros. Assumes nothing.
use Rattle.std.specs.Prelude.{Result, Ok, Err}
use Prim.Native.Nat.{ℕ, ◌+◌, ◌*◌, ◌-◌, ◌≤◌, ◌<◌}
use native.Mathlib.Nat.{mul-suc, mul-le-mul_left}
use native.Mathlib.Omega.{arith}
use mathlib.Core.Path.{◌≡◌, refl, sym, ap, ap₂, ◌∙◌}
use mathlib.Core.Bool.{Bool, true, false, cond}
use mathlib.Core.List.{List}
use lib.Bits.{bit_or}
use lib.ListN.{length, take, drop, replicate, length-replicate, length-drop}
use lib.Seq.{take-append-le, drop-append-le}
use Rattle.model.specs.declared.Sizes.{Sizes}
use Rattle.model.specs.declared.Wanted.{Wanted}
use Rattle.model.specs.declared.Refusal.{Refusal}
use Rattle.model.specs.Bytes.{over, equal_bytes}
use Rattle.model.specs.Circuit.{charges, circuit_of, inputs, outputs}
use Rattle.model.specs.Aes.{Block}
use Rattle.model.specs.Tokens.{Garbling, wants_hashes, garbling_of}
use Rattle.model.specs.Garbling.{zero_tokens, input_ones}
use Rattle.model.specs.Ending.{Ending, colours, hashes, ending_of}
use Rattle.model.specs.Material.{join_blocks, last_start, last_bytes, material}
use Rattle.model.specs.Evaluation.{bytes_for, stored_at}
use Rattle.model.specs.Refusals.{Verdict, fine, refused, refuse, first_of, verdict_of, clash_at, clash_verdict}
use Rattle.model.specs.Operations.{no, yes, ran_of, file_length, made, garble_made}
use Rattle.model.proofs.Verdicts.{first_all, first_same, first_next, first_found, search_start, Together, together_start, together_turn, together_end, ran_refused, ran_done}
use Rattle.model.proofs.Buffers.{over_over, over_length}
use Rattle.model.proofs.Places.{length_last}
use Rattle.model.proofs.Outputs.{outputs_many}
use Rattle.model.proofs.Blocks.{join_length}
use Rattle.model.proofs.Lengths.{input_ones_blocks, material_length_law, hashed_is}
use Rattle.model.proofs.Stored.{stored_is}
use Rattle.circuit.specs.Accepted.{Bounded}
use Rattle.circuit.proofs.AcceptedLaws as Sized
use Rattle.material.proofs.EndingLaws.{first_at, second_at}
use Rattle.garble.specs.Answers.{length_for}
use Rattle.garble.specs.Clash.{pair_verdict, found_verdict}
use Rattle.garble.specs.Whole.{WholeStart, WholeIs, WipeStart, WipedTo, OutcomeIs}
use Rattle.garble.proofs.WalkLaws.{zeros_long}

-- ---- the pair of output i, as it was read
pub pair_read : (s : List ℕ) (at i : ℕ) → at + 32 * i + 32 ≤ length s → (x y : Block) → x ≡ take 16 (drop (at + 32 * i) s) → y ≡ take 16 (drop (at + 32 * i + 16) s)
    → (d : ℕ) → d ≡ cond (equal_bytes x y) 0 1 → 1 - d ≡ cond (hashes.clash (bytes_for hashes s at i)) 1 0
unfolding hashes
pair_read s at i room x y is_x is_y d is_d =
    rw (first_at s at i, second_at s at i room, ← is_x, ← is_y, is_d) (go (equal_bytes x y))
  where
    go : (b : Bool) → 1 - cond b 0 1 ≡ cond b 1 0
    go true = refl
    go false = refl

-- ---- the search: 1 for output i where its pair is equal
module _ (s : List ℕ) (at i d : ℕ) (is_d : d ≡ cond (hashes.clash (bytes_for hashes s at i)) 1 0) where
  pub pair_apart : (d ≡ 1 → ⊥) → fine ≡ pair_verdict hashes s at i
  unfolding pair_verdict refuse
  pair_apart n = go (hashes.clash (bytes_for hashes s at i)) refl
    where
      go : (b : Bool) → hashes.clash (bytes_for hashes s at i) ≡ b → fine ≡ pair_verdict hashes s at i
      go true e = absurd (n (rw e at is_d))
      go false e = rw e

  pub pair_equal : d ≡ 1 → refused 30 (i + 1) ≡ pair_verdict hashes s at i
  unfolding pair_verdict refuse
  pair_equal one = go (hashes.clash (bytes_for hashes s at i)) refl
    where
      go : (b : Bool) → hashes.clash (bytes_for hashes s at i) ≡ b → refused 30 (i + 1) ≡ pair_verdict hashes s at i
      go true e = rw e
      go false e = let z : d ≡ 0 = rw e at is_d in absurd (omega (arith, one, z))

  pub pair_together : (m all : ℕ) → Together (pair_verdict hashes s at) m all i → i < m → Together (pair_verdict hashes s at) m (bit_or all d) (i + 1)
  pair_together m all inv h = together_turn (pair_verdict hashes s at) m all i inv h d (λ none. sym (pair_apart (λ one. absurd (omega (arith, none, one)))))

  pub pair_passed : first_of (pair_verdict hashes s at) i ≡ fine → (d ≡ 1 → ⊥) → first_of (pair_verdict hashes s at) (i + 1) ≡ fine
  pair_passed so_far n = first_next _ i so_far (sym (pair_apart n))

  pub pair_stops : (m : ℕ) → first_of (pair_verdict hashes s at) i ≡ fine → i < m → d ≡ 1 → refused 30 (i + 1) ≡ first_of (pair_verdict hashes s at) m
  pair_stops m so_far more one = sym (first_found _ i m _ _ so_far more (sym (pair_equal one)))

pub ruleset pair_cases = (search_start, pair_passed, pair_stops, together_start, pair_together, together_end)

-- ---- find_clash
module _ (s : List ℕ) (want : Wanted) (z : Sizes) (bounded : Bounded z) (room : length_for z want ≤ length s) (t : Bool) (is_t : t ≡ wants_hashes want) where
  pub found_room : t ≡ true → (at : ℕ) → at ≡ last_start want.scheme z.p → (k : ℕ) → k ≤ 2 → at + k + 32 * z.m ≤ length s
  unfolding length_for last_bytes ending_of hashes
  found_room e at is_at k h =
      let b : wants_hashes want ≡ true = sym is_t ∙ e in
      let l : last_start want.scheme z.p + 2 + 32 * z.m ≤ length s = rw (b, length_last want.scheme (32 * z.m) z.p) at room in
      omega (arith, l, is_at)

  pub found_hashes : t ≡ true → (at : ℕ) → at ≡ last_start want.scheme z.p → (v : Verdict) → v ≡ first_of (pair_verdict hashes s (at + 2)) z.m → v ≡ found_verdict s want z
  unfolding found_verdict ending_of
  found_hashes e at is_at v is_v = let b : wants_hashes want ≡ true = sym is_t ∙ e in is_v ∙ rw (b, is_at)

  pub found_colours : t ≡ false → fine ≡ found_verdict s want z
  unfolding found_verdict ending_of pair_verdict refuse
  found_colours e = let b : wants_hashes want ≡ false = sym is_t ∙ e in rw b (sym (unfold colours in first_all _ z.m (λ i h. refl)))

pub ruleset found_cases = (found_room, found_hashes, found_colours)

-- ---- a whole garbling, as it was written
part_front : (p o : List ℕ) (a k : ℕ) → a + k ≤ length p → take k (drop a (over p o)) ≡ take k (drop a p)
unfolding over
part_front p o a k h =
    rw (drop-append-le a p (drop (length p) o) (omega arith)) (take-append-le k (drop a p) _ (rw (length-drop a p) (omega arith)))

module _ (c seed : List ℕ) (want : Wanted) (s : Sizes) (m z o : List ℕ) (start : WholeStart c seed want s m z o) where
  abbrev γ : Garbling
  γ = garbling_of c seed want

  pub outcome_bounded : Bounded s
  outcome_bounded = Sized.bounded c s start.sized

  length_is : length_for s want ≡ file_length c want
  unfolding length_for file_length
  length_is = rw (Sized.is_m c s start.sized, Sized.is_p c s start.sized)

  long : length (material γ) ≡ file_length c want
  unfolding file_length
  long = rw (outputs_many c) at (material_length_law γ)

  ones_long : length (join_blocks (input_ones γ)) ≡ 16 * inputs c
  unfolding circuit_of
  ones_long = join_length (input_ones_blocks γ)

  -- what was stored stands at the end of the material
  abbrev E : Ending
  E = ending_of (wants_hashes want)

  first : ℕ
  first = last_start want.scheme s.p + 2

  ends : first + E.size * length (circuit_of c).outputs ≡ length (material γ)
  unfolding first file_length last_bytes
  ends =
      let e = length_last want.scheme (E.size * outputs c) (charges (circuit_of c).gates) in
      rw (Sized.is_p c s start.sized, outputs_many c) (sym (long ∙ e))

  module _ (i : ℕ) (h : i < length (circuit_of c).outputs) where
    within : E.size * i + E.size ≤ E.size * length (circuit_of c).outputs
    within = rw (← mul-suc E.size i) (mul-le-mul_left E.size h)

    pair_found : pair_verdict E (over (material γ) m) first i ≡ clash_at γ i
    unfolding pair_verdict clash_at bytes_for stored_at last_bytes
    pair_found =
        let at : length (material γ) - E.size * length (circuit_of c).outputs ≡ first = omega (arith, ends) in
        let made = rw (hashed_is γ, at) at (stored_is γ i h) in
        ap (λ (bs : List ℕ). refuse (E.clash bs) 30 (i + 1)) (part_front (material γ) m (first + E.size * i) E.size (omega (arith, ends, within)) ∙ made)

  found_is : found_verdict (over (material γ) m) want s ≡ clash_verdict γ
  unfolding found_verdict clash_verdict first
  found_is =
      let n : length (circuit_of c).outputs ≡ s.m = outputs_many c ∙ sym (Sized.is_m c s start.sized) in
      rw n (first_same _ _ s.m (λ i l. pair_found i (rw n l)))

  -- the buffers as they were written
  module _ (m1 z1 o1 : List ℕ) (calls : ℕ) (done : WholeIs c seed want m z o m1 z1 o1 calls) where
    pub outcome_length : length_for s want ≤ length m1
    outcome_length = rw (done.material_left, over_length (material γ) m (omega (arith, long, start.file_room)), length_is) start.file_room

    pub outcome_wipe : (l : ℕ) → l ≡ length_for s want → WipeStart s l m1 z1 o1
    outcome_wipe l e = record {
      few = outcome_bounded.wires;
      file_room = rw e outcome_length;
      wires_room =
          rw (done.zeros_left, over_length (join_blocks (zero_tokens γ)) z (omega (arith, zeros_long c seed want, start.wires_room)), Sized.is_n c s start.sized, Sized.is_q c s start.sized)
          start.wires_room;
      inputs_room = rw (done.ones_left, over_length (join_blocks (input_ones γ)) o (omega (arith, ones_long, start.inputs_room)), Sized.is_n c s start.sized) start.inputs_room;
    }

    -- zeros over what was written
    zeroed : (p b b1 b2 : List ℕ) (k : ℕ) → length p ≡ k → k ≤ length b → b1 ≡ over p b → b2 ≡ over (replicate k 0) b1 → b2 ≡ over (replicate (length p) 0) b
    zeroed p b b1 b2 k l h e f =
        let n = length-replicate {A = ℕ} k 0 in
        rw l (f ∙ ap (over (replicate k 0)) e ∙ over_over (replicate k 0) b p (omega (arith, l, n)) (omega (arith, n, h)))

    module _ (l : ℕ) (is_l : l ≡ length_for s want) (t : Result Unit Refusal) (is_t : ran_of t ≡ found_verdict m1 want s) where
      verdict_is : ran_of t ≡ clash_verdict γ
      verdict_is = is_t ∙ ap (λ (x : List ℕ). found_verdict x want s) done.material_left ∙ found_is

      pub outcome_wiped : (f : Refusal) → t ≡ Err f → (m2 z2 o2 : List ℕ) → WipedTo s l m1 z1 o1 m2 z2 o2
          → OutcomeIs c seed want m z o (no (verdict_of f)) m2 z2 o2
      outcome_wiped f e m2 z2 o2 zeros =
          let v = ran_refused t (clash_verdict γ) verdict_is f e in
          record {
            answered = rw (← v);
            material_left = rw (← v) (zeroed (material γ) m m1 m2 l (long ∙ sym length_is ∙ sym is_l) (omega (arith, is_l, length_is, start.file_room)) done.material_left zeros.material_left);
            zeros_left =
                rw (← v)
                (zeroed (join_blocks (zero_tokens γ)) z z1 z2 (16 * (s.n + s.q)) (zeros_long c seed want ∙ rw (Sized.is_n c s start.sized, Sized.is_q c s start.sized))
                (rw (Sized.is_n c s start.sized, Sized.is_q c s start.sized) start.wires_room) done.zeros_left zeros.zeros_left);
            ones_left =
                rw (← v)
                (zeroed (join_blocks (input_ones γ)) o o1 o2 (16 * s.n) (ones_long ∙ rw (Sized.is_n c s start.sized)) (rw (Sized.is_n c s start.sized) start.inputs_room) done.ones_left zeros.ones_left);
          }

      pub outcome_done : t ≡ Ok tt → OutcomeIs c seed want m z o (yes (made l calls)) m1 z1 o1
      unfolding garble_made
      outcome_done e =
          let v = ran_done t (clash_verdict γ) verdict_is e in
          record {
            answered = rw (← v) (ap₂ (λ (a b : ℕ). yes (made a b)) (is_l ∙ length_is) done.calls_made);
            material_left = rw (← v) done.material_left;
            zeros_left = rw (← v) done.zeros_left;
            ones_left = rw (← v) done.ones_left;
          }

pub ruleset outcome_cases = (outcome_bounded, outcome_length, outcome_wipe, outcome_wiped, outcome_done)
