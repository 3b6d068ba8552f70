-- The outputs of the circuit that bytes are: how many, and which wire each is, by the mark. Assumes nothing.
use Prim.Native.Nat.{ℕ, zero, suc, ◌+◌, ◌*◌, ◌-◌, ◌≤◌, ◌<◌}
use native.Mathlib.Omega.{arith}
use mathlib.Core.Path.{◌≡◌, refl, ◌∙◌}
use mathlib.Core.Bool.{Bool, true, false, cond}
use mathlib.Core.List.{List, map}
use lib.ListN.{length, get_or, take, drop, length-drop}
use lib.Seq.{drop-drop, take-add, take_all}
use Rattle.model.specs.Bytes.{from, tabulate}
use Rattle.model.specs.Circuit.{circuit_of, inputs, outputs, gates, named, output_at, last_wires}
use Rattle.model.specs.Material.{join_blocks}
use Rattle.model.specs.Evaluation.{token_at, output_tokens}
use Rattle.model.proofs.Lists.{tabulate_length, entry}

-- ---- the tokens of wires that follow one another stand one after the other
module _ (bs : List ℕ) (k : ℕ) where
  tokens_from : (i m : ℕ) → join_blocks (map (token_at bs) (from i m (λ i. k + 1 + i))) ≡ take (16 * m) (drop (16 * (k + i)) bs)
  unfolding join_blocks token_at
  tokens_from i zero = refl
  tokens_from i (suc m) =
      let at : 16 * (k + 1 + i - 1) ≡ 16 * (k + i) = omega arith in
      let next : 16 * (k + suc i) ≡ 16 * (k + i) + 16 = omega arith in
      let long : 16 * suc m ≡ 16 + 16 * m = omega arith in
      rw (at, tokens_from (suc i) m, next, long, take-add 16 (16 * m), drop-drop 16 (16 * (k + i)))

module _ (c : List ℕ) where
  pub outputs_many : length (circuit_of c).outputs ≡ outputs c
  unfolding circuit_of last_wires
  outputs_many = go (named c)
    where
      go : (b : Bool) → length (cond b (tabulate (outputs c) (output_at c)) (last_wires (inputs c) (gates c) (outputs c))) ≡ outputs c
      go true = tabulate_length (outputs c) _
      go false = tabulate_length (outputs c) _

  -- ---- output i, from 0, of a circuit that names its outputs
  pub named_output : named c ≡ true → (i : ℕ) → i < outputs c → get_or (circuit_of c).outputs i 0 ≡ output_at c i
  unfolding circuit_of
  named_output e i h = rw e (entry 0 (outputs c) _ i h)

  -- ---- and of one that does not
  module _ (e : named c ≡ false) where
    pub last_output : (i : ℕ) → i < outputs c → get_or (circuit_of c).outputs i 0 ≡ inputs c + gates c - outputs c + 1 + i
    unfolding circuit_of last_wires
    last_output i h = rw e (entry 0 (outputs c) _ i h)

    -- their tokens are the last of all wires
    pub last_tokens : (few : outputs c ≤ inputs c + gates c) (bs : List ℕ) → length bs ≡ 16 * (inputs c + gates c)
        → output_tokens (circuit_of c) bs ≡ drop (16 * (inputs c + gates c - outputs c)) bs
    unfolding output_tokens circuit_of last_wires
    last_tokens few bs long =
        let k : ℕ = inputs c + gates c - outputs c in
        let at : 16 * (k + 0) ≡ 16 * k = omega arith in
        rw e (tokens_from bs k 0 (outputs c) ∙ rw at (take_all (16 * outputs c) (drop (16 * k) bs) (simp length-drop (omega (arith, long)))))
