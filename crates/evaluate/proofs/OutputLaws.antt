-- The outputs' tokens: the invariant of the loop that gathers them, the refusals of `output_tokens`, and the buffer that it leaves. Assumes nothing.
use Rattle.std.specs.Prelude.{Result, Ok, Err}
use Prim.Native.Nat.{ℕ, ◌+◌, ◌*◌, ◌-◌, ◌≤◌, ◌<◌}
use native.Mathlib.Decide.{dec_lt}
use native.Mathlib.Omega.{arith}
use mathlib.Core.Path.{◌≡◌, sym, ap, ◌∙◌}
use mathlib.Core.List.{List}
use lib.ListN.{length, get_or, take, drop, length-drop, get_or-eq_default}
use lib.Seq.{length-take-le}
use Rattle.model.specs.declared.Sizes.{Sizes}
use Rattle.model.specs.declared.Refusal.{Refusal}
use Rattle.model.specs.Bytes.{over, put}
use Rattle.model.specs.Circuit.{circuit_of, inputs, outputs, gates}
use Rattle.model.specs.Aes.{Block}
use Rattle.model.specs.Material.{join_blocks}
use Rattle.model.specs.Evaluation.{token_at, output_tokens}
use Rattle.model.specs.Refusals.{fine, refused, ◌then◌, verdict_of, circuit_verdict}
use Rattle.model.specs.Operations.{sizes_of, check_answer, ran_of, output_tokens_verdict, OutputTokensIs, answer_of}
use Rattle.model.proofs.Lists.{map_elements}
use Rattle.model.proofs.Filling.{Filling, fill_start, fill_turn, fill_end}
use Rattle.model.proofs.Accepted.{SizesHold, OutputHolds, accepted_output}
use Rattle.model.proofs.Outputs.{outputs_many}
use Rattle.model.proofs.Verdicts.{then_fine, then_refused, then_assoc, ran_refused, ran_done}
use Rattle.model.proofs.Conditions.{tokens_fine, room_fine}
use Rattle.circuit.specs.Accepted.{Accepted}
use Rattle.circuit.specs.Outputs.{OutputStart}
use Rattle.circuit.proofs.AcceptedLaws as Sized
use Rattle.evaluate.specs.Answers.{output_arguments}
use Rattle.evaluate.specs.Outputs.{GatherStart}

-- ---- gather_tokens

-- the token of output i
abbrev pub gathered : List ℕ → List ℕ → ℕ → Block
gathered c w i = token_at w (get_or (circuit_of c).outputs i 0)

-- those of i outputs are at the front of d, which was o
pub record Gathering (c w o : List ℕ) (i : ℕ) (d : List ℕ) : Type 0 where
  pub within : i ≤ outputs c
  pub tokens : Filling (gathered c w) (outputs c) o i d

module _ (c : List ℕ) (z : Sizes) (w o : List ℕ) (start : GatherStart c z w o) where
  is_m : z.m ≡ outputs c
  is_m = Sized.is_m c z start.sized

  among : (i : ℕ) → i < outputs c → OutputHolds c i
  among i h = accepted_output c i start.sized.accepted h

  token_wide : (k : ℕ) → 16 * (k - 1) + 16 ≤ length w → length (token_at w k) ≡ 16
  unfolding token_at
  token_wide k h = length-take-le 16 (drop (16 * (k - 1)) w) (simp length-drop (omega arith))

  -- past the outputs there is no wire, and the list of tokens starts there
  wide : (i : ℕ) → length (gathered c w i) ≡ 16
  wide i = go (dec_lt i (outputs c))
    where
      sizes : SizesHold (inputs c) (outputs c) (gates c)
      sizes = (Sized.limits c z start.sized).sizes

      go : Dec (i < outputs c) → length (gathered c w i) ≡ 16
      go (Dec.yes h) = token_wide _ (omega (arith, (among i h).low, (among i h).high, start.all_wires))
      go (Dec.no h) =
          let none : get_or (circuit_of c).outputs i 0 ≡ 0 = get_or-eq_default (circuit_of c).outputs 0 {n = i} (omega (arith, outputs_many c)) in
          token_wide _ (omega (arith, none, sizes.n_low, start.all_wires))

  pub gather_start : Gathering c w o 0 o
  gather_start = record { within = omega arith; tokens = fill_start wide }

  module _ (i : ℕ) (d : List ℕ) (inv : Gathering c w o i d) where
    pub gather_end : z.m ≤ i → d ≡ over (output_tokens (circuit_of c) w) o
    unfolding output_tokens
    gather_end h =
        fill_end wide inv.tokens inv.within (omega (arith, is_m))
        ∙ ap (λ (l : List Block). over (join_blocks l) o) (sym (map_elements (token_at w) (outputs c) (circuit_of c).outputs (outputs_many c)))

    -- an output, and its wire as it was told
    pub gather_output : (j : ℕ) → j < z.m → OutputStart c z j
    gather_output j l = record { sized = start.sized; more = rw is_m at l }

    module _ (j k : ℕ) (is_k : k ≡ get_or (circuit_of c).outputs j 0) (l : j < z.m) where
      pub gather_wire : 1 ≤ k
      gather_wire = rw is_k (among j (rw is_m at l)).low

      pub gather_token : 16 * (k - 1) + 16 ≤ length w
      gather_token = let h = among j (rw is_m at l) in omega (arith, is_k, h.low, h.high, start.all_wires)

    module _ (h : i < z.m) where
      pub gather_room : 16 * i + 16 ≤ length d
      gather_room = omega (arith, is_m, start.room, inv.tokens.same_length)

      pub gather_turn : (k : ℕ) → k ≡ get_or (circuit_of c).outputs i 0 → (x d' : List ℕ) → x ≡ take 16 (drop (16 * (k - 1)) w) → d' ≡ put d (16 * i) x
          → Gathering c w o (i + 1) d'
      unfolding token_at
      gather_turn k is_k x d' e f = record {
        within = omega (arith, is_m);
        tokens = fill_turn wide inv.tokens (rw is_m at h) start.room x d' (e ∙ rw is_k) f;
      }

pub ruleset gather_turns = (gather_start, gather_end, gather_output, gather_room, gather_wire, gather_token, gather_turn)

-- ---- output_tokens

-- the circuit's refusals, and then those by its sizes
output_verdict_law : (c ws : List ℕ) (room : ℕ) → output_tokens_verdict c ws room ≡ (circuit_verdict c then output_arguments (sizes_of c) ws room)
unfolding output_tokens_verdict output_arguments sizes_of
output_verdict_law c ws room = simp then_assoc

module _ (c ws o : List ℕ) where
  refused_is : (i x : ℕ) → refused i x ≡ output_tokens_verdict c ws (length o) → OutputTokensIs c ws o (refused i x) o
  refused_is i x e = record { answered = e; left = rw (← e) }

  -- check's answer r
  module _ (r : Result Sizes Refusal) (is_r : answer_of r ≡ check_answer c) where
    pub output_circuit : (f : Refusal) → r ≡ Err f → OutputTokensIs c ws o (verdict_of f) o
    output_circuit f e = refused_is _ _ (rw output_verdict_law (then_refused _ _ _ _ (Sized.check_refused c r is_r f e)))

    -- and that of what it left to try
    module _ (z : Sizes) (e : r ≡ Ok z) (t : Result Unit Refusal) (is_t : ran_of t ≡ output_arguments z ws (length o)) where
      known : Accepted c z
      known = Sized.check_accepted c r is_r z e

      tried : ran_of t ≡ output_tokens_verdict c ws (length o)
      tried = is_t ∙ Sized.left_to_try c z known (λ x. output_arguments x ws (length o)) ∙ sym (output_verdict_law c ws (length o))

      pub output_turned : (f : Refusal) → t ≡ Err f → OutputTokensIs c ws o (verdict_of f) o
      output_turned f g = refused_is _ _ (ran_refused t _ tried f g)

      module _ (g : t ≡ Ok tt) where
        is_fine : output_tokens_verdict c ws (length o) ≡ fine
        is_fine = sym (ran_done t _ tried g)

        pub output_go : GatherStart c z ws o
        unfolding output_tokens_verdict
        output_go =
            let a = then_fine _ _ is_fine in
            record { sized = known; all_wires = tokens_fine _ ws (then_fine _ _ a.0).1; room = room_fine _ _ a.1 }

        pub output_done : (x : List ℕ) → x ≡ over (output_tokens (circuit_of c) ws) o → OutputTokensIs c ws o fine x
        output_done x is_x = record { answered = sym is_fine; left = rw is_fine is_x }

pub ruleset output_cases = (output_circuit, output_turned, output_go, output_done)
