-- Encode: its refusals, what they tell where none holds, and the buffer that it leaves. Assumes nothing.
use Rattle.std.specs.Prelude.{Result, Ok, Err}
use Prim.Native.Nat.{ℕ}
use mathlib.Core.Path.{◌≡◌, sym, ◌∙◌}
use mathlib.Core.List.{List}
use lib.ListN.{length}
use Rattle.model.specs.declared.Sizes.{Sizes}
use Rattle.model.specs.declared.Refusal.{Refusal}
use Rattle.model.specs.Bytes.{over}
use Rattle.model.specs.Circuit.{inputs, circuit_of}
use Rattle.model.specs.Material.{join_blocks}
use Rattle.model.specs.Evaluation.{cut, encode, encode_bytes}
use Rattle.model.specs.Refusals.{fine, refused, ◌then◌, verdict_of, circuit_verdict}
use Rattle.model.specs.Operations.{sizes_of, check_answer, ran_of, encode_verdict, EncodeIs, answer_of}
use Rattle.model.proofs.Verdicts.{then_fine, then_refused, then_assoc, ran_refused, ran_done}
use Rattle.model.proofs.Conditions.{values_fine, tokens_fine, room_fine}
use Rattle.circuit.specs.Accepted.{Accepted}
use Rattle.circuit.proofs.AcceptedLaws.{check_refused, check_accepted, left_to_try, is_n}
use Rattle.circuit.proofs.PlainLaws.{all_bits}
use Rattle.garble.specs.Answers.{encode_arguments}
use Rattle.garble.specs.Written.{EncodeStart}

-- the circuit's refusals, and then those by its sizes
encode_verdict_law : (c v zs os : List ℕ) (room : ℕ) → encode_verdict c v zs os room ≡ (circuit_verdict c then encode_arguments (sizes_of c) v zs os room)
unfolding encode_verdict encode_arguments sizes_of
encode_verdict_law c v zs os room = simp then_assoc

-- what it tells that nothing refuses
pub encode_fine : (c v zs os o : List ℕ) → encode_verdict c v zs os (length o) ≡ fine → EncodeStart (inputs c) v zs os o
unfolding encode_verdict
encode_fine c v zs os o e =
    let a = then_fine _ _ e in
    let b = then_fine _ _ a.0 in
    let d = then_fine _ _ b.0 in
    let f = values_fine _ v (then_fine _ _ d.0).1 in
    record {
      values = f.as_many;
      bits = all_bits v f.are_bits;
      zeros = tokens_fine _ zs d.1;
      ones = tokens_fine _ os b.1;
      room = room_fine _ _ a.1;
    }

module _ (c v zs os o : List ℕ) where
  refused_is : (i x : ℕ) → refused i x ≡ encode_verdict c v zs os (length o) → EncodeIs c v zs os o (refused i x) o
  refused_is i x e = record { answered = e; left = rw (← e) }

  -- check's answer r
  module _ (r : Result Sizes Refusal) (is_r : answer_of r ≡ check_answer c) where
    pub encode_circuit : (f : Refusal) → r ≡ Err f → EncodeIs c v zs os o (verdict_of f) o
    encode_circuit f e = refused_is _ _ (rw encode_verdict_law (then_refused _ _ _ _ (check_refused c r is_r f e)))

    -- and that of what it left to try
    module _ (z : Sizes) (e : r ≡ Ok z) (t : Result Unit Refusal) (is_t : ran_of t ≡ encode_arguments z v zs os (length o)) where
      known : Accepted c z
      known = check_accepted c r is_r z e

      tried : ran_of t ≡ encode_verdict c v zs os (length o)
      tried = is_t ∙ left_to_try c z known (λ x. encode_arguments x v zs os (length o)) ∙ sym (encode_verdict_law c v zs os (length o))

      pub encode_turned : (f : Refusal) → t ≡ Err f → EncodeIs c v zs os o (verdict_of f) o
      encode_turned f g = refused_is _ _ (ran_refused t _ tried f g)

      module _ (g : t ≡ Ok tt) where
        is_fine : encode_verdict c v zs os (length o) ≡ fine
        is_fine = sym (ran_done t _ tried g)

        pub encode_go : EncodeStart z.n v zs os o
        encode_go = rw (is_n c z known) (encode_fine c v zs os o is_fine)

        pub encode_done : (x : List ℕ) → x ≡ over (join_blocks (encode v (cut z.n zs) (cut z.n os))) o → EncodeIs c v zs os o fine x
        unfolding encode_bytes circuit_of
        encode_done x is_x = record { answered = sym is_fine; left = rw is_fine (is_x ∙ rw (is_n c z known)) }

pub ruleset encode_cases = (encode_circuit, encode_turned, encode_go, encode_done)
