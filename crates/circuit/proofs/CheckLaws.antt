-- Check: a law for each of its returns. Assumes nothing.
use Rattle.std.specs.Prelude.{Result, Ok, Err}
use Rattle.model.specs.Operations.{answer_of}
use Prim.Native.Nat.{ℕ, ◌+◌, ◌*◌, ◌≤◌}
use mathlib.Core.Path.{◌≡◌, ap}
use mathlib.Core.List.{List}
use lib.ListN.{length}
use Rattle.model.specs.declared.Refusal.{Refusal}
use Rattle.model.specs.Bytes.{tabulate}
use Rattle.model.specs.Circuit.{circuit_of, inputs, outputs, gates, gate_at, charges}
use Rattle.model.specs.Refusals.{◌then◌, verdict_of, head_verdict, gates_verdict, outputs_verdict, circuit_verdict}
use Rattle.model.specs.Operations.{no, yes, sizes_of, check_answer, ran_of}
use Rattle.model.proofs.Accepted.{HeaderHolds, header_holds, gates_inside}
use Rattle.model.proofs.Verdicts.{yes_given, no_then, ran_refused, ran_done, then_assoc, Given}
use Rattle.circuit.specs.Answers.{header_answer, search_answer}
use Rattle.circuit.specs.Outputs.{HeaderIs}
use Rattle.circuit.specs.declared.header.Header.{Header}

module _ (s : List ℕ) (r : Result Header Refusal) (is-r : answer_of r ≡ header_answer s) where
  pub check_header : (f : Refusal) → r ≡ Err f → no (verdict_of f) ≡ check_answer s
  unfolding circuit_verdict
  check_header f e =
      rw (then_assoc (head_verdict s)) (no_then (head_verdict s) (verdict_of f) (gates_verdict s (inputs s) (gates s) then outputs_verdict s) _ _ (rw e at is-r))

  module _ (h : Header) (e : r ≡ Ok h) where
    told : Given (head_verdict s) h (record { n = inputs s; m = outputs s; q = gates s })
    told = yes_given (head_verdict s) h _ (rw e at is-r)

    holds : HeaderHolds s
    holds = header_holds s told.is_fine

    pub header_is : HeaderIs s h
    header_is = record {
      head = told.is_fine;
      is_n = ap (λ (x : Header). x.n) told.is_result;
      is_m = ap (λ (x : Header). x.m) told.is_result;
      is_q = ap (λ (x : Header). x.q) told.is_result;
    }

    pub search_inside : 8 + 7 * h.q ≤ length s
    search_inside = rw header_is.is_q (gates_inside s holds)

    pub search_sum : h.n + h.q ≤ 65535
    search_sum = rw (header_is.is_n, header_is.is_q) holds.sizes.sum

    -- what the search of the gates found
    module _ (t : Result ℕ Refusal) (is_t : answer_of t ≡ search_answer s h.n h.q) where
      pub check_gate : (f : Refusal) → t ≡ Err f → no (verdict_of f) ≡ check_answer s
      unfolding circuit_verdict ◌then◌
      check_gate f g =
          let z : no (verdict_of f) ≡ search_answer s (inputs s) (gates s) = rw (g, header_is.is_n, header_is.is_q) at is_t in
          rw told.is_fine (no_then (gates_verdict s (inputs s) (gates s)) (verdict_of f) (outputs_verdict s) _ (sizes_of s) z)

      -- and that of the output records
      module _ (p : ℕ) (g : t ≡ Ok p) (u : Result Unit Refusal) (is_u : ran_of u ≡ outputs_verdict s) where
        gates_told : Given (gates_verdict s (inputs s) (gates s)) p (charges (tabulate (gates s) (gate_at s)))
        gates_told = yes_given (gates_verdict s (inputs s) (gates s)) p _ (rw (g, header_is.is_n, header_is.is_q) at is_t)

        pub check_output : (f : Refusal) → u ≡ Err f → no (verdict_of f) ≡ check_answer s
        unfolding circuit_verdict ◌then◌
        check_output f i = rw (told.is_fine, gates_told.is_fine, ← ran_refused u (outputs_verdict s) is_u f i)

        pub check_accepted : u ≡ Ok tt → yes (record { n = h.n; m = h.m; q = h.q; p = p }) ≡ check_answer s
        unfolding circuit_verdict ◌then◌ sizes_of circuit_of
        check_accepted i =
            rw (told.is_fine, gates_told.is_fine, ← ran_done u (outputs_verdict s) is_u i, told.is_result, gates_told.is_result)

pub ruleset check_cases = (check_header, header_is, search_inside, search_sum, check_gate, check_output, check_accepted)
