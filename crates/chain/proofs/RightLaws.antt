-- Demand 3 of the buffers: every wire is right once evaluation ran, and every bit once decoding did. Assumes nothing.
use Prim.Native.Nat.{ℕ, ◌+◌, ◌≤◌}
use native.Mathlib.Omega.{arith}
use mathlib.Core.Path.{◌≡◌}
use mathlib.Core.List.{List}
use Rattle.model.specs.declared.Wanted.{Wanted}
use Rattle.model.specs.Circuit.{inputs, gates}
use Rattle.model.specs.Tokens.{distance}
use Rattle.model.specs.Evaluation.{token_at}
use Rattle.model.specs.Refusals.{fine}
use Rattle.model.specs.Operations.{garble_made}
use Rattle.model.specs.Demand3.{distance_at, chain_zeros, chain_tokens}
use Rattle.model.proofs.Demand3.{tokens_long, zeros_long, demand_3}
use Rattle.chain.specs.Chain.{WiresRight, BitsRight, GarbleRan, EncodeAnswers, EvaluateRan, OutputsAnswers, DecodeAnswers}
use Rattle.chain.proofs.PartLaws.{token_over}
use Rattle.chain.proofs.HandLaws.{allowed, zeros_are, wires_are, bits_handed}

module _ (c seed : List ℕ) (want : Wanted) (v f z o t w y b f' z' o' t' w' y' b' : List ℕ)
    (garbled : GarbleRan c seed want v f z o t w y b f' z' o' t' w' y' b')
    (encoded : EncodeAnswers c seed want v f z o t w y b f' z' o' t' w' y' b' fine)
    (evaluated : EvaluateRan c seed want v f z o t w y b f' z' o' t' w' y' b') where
  distance_is : (k : ℕ) → 1 ≤ k → k ≤ inputs c + gates c → distance (token_at w' k) (token_at z' k) ≡ distance_at c seed want v k
  unfolding distance_at
  distance_is k l h =
      let a = allowed c seed want f z o f' z' o' (garble_made c seed want) garbled v t t' encoded in
      rw (
        wires_are c seed want f z o f' z' o' (garble_made c seed want) garbled v t t' encoded w w' evaluated,
        zeros_are c seed want f z o f' z' o' (garble_made c seed want) garbled v,
        token_over (chain_tokens c seed want v) w k l (omega (arith, tokens_long c seed want v a)),
        token_over (chain_zeros c seed want v) z k l (omega (arith, zeros_long c seed want v a)),
      )

  pub wires_right : WiresRight c seed want v z' w'
  wires_right =
      let a = allowed c seed want f z o f' z' o' (garble_made c seed want) garbled v t t' encoded in
      record {
        allowed = a;
        at_zero = λ k l h. rw (distance_is k l h) ((demand_3 c seed want v a).at_zero k l h);
        at_one = λ k l h. rw (distance_is k l h) ((demand_3 c seed want v a).at_one k l h);
      }

  pub bits_right : OutputsAnswers c seed want v f z o t w y b f' z' o' t' w' y' b' fine
      → DecodeAnswers c seed want v f z o t w y b f' z' o' t' w' y' b' fine → BitsRight c v b'
  bits_right gathered decoded = record {
    decoded = bits_handed c seed want f z o f' z' o' (garble_made c seed want) garbled v t t' encoded w w' evaluated y y' gathered b b' decoded;
  }
