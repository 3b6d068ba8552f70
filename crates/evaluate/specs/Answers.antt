-- The refusals of evaluate, decode and output_tokens once the circuit is accepted. With the circuit's own before them they are the model's
-- `evaluate_verdict`, `decode_verdict` and `output_tokens_verdict`, as `evaluate_verdict_law` and `decode_verdict_law` of proofs/RestLaws.antt and `output_verdict_law` of
-- proofs/OutputLaws.antt show. Document 01, "Operations"; document 02, job 8.
use Rattle.std.specs.Prelude.{ℕ, ◌+◌, ◌*◌, List}
use Rattle.model.specs.declared.Sizes.{Sizes}
use Rattle.model.specs.Circuit.{circuit_of}
use Rattle.model.specs.Refusals.{Verdict, ◌then◌, tokens_verdict, material_verdict, room_verdict}

-- 11 for so many tokens, 12 to 18, and 19 for so many bytes
unfoldable pub rest_verdict : List ℕ → ℕ → List ℕ → List ℕ → ℕ → ℕ → Verdict
rest_verdict c due ts s bytes room = tokens_verdict due ts then material_verdict (circuit_of c) s then room_verdict bytes room

-- 11 for the tokens of all wires, and 19
unfoldable pub output_arguments : Sizes → List ℕ → ℕ → Verdict
output_arguments z ws room = tokens_verdict (z.n + z.q) ws then room_verdict (16 * z.m) room
