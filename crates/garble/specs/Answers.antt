-- The refusals of garble and encode by the sizes of an accepted circuit. With the circuit's own before them they are the model's `garble_verdict`
-- and `encode_verdict`, as `garble_verdict_law` of proofs/GarbleIsLaws.antt and `encode_verdict_law` of proofs/EncodeIsLaws.antt show.
use Rattle.std.specs.Prelude.{ℕ, ◌+◌, ◌*◌, List}
use Rattle.model.specs.declared.Sizes.{Sizes}
use Rattle.model.specs.declared.Wanted.{Wanted}
use Rattle.model.specs.Tokens.{wants_hashes}
use Rattle.model.specs.Material.{last_bytes, material_length}
use Rattle.model.specs.Refusals.{Verdict, ◌then◌, seed_verdict, values_verdict, tokens_verdict, scheme_verdict, mark_verdict, room_verdict}

-- the material's length, by a circuit's sizes
unfoldable pub length_for : Sizes → Wanted → ℕ
length_for z want = material_length want.scheme (last_bytes (wants_hashes want) z.m) z.p

-- 19 for the three buffers of garble
unfoldable pub rooms_verdict : Sizes → Wanted → ℕ → ℕ → ℕ → Verdict
rooms_verdict z want km kz ko =
    room_verdict (length_for z want) km
    then room_verdict (16 * (z.n + z.q)) kz
    then room_verdict (16 * z.n) ko

-- 8, 13, 14, 19
unfoldable pub garble_arguments : Sizes → List ℕ → Wanted → ℕ → ℕ → ℕ → Verdict
garble_arguments z seed want km kz ko =
    seed_verdict seed
    then mark_verdict want.mark
    then scheme_verdict want.scheme
    then rooms_verdict z want km kz ko

-- 9, 10, 11 for the two lists in turn, 19
unfoldable pub encode_arguments : Sizes → List ℕ → List ℕ → List ℕ → ℕ → Verdict
encode_arguments z v zs os room =
    values_verdict z.n v
    then tokens_verdict z.n zs
    then tokens_verdict z.n os
    then room_verdict (16 * z.n) room
