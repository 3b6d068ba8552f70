-- Garblings from one seed have no block under it in common, but where run and wire are the same. Assumes nothing.
use Prim.Native.Nat.{ℕ, ◌^◌, ◌<◌}
use native.Mathlib.Omega.{arith}
use mathlib.Core.Path.{◌≡◌, sym, ap, ◌∙◌}
use lib.ListN.{length, length-append, take, drop}
use lib.Seq.{take_at, drop_at}
use Rattle.model.specs.Bytes.{number, bytes_of}
use Rattle.model.specs.Aes.{aes}
use Rattle.model.specs.Tokens.{run_block, seed_block}
use Rattle.model.specs.Runs.{RunsApart}
use Rattle.model.proofs.Number.{Bytes, all_bytes, length_bytes, number_bytes, of_number, both}
use Rattle.model.proofs.Permutation.{aes_apart}

-- a number of 64 bits is told by its 8 bytes
told : (x y : ℕ) → x < 2 ^ 64 → y < 2 ^ 64 → bytes_of 8 x ≡ bytes_of 8 y → x ≡ y
told x y h k e = omega (arith, sym (number_bytes 8 x) ∙ ap number e ∙ number_bytes 8 y)

block_told : (run run' i i' : ℕ) → (run < 2 ^ 64) × (run' < 2 ^ 64) → (i < 2 ^ 64) × (i' < 2 ^ 64) → run_block run i ≡ run_block run' i' → (run ≡ run') × (i ≡ i')
unfolding run_block
block_told run run' i i' h k e =
    let l : length (bytes_of 8 run) ≡ 8 = length_bytes 8 run in
    let l' : length (bytes_of 8 run') ≡ 8 = length_bytes 8 run' in
    let first : bytes_of 8 run ≡ bytes_of 8 run' = sym (take_at _ (bytes_of 8 i) 8 l) ∙ ap (take 8) e ∙ take_at _ (bytes_of 8 i') 8 l' in
    let last : bytes_of 8 i ≡ bytes_of 8 i' = sym (drop_at (bytes_of 8 run) _ 8 l) ∙ ap (drop 8) e ∙ drop_at (bytes_of 8 run') _ 8 l' in
    (told run run' h.0 h.1 first, told i i' k.0 k.1 last)

block_bytes : (run i : ℕ) → Bytes (run_block run i)
unfolding run_block
block_bytes run i = both (of_number 8 run) (of_number 8 i)

block_long : (run i : ℕ) → length (run_block run i) ≡ 16
unfolding run_block
block_long run i = length-append (bytes_of 8 run) (bytes_of 8 i) ∙ omega (arith, length_bytes 8 run, length_bytes 8 i)

pub runs_apart : RunsApart
unfolding seed_block
runs_apart γ γ' i i' one e =
    let b = run_block γ.run i in
    let b' = run_block γ'.run i' in
    let same_key : aes γ.seed b ≡ aes γ.seed b' = e ∙ ap (λ k. aes k b') (sym one.same_seed) in
    block_told γ.run γ'.run i i' one.run_numbers one.wire_numbers
    (aes_apart (all_bytes γ.seed one.bytes) (block_bytes γ.run i) (block_bytes γ'.run i') (block_long γ.run i) (block_long γ'.run i') same_key)
