-- Document 02, job 4: what garblings from one seed have in common. The theorem is `runs_apart` of proofs/Runs.antt.
use Rattle.std.specs.Prelude.{ℕ, ◌^◌, ◌<◌, ◌≡◌, get_or}
use Rattle.model.specs.Tokens.{Garbling, seed_block}

-- garblings from one seed, which is of bytes, and a wire of each, or 0 for R; runs and wires are numbers of 64 bits
pub record OneSeed (γ γ' : Garbling) (i i' : ℕ) : Type 0 where
  pub same_seed : γ.seed ≡ γ'.seed
  pub bytes : (k : ℕ) → get_or γ.seed k 0 < 256
  pub run_numbers : (γ.run < 2 ^ 64) × (γ'.run < 2 ^ 64)
  pub wire_numbers : (i < 2 ^ 64) × (i' < 2 ^ 64)

-- two pairs of a run and a wire give the same block under a seed only if they are the same pair
abbrev pub RunsApart : Type 0
RunsApart = (γ γ' : Garbling) (i i' : ℕ) → OneSeed γ γ' i i' → seed_block γ i ≡ seed_block γ' i' → (γ.run ≡ γ'.run) × (i ≡ i')
