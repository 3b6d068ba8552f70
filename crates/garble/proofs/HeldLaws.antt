-- The seed's blocks, and scheme 1's token for a gate. Assumes nothing.
use Prim.Native.Nat.{ℕ, ◌+◌}
use mathlib.Core.Path.{◌≡◌}
use mathlib.Core.List.{List}
use Rattle.model.specs.declared.Wanted.{Wanted}
use Rattle.model.specs.Aes.{Block, key_expansion, cipher, aes}
use Rattle.model.specs.Tokens.{run_block}
use Rattle.garble.specs.declared.plan.Plan.{Plan}
use Rattle.garble.specs.declared.seed.Held.{Held}
use Rattle.garble.specs.Held.{FreshIs, TakenIs, FreshTaken}

-- a run block that was enciphered under the seed's schedule
pub held_from : (seed : Block) (run i : ℕ) (x b : Block) → b ≡ cipher (key_expansion seed) x → x ≡ run_block run i → b ≡ aes seed (run_block run i)
unfolding aes
held_from seed run i x b is_b is_x = rw (is_b, is_x)

-- ---- fresh_block
pub fresh_taken : (c : List ℕ) (p : Plan) (k : ℕ) (h : Held) (b : Block) → TakenIs p.seed.key.bytes p.wanted.run (p.n + k + 1) h b → FreshTaken c p k h b
fresh_taken c p k h b t = record { held_is = t.held_is; fresh_is = record { if_gax = λ _ _. t.block_is } }

-- ---- garble_gates: the other schemes have no use for one either
pub fresh_other : (seed : Block) (want : Wanted) (code g : ℕ) (r : Block) → (want.scheme ≡ 1 → ⊥) → FreshIs seed want code g r
fresh_other seed want code g r h = record { if_gax = λ e _. absurd (h e) }
