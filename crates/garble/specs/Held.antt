-- The seed's blocks, of which four are held at a time. Document 01, "Tokens"; 02, job 4.
use Rattle.std.specs.Prelude.{ℕ, ◌+◌, ◌*◌, ◌≤◌, ◌≡◌, List, length}
use Rattle.model.specs.declared.Wanted.{Wanted}
use Rattle.model.specs.Circuit.{charge, kind_of, gate_at, gate_wire}
use Rattle.model.specs.Aes.{Block, aes}
use Rattle.model.specs.Tokens.{run_block}
use Rattle.garble.specs.declared.plan.Plan.{Plan}
use Rattle.garble.specs.declared.seed.Held.{Held}
use Rattle.garble.specs.Blocks.{RunBlocks}

-- h holds the seed's blocks of its four wires, by the run number
abbrev pub HeldIs : Block → ℕ → Held → Type 0
HeldIs seed run h = RunBlocks seed run h.wires h.blocks

-- b is the seed's block of wire i, and h is what is held afterwards
pub record TakenIs (seed : Block) (run i : ℕ) (h : Held) (b : Block) : Type 0 where
  pub held_is : HeldIs seed run h
  pub block_is : b ≡ aes seed (run_block run i)

-- ---- scheme 1's tokens for charged gates

-- r is the seed's block of wire g, where the scheme asks for it: "for a charged gate of wire g", by GaX
pub record FreshIs (seed : Block) (want : Wanted) (code g : ℕ) (r : Block) : Type 0 where
  pub if_gax : want.scheme ≡ 1 → charge (kind_of code) ≡ 1 → r ≡ aes seed (run_block want.run g)

-- q gates of a circuit of n inputs can be read
pub record GatesRoom (c : List ℕ) (n q : ℕ) : Type 0 where
  pub room : 8 + 7 * q ≤ length c
  pub few : n + q ≤ 65535

-- b is it for gate k, and h is what is held afterwards
pub record FreshTaken (c : List ℕ) (p : Plan) (k : ℕ) (h : Held) (b : Block) : Type 0 where
  pub held_is : HeldIs p.seed.key.bytes p.wanted.run h
  pub fresh_is : FreshIs p.seed.key.bytes p.wanted (gate_at c k).code (gate_wire p.n k) b
