-- What the inner functions leave in the buffers.
use Rattle.std.specs.Prelude.{ℕ, ◌+◌, ◌*◌, ◌≤◌, ◌≡◌, List, [], ◌∷◌, length, get_or, take, drop}
use Rattle.model.specs.Bytes.{tabulate, over}
use Rattle.model.specs.Aes.{Block, ◌⊕◌, aes, block}
use Rattle.model.specs.Tokens.{run_block}
use Rattle.model.specs.Material.{join_blocks}
use Rattle.garble.specs.declared.plan.Plan.{Plan}

-- room for the tokens of n inputs in both lists
pub record InputsRoom (n : ℕ) (z o : List ℕ) : Type 0 where
  pub zeros : 16 * n ≤ length z
  pub ones : 16 * n ≤ length o

-- the zero token of input i, from 0, by a plan
unfoldable pub input_zero : Plan → ℕ → Block
input_zero p i = aes p.seed.key.bytes (run_block p.wanted.run (i + 1))

-- the zero and the one tokens of all inputs: z, o at entry and z', o' at exit
pub record InputsIs (p : Plan) (z o z' o' : List ℕ) : Type 0 where
  pub zeros_left : z' ≡ over (join_blocks (tabulate p.n (input_zero p))) z
  pub ones_left : o' ≡ over (join_blocks (tabulate p.n (λ i. input_zero p i ⊕ p.r.bytes))) o

-- ---- encoding

-- the token of input i, from 0, for a value
unfoldable pub input_token : ℕ → List ℕ → List ℕ → ℕ → Block
input_token value z o i = get_or (take 16 (drop (16 * i) z) ∷ take 16 (drop (16 * i) o) ∷ []) value (block 0)

pub record TokenRoom (z o : List ℕ) (i : ℕ) : Type 0 where
  pub zeros : 16 * i + 16 ≤ length z
  pub ones : 16 * i + 16 ≤ length o

-- n values that are bits, lists of n tokens, and room for n more
pub record EncodeStart (n : ℕ) (v z o t : List ℕ) : Type 0 where
  pub values : length v ≡ n
  pub bits : (i : ℕ) → get_or v i 0 ≤ 1
  pub zeros : length z ≡ 16 * n
  pub ones : length o ≡ 16 * n
  pub room : 16 * n ≤ length t
