-- As many tokens as wires, each of 16 bytes, and material as long as document 01 says. Assumes nothing.
use Prim.Native.Nat.{ℕ, zero, suc, ◌+◌, ◌*◌}
use native.Mathlib.Nat.{add-zero, add-suc, suc-add, add_comm, mul-zero, mul-suc}
use native.Mathlib.Omega.{arith}
use mathlib.Core.Path.{◌≡◌, refl, sym, ◌∙◌}
use mathlib.Core.Bool.{Bool, true, false, ◌&&◌}
use mathlib.Core.List.{List, [], ◌∷◌, ◌++◌}
use lib.Dec.{eqb}
use lib.ListN.{length, length-append}
use Rattle.model.specs.declared.Gate.{Gate}
use Rattle.model.specs.Bytes.{from}
use Rattle.model.specs.Circuit.{Kind, charged, free, refused, kind_of, charge, charges, mark_at, wires}
use Rattle.model.specs.Aes.{Block}
use Rattle.model.specs.Tokens.{Garbling, input_zeros, one_token}
use Rattle.model.specs.Scheme.{Site, Scheme, record_length}
use Rattle.model.specs.Garbling.{scheme_of, site_of, zero_step, zero_tokens, input_ones}
use Rattle.model.specs.Ending.{Ending, colours, hashes, ending_of}
use Rattle.model.specs.Material.{material_length, hashed, last_bytes, header, record_of, records, zero_of, stored_of, last_record, material}
use Rattle.model.specs.Evaluation.{open_step, past, open_gates}
use Rattle.model.proofs.Xor.{⊕_length}
use Rattle.model.proofs.Tokens.{seed_block_length}
use Rattle.model.proofs.Blocks.{Blocks, none, more, blocks_snoc, blocks_map, join_length}
use Rattle.model.proofs.Sound.{Sound}
use Rattle.model.proofs.Schemes.{scheme_sound}
use Rattle.model.proofs.Gates.{zero_at_wide, open_at_wide}
use Rattle.model.proofs.Endings.{Right, right}

-- ---- evaluation's tokens, over anyone's rows

pub opened_blocks : (S : Scheme) → Sound S → (gs : List Gate) (bs : List ℕ) {k : ℕ} {ts : List Block} → Blocks k ts
    → Blocks (k + length gs) (open_gates S gs bs ts)
unfolding open_gates open_step
opened_blocks S sound [] bs {k} r = rw (add-zero k) r
opened_blocks S sound (g ∷ gs) bs {k} r =
    let grown = blocks_snoc _ r (open_at_wide S sound (kind_of g.code) _ bs _ _) in
    rw (add-suc k, ← suc-add k) (opened_blocks S sound gs (past S (kind_of g.code) bs) grown)

-- ---- zero and one tokens

pub from_blocks : (f : ℕ → Block) → ((i : ℕ) → length (f i) ≡ 16) → (i n : ℕ) → Blocks n (from i n f)
from_blocks f h i zero = none
from_blocks f h i (suc n) = more (h i) (from_blocks f h (suc i) n)

one_more : (a n : ℕ) → a + a * n ≡ a * suc n
one_more a n = sym (mul-suc a n ∙ add_comm (a * n) a)

module _ (γ : Garbling) where
  pub input_zeros_blocks : Blocks γ.circuit.n (input_zeros γ)
  unfolding input_zeros
  input_zeros_blocks = from_blocks _ (λ i. seed_block_length γ (i + 1)) 0 γ.circuit.n

  pub input_ones_blocks : Blocks γ.circuit.n (input_ones γ)
  unfolding input_ones one_token
  input_ones_blocks = blocks_map (one_token γ) (λ x. ⊕_length x _) input_zeros_blocks

  pub zero_step_wide : (xs : List Block) (g : Gate) → length (zero_step γ xs g) ≡ 16
  unfolding zero_step site_of
  zero_step_wide xs g = zero_at_wide γ (kind_of g.code) (site_of γ xs g) (seed_block_length γ _)

  -- those after some gates
  pub zeros_blocks : (gs : List Gate) {k : ℕ} {xs : List Block} → Blocks k xs → Blocks (k + length gs) (wires (zero_step γ) gs xs)
  unfolding wires
  zeros_blocks [] {k} r = rw (add-zero k) r
  zeros_blocks (g ∷ gs) {k} {xs} r = rw (add-suc k, ← suc-add k) (zeros_blocks gs (blocks_snoc _ r (zero_step_wide xs g)))

  -- those of all wires
  pub zero_tokens_blocks : Blocks (γ.circuit.n + length γ.circuit.gates) (zero_tokens γ)
  unfolding zero_tokens
  zero_tokens_blocks = zeros_blocks γ.circuit.gates input_zeros_blocks

  -- ---- the material

  pub header_length : length (header γ) ≡ 9
  unfolding header
  header_length = refl

  pub record_length_law : (k : Kind) (s : Site) → length (record_of γ k s) ≡ charge k * record_length (scheme_of γ.scheme)
  unfolding record_of record_length
  record_length_law (charged u v x) s = simp (join_length ((scheme_sound γ.scheme).rows_wide s)) (omega arith)
  record_length_law (free p q c) s = omega arith
  record_length_law refused s = omega arith

  pub records_length : (gs : List Gate) (xs : List Block) → length (records γ gs xs) ≡ charges gs * record_length (scheme_of γ.scheme)
  unfolding records charges
  records_length [] xs = omega arith
  records_length (g ∷ gs) xs =
      simp (length-append, record_length_law, records_length gs (xs ++ (zero_step γ xs g ∷ []))) (omega arith)

  pub stored_length : {E : Ending} → Right E → (k : ℕ) (ws : List ℕ) → length (stored_of γ E k ws) ≡ E.size * length ws
  unfolding stored_of
  stored_length {E} r k [] = sym (mul-zero E.size)
  stored_length {E} r k (w ∷ ws) =
      length-append (E.stored k (zero_of γ w) (one_token γ (zero_of γ w))) (stored_of γ E (suc k) ws)
      ∙ rw (r.long k (zero_of γ w) (one_token γ (zero_of γ w)), stored_length r (suc k) ws) (one_more E.size (length ws))

  pub last_length : length (last_record γ) ≡ 2 + last_bytes γ.hashed (length γ.circuit.outputs)
  unfolding last_record last_bytes
  last_length = rw (stored_length (right γ.hashed) 1 γ.circuit.outputs) (omega arith)

  pub material_length_law : length (material γ) ≡ material_length γ.scheme (last_bytes γ.hashed (length γ.circuit.outputs)) (charges γ.circuit.gates)
  unfolding material material_length
  material_length_law = simp (length-append, header_length, records_length, last_length) (omega arith)

  -- its mark is that of what it ends in
  pub hashed_is : hashed (material γ) ≡ γ.hashed
  unfolding material header hashed mark_at ending_of colours hashes
  hashed_is = go γ.hashed
    where
      go : (b : Bool) → (eqb 0x47 0x47 && eqb (ending_of b).header_mark 0x4A) ≡ b
      go true = refl
      go false = refl
