-- A law for each part of a gate: what its pieces are makes it what the scheme defines. Assumes nothing.
use Prim.Native.Nat.{ℕ, ◌+◌, ◌*◌, ◌-◌}
use mathlib.Core.Path.{◌≡◌, refl, sym, ap, ◌∙◌}
use mathlib.Core.List.{List}
use borrow.Author.Tests.{ne_eqb}
use Rattle.model.specs.Aes.{Block, ◌⊕◌, times, block, key_expansion, cipher, fixed_key, aes, π, double, quadruple}
use Rattle.model.specs.Circuit.{value}
use Rattle.model.specs.Tokens.{colour}
use Rattle.model.specs.Scheme.{Site}
use Rattle.model.specs.Gax.{key_block, carried, token_of, value_at, sealed, row_at, dual_key}
use Rattle.model.specs.Hashes.{answered, hash_block, hash_call, hash, sigma, rekeyed_call, rekeyed_hash, hash_call_of, hash_of}
use Rattle.scheme.specs.declared.cipher.Answers.{Answers}
use Rattle.planes.specs.declared.packing.Four.{Four}
use Rattle.scheme.specs.Garbled.{AnswersAre, HashedFour, HashesAre}
use Rattle.model.proofs.Xor.{⊕_assoc, ⊕_zero, ⊕_length}

-- a gate's value at the colours c and d, which carry u and v
pub value_is : (s : Site) (c d u v x : ℕ) → x ≡ value s.code u v → u ≡ carried s.Xa c → v ≡ carried s.Xb d → x ≡ value_at s c d
unfolding value_at
value_is s c d u v x is_x is_u is_v = rw (is_x, is_u, is_v)

-- K, from 2A, 4B and T: a and b are the first two
pub key_is : (a b : Block) (t : ℕ) (n z k : Block) → k ≡ a ⊕ z → z ≡ b ⊕ n → n ≡ block t → k ≡ a ⊕ b ⊕ block t
key_is a b t n z k is_k is_z is_n = rw (is_k, is_z, is_n)

-- a block enciphered, ⊕ itself: p is the block enciphered
pub masked_is : (w : List ℕ) (x p r : Block) → r ≡ p ⊕ x → p ≡ cipher w x → r ≡ cipher w x ⊕ x
masked_is w x p r is_r is_p = rw (is_r, is_p)

-- twice a token, and four times
pub two_times : (x y z : Block) → y ≡ double x → x ≡ z → y ≡ double z
two_times x y z is_y is_x = rw (is_y, is_x)

pub four_times : (x y z : Block) → y ≡ quadruple x → x ≡ z → y ≡ quadruple z
four_times x y z is_y is_x = rw (is_y, is_x)

-- E by the colours c and d of the tokens held
pub opened_is : (a b row x : Block) (g c d t : ℕ) → x ≡ dual_key a b t row → t ≡ 4 * g + 2 * c + d → c ≡ colour a → d ≡ colour b
    → x ≡ dual_key a b (4 * g + 2 * colour a + colour b) row
opened_is a b row x g c d t is_x is_t is_c is_d = rw (is_x, is_t, is_c, is_d)

-- K of a row, by its tweak
pub row_key_is : (g c d t : ℕ) (a b k : Block) → k ≡ a ⊕ b ⊕ block t → t ≡ 4 * g + 2 * c + d → k ≡ a ⊕ b ⊕ block (4 * g + 2 * c + d)
row_key_is g c d t a b k is_k is_t = rw (is_k, is_t)

-- E of block 0 under the tokens of colours c and d, from twice the one, a, and four times the other, b
pub mask_is : (s : Site) (c d : ℕ) (a b k x : Block) → x ≡ cipher (key_expansion fixed_key) k ⊕ k → k ≡ a ⊕ b ⊕ block (4 * s.g + 2 * c + d)
    → a ≡ double (token_of s.R s.Xa c) → b ≡ quadruple (token_of s.R s.Xb d) → x ≡ sealed dual_key s c d (block 0)
unfolding sealed dual_key key_block π aes
mask_is s c d a b k x is_x is_k is_a is_b =
    let A = token_of s.R s.Xa c in
    let B = token_of s.R s.Xb d in
    let T : ℕ = 4 * s.g + 2 * c + d in
    rw (is_x, is_k, is_a, is_b) (ap (λ (y : Block). π (key_block A B T) ⊕ y) (sym (⊕_zero (key_block A B T) (⊕_length (double A) (quadruple B ⊕ block T)))))

-- E of z is that of block 0, ⊕ z
masked : (a b : Block) (t : ℕ) (z : Block) → dual_key a b t (block 0) ⊕ z ≡ dual_key a b t z
unfolding dual_key key_block
masked a b t z =
    let k : Block = key_block a b t in
    rw (⊕_zero k (⊕_length (double a) (quadruple b ⊕ block t))) (⊕_assoc (π k) k z)

-- a row, from the mask of its colours: z is the gate's token for its value v, and y is R where v is 1
pub row_is : (s : Site) (x : Block) (c d : ℕ) (mask y z r : Block) (v : ℕ) → r ≡ mask ⊕ z → mask ≡ sealed dual_key s c d (block 0) → z ≡ x ⊕ y
    → y ≡ times v s.R → v ≡ value_at s c d → r ≡ row_at dual_key s x c d
unfolding row_at sealed
row_is s x c d mask y z r v is_r is_mask is_z is_y is_v = rw (is_r, is_mask, is_z, is_y, is_v) (masked _ _ _ _)

-- H: p is π(k)
pub hash_is : (x : Block) (i : ℕ) (k p h : Block) → k ≡ hash_block x i → p ≡ π k → h ≡ p ⊕ k → h ≡ hash x i
unfolding hash hash_call answered π
hash_is x i k p h is_k is_p is_h = rw (is_h, is_p, is_k)

-- scheme 4's H: p is the block k enciphered under the key n
pub rekeyed_is : (x : Block) (i : ℕ) (n k p h : Block) → n ≡ block i → k ≡ sigma x → p ≡ aes n k → h ≡ p ⊕ k → h ≡ rekeyed_hash x i
unfolding rekeyed_hash rekeyed_call answered
rekeyed_is x i n k p h is_n is_k is_p is_h = rw (is_h, is_p, is_n, is_k)

-- the same of a block k enciphered, ⊕ itself
pub hash_masked : (x : Block) (i : ℕ) (k h : Block) → h ≡ cipher (key_expansion fixed_key) k ⊕ k → k ≡ hash_block x i → h ≡ hash x i
unfolding π aes
hash_masked x i k h is_h is_k = hash_is x i k (π k) h is_k refl is_h

pub rekeyed_masked : (x : Block) (i : ℕ) (n k h : Block) → h ≡ cipher (key_expansion n) k ⊕ k → k ≡ sigma x → n ≡ block i → h ≡ rekeyed_hash x i
unfolding aes
rekeyed_masked x i n k h is_h is_k is_n = rekeyed_is x i n k (aes n k) h is_n is_k refl is_h

-- H of a scheme byte, 3 or 4, of two tokens
module _ (scheme : ℕ) (x y : Block) (i j : ℕ) (r : Answers) where
  pub by_rekeyed : scheme ≡ 4 → AnswersAre (rekeyed_hash x i) (rekeyed_hash y j) r → AnswersAre (hash_of scheme x i) (hash_of scheme y j) r
  unfolding hash_of hash_call_of rekeyed_hash
  by_rekeyed e h = rw e h

  pub by_fixed : (scheme ≡ 4 → ⊥) → AnswersAre (hash x i) (hash y j) r → AnswersAre (hash_of scheme x i) (hash_of scheme y j) r
  unfolding hash_of hash_call_of hash
  by_fixed n h = rw (ne_eqb scheme 4 n) h

-- and of four, for a gate: x and y are A ⊕ R and B ⊕ R
module _ (scheme g : ℕ) (R A B x y : Block) (h : Four) (is_x : x ≡ A ⊕ R) (is_y : y ≡ B ⊕ R) where
  pub gate_rekeyed : scheme ≡ 4 → HashedFour rekeyed_hash A x (2 * g) B y (2 * g + 1) h → HashesAre (hash_of scheme) R A B g h
  unfolding hash_of hash_call_of rekeyed_hash
  gate_rekeyed e f = rw (e, ← is_x, ← is_y) f

  of_fixed : (scheme ≡ 4 → ⊥) → (z : Block) (i : ℕ) → hash z i ≡ hash_of scheme z i
  unfolding hash_of hash_call_of hash
  of_fixed n z i = rw (ne_eqb scheme 4 n)

  pub gate_fixed : (scheme ≡ 4 → ⊥) → HashedFour hash A x (2 * g) B y (2 * g + 1) h → HashesAre (hash_of scheme) R A B g h
  gate_fixed n f =
      rw (← is_x, ← is_y)
      (record {
        is_a = f.is_a ∙ of_fixed n A (2 * g);
        is_b = f.is_b ∙ of_fixed n x (2 * g);
        is_c = f.is_c ∙ of_fixed n B (2 * g + 1);
        is_d = f.is_d ∙ of_fixed n y (2 * g + 1);
      })

-- x and 1-u times R
pub offset_is : (x r y a : Block) (u v : ℕ) → a ≡ x ⊕ y → y ≡ times v r → v ≡ 1 - u → a ≡ x ⊕ times (1 - u) r
offset_is x r y a u v is_a is_y is_v = rw (is_a, is_y, is_v)

-- a half-gate's row: v is its second hash, with z
pub half_row_is : (x y z v r : Block) → r ≡ x ⊕ v → v ≡ y ⊕ z → r ≡ x ⊕ y ⊕ z
half_row_is x y z v r is_r is_v = rw (is_r, is_v)

-- the exclusive or of the evaluator's four parts, s and t being the colours of A and B
pub join_is : (ha hb G E A B x u v w y z : Block) (s t : ℕ) → x ≡ ha ⊕ u → u ≡ v ⊕ w → v ≡ times s G → s ≡ colour A → w ≡ hb ⊕ y
    → y ≡ times t z → z ≡ E ⊕ A → t ≡ colour B → x ≡ ha ⊕ times (colour A) G ⊕ hb ⊕ times (colour B) (E ⊕ A)
join_is ha hb G E A B x u v w y z s t is_x is_u is_v is_s is_w is_y is_z is_t = rw (is_x, is_u, is_v, is_s, is_w, is_y, is_z, is_t)
