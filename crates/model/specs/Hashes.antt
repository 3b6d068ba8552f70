-- The two hashes of half-gates: that of document 01, "Scheme 3, half-gates", and the newer one of document 02, job 7. Each takes a token x and a
-- tweak i, and makes one encryption.
use Rattle.std.specs.Prelude.{ℕ, ◌+◌, cond, ◌++◌, eqb, get_or, take}
use Rattle.std.specs.Int.Bits.{bit_xor}
use Rattle.model.specs.Bytes.{tabulate}
use Rattle.model.specs.Aes.{Block, ◌⊕◌, block, aes, fixed_key, double}

-- One encryption: AES under a key, of a block. "The hash now receives its key with each call"
pub record Call : Type 0 where
  pub key : Block
  pub input : Block

-- what a hash makes of it: the block enciphered, ⊕ the block
unfoldable pub answered : Call → Block
answered c = aes c.key c.input ⊕ c.input

-- ---- scheme 3: "H(x,i) = π(2x ⊕ i) ⊕ 2x ⊕ i" (01; source 002, §3). Its key is "the fixed one", that of π.

unfoldable pub hash_block : Block → ℕ → Block
hash_block x i = double x ⊕ block i

unfoldable pub hash_call : Block → ℕ → Call
hash_call x i = record { key = fixed_key; input = hash_block x i }

unfoldable pub hash : Block → ℕ → Block
hash x i = answered (hash_call x i)

-- ---- scheme 4: "H(x,i) = AES under key i of σ(x), ⊕ σ(x)" (02, job 7; source 002, §4.2), re-keyed with each tweak

-- "σ of left and right 8-byte halves is (left ⊕ right, left)"
unfoldable pub sigma : Block → Block
sigma x = tabulate 8 (λ i. bit_xor (get_or x i 0) (get_or x (8 + i) 0)) ++ take 8 x

-- key i is the number as a block
unfoldable pub rekeyed_call : Block → ℕ → Call
rekeyed_call x i = record { key = block i; input = sigma x }

unfoldable pub rekeyed_hash : Block → ℕ → Block
rekeyed_hash x i = answered (rekeyed_call x i)

-- ---- by a scheme byte, 3 or 4

unfoldable pub hash_call_of : ℕ → Block → ℕ → Call
hash_call_of k = cond (eqb k 4) rekeyed_call hash_call

unfoldable pub hash_of : ℕ → Block → ℕ → Block
hash_of k x i = answered (hash_call_of k x i)
