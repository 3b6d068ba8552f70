-- Document 01, "Tokens", with the run number of document 02, job 4.
use Rattle.std.specs.Prelude.{ℕ, ◌+◌, ◌*◌, ◌/◌, ◌%◌, List, ◌++◌, Bool, eqb, get_or, set}
use Rattle.std.specs.Int.Bits.{differ}
use Rattle.model.specs.declared.Wanted.{Wanted}
use Rattle.model.specs.Bytes.{tabulate, bytes_of}
use Rattle.model.specs.Circuit.{Circuit, circuit_of}
use Rattle.model.specs.Aes.{Block, ◌⊕◌, times, aes}

-- What a garbling is made from: the circuit, the seed, the run number, the scheme by its byte, and whether its material has the mark 47 4A and ends in
-- hashes (02, job 12), or the mark 47 48 and ends in colours.
pub record Garbling : Type 0 where
  pub circuit : Circuit
  pub seed : Block
  pub run : ℕ
  pub scheme : ℕ
  pub hashed : Bool

-- "Garbling takes the mark wanted" (02, job 12): whether it is 47 4A
abbrev pub wants_hashes : Wanted → Bool
wants_hashes want = eqb want.mark 0x474A

-- the garbling of a circuit's bytes, as it is wanted
abbrev pub garbling_of : List ℕ → List ℕ → Wanted → Garbling
garbling_of c seed want = record { circuit = circuit_of c; seed = seed; run = want.run; scheme = want.scheme; hashed = wants_hashes want }

-- "the lowest bit of its last byte"
unfoldable pub colour : Block → ℕ
colour t = get_or t 15 0 % 2

-- the truth value that a token of colour c carries on a wire whose zero token has colour x, since R has colour 1
abbrev pub decoded : ℕ → ℕ → ℕ
decoded c x = differ c x

-- a block "with its colour set to 1"
unfoldable pub coloured : Block → Block
coloured t = set t 15 (get_or t 15 0 / 2 * 2 + 1)

-- "The distance of two tokens is their exclusive or."
unfoldable pub distance : Block → Block → Block
distance s t = s ⊕ t

-- "The block enciphered under the seed becomes the run number in the first 8 bytes and the wire number (0 for R) in the last 8, both
-- big-endian." (02, job 4)
unfoldable pub run_block : ℕ → ℕ → Block
run_block run i = bytes_of 8 run ++ bytes_of 8 i

-- 01's "AES under the seed of block i", of that block: the one place where the seed and the run number are used
unfoldable pub seed_block : Garbling → ℕ → Block
seed_block γ i = aes γ.seed (run_block γ.run i)

-- "R, the seed's offset, is AES under the seed of block 0, with its colour set to 1."
unfoldable pub offset : Garbling → Block
offset γ = coloured (seed_block γ 0)

-- "The zero token X of input wire i is AES under the seed of block i.": those of the inputs, from wire 1
unfoldable pub input_zeros : Garbling → List Block
input_zeros γ = tabulate γ.circuit.n (λ i. seed_block γ (i + 1))

-- "The one token of any wire is its zero token ⊕ R."
unfoldable pub one_token : Garbling → Block → Block
one_token γ x = x ⊕ offset γ

-- "Free gates: X of the gate = Xa ⊕ Xb, and ⊕ R more for code 9": of pu ⊕ qv ⊕ c, p times Xa ⊕ q times Xb ⊕ c times R
unfoldable pub free_zero : ℕ → ℕ → ℕ → Block → Block → Block → Block
free_zero p q c r xa xb = times p xa ⊕ times q xb ⊕ times c r

-- "Evaluation of either free gate is the exclusive or of the two tokens held."
unfoldable pub free_token : ℕ → ℕ → Block → Block → Block
free_token p q a b = times p a ⊕ times q b
