-- Decoding: what it starts from, and what it finds and leaves. Document 01, "Operations", and 02, job 12.
use Rattle.std.specs.Prelude.{ℕ, ◌+◌, ◌*◌, ◌-◌, ◌≤◌, ◌<◌, ◌≡◌, Bool, true, false, cond, List, length, get_or, take, drop}
use Rattle.model.specs.Bytes.{tabulate}
use Rattle.model.specs.Ending.{Ending, agrees, ending_of}
use Rattle.model.specs.Material.{hashed, last_bytes}
use Rattle.model.specs.Evaluation.{bytes_for}
use Rattle.model.specs.Refusals.{Verdict, refuse, first_of}
use Rattle.model.specs.Operations.{written}
use Rattle.evaluate.specs.declared.hashes.Differing.{Differing}

-- ---- output i, from 0: its token among ts, and what is stored of it, where that of all outputs starts at an index of s

-- 29 of it
unfoldable pub known_verdict : Ending → List ℕ → List ℕ → ℕ → ℕ → Verdict
known_verdict E ts s first i = refuse (E.unknown (i + 1) (take 16 (drop (16 * i) ts)) (bytes_for E s first i)) 29 (i + 1)

-- the bits of m outputs
unfoldable pub bits_of : Ending → List ℕ → List ℕ → ℕ → ℕ → List ℕ
bits_of E ts s first m = tabulate m (λ i. E.bit (i + 1) (take 16 (drop (16 * i) ts)) (bytes_for E s first i))

-- ---- colours: the tokens ts of m outputs, material s whose last m bytes are bits, and room for m bits
pub record LastStart (m : ℕ) (ts s o : List ℕ) : Type 0 where
  pub tokens : length ts ≡ 16 * m
  pub inside : m ≤ length s
  pub bits : (i : ℕ) → i < m → get_or s (length s - m + i) 0 ≤ 1
  pub room : m ≤ length o

-- ---- hashes: the tokens ts of m outputs, and their hashes in s from an index on
pub record HashesStart (m first : ℕ) (ts s : List ℕ) : Type 0 where
  pub few : m ≤ 65535
  pub tokens : 16 * m ≤ length ts
  pub stored : first + 32 * m ≤ length s

-- the token of output i agrees with the hash at an index of s
unfoldable pub agreed : List ℕ → List ℕ → ℕ → ℕ → Bool
agreed ts s i at = agrees (i + 1) (take 16 (drop (16 * i) ts)) (take 16 (drop at s))

-- both comparisons of output i
pub record DifferingIs (ts s : List ℕ) (first i : ℕ) (d : Differing) : Type 0 where
  pub is_zero : d.zero ≡ cond (agreed ts s i (first + 32 * i)) 0 1
  pub is_one : d.one ≡ cond (agreed ts s i (first + 32 * i + 16)) 0 1

-- and room for the bits
pub record HashedStart (m first : ℕ) (ts s o : List ℕ) : Type 0 where
  pub hashes : HashesStart m first ts s
  pub room : m ≤ length o

-- ---- 29, or the bits
pub record BitsAre (E : Ending) (first m : ℕ) (ts s o : List ℕ) (v : Verdict) (x : List ℕ) : Type 0 where
  pub answered : v ≡ first_of (known_verdict E ts s first) m
  pub left : x ≡ written v (bits_of E ts s first m) o

-- by the material's mark
pub record BitsStart (m : ℕ) (ts s o : List ℕ) : Type 0 where
  pub few : m ≤ 65535
  pub tokens : length ts ≡ 16 * m
  pub by_colours : hashed s ≡ false → LastStart m ts s o
  pub by_hashes : hashed s ≡ true → 32 * m ≤ length s
  pub room : m ≤ length o

-- where what is stored of m outputs starts
unfoldable pub stored_start : List ℕ → ℕ → ℕ
stored_start s m = length s - last_bytes (hashed s) m

abbrev pub MarkedBits : ℕ → List ℕ → List ℕ → List ℕ → Verdict → List ℕ → Type 0
MarkedBits m ts s o v x = BitsAre (ending_of (hashed s)) (stored_start s m) m ts s o v x
