-- The rows of a charged gate in the material s, as they are loaded. Document 01, "Scheme 1" to "Scheme 3" and "Material"; 02, job 7.
use Rattle.std.specs.Prelude.{ℕ, ◌+◌, ◌≤◌, ◌≡◌, List, ◌∷◌, length, get_or, drop}
use Rattle.model.specs.Aes.{Block, block}
use Rattle.model.specs.Scheme.{record_length}
use Rattle.model.specs.Garbling.{Known, scheme_of}
use Rattle.model.specs.Evaluation.{cut}

-- room for rows 1 to 3 of scheme 2, from an index on; i is one of them, or 0
pub record RowRoom (first i : ℕ) (s : List ℕ) : Type 0 where
  pub number : i ≤ 3
  pub room : first + 48 ≤ length s

-- the same of row i of schemes 1 and 2
pub record HeldRoom (scheme first i : ℕ) (s : List ℕ) : Type 0 where
  pub rows : RowRoom first i s
  pub all : scheme ≡ 1 → first + 64 ≤ length s

-- r is row i of schemes 1 and 2, whose rows start at an index
pub record HeldRow (scheme first i : ℕ) (s : List ℕ) (r : Block) : Type 0 where
  pub by_gax : scheme ≡ 1 → r ≡ get_or (cut 4 (drop first s)) i (block 0)
  pub by_gaxr : (scheme ≡ 1 → ⊥) → r ≡ get_or (block 0 ∷ cut 3 (drop first s)) i (block 0)

-- room for a record of a scheme at an index
pub record RecordRoom (scheme at : ℕ) (s : List ℕ) : Type 0 where
  pub known : Known scheme
  pub room : at + record_length (scheme_of scheme) ≤ length s
