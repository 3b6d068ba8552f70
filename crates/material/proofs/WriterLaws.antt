-- Heads of the material, written piece by piece. Assumes nothing.
use Prim.Native.Nat.{ℕ, ◌+◌, ◌≤◌}
use native.Mathlib.Omega.{arith}
use mathlib.Core.Path.{◌≡◌, refl, ◌∙◌}
use mathlib.Core.List.{List, [], ◌∷◌, ◌++◌}
use lib.ListN.{length}
use Rattle.model.specs.Bytes.{two, over, put}
use Rattle.model.proofs.Buffers.{over_put, put_put}

module _ (o a b : List ℕ) where
  -- the header: the mark and the scheme byte, then n, m and q
  pub header_written : (c d : List ℕ) (y s n m q : ℕ) → 9 ≤ length o → a ≡ over (0x47 ∷ y ∷ s ∷ []) o → b ≡ put a 3 (two n) → c ≡ put b 5 (two m)
      → d ≡ put c 7 (two q) → d ≡ over (0x47 ∷ y ∷ s ∷ two n ++ two m ++ two q) o
  header_written c d y s n m q l e f g h =
      rw (h, g, f, e, over_put _ o (two n) 3 refl (omega arith), over_put _ o (two m) 5 refl (omega arith)) (over_put _ o (two q) 7 refl (omega arith))

  -- a row record's head: the mark, then the wire number
  pub head_written : (at own : ℕ) → at + 4 ≤ length o → a ≡ put o at (0x47 ∷ 0x54 ∷ []) → b ≡ put a (at + 2) (two own)
      → b ≡ put o at (0x47 ∷ 0x54 ∷ two own)
  head_written at own l e f = f ∙ rw e (put_put o at _ (two own) (at + 2) refl (omega arith))
