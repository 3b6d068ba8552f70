-- GaXR is sound, over any E that undoes itself: it is GaX with a zero token that makes row 0 block 0. Assumes nothing.
use Prim.Native.Nat.{ℕ, ◌+◌, ◌*◌}
use mathlib.Core.Path.{◌≡◌, refl}
use mathlib.Core.List.{[], ◌∷◌}
use lib.ListN.{get_or}
use Rattle.model.specs.Aes.{Block, block}
use Rattle.model.specs.Scheme.{Site}
use Rattle.model.specs.Gax.{sealed, row_at}
use Rattle.model.specs.Gaxr.{reduced_zero, gaxr}
use Rattle.model.proofs.Bits.{Bit, b0, b1}
use Rattle.model.proofs.Xor.{⊕_length, ⊕_assoc, ⊕_self, ⊕_zero}
use Rattle.model.proofs.Tokens.{block_length}
use Rattle.model.proofs.Blocks.{none, more}
use Rattle.model.proofs.Sound.{Sound}
use Rattle.model.proofs.Gax.{Undoes, table_opens, row_wide, open_row_wide}

module _ (E : Block → Block → ℕ → Block → Block) (undoes : Undoes E) where
  -- the row that is not stored
  pub row_0_is_zero : (s : Site) → block 0 ≡ row_at E s (reduced_zero E s) 0 0
  unfolding row_at reduced_zero sealed
  row_0_is_zero s = rw (⊕_assoc, ⊕_self, ⊕_zero _ (undoes.wide _ _ _ _), undoes.undone _ _ _ _ (block_length 0))

  pub gaxr_sound : Sound (gaxr E)
  unfolding gaxr
  gaxr_sound = record {
    rows_wide = λ s. more (row_wide E undoes s _ 0 1) (more (row_wide E undoes s _ 1 0) (more (row_wide E undoes s _ 1 1) none));
    zero_wide = λ s h. unfold reduced_zero in (⊕_length _ _);
    opened_wide = λ g rows A B. open_row_wide E undoes g _ A B;
    opens = λ s u v o c p q. table_opens E undoes s _ (reduced_zero E s) (table s (reduced_zero E s) (row_0_is_zero s)) u v o p q;
  }
    where
      table : (s : Site) (x : Block) → block 0 ≡ row_at E s x 0 0 → (c d : ℕ) → Bit c → Bit d
          → get_or (block 0 ∷ row_at E s x 0 1 ∷ row_at E s x 1 0 ∷ row_at E s x 1 1 ∷ []) (2 * c + d) (block 0) ≡ row_at E s x c d
      table s x e _ _ b0 b0 = e
      table s x e _ _ b0 b1 = refl
      table s x e _ _ b1 b0 = refl
      table s x e _ _ b1 b1 = refl
