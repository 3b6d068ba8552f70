-- GaX is sound, over any E that undoes itself. Assumes nothing.
use Prim.Native.Nat.{ℕ, ◌+◌, ◌*◌}
use mathlib.Core.Path.{◌≡◌, refl}
use mathlib.Core.List.{List, [], ◌∷◌}
use lib.ListN.{length, get_or}
use Rattle.model.specs.Circuit.{value}
use Rattle.model.specs.Aes.{Block, block}
use Rattle.model.specs.Tokens.{colour}
use Rattle.model.specs.Scheme.{Site}
use Rattle.model.specs.Gax.{carried, token_of, value_at, sealed, row_at, open_row, gax}
use Rattle.model.proofs.Bits.{Bit, b0, b1, differ_back}
use Rattle.model.proofs.Xor.{⊕_length}
use Rattle.model.proofs.Tokens.{Offset, token_for, colour_bit, token_colour}
use Rattle.model.proofs.Blocks.{none, more}
use Rattle.model.proofs.Sound.{Sound}

-- the token for truth value u has a colour that carries u
pub carried_back : {R : Block} {u : ℕ} (x : Block) → Offset R → Bit u → carried x (colour (token_for R x u)) ≡ u
unfolding carried
carried_back x o p = rw (token_colour x o p) (differ_back (colour_bit x) p)

-- what is asked of E: 16 bytes, and back by itself
pub record Undoes (E : Block → Block → ℕ → Block → Block) : Type 0 where
  pub wide : (A B : Block) (T : ℕ) (Z : Block) → length (E A B T Z) ≡ 16
  pub undone : (A B : Block) (T : ℕ) (Z : Block) → length Z ≡ 16 → E A B T (E A B T Z) ≡ Z

module _ (E : Block → Block → ℕ → Block → Block) where
  -- The rows are the paper's: "For each pair of truth values, with tokens A and B of colours c and d, row 2c+d holds
  -- E(A,B,4g+2c+d, the gate's token for its value)."
  pub row_of_pair : (s : Site) (x : Block) (u v : ℕ) → Offset s.R → Bit u → Bit v
      → let A = token_for s.R s.Xa u in
      let B = token_for s.R s.Xb v in
      row_at E s x (colour A) (colour B) ≡ E A B (4 * s.g + 2 * colour A + colour B) (token_for s.R x (value s.code u v))
  unfolding row_at sealed token_of value_at
  row_of_pair s x u v o p q = rw (carried_back s.Xa o p, carried_back s.Xb o q)

  module _ (undoes : Undoes E) where
    -- a table with each pair's row in its place opens to the gate's token
    pub table_opens : (s : Site) (rows : List Block) (x : Block)
        → ((c d : ℕ) → Bit c → Bit d → get_or rows (2 * c + d) (block 0) ≡ row_at E s x c d)
        → (u v : ℕ) → Offset s.R → Bit u → Bit v
        → open_row E s.g rows (token_for s.R s.Xa u) (token_for s.R s.Xb v) ≡ token_for s.R x (value s.code u v)
    unfolding open_row
    table_opens s rows x h u v o p q =
        rw (h _ _ (colour_bit (token_for s.R s.Xa u)) (colour_bit (token_for s.R s.Xb v)), row_of_pair s x u v o p q)
        (undoes.undone _ _ _ _ (⊕_length _ _))

    pub row_wide : (s : Site) (x : Block) (c d : ℕ) → length (row_at E s x c d) ≡ 16
    unfolding row_at sealed
    row_wide s x c d = undoes.wide _ _ _ _

    pub open_row_wide : (g : ℕ) (rows : List Block) (A B : Block) → length (open_row E g rows A B) ≡ 16
    unfolding open_row
    open_row_wide g rows A B = undoes.wide _ _ _ _

    pub gax_sound : Sound (gax E)
    unfolding gax
    gax_sound = record {
      rows_wide = λ s. more (row_wide s _ 0 0) (more (row_wide s _ 0 1) (more (row_wide s _ 1 0) (more (row_wide s _ 1 1) none)));
      zero_wide = λ s h. h;
      opened_wide = open_row_wide;
      opens = λ s u v o c p q. table_opens s _ s.fresh (table s s.fresh) u v o p q;
    }
      where
        table : (s : Site) (x : Block) (c d : ℕ) → Bit c → Bit d
            → get_or (row_at E s x 0 0 ∷ row_at E s x 0 1 ∷ row_at E s x 1 0 ∷ row_at E s x 1 1 ∷ []) (2 * c + d) (block 0) ≡ row_at E s x c d
        table s x _ _ b0 b0 = refl
        table s x _ _ b0 b1 = refl
        table s x _ _ b1 b0 = refl
        table s x _ _ b1 b1 = refl
