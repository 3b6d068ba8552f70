-- Document 01, "Scheme 2, GaXR", over any dual-key cipher E.
use Rattle.std.specs.Prelude.{ℕ, [], ◌∷◌}
use Rattle.model.specs.Aes.{Block, ◌⊕◌, block, times}
use Rattle.model.specs.Scheme.{Site, Scheme}
use Rattle.model.specs.Gax.{value_at, sealed, row_at, open_row}

module _ (E : Block → Block → ℕ → Block → Block) where
  -- "the pair of colours 0,0 is done first: the gate's token for that pair's value is E(A,B,4g,block 0), the other token is that ⊕ R"
  unfoldable pub reduced_zero : Site → Block
  reduced_zero s = sealed E s 0 0 (block 0) ⊕ times (value_at s 0 0) s.R

  -- "row 0 is not stored. Three rows, 1 to 3. Evaluation takes block 0 for row 0."
  unfoldable pub gaxr : Scheme
  gaxr = record {
    stored = 3;
    zero_token = reduced_zero;
    rows = λ s. row_at E s (reduced_zero s) 0 1 ∷ row_at E s (reduced_zero s) 1 0 ∷ row_at E s (reduced_zero s) 1 1 ∷ [];
    opened = λ g rows. open_row E g (block 0 ∷ rows);
  }
