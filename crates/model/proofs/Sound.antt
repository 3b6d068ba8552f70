-- What is asked of a scheme at a charged gate: its rows open to the token of the gate's value. Assumes nothing.
use Prim.Native.Nat.{ℕ}
use mathlib.Core.Path.{◌≡◌}
use mathlib.Core.List.{List}
use lib.ListN.{length}
use Rattle.model.specs.Circuit.{kind_of, value}
use Rattle.model.specs.Aes.{Block}
use Rattle.model.specs.Scheme.{Site, Scheme}
use Rattle.model.proofs.Bits.{Bit}
use Rattle.model.proofs.Tokens.{Offset, token_for}
use Rattle.model.proofs.Codes.{Charged}
use Rattle.model.proofs.Blocks.{Blocks}

-- evaluation, which holds the operands' tokens for u and v, leaves the gate's token for its value at u and v
abbrev pub Opens : Scheme → Site → ℕ → ℕ → Type 0
Opens S s u v =
    S.opened s.g (S.rows s) (token_for s.R s.Xa u) (token_for s.R s.Xb v) ≡ token_for s.R (S.zero_token s) (value s.code u v)

pub record Sound (S : Scheme) : Type 0 where
  pub rows_wide : (s : Site) → Blocks S.stored (S.rows s)
  pub zero_wide : (s : Site) → length s.fresh ≡ 16 → length (S.zero_token s) ≡ 16
  pub opened_wide : (g : ℕ) (rows : List Block) (A B : Block) → length (S.opened g rows A B) ≡ 16
  pub opens : (s : Site) (u v : ℕ) → Offset s.R → Charged (kind_of s.code) → Bit u → Bit v → Opens S s u v
