-- Two columns in a word: exclusive or by halves, and a round whose key comes last. Assumes nothing.
use mathlib.Core.Path.{◌≡◌, ap, ap₂, ◌∙◌}
use mathlib.Core.List.{List}
use Prim.Native.Nat.{ℕ}
use lib.Bits.{bit_xor, xor_shr, xor_mod, xor_zero_r}
use Rattle.model.specs.Aes.{◌⊕◌, sub_bytes, shift_rows, mix_columns}
use Rattle.aes.specs.declared.packed.Words.{Words}
use Rattle.aes.specs.declared.folded.Folded.{Folded}
use Rattle.aes.specs.Tables.{state_of, IsTTables}
use Rattle.aes.specs.Round.{Spread}
use Rattle.aes.specs.Folded.{columns, Joined}
use Rattle.aes.proofs.Spreads.{made, is_a, is_b, is_c, is_d, keyed_round}

pub both : (f : Folded) (s : Words) → f.a ≡ s.a → f.b ≡ s.b → Joined f.cd s.c s.d → columns f ≡ s
both f s a b j = rw (a, b, j.is_low, j.is_high)

-- a column with nothing in it before
bare : (y v x : ℕ) → v ≡ bit_xor y x → x ≡ 0 → v ≡ y
bare y v x e h = e ∙ ap (bit_xor y) h ∙ xor_zero_r y

-- the columns s of o, spread into the first two words of the key k; the last two are added to them folded
module _ (m : List ℕ) (is_m : IsTTables m) (o : Folded) (s k z p q u v : Words) (is_s : s ≡ columns o) (is_z : z ≡ record { a = k.a; b = k.b; c = 0; d = 0 })
    (one : Spread m z s.a p) (two : Spread m p s.b q) (three : Spread m q s.c u) (four : Spread m u s.d v)
    (x y : ℕ) (is_x : Joined x v.c v.d) (is_y : Joined y k.c k.d) where
  pub folded_round : state_of (columns (record { a = v.a; b = v.b; cd = bit_xor x y })) ≡ mix_columns (shift_rows (sub_bytes (state_of (columns o)))) ⊕ state_of k
  folded_round =
      let c = bare (made m s.c s.d s.a s.b) _ _ (is_c m s z p q u v one two three four) (ap (λ (t : Words). t.c) is_z) in
      let d = bare (made m s.d s.a s.b s.c) _ _ (is_d m s z p q u v one two three four) (ap (λ (t : Words). t.d) is_z) in
      keyed_round m is_m s k _
      (is_a m s z p q u v one two three four ∙ ap (λ (t : Words). bit_xor (made m s.a s.b s.c s.d) t.a) is_z)
      (is_b m s z p q u v one two three four ∙ ap (λ (t : Words). bit_xor (made m s.b s.c s.d s.a) t.b) is_z)
      (xor_mod x y 32 ∙ ap₂ bit_xor (is_x.is_low ∙ c) is_y.is_low)
      (xor_shr x y 32 ∙ ap₂ bit_xor (is_x.is_high ∙ d) is_y.is_high)
      ∙ ap (λ (t : Words). mix_columns (shift_rows (sub_bytes (state_of t))) ⊕ state_of k) is_s
