-- AES under a key takes no two blocks to one: each step of a round can be undone. Assumes nothing.
use mathlib.Core.Path.{◌≡◌, refl, sym, ap, ap₂, ◌∙◌}
use mathlib.Core.Bool.{Bool}
use mathlib.Core.List.{List, ◌∷◌}
use Prim.Native.Nat.{ℕ, zero, suc, ◌+◌, ◌*◌, ◌/◌, ◌%◌, ◌^◌, ◌<◌}
use native.Mathlib.Omega.{arith}
use lib.Bits.{bit_xor}
use lib.Dec.{T, eqb, eqb→eq}
use lib.ListN.{length, get_or}
use Rattle.model.specs.Bytes.{tabulate}
use Rattle.model.specs.Aes.{Block, ◌⊕◌, xtime, inverse, bit, affine_bit, affine_bits, s_box, sub_bytes, shift_rows, mix_byte, mix_word, mix_columns, round_key, add_round_key, key_expansion, aes_round, rounds, cipher, aes}
use Rattle.model.proofs.Lists.{from_cong, entry, elements}
use Rattle.model.proofs.Number.{Bytes, byte_at}
use Rattle.model.proofs.Table.{every, at}
use Rattle.model.proofs.Field.{inverse_twice}
use Rattle.model.proofs.Xor.{⊕_length, ⊕_assoc, ⊕_self, ⊕_zero}
use Rattle.model.proofs.Mix.{xtime_sum, mix_sum}
use Rattle.model.proofs.XorRules.{sums}
use Rattle.model.proofs.AesBytes.{xor_byte, inverse_byte, sub_bytes_law, shift_bytes, rounds_bytes, expand_bytes}

-- ---- each step undone

-- the S-box: the affine map undone (FIPS 197, §5.3.2), then the inverse
un_bit : ℕ → ℕ → ℕ
un_bit y i = (bit y ((i + 2) % 8) + bit y ((i + 5) % 8) + bit y ((i + 7) % 8) + bit 0x05 i) % 2

un_bits : ℕ → ℕ → ℕ
un_bits zero y = 0
un_bits (suc n) y = un_bit y n * 2 ^ n + un_bits n y

un_s_box : ℕ → ℕ
un_s_box y = inverse (un_bits 8 y)

bytes : List ℕ
bytes = tabulate 256 (λ i. i)

straight : ℕ → ℕ → Bool
straight x y = eqb (un_bits 8 (affine_bits 8 x)) x

all_straight : T (every straight 0 bytes)
unfolding straight bytes un_bits un_bit bit affine_bit affine_bits
all_straight = tt

affine_undone : (x : ℕ) → x < 256 → un_bits 8 (affine_bits 8 x) ≡ x
unfolding straight bytes
affine_undone x h = eqb→eq (un_bits 8 (affine_bits 8 x)) x (at straight bytes all_straight x h)

s_box_undone : (a : ℕ) → a < 256 → un_s_box (s_box a) ≡ a
unfolding un_s_box s_box
s_box_undone a h = ap inverse (affine_undone (inverse a) (inverse_byte a h)) ∙ inverse_twice a h

sub_undone : {s : Block} → Bytes s → length s ≡ 16 → tabulate 16 (λ i. un_s_box (get_or (sub_bytes s) i 0)) ≡ s
unfolding sub_bytes
sub_undone {s} r l =
    from_cong 0 16 _ (λ i. get_or s i 0) (λ i h. ap un_s_box (entry 0 16 (λ k. s_box (get_or s k 0)) i (omega arith)) ∙ s_box_undone (get_or s i 0) (byte_at r i))
    ∙ elements 16 s l

-- the rows, turned on to where they were
un_shift : Block → Block
un_shift s = tabulate 16 (λ i. get_or s (i % 4 + 4 * ((i / 4 + 3 * (i % 4)) % 4)) 0)

shift_undone : (s : Block) → length s ≡ 16 → un_shift (shift_rows s) ≡ s
unfolding shift_rows un_shift
shift_undone s l = elements 16 s l

-- a round's key, added again
key_undone : (w : List ℕ) (r : ℕ) (s : Block) → length s ≡ 16 → add_round_key w r (add_round_key w r s) ≡ s
unfolding add_round_key
key_undone w r s l = ⊕_assoc s (round_key w r) (round_key w r) ∙ ap (s ⊕◌) (⊕_self (round_key w r)) ∙ ⊕_zero s l

-- the first byte of a column from its mixed bytes: their sum is that of the column; then the first and third byte together, the first and
-- second, and the first
un_mix : ℕ → ℕ → ℕ → ℕ → ℕ
un_mix p q r t =
    let all = bit_xor p (bit_xor q (bit_xor r t)) in
    let third = bit_xor p (bit_xor r (xtime all)) in
    let second = bit_xor p (bit_xor q (xtime third)) in
    bit_xor p (bit_xor all (xtime second))

module _ (a b c d : ℕ) (ha : a < 256) (hb : b < 256) (hc : c < 256) (hd : d < 256) where
  mix_undone : un_mix (mix_byte a b c d) (mix_byte b c d a) (mix_byte c d a b) (mix_byte d a b c) ≡ a
  unfolding un_mix
  mix_undone =
      let whole : xtime (bit_xor a (bit_xor b (bit_xor c d))) ≡ bit_xor (xtime a) (bit_xor (xtime b) (bit_xor (xtime c) (xtime d))) =
      rw (xtime_sum a _ ha (xor_byte b _ hb (xor_byte c d hc hd)), xtime_sum b _ hb (xor_byte c d hc hd), xtime_sum c d hc hd) in
      let all : bit_xor (mix_byte a b c d) (bit_xor (mix_byte b c d a) (bit_xor (mix_byte c d a b) (mix_byte d a b c))) ≡ bit_xor a (bit_xor b (bit_xor c d)) =
      rw (mix_sum a b c d, mix_sum b c d a, mix_sum c d a b, mix_sum d a b c) (simp sums) in
      let third : bit_xor (mix_byte a b c d) (bit_xor (mix_byte c d a b) (bit_xor (xtime a) (bit_xor (xtime b) (bit_xor (xtime c) (xtime d))))) ≡ bit_xor a c =
      rw (mix_sum a b c d, mix_sum c d a b) (simp sums) in
      let second : bit_xor (mix_byte a b c d) (bit_xor (mix_byte b c d a) (bit_xor (xtime a) (xtime c))) ≡ bit_xor a b =
      rw (mix_sum a b c d, mix_sum b c d a) (simp sums) in
      let first : bit_xor (mix_byte a b c d) (bit_xor (bit_xor a (bit_xor b (bit_xor c d))) (bit_xor (xtime a) (xtime b))) ≡ a =
      rw (mix_sum a b c d) (simp sums) in
      rw (all, whole, third, xtime_sum a c ha hc, second, xtime_sum a b ha hb) first

-- column by column, each byte with the three that come after it in its column
un_mix_columns : Block → Block
un_mix_columns s =
    tabulate 16 (λ i. let c = 4 * (i / 4) in un_mix (get_or s (c + i % 4) 0) (get_or s (c + (i + 1) % 4) 0) (get_or s (c + (i + 2) % 4) 0) (get_or s (c + (i + 3) % 4) 0))

next : {x y : ℕ} {xs ys : List ℕ} → x ≡ y → xs ≡ ys → ◌≡◌ {A = List ℕ} (x ∷ xs) (y ∷ ys)
next e f = ap₂ {A = ℕ} {B = List ℕ} {C = List ℕ} (λ x xs. x ∷ xs) e f

columns_same : {s : Block} → Bytes s → un_mix_columns (mix_columns s) ≡ tabulate 16 (λ i. get_or s i 0)
unfolding mix_columns mix_word un_mix_columns
columns_same {s} r =
    next (u 0 1 2 3) (next (u 1 2 3 0) (next (u 2 3 0 1) (next (u 3 0 1 2)
    (next (u 4 5 6 7) (next (u 5 6 7 4) (next (u 6 7 4 5) (next (u 7 4 5 6)
    (next (u 8 9 10 11) (next (u 9 10 11 8) (next (u 10 11 8 9) (next (u 11 8 9 10)
    (next (u 12 13 14 15) (next (u 13 14 15 12) (next (u 14 15 12 13) (next (u 15 12 13 14) refl)))))))))))))))
  where
    u : (i j k l : ℕ) → let a = get_or s i 0 in let b = get_or s j 0 in let c = get_or s k 0 in let d = get_or s l 0 in
        un_mix (mix_byte a b c d) (mix_byte b c d a) (mix_byte c d a b) (mix_byte d a b c) ≡ a
    u i j k l = mix_undone (get_or s i 0) (get_or s j 0) (get_or s k 0) (get_or s l 0) (byte_at r i) (byte_at r j) (byte_at r k) (byte_at r l)

columns_undone : {s : Block} → Bytes s → length s ≡ 16 → un_mix_columns (mix_columns s) ≡ s
columns_undone {s} r l = columns_same r ∙ elements 16 s l

-- ---- so a round and the cipher can be undone

-- what can be undone takes no two to one
apart : {A : Type 0} (f g : A → A) {s t : A} → g (f s) ≡ s → g (f t) ≡ t → f s ≡ f t → s ≡ t
apart f g e h same = sym e ∙ ap g same ∙ h

key_apart : (w : List ℕ) (r : ℕ) {s t : Block} → length s ≡ 16 → length t ≡ 16 → add_round_key w r s ≡ add_round_key w r t → s ≡ t
key_apart w r {s} {t} l k = apart (add_round_key w r) (add_round_key w r) (key_undone w r s l) (key_undone w r t k)

shift_apart : {s t : Block} → length s ≡ 16 → length t ≡ 16 → shift_rows s ≡ shift_rows t → s ≡ t
shift_apart {s} {t} l k = apart shift_rows un_shift (shift_undone s l) (shift_undone t k)

sub_apart : {s t : Block} → Bytes s → Bytes t → length s ≡ 16 → length t ≡ 16 → sub_bytes s ≡ sub_bytes t → s ≡ t
sub_apart p q l k = apart sub_bytes (λ y. tabulate 16 (λ i. un_s_box (get_or y i 0))) (sub_undone p l) (sub_undone q k)

mix_apart : {s t : Block} → Bytes s → Bytes t → length s ≡ 16 → length t ≡ 16 → mix_columns s ≡ mix_columns t → s ≡ t
mix_apart p q l k = apart mix_columns un_mix_columns (columns_undone p l) (columns_undone q k)

-- what a step leaves has 16 bytes
sub_length : (s : Block) → length (sub_bytes s) ≡ 16
unfolding sub_bytes
sub_length s = refl

shift_length : (s : Block) → length (shift_rows s) ≡ 16
unfolding shift_rows
shift_length s = refl

mix_length : (s : Block) → length (mix_columns s) ≡ 16
unfolding mix_columns
mix_length s = refl

rounds_length : (w : List ℕ) (r : ℕ) (s : Block) → length (rounds w r s) ≡ 16
unfolding rounds aes_round add_round_key
rounds_length w zero s = ⊕_length _ _
rounds_length w (suc r) s = ⊕_length _ _

module _ {w s t : List ℕ} (v : Bytes w) (p : Bytes s) (q : Bytes t) (l : length s ≡ 16) (k : length t ≡ 16) where
  -- what a round starts from
  boxed_apart : (r : ℕ) → shift_rows (sub_bytes (rounds w r s)) ≡ shift_rows (sub_bytes (rounds w r t)) → rounds w r s ≡ rounds w r t
  boxed_apart r e =
      sub_apart (rounds_bytes r v p) (rounds_bytes r v q) (rounds_length w r s) (rounds_length w r t)
      (shift_apart (sub_length _) (sub_length _) e)

  rounds_apart : (r : ℕ) → rounds w r s ≡ rounds w r t → s ≡ t
  unfolding rounds aes_round
  rounds_apart zero e = key_apart w 0 l k e
  rounds_apart (suc r) e =
      let unkeyed = key_apart w (suc r) (mix_length _) (mix_length _) e in
      let unmixed = mix_apart (shift_bytes (sub_bytes_law (rounds w r s))) (shift_bytes (sub_bytes_law (rounds w r t))) (shift_length _) (shift_length _) unkeyed in
      rounds_apart r (boxed_apart r unmixed)

  cipher_apart : cipher w s ≡ cipher w t → s ≡ t
  unfolding cipher
  cipher_apart e = rounds_apart 9 (boxed_apart 9 (key_apart w 10 (shift_length _) (shift_length _) e))

pub aes_apart : {key s t : Block} → Bytes key → Bytes s → Bytes t → length s ≡ 16 → length t ≡ 16 → aes key s ≡ aes key t → s ≡ t
unfolding aes key_expansion
aes_apart r p q l k e = cipher_apart (expand_bytes 40 r) p q l k e
