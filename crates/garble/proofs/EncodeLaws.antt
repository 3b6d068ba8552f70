-- Encoding: the tokens as a table, and the invariant of their loop. Assumes nothing.
use Prim.Native.Nat.{ℕ, zero, suc, ◌+◌, ◌*◌, ◌≤◌, ◌<◌}
use native.Mathlib.Omega.{arith}
use mathlib.Core.Path.{◌≡◌, refl, sym, ap, ◌∙◌}
use mathlib.Core.List.{List, [], ◌∷◌}
use lib.ListN.{length, get_or, take, drop, length-drop}
use lib.Seq.{get_or-drop, length-take-le}
use Rattle.model.specs.Bytes.{from, tabulate, over, put}
use Rattle.model.specs.Aes.{Block, ◌⊕◌, times, block}
use Rattle.model.specs.Material.{join_blocks}
use Rattle.model.specs.Evaluation.{cut, encode}
use Rattle.model.proofs.Lists.{from_cong}
use Rattle.model.proofs.Xor.{⊕_assoc, ⊕_comm, ⊕_self, ⊕_zero}
use Rattle.model.proofs.Tokens.{block_length}
use Rattle.model.proofs.Blocks.{Blocks, none, more, cut_at, cut_blocks}
use Rattle.model.proofs.Filling.{Filling, fill_start, fill_turn, fill_end}
use Rattle.garble.specs.Written.{input_token, TokenRoom, EncodeStart}

-- ---- input_token: x and y are the two tokens, and e is their difference where the value is 1
part_wide : (i : ℕ) (z : List ℕ) → 16 * i + 16 ≤ length z → length (take 16 (drop (16 * i) z)) ≡ 16
part_wide i z h = length-take-le 16 (drop (16 * i) z) (omega (arith, length-drop (16 * i) z))

both_ways : (x y : Block) → length y ≡ 16 → x ⊕ x ⊕ y ≡ y
both_ways x y h = sym (⊕_assoc x x y) ∙ rw (⊕_self x, ⊕_comm (block 0) y) (⊕_zero y h)

pub token_chosen : (v : ℕ) (z o : List ℕ) (i : ℕ) (x y d e r : Block) → v ≤ 1 → TokenRoom z o i → x ≡ take 16 (drop (16 * i) z) → y ≡ take 16 (drop (16 * i) o)
    → d ≡ x ⊕ y → e ≡ times v d → r ≡ x ⊕ e → r ≡ input_token v z o i
unfolding input_token times
token_chosen zero z o i x y d e r bit room is_x is_y is_d is_e is_r =
    is_r ∙ rw (is_e, is_x) (⊕_zero (take 16 (drop (16 * i) z)) (part_wide i z room.zeros))
token_chosen (suc zero) z o i x y d e r bit room is_x is_y is_d is_e is_r =
    is_r ∙ rw (is_e, is_d, is_x, is_y) (both_ways (take 16 (drop (16 * i) z)) (take 16 (drop (16 * i) o)) (part_wide i o room.ones))
token_chosen (suc (suc v)) z o i x y d e r bit room is_x is_y is_d is_e is_r = absurd (omega (arith, bit))

-- ---- encode as a table

shift : (f : ℕ → Block) (i n : ℕ) → from (suc i) n f ≡ from i n (λ k. f (suc k))
shift f i zero = refl
shift f i (suc n) = ap (λ (r : List Block). f (suc i) ∷ r) (shift f (suc i) n)

pub chosen : List ℕ → List Block → List Block → ℕ → Block
chosen vs zs os i = get_or (get_or zs i (block 0) ∷ get_or os i (block 0) ∷ []) (get_or vs i 0) (block 0)

encode_table : (vs : List ℕ) (zs os : List Block) → encode vs zs os ≡ tabulate (length vs) (chosen vs zs os)
unfolding encode chosen
encode_table [] zs os = refl
encode_table (v ∷ vs) zs os =
    ap (λ (r : List Block). chosen (v ∷ vs) zs os 0 ∷ r)
    (encode_table vs (drop 1 zs) (drop 1 os)
    ∙ from_cong 0 (length vs) (chosen vs (drop 1 zs) (drop 1 os)) (λ k. chosen (v ∷ vs) zs os (suc k)) (λ k h. same k)
    ∙ sym (shift (chosen (v ∷ vs) zs os) 0 (length vs)))
  where
    one : (k : ℕ) → 1 + k ≡ suc k
    one k = omega arith

    same : (k : ℕ) → chosen vs (drop 1 zs) (drop 1 os) k ≡ chosen (v ∷ vs) zs os (suc k)
    same k = rw (get_or-drop 1 zs k (block 0), get_or-drop 1 os k (block 0), one k)

get_or_wide : {k : ℕ} {xs : List Block} → Blocks k xs → (i : ℕ) → length (get_or xs i (block 0)) ≡ 16
get_or_wide none i = block_length 0
get_or_wide (more e r) zero = e
get_or_wide (more e r) (suc i) = get_or_wide r i

one_of_two : (a b : Block) (v : ℕ) → length a ≡ 16 → length b ≡ 16 → length (get_or (a ∷ b ∷ []) v (block 0)) ≡ 16
one_of_two a b zero h l = h
one_of_two a b (suc zero) h l = l
one_of_two a b (suc (suc v)) h l = block_length 0

-- ---- the loop: t is the buffer at the start, d after i inputs
pub record Encoding (n : ℕ) (v z o t : List ℕ) (i : ℕ) (d : List ℕ) : Type 0 where
  pub within : i ≤ n
  pub tokens : Filling (chosen v (cut n z) (cut n o)) n t i d

module _ (n : ℕ) (v z o t : List ℕ) (start : EncodeStart n v z o t) where
  wide : (i : ℕ) → length (chosen v (cut n z) (cut n o) i) ≡ 16
  unfolding chosen
  wide i =
      one_of_two _ _ (get_or v i 0) (get_or_wide (cut_blocks n z (omega (arith, start.zeros))) i) (get_or_wide (cut_blocks n o (omega (arith, start.ones))) i)

  pub encode_start : Encoding n v z o t 0 t
  encode_start = record { within = omega arith; tokens = fill_start wide }

  module _ (i : ℕ) (d : List ℕ) (inv : Encoding n v z o t i d) where
    pub encode_end : n ≤ i → d ≡ over (join_blocks (encode v (cut n z) (cut n o))) t
    encode_end h =
        fill_end wide inv.tokens inv.within h
        ∙ ap (λ (l : List Block). over (join_blocks l) t) (sym (encode_table v (cut n z) (cut n o) ∙ ap (λ (k : ℕ). tabulate k (chosen v (cut n z) (cut n o))) start.values))

    module _ (h : i < n) where
      pub encode_value : i < length v
      encode_value = omega (arith, start.values)

      pub encode_bit : get_or v i 0 ≤ 1
      encode_bit = start.bits i

      pub encode_token : TokenRoom z o i
      encode_token = record { zeros = omega (arith, start.zeros); ones = omega (arith, start.ones) }

      pub encode_room : 16 * i + 16 ≤ length d
      encode_room = omega (arith, start.room, inv.tokens.same_length)

      pub encode_turn : (x d' : List ℕ) → x ≡ input_token (get_or v i 0) z o i → d' ≡ put d (16 * i) x → Encoding n v z o t (i + 1) d'
      unfolding input_token chosen
      encode_turn x d' e f = record {
        within = omega arith;
        tokens = fill_turn wide inv.tokens h start.room x d' (e ∙ rw (cut_at n i z h, cut_at n i o h)) f;
      }

pub ruleset encode_turns = (encode_start, encode_end, encode_value, encode_bit, encode_token, encode_room, encode_turn)
