-- The inputs' tokens: the invariant of their loop, its turn and its end. Assumes nothing.
use Prim.Native.Nat.{ℕ, ◌+◌, ◌*◌, ◌^◌, ◌≤◌, ◌<◌}
use native.Mathlib.Omega.{arith}
use mathlib.Core.Path.{◌≡◌, ap, ◌∙◌}
use mathlib.Core.List.{List}
use lib.ListN.{length}
use mir.Syntax.{w64}
use mir.Val.{Fits}
use Rattle.model.specs.Bytes.{put}
use Rattle.model.specs.Aes.{Block, ◌⊕◌, cipher, aes, add_round_key}
use Rattle.model.proofs.Xor.{⊕_length}
use Rattle.model.proofs.Filling.{Filling, fill_start, fill_turn, fill_end}
use Rattle.garble.specs.Held.{HeldIs, TakenIs}
use Rattle.garble.specs.declared.seed.Held.{Held}
use Rattle.garble.specs.Written.{InputsRoom, input_zero, InputsIs}
use Rattle.garble.specs.declared.plan.Plan.{Plan}

-- what is held, and both lists: z and o at the start, z' and o' after i inputs
pub record Inputs (p : Plan) (z o : List ℕ) (h : Held) (i : ℕ) (z' o' : List ℕ) : Type 0 where
  pub within : i ≤ p.n
  pub held_is : HeldIs p.seed.key.bytes p.wanted.run h
  pub zeros : Filling (input_zero p) p.n z i z'
  pub ones : Filling (λ k. input_zero p k ⊕ p.r.bytes) p.n o i o'

zero_wide : (p : Plan) (k : ℕ) → length (input_zero p k) ≡ 16
unfolding input_zero aes cipher add_round_key
zero_wide p k = ⊕_length _ _

module _ (p : Plan) (z o : List ℕ) where
  pub inputs_start : (h : Held) → HeldIs p.seed.key.bytes p.wanted.run h → Inputs p z o h 0 z o
  inputs_start h is_h = record {
    within = omega arith;
    held_is = is_h;
    zeros = fill_start (zero_wide p);
    ones = fill_start (λ k. ⊕_length _ _);
  }

  module _ (room : InputsRoom p.n z o) (h : Held) (i : ℕ) (z' o' : List ℕ) (inv : Inputs p z o h i z' o') where
    pub room_zeros : i < p.n → 16 * i + 16 ≤ length z'
    room_zeros l = omega (arith, inv.zeros.same_length, room.zeros)

    pub room_ones : i < p.n → 16 * i + 16 ≤ length o'
    room_ones l = omega (arith, inv.ones.same_length, room.ones)

    -- no wire number overflows
    pub wire_fits : i < p.n → length z' < 2 ^ 64 → (x : ℕ) → x ≤ 3 → Fits w64 (i + 1 + x)
    wire_fits l long x few = omega (arith, inv.zeros.same_length, room.zeros)

    pub inputs_turn : i < p.n → (h' : Held) (x : Block) → TakenIs p.seed.key.bytes p.wanted.run (i + 1) h' x → (y z'' o'' : List ℕ) → z'' ≡ put z' (16 * i) x → y ≡ x ⊕ p.r.bytes
        → o'' ≡ put o' (16 * i) y → Inputs p z o h' (i + 1) z'' o''
    unfolding input_zero
    inputs_turn l h' x is_x y z'' o'' is_z is_y is_o = record {
      within = omega arith;
      held_is = is_x.held_is;
      zeros = fill_turn (zero_wide p) inv.zeros l room.zeros x z'' is_x.block_is is_z;
      ones = fill_turn (λ k. ⊕_length _ _) inv.ones l room.ones y o'' (is_y ∙ ap (λ (b : Block). b ⊕ p.r.bytes) is_x.block_is) is_o;
    }

    pub inputs_end : p.n ≤ i → InputsIs p z o z' o'
    inputs_end l = record {
      zeros_left = fill_end (zero_wide p) inv.zeros inv.within l;
      ones_left = fill_end (λ k. ⊕_length _ _) inv.ones inv.within l;
    }
