-- Blocks written one after the other to the front of a buffer. Assumes nothing.
use Prim.Native.Nat.{ℕ, ◌+◌, ◌*◌, ◌≤◌, ◌<◌}
use native.Mathlib.Numerals.{add-one}
use native.Mathlib.Omega.{arith}
use mathlib.Core.Path.{◌≡◌, refl, sym, ap, ◌∙◌}
use mathlib.Core.List.{List, [], ◌∷◌, ◌++◌}
use lib.ListN.{length}
use Rattle.model.specs.Bytes.{tabulate, over, put}
use Rattle.model.specs.Aes.{Block}
use Rattle.model.specs.Material.{join_blocks}
use Rattle.model.proofs.Lists.{tabulate_snoc}
use Rattle.model.proofs.Buffers.{over_put, over_none, put_length}
use Rattle.model.proofs.Blocks.{Blocks, join_length, join_snoc}
use Rattle.model.proofs.Lengths.{from_blocks}

-- k blocks xs, and one more
pub over_block : {k : ℕ} {xs : List Block} (r : Blocks k xs) (x : Block) (o : List ℕ) → length x ≡ 16 → 16 * k + 16 ≤ length o
    → put (over (join_blocks xs) o) (16 * k) x ≡ over (join_blocks (xs ++ (x ∷ []))) o
over_block {k} {xs} r x o w h = over_put (join_blocks xs) o x (16 * k) (join_length r) (omega arith) ∙ ap (λ (l : List ℕ). over l o) (sym (join_snoc xs x))

-- blocks f 0, f 1, .. at the front of a buffer d, which was o: i of n
pub record Filling (f : ℕ → Block) (n : ℕ) (o : List ℕ) (i : ℕ) (d : List ℕ) : Type 0 where
  pub same_length : length d ≡ length o
  pub so_far : d ≡ over (join_blocks (tabulate i f)) o

module _ {f : ℕ → Block} (wide : (i : ℕ) → length (f i) ≡ 16) {n : ℕ} {o : List ℕ} where
  pub fill_start : Filling f n o 0 o
  unfolding join_blocks
  fill_start = record { same_length = refl; so_far = over_none o }

  pub fill_turn : {i : ℕ} {d : List ℕ} → Filling f n o i d → i < n → 16 * n ≤ length o → (x d' : List ℕ) → x ≡ f i → d' ≡ put d (16 * i) x → Filling f n o (i + 1) d'
  fill_turn {i} {d} inv h l x d' is_x is_d =
      let w : length x ≡ 16 = ap length is_x ∙ wide i in
      record {
        same_length = ap length is_d ∙ put_length d (16 * i) x (omega (arith, inv.same_length)) ∙ inv.same_length;
        so_far =
            is_d
            ∙ rw (inv.so_far, add-one, tabulate_snoc i f, ← is_x) (over_block (from_blocks f wide 0 i) x o w (omega arith));
      }

  pub fill_end : {i : ℕ} {d : List ℕ} → Filling f n o i d → i ≤ n → n ≤ i → d ≡ over (join_blocks (tabulate n f)) o
  fill_end {i} inv h l = let e : n ≡ i = omega arith in rw e inv.so_far
