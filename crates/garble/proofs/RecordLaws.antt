-- A record as it is written: its head, then its rows one by one. Assumes nothing.
use Prim.Native.Nat.{ℕ, ◌+◌, ◌*◌, ◌≤◌, ◌<◌}
use native.Mathlib.Numerals.{add-one}
use native.Mathlib.Omega.{arith}
use mathlib.Core.Path.{◌≡◌, refl, sym, ap, ◌∙◌}
use mathlib.Core.List.{List, [], ◌∷◌, ◌++◌, map}
use lib.ListN.{length, get_or, get_or-map, take, length-map, length-append}
use lib.Seq.{take-suc, take-take}
use Rattle.std.proofs.lemmas.List.{take-map}
use Rattle.block.specs.declared.Block.{Block}
use Rattle.model.specs.Bytes.{put, two}
use Rattle.model.specs.Material.{join_blocks}
use Rattle.model.proofs.Blocks.{join_snoc}
use Rattle.model.proofs.Buffers.{put_none, put_length, put_put}
use Rattle.scheme.specs.declared.GarbledGate.{GarbledGate}
use Rattle.garble.specs.Walk.{WriterRoom, written_record}

-- the bytes of the first i rows
abbrev pub first_rows : List Block → ℕ → List ℕ
first_rows rows i = join_blocks (take i (map (λ b. b.bytes) rows))

-- i rows are written from `at` on: d was o
pub record Recording (o : List ℕ) (at : ℕ) (rows : List Block) (i : ℕ) (d : List ℕ) : Type 0 where
  pub same_length : length d ≡ length o
  pub long : length (first_rows rows i) ≡ 16 * i
  pub so_far : d ≡ put o at (first_rows rows i)

module _ (o : List ℕ) (at : ℕ) (rows : List Block) where
  pub rows_start : Recording o at rows 0 o
  unfolding join_blocks
  rows_start = record { same_length = refl; long = refl; so_far = put_none o at }

  pub rows_turn : (i stored : ℕ) (d : List ℕ) → Recording o at rows i d → i < stored → at + 16 * stored ≤ length o → i < length rows
      → (x : Block) → x ≡ get_or rows i (record { bytes = [] }) → length x.bytes ≡ 16 → (d' : List ℕ) → d' ≡ put d (at + 16 * i) x.bytes → Recording o at rows (i + 1) d'
  rows_turn i stored d inv more room there x is_x wide d' is_d =
      let all : List (List ℕ) = map (λ b. b.bytes) rows in
      let row : get_or all i [] ≡ x.bytes = get_or-map (λ (b : Block). b.bytes) rows i (record { bytes = [] }) ∙ rw is_x in
      let grown : first_rows rows (i + 1) ≡ first_rows rows i ++ x.bytes =
      ap join_blocks (ap (λ (k : ℕ). take k all) (add-one i) ∙ take-suc all i [] (omega (arith, length-map rows (λ (b : Block). b.bytes), there)))
      ∙ join_snoc (take i all) (get_or all i []) ∙ ap (λ (b : List ℕ). first_rows rows i ++ b) row in
      record {
        same_length = ap length is_d ∙ put_length d (at + 16 * i) x.bytes (omega (arith, wide, inv.same_length, room)) ∙ inv.same_length;
        long = ap length grown ∙ length-append (first_rows rows i) x.bytes ∙ omega (arith, inv.long, wide);
        so_far =
            is_d ∙ ap (λ (l : List ℕ). put l (at + 16 * i) x.bytes) inv.so_far
            ∙ put_put o at (first_rows rows i) x.bytes (at + 16 * i) (omega (arith, inv.long)) (omega (arith, inv.long, wide, room))
            ∙ ap (put o at) (sym grown);
      }

-- the head, and all rows after it
pub rows_end : (o m : List ℕ) (at own stored : ℕ) (g : GarbledGate) → WriterRoom at stored o → m ≡ put o at (0x47 ∷ 0x54 ∷ two own)
    → (i : ℕ) (d : List ℕ) → Recording m (at + 4) (take stored g.rows) i d → i ≡ stored → d ≡ put o at (written_record own stored g)
unfolding written_record
rows_end o m at own stored g room is_m i d inv e =
    let rows : List ℕ = join_blocks (take stored (map (λ b. b.bytes) g.rows)) in
    let all : first_rows (take stored g.rows) stored ≡ rows =
    ap join_blocks (take-map (λ (b : Block). b.bytes) stored (take stored g.rows) ∙ ap (map (λ (b : Block). b.bytes)) (take-take stored stored g.rows (omega arith)) ∙ sym (take-map (λ (b : Block). b.bytes) stored g.rows)) in
    let long : length rows ≡ 16 * stored = rw (e, all) at inv.long in
    rw (e, all) at inv.so_far ∙ ap (λ (l : List ℕ). put l (at + 4) rows) is_m
    ∙ put_put o at (0x47 ∷ 0x54 ∷ two own) rows (at + 4) (omega arith) (omega (arith, long, room.room))
