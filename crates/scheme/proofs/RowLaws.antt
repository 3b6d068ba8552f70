-- One charged gate, opened: the rows that are loaded from its record, and its token by each scheme. Assumes nothing.
use Prim.Native.Nat.{ℕ, zero, suc, ◌+◌, ◌*◌, ◌-◌, ◌≤◌, ◌<◌}
use native.Mathlib.Decide.{dec_lt}
use native.Mathlib.Omega.{arith}
use mathlib.Core.Path.{◌≡◌, refl, sym, ap, ◌∙◌}
use mathlib.Core.List.{List, ◌∷◌}
use lib.ListN.{length, get_or, take, drop}
use lib.Seq.{drop-drop}
use Rattle.model.specs.Aes.{Block, block}
use Rattle.model.specs.Scheme.{record_length}
use Rattle.model.specs.Tokens.{colour}
use Rattle.model.specs.Gax.{dual_key, open_row, gax}
use Rattle.model.specs.Gaxr.{gaxr}
use Rattle.model.specs.Hashes.{hash_of}
use Rattle.model.specs.HalfGates.{joined, half}
use Rattle.model.specs.Garbling.{scheme_of}
use Rattle.model.specs.Evaluation.{cut}
use Rattle.model.specs.Calls.{sealing_held, hashings_held, evaluate_asks, opened_calls}
use borrow.Author.Tests.{ne_eqb}
use Rattle.model.proofs.Blocks.{cut_at}
use Rattle.model.proofs.Schemes.{is_gax, is_gaxr, is_half}
use Rattle.scheme.specs.declared.OpenedGate.{OpenedGate}
use Rattle.scheme.specs.Garbled.{OpenedIs}
use Rattle.scheme.specs.Rows.{RowRoom, RecordRoom, HeldRoom, HeldRow}

-- row j of k rows that start at an index
row_at : (k j first : ℕ) (s : List ℕ) → j < k → take 16 (drop (first + 16 * j) s) ≡ get_or (cut k (drop first s)) j (block 0)
row_at k j first s h = sym (cut_at k j (drop first s) h ∙ ap (take 16) (drop-drop (16 * j) first s))

-- ---- reduced_row

kept : (first i : ℕ) (s : List ℕ) → i ≤ 3 → (i ≡ 0 → ⊥) → take 16 (drop (first + 16 * (i - 1)) s) ≡ get_or (block 0 ∷ cut 3 (drop first s)) i (block 0)
kept first zero s l h = absurd (h refl)
kept first (suc j) s l h = let e : suc j - 1 ≡ j = omega arith in rw e (row_at 3 j first s (omega arith))

module _ (first i : ℕ) (s : List ℕ) (x : Block) where
  pub row_left_out : i ≡ 0 → x ≡ block 0 → x ≡ get_or (block 0 ∷ cut 3 (drop first s)) i (block 0)
  row_left_out e f = rw e f

  pub row_kept : RowRoom first i s → (i ≡ 0 → ⊥) → x ≡ take 16 (drop (first + 16 * (i - 1)) s) → x ≡ get_or (block 0 ∷ cut 3 (drop first s)) i (block 0)
  row_kept r h f = f ∙ kept first i s r.number h

pub ruleset row_cases = (row_left_out, row_kept)

-- ---- held_row
module _ (scheme first i : ℕ) (s : List ℕ) (x : Block) where
  pub held_room : HeldRoom scheme first i s → scheme ≡ 1 → first + 16 * i + 16 ≤ length s
  held_room r e = let l = r.all e in omega (arith, r.rows.number)

  pub held_gax : HeldRoom scheme first i s → scheme ≡ 1 → x ≡ take 16 (drop (first + 16 * i) s) → HeldRow scheme first i s x
  held_gax r e is_x = record { by_gax = λ _. is_x ∙ row_at 4 i first s (omega (arith, r.rows.number)); by_gaxr = λ n. absurd (n e) }

  pub held_gaxr : (scheme ≡ 1 → ⊥) → x ≡ get_or (block 0 ∷ cut 3 (drop first s)) i (block 0) → HeldRow scheme first i s x
  held_gaxr n is_x = record { by_gax = λ e. absurd (n e); by_gaxr = λ _. is_x }

pub ruleset held_cases = (held_room, held_gax, held_gaxr)

-- ---- open_charged
module _ (scheme at : ℕ) (s : List ℕ) (room : RecordRoom scheme at s) where
  module _ (past : 3 ≤ scheme) where
    by_half : scheme_of scheme ≡ half (hash_of scheme)
    by_half = is_half scheme (λ p. omega arith) (λ p. omega arith)

    pub half_room_g : at + 4 + 16 ≤ length s
    unfolding half record_length
    half_room_g = let r = rw by_half at room.room in omega arith

    pub half_room_e : at + 4 + 16 + 16 ≤ length s
    unfolding half record_length
    half_room_e = let r = rw by_half at room.room in omega arith

    asks_two : (g : ℕ) (a b : Block) → length (opened_calls scheme g a b) ≡ length (hashings_held g a b)
    unfolding opened_calls evaluate_asks hashings_held
    asks_two g a b = rw (ne_eqb scheme 1 (λ p. omega arith), ne_eqb scheme 2 (λ p. omega arith))

    pub half_opens : (g : ℕ) (a b rg re : Block) (r : OpenedGate) → rg ≡ take 16 (drop (at + 4) s) → re ≡ take 16 (drop (at + 4 + 16) s)
        → OpenedIs (joined (hash_of scheme) g rg re a b) (hashings_held g a b) r
        → OpenedIs ((scheme_of scheme).opened g (cut (scheme_of scheme).stored (drop 4 (drop at s))) a b) (opened_calls scheme g a b) r
    unfolding half cut
    half_opens g a b rg re r is_g is_e is_r = record {
      is_token = rw (by_half, drop-drop 4 at s, drop-drop 16 (at + 4) s, ← is_g, ← is_e) is_r.is_token;
      is_calls = is_r.is_calls ∙ sym (asks_two g a b);
    }

  module _ (below : scheme < 3) where
    -- it is scheme 1 or scheme 2
    either : {A : Type 0} → (scheme ≡ 1 → A) → (scheme ≡ 2 → A) → A
    either {A = A} f g = go (dec_lt scheme 2)
      where
        go : Dec (scheme < 2) → A
        go (Dec.yes l) = f (omega (arith, room.known.low))
        go (Dec.no l) = g (omega arith)

    four_rows : scheme ≡ 1 → at + 4 + 64 ≤ length s
    unfolding gax record_length
    four_rows e = let r = rw (is_gax scheme e) at room.room in omega arith

    three_rows : scheme ≡ 2 → at + 4 + 48 ≤ length s
    unfolding gaxr record_length
    three_rows e = let r = rw (is_gaxr scheme e) at room.room in omega arith

    pub rows_room : (i : ℕ) → i ≤ 3 → HeldRoom scheme (at + 4) i s
    rows_room i h = record { rows = record { number = h; room = either (λ e. omega (arith, four_rows e)) three_rows }; all = four_rows }

    pub rows_open : (g i : ℕ) (a b row : Block) (r : OpenedGate) → i ≡ 2 * colour a + colour b → HeldRow scheme (at + 4) i s row
        → OpenedIs (dual_key a b (4 * g + 2 * colour a + colour b) row) (sealing_held g a b) r
        → OpenedIs ((scheme_of scheme).opened g (cut (scheme_of scheme).stored (drop 4 (drop at s))) a b) (opened_calls scheme g a b) r
    unfolding gax gaxr open_row opened_calls evaluate_asks sealing_held
    rows_open g i a b row r is_i held is_r =
        either
        (λ e. record {
          is_token = rw (is_gax scheme e, drop-drop 4 at s, ← is_i, ← held.by_gax e) is_r.is_token;
          is_calls = rw e is_r.is_calls;
        })
        (λ e. record {
          is_token = rw (is_gaxr scheme e, drop-drop 4 at s, ← is_i, ← held.by_gaxr (λ f. omega arith)) is_r.is_token;
          is_calls = rw e is_r.is_calls;
        })

pub ruleset charged_rooms = (half_room_g, half_room_e, rows_room)

pub ruleset charged_opens = (half_opens, rows_open)
