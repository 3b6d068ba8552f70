-- What stands at a place of a material, and the place past it: a law for each return of the functions of a slice and a place, and what a standing tells
-- of the marks. Assumes nothing.
use Prim.Native.Nat.{ℕ, ◌+◌, ◌-◌, ◌^◌, ◌≤◌, ◌<◌}
use native.Mathlib.Omega.{arith}
use mir.Syntax.{w64}
use mir.Val.{Fits}
use mathlib.Core.Path.{◌≡◌, refl, sym, ap, ◌∙◌}
use mathlib.Core.Bool.{Bool, true, false, ◌&&◌}
use mathlib.Core.List.{List}
use borrow.Author.Tests.{lt-leb, le-leb, leb-true, eqb-true}
use lib.ListN.{length, get_or}
use lib.Dec.{leb, eqb}
use Rattle.model.specs.declared.Wire.{Wire}
use Rattle.model.specs.Bytes.{be16}
use Rattle.model.specs.Circuit.{mark_at}
use Rattle.model.specs.Scheme.{record_length}
use Rattle.model.specs.Garbling.{scheme_of}
use Rattle.model.specs.Ending.{colours, hashes, ending_of}
use Rattle.model.specs.Material.{hashed}
use Rattle.model.specs.Refusals.{row_record_at}
use Rattle.model.proofs.Places.{record_low}
use Rattle.model.proofs.Verdicts.{and_both}
use Rattle.material.specs.declared.reader.Standing.{Standing}
use Rattle.material.specs.declared.reader.Record.{Record}
use Rattle.material.specs.Reader.{if_so, marked, gate_standing, last_standing, standing_at, past_at, is_row_of}

-- ---- marks
and_false : (a b : Bool) → b ≡ false → (a && b) ≡ false
and_false true b e = e
and_false false b e = refl

module _ (s : List ℕ) (at : ℕ) where
  -- a record with one mark has not the other
  one_mark : (b : Bool) → mark_at s at 0x47 (ending_of b).last_mark ≡ true → mark_at s at 0x47 0x54 ≡ false
  unfolding mark_at ending_of colours hashes
  one_mark true e =
      let both = and_both (eqb (get_or s at 0) 0x47) (eqb (get_or s (at + 1) 0) 0x41) e in
      simp (eqb-true (get_or s at 0) 0x47 both.0, eqb-true (get_or s (at + 1) 0) 0x41 both.1)
  one_mark false e =
      let both = and_both (eqb (get_or s at 0) 0x47) (eqb (get_or s (at + 1) 0) 0x44) e in
      simp (eqb-true (get_or s at 0) 0x47 both.0, eqb-true (get_or s (at + 1) 0) 0x44 both.1)

  module _ (x y n : ℕ) where
    past_end : length s < at + n → marked s at x y n ≡ false
    unfolding marked
    past_end h = simp (lt-leb _ _ h)

    other : mark_at s at x y ≡ false → marked s at x y n ≡ false
    unfolding marked
    other h = and_false (leb (at + n) (length s)) _ h

    stands : at + n ≤ length s → mark_at s at x y ≡ true → marked s at x y n ≡ true
    unfolding marked
    stands h e = simp (le-leb _ _ h, e)

-- ---- gate_standing: the wire number and the record's bytes as they were read
module _ (s : List ℕ) (at own : ℕ) (is_own : own ≡ be16 s (at + 2)) (bytes : ℕ) (is_bytes : bytes ≡ record_length (scheme_of (get_or s 2 0))) (room : at + 4 ≤ length s) where
  pub stands_cut : length s - at < bytes → Standing.Cut (record { 0 = own }) ≡ gate_standing s at
  unfolding gate_standing
  stands_cut h =
      let over : length s < at + record_length (scheme_of (get_or s 2 0)) = omega (arith, is_bytes) in
      simp (lt-leb _ _ over, is_own)

  pub stands_whole : bytes ≤ length s - at → Standing.Gate (record { 0 = own }) ≡ gate_standing s at
  unfolding gate_standing
  stands_whole h =
      let within : at + record_length (scheme_of (get_or s 2 0)) ≤ length s = omega (arith, is_bytes) in
      simp (le-leb _ _ within, is_own)

pub ruleset gate_cases = (stands_cut, stands_whole)

-- ---- standing_at: the bytes from the place on, and the marks as they were tried
module _ (s : List ℕ) (at : ℕ) where
  pub stands_past : length s < at → Standing.Nothing ≡ standing_at s at
  unfolding standing_at
  stands_past h = simp (past_end s at 0x47 0x54 4 (omega arith), past_end s at 0x47 (ending_of (hashed s)).last_mark 2 (omega arith))

  module _ (inside : at ≤ length s) where
    pub stands_short : length s - at < 2 → Standing.Nothing ≡ standing_at s at
    unfolding standing_at
    stands_short h = simp (past_end s at 0x47 0x54 4 (omega arith), past_end s at 0x47 (ending_of (hashed s)).last_mark 2 (omega arith))

    pub stands_brief : length s - at < 4 → (r : Standing) → r ≡ last_standing s at → r ≡ standing_at s at
    unfolding standing_at
    stands_brief h r is_r = is_r ∙ simp (past_end s at 0x47 0x54 4 (omega arith))

    module _ (four : 4 ≤ length s - at) (e : Bool) (is_e : e ≡ mark_at s at 0x47 0x54) where
      pub stands_gate : e ≡ true → (r : Standing) → r ≡ gate_standing s at → r ≡ standing_at s at
      unfolding standing_at
      stands_gate h r is_r = is_r ∙ simp (stands s at 0x47 0x54 4 (omega arith) (sym is_e ∙ h))

      pub stands_other : e ≡ false → (r : Standing) → r ≡ last_standing s at → r ≡ standing_at s at
      unfolding standing_at
      stands_other h r is_r = is_r ∙ simp (other s at 0x47 0x54 4 (sym is_e ∙ h))

    -- its mark at a place tells that the last record stands there
    module _ (two : 2 ≤ length s - at) (x : ℕ) (is_x : x ≡ (ending_of (hashed s)).last_mark) (b : Bool) (is_b : b ≡ mark_at s at 0x47 x) where
      pub stands_last : b ≡ true → Standing.Last ≡ standing_at s at
      unfolding standing_at
      stands_last e =
          let m : mark_at s at 0x47 (ending_of (hashed s)).last_mark ≡ true = sym (is_b ∙ ap (mark_at s at 0x47) is_x) ∙ e in
          simp (other s at 0x47 0x54 4 (one_mark s at (hashed s) m), stands s at 0x47 (ending_of (hashed s)).last_mark 2 (omega arith) m)

-- ---- last_standing: the mark as it was tried
module _ (s : List ℕ) (at : ℕ) (room : at + 2 ≤ length s) (h : Bool) (is_h : h ≡ hashed s) (x : ℕ) (is_x : x ≡ (ending_of h).last_mark)
    (b : Bool) (is_b : b ≡ mark_at s at 0x47 x) where
  mark_is : b ≡ mark_at s at 0x47 (ending_of (hashed s)).last_mark
  mark_is = is_b ∙ rw (is_x, is_h)

  pub last_found : b ≡ true → Standing.Last ≡ last_standing s at
  last_found e = simp (stands s at 0x47 (ending_of (hashed s)).last_mark 2 room (sym mark_is ∙ e))

  pub last_missed : b ≡ false → Standing.Nothing ≡ last_standing s at
  last_missed e = simp (other s at 0x47 (ending_of (hashed s)).last_mark 2 (sym mark_is ∙ e))

pub ruleset last_cases = (last_found, last_missed)

pub ruleset standing_cases = (stands_past, stands_short, stands_brief, stands_gate, stands_other)

-- ---- past_at, of what was found
module _ (s : List ℕ) (at : ℕ) where
  whole_gate : (a b c : Bool) (v w : Wire) → Standing.Gate w ≡ if_so a (if_so b (Standing.Gate v) (Standing.Cut v)) (if_so c Standing.Last Standing.Nothing) → b ≡ true
  whole_gate true true c v w e = refl
  whole_gate true false c v w e = absurd (let z : ◌≡◌ {A = ℕ} 0 1 = cc in omega arith)
  whole_gate false b true v w e = absurd (let z : ◌≡◌ {A = ℕ} 0 1 = cc in omega arith)
  whole_gate false b false v w e = absurd (let z : ◌≡◌ {A = ℕ} 0 1 = cc in omega arith)

  module _ (r : Standing) (is_r : r ≡ standing_at s at) where
    module _ (w : Wire) (e : r ≡ Standing.Gate w) where
      -- the record lies within the material
      gate_inside : at + record_length (scheme_of (get_or s 2 0)) ≤ length s
      unfolding standing_at gate_standing
      gate_inside =
          leb-true (at + record_length (scheme_of (get_or s 2 0))) (length s)
          (whole_gate (marked s at 0x47 0x54 4) (leb (at + record_length (scheme_of (get_or s 2 0))) (length s)) (marked s at 0x47 (ending_of (hashed s)).last_mark 2) (record { 0 = be16 s (at + 2) }) w (sym e ∙ is_r))

      pub scheme_inside : 2 < length s
      scheme_inside = omega (arith, gate_inside, record_low (get_or s 2 0))

      module _ (bytes : ℕ) (is_bytes : bytes ≡ record_length (scheme_of (get_or s 2 0))) where
        pub past_fits : length s < 2 ^ 64 → Fits w64 (at + bytes)
        past_fits h = omega (arith, gate_inside, is_bytes)

        pub past_gate : at + bytes ≡ past_at s at
        past_gate = rw (← is_r, e, is_bytes)

    pub past_cut : (w : Wire) → r ≡ Standing.Cut w → at ≡ past_at s at
    past_cut w e = rw (← is_r, e)

    pub past_last : r ≡ Standing.Last → length s ≡ past_at s at
    past_last e = rw (← is_r, e)

    pub past_nothing : r ≡ Standing.Nothing → at ≡ past_at s at
    past_nothing e = rw (← is_r, e)

pub ruleset past_cases = (scheme_inside, past_fits, past_gate, past_cut, past_last, past_nothing)

-- ---- record_at
pub record_found : (t t' : Standing) (a a' : ℕ) → t ≡ t' → a ≡ a' → ◌≡◌ {A = Record} (record { standing = t; next = a }) (record { standing = t'; next = a' })
record_found t t' a a' e f = rw (e, f)

-- ---- what a standing tells of the marks

-- it is a gate's record with this wire number, whole or cut short
abbrev pub is_of : ℕ → Standing → Bool
is_of due (Standing.Gate w) = eqb w.0 due
is_of due (Standing.Cut w) = eqb w.0 due
is_of due Standing.Last = false
is_of due Standing.Nothing = false

abbrev pub is_last : Standing → Bool
is_last (Standing.Gate w) = false
is_last (Standing.Cut w) = false
is_last Standing.Last = true
is_last Standing.Nothing = false

module _ (s : List ℕ) (at : ℕ) where
  of_mark : (m b c : Bool) (due : ℕ) (w : Wire) → is_of due (if_so m (if_so b (Standing.Gate w) (Standing.Cut w)) (if_so c Standing.Last Standing.Nothing)) ≡ (m && eqb w.0 due)
  of_mark true true c due w = refl
  of_mark true false c due w = refl
  of_mark false b true due w = refl
  of_mark false b false due w = refl

  -- where the mark and the wire number lie within the material
  pub row_record : (due : ℕ) → at + 4 ≤ length s → is_of due (standing_at s at) ≡ row_record_at s at due
  unfolding standing_at gate_standing marked row_record_at
  row_record due h =
      simp (le-leb _ _ h)
      (of_mark (mark_at s at 0x47 0x54) (leb (at + record_length (scheme_of (get_or s 2 0))) (length s)) (leb (at + 2) (length s) && mark_at s at 0x47 (ending_of (hashed s)).last_mark) due (record { 0 = be16 s (at + 2) }))

  of_whole : (m c : Bool) (due : ℕ) (w : Wire) → is_row_of due (if_so m (Standing.Gate w) (if_so c Standing.Last Standing.Nothing)) ≡ (m && eqb w.0 due)
  of_whole true c due w = refl
  of_whole false true due w = refl
  of_whole false false due w = refl

  -- where the rows lie within the material too
  module _ (room : at + record_length (scheme_of (get_or s 2 0)) ≤ length s) (due : ℕ) where
    pub whole_record : is_row_of due (standing_at s at) ≡ row_record_at s at due
    unfolding standing_at gate_standing marked row_record_at
    whole_record =
        let four : at + 4 ≤ length s = omega (arith, record_low (get_or s 2 0)) in
        simp (le-leb _ _ room, le-leb _ _ four) (of_whole (mark_at s at 0x47 0x54) (leb (at + 2) (length s) && mark_at s at 0x47 (ending_of (hashed s)).last_mark) due (record { 0 = be16 s (at + 2) }))

    pub record_stands : row_record_at s at due ≡ true → standing_at s at ≡ Standing.Gate (record { 0 = due })
    unfolding standing_at gate_standing row_record_at
    record_stands e =
        let both = and_both (mark_at s at 0x47 0x54) (eqb (be16 s (at + 2)) due) e in
        simp (stands s at 0x47 0x54 4 (omega (arith, record_low (get_or s 2 0))) both.0, le-leb _ _ room, eqb-true (be16 s (at + 2)) due both.1)

  no_mark : (a b c : Bool) (w : Wire) → c ≡ false → is_last (if_so a (if_so b (Standing.Gate w) (Standing.Cut w)) (if_so c Standing.Last Standing.Nothing)) ≡ false
  no_mark true true c w e = refl
  no_mark true false c w e = refl
  no_mark false b c w e = rw e

  -- where the mark lies within the material
  pub last_record_law : at + 2 ≤ length s → is_last (standing_at s at) ≡ mark_at s at 0x47 (ending_of (hashed s)).last_mark
  unfolding standing_at gate_standing
  last_record_law h = go (mark_at s at 0x47 (ending_of (hashed s)).last_mark) refl
    where
      go : (b : Bool) → b ≡ mark_at s at 0x47 (ending_of (hashed s)).last_mark → is_last (standing_at s at) ≡ b
      go true e = ap is_last (sym (stands_last s at (omega arith) (omega arith) _ refl true e refl))
      go false e =
          no_mark (marked s at 0x47 0x54 4) (leb (at + record_length (scheme_of (get_or s 2 0))) (length s)) (marked s at 0x47 (ending_of (hashed s)).last_mark 2) (record { 0 = be16 s (at + 2) }) (other s at 0x47 (ending_of (hashed s)).last_mark 2 (sym e))
