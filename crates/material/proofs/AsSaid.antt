-- Conditions 12 to 18 written out over a circuit and the bytes of a material, with 01's own r = 4, 3, 2, and 2 for scheme 4: they are `material_verdict`. Assumes nothing.
use Prim.Native.Nat.{ℕ, ◌+◌, ◌*◌}
use mathlib.Core.Path.{◌≡◌, refl}
use mathlib.Core.Bool.{Bool, true, false, not, cond, ◌&&◌, ◌||◌}
use mathlib.Core.List.{List, [], ◌∷◌}
use lib.Dec.{ltb, eqb}
use lib.ListN.{length, get_or, take}
use lib.Seq.{take-length}
use Rattle.model.specs.Bytes.{be16}
use Rattle.model.specs.Circuit.{Circuit, mark_at, code_at, kind_of, charges, gate_wire}
use Rattle.model.specs.Scheme.{record_length}
use Rattle.model.specs.Ending.{colours, hashes, ending_of}
use Rattle.model.specs.Material.{last_start, last_bytes, material_length, hashed}
use Rattle.model.specs.Refusals.{Verdict, fine, refused, refuse, ◌then◌, first_of, is_charged, scheme_verdict, circuit_sizes, same_sizes, file_verdict, row_record_at, row_start, row_verdict, stored_verdict, last_verdict, material_verdict}
use Rattle.model.specs.Kept.{last_byte01}
use Rattle.model.proofs.Places.{rows_stored}
use Rattle.model.proofs.Conditions.{scheme_fine}
use Rattle.model.proofs.Verdicts.{first_all, first_same}
use Rattle.model.proofs.OldEnding.{colours_bytes, byte_verdict}

-- nothing past a refusal is asked for
stopped : (i x : ℕ) (v a b c d a' b' c' d' : Verdict) → (v then refused i x then a then b then c then d) ≡ (v then refused i x then a' then b' then c' then d')
unfolding ◌then◌
stopped i x fine a b c d a' b' c' d' = refl
stopped i x (refused j y) a b c d a' b' c' d' = refl

module _ (c : Circuit) (s : List ℕ) where
  -- "its r rows (r = 4, 3, 2": by the scheme byte; scheme 4 has "scheme 3's steps and rows" (02, job 7)
  abbrev r : ℕ
  r = get_or (0 ∷ 4 ∷ 3 ∷ 2 ∷ 2 ∷ []) (get_or s 2 0) 0

  -- where a record starts, past those of the charged gates among the first k
  abbrev start : ℕ → ℕ
  start k = 9 + charges (take k c.gates) * (4 + 16 * r)

  abbrev pub said : Verdict
  said =
      refuse (ltb (length s) 9) 12 (length s)
      then refuse (not (mark_at s 0 0x47 0x48 || mark_at s 0 0x47 0x4A)) 13 0
      then scheme_verdict (get_or s 2 0)
      then refuse (not (eqb (be16 s 3) c.n && eqb (be16 s 5) (length c.outputs) && eqb (be16 s 7) (length c.gates))) 15 3
      then refuse (not (eqb (length s) (11 + cond (mark_at s 0 0x47 0x4A) (32 * length c.outputs) (length c.outputs) + charges c.gates * (4 + 16 * r)))) 16 (length s)
      then first_of (λ k. refuse (is_charged (kind_of (code_at c k)) && not (row_record_at s (start k) (gate_wire c.n k))) 17 (gate_wire c.n k)) (length c.gates)
      then (refuse (not (mark_at s (start (length c.gates)) 0x47 (cond (mark_at s 0 0x47 0x4A) 0x41 0x44))) 18 (start (length c.gates))
      then cond (mark_at s 0 0x47 0x4A) fine (first_of (λ i. refuse (ltb 1 (get_or s (start (length c.gates) + 2 + i) 0)) 18 (start (length c.gates))) (length c.outputs)))

  -- 16 and 18, by the mark
  bytes_said : (m : ℕ) → last_bytes (hashed s) m ≡ cond (hashed s) (32 * m) m
  bytes_said m = go (hashed s)
    where
      go : (b : Bool) → last_bytes b m ≡ cond b (32 * m) m
      go true = unfold last_bytes ending_of hashes in refl
      go false = colours_bytes m

  last_said : (at m : ℕ) → last_verdict s at m ≡ (refuse (not (mark_at s at 0x47 (cond (hashed s) 0x41 0x44))) 18 at then cond (hashed s) fine (first_of (last_byte01 s at) m))
  unfolding last_verdict
  last_said at m = go (hashed s)
    where
      go : (b : Bool) → (refuse (not (mark_at s at 0x47 (ending_of b).last_mark)) 18 at then first_of (stored_verdict (ending_of b) s at) m)
          ≡ (refuse (not (mark_at s at 0x47 (cond b 0x41 0x44))) 18 at then cond b fine (first_of (last_byte01 s at) m))
      go true = unfold ending_of hashes in rw (first_all (stored_verdict hashes s at) m (λ i h. unfold stored_verdict refuse in refl))
      go false = unfold ending_of in rw (first_same _ _ m (λ i h. byte_verdict s at i)) (unfold colours in refl)

  pub as_said : material_verdict c s ≡ said
  unfolding material_verdict file_verdict circuit_sizes same_sizes row_verdict row_start last_start material_length record_length last_byte01
  as_said = go (scheme_verdict (get_or s 2 0)) refl
    where
      go : (v : Verdict) → scheme_verdict (get_or s 2 0) ≡ v → material_verdict c s ≡ said
      go fine e = rw (bytes_said (length c.outputs), last_said, take-length, ← rows_stored (get_or s 2 0) (scheme_fine (get_or s 2 0) e)) (unfold hashed in refl)
      go (refused i x) e = unfold hashed in rw e (stopped i x _ _ _ _ _ _ _ _ _)
