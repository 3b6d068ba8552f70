-- What a garbling stores of its outputs, found again in the bytes of its material. Assumes nothing.
use Prim.Native.Nat.{ℕ, zero, suc, ◌+◌, ◌*◌, ◌-◌, ◌<◌}
use native.Mathlib.Nat.{add-zero, add_comm, mul-zero, mul-suc, not-suc-le-zero, le_of_suc-le-suc}
use native.Mathlib.Omega.{arith}
use mathlib.Core.Path.{◌≡◌, refl, ◌∙◌}
use mathlib.Core.List.{List, [], ◌∷◌, ◌++◌, append_assoc}
use lib.ListN.{length, get_or, take, drop, length-append}
use lib.Seq.{take_at, drop_at, drop-drop}
use Rattle.model.specs.Tokens.{Garbling, input_zeros, one_token}
use Rattle.model.specs.Ending.{Ending, ending_of}
use Rattle.model.specs.Material.{last_bytes, header, records, zero_of, stored_of, last_record, material}
use Rattle.model.specs.Evaluation.{bytes_for, stored_at}
use Rattle.model.specs.Refusals.{made_for}
use Rattle.model.proofs.Endings.{Right, right}
use Rattle.model.proofs.Lengths.{stored_length, hashed_is}

module _ (γ : Garbling) where
  -- of the outputs ws, from number k on: that of output i
  stored_among : {E : Ending} → Right E → (k : ℕ) (ws : List ℕ) (i : ℕ) → i < length ws
      → take E.size (drop (E.size * i) (stored_of γ E k ws)) ≡ E.stored (k + i) (zero_of γ (get_or ws i 0)) (one_token γ (zero_of γ (get_or ws i 0)))
  unfolding stored_of
  stored_among r k [] i h = absurd (not-suc-le-zero h)
  stored_among {E} r k (w ∷ ws) zero h = rw (mul-zero E.size, add-zero k) (take_at _ (stored_of γ E (suc k) ws) E.size (r.long k _ _))
  stored_among {E} r k (w ∷ ws) (suc i) h =
      let past : E.size * suc i ≡ E.size + E.size * i = mul-suc E.size i ∙ add_comm (E.size * i) E.size in
      let f : k + suc i ≡ suc k + i = omega arith in
      rw (past, ← drop-drop (E.size * i) E.size, drop_at _ (stored_of γ E (suc k) ws) E.size (r.long k _ _), f)
      (stored_among r (suc k) ws i (le_of_suc-le-suc h))

  abbrev all : List ℕ
  all = stored_of γ (ending_of γ.hashed) 1 γ.circuit.outputs

  -- and after some bytes
  pub stored_after : (p : List ℕ) (i : ℕ) → i < length γ.circuit.outputs → bytes_for (ending_of γ.hashed) (p ++ all) (length p) i ≡ made_for γ i
  unfolding bytes_for made_for
  stored_after p i h =
      let f : 1 + i ≡ i + 1 = omega arith in
      rw (← drop-drop ((ending_of γ.hashed).size * i) (length p), drop_at p all (length p) refl)
      (rw f at (stored_among (right γ.hashed) 1 γ.circuit.outputs i h))

  -- what comes before them in the material
  front : List ℕ
  front = header γ ++ records γ γ.circuit.gates (input_zeros γ) ++ (0x47 ∷ (ending_of γ.hashed).last_mark ∷ [])

  material_ends : material γ ≡ front ++ all
  unfolding material last_record front
  material_ends = simp append_assoc

  front_long : length (material γ) - last_bytes γ.hashed (length γ.circuit.outputs) ≡ length front
  unfolding last_bytes
  front_long = rw material_ends (omega (arith, length-append front all, stored_length γ (right γ.hashed) 1 γ.circuit.outputs))

  pub stored_is : (i : ℕ) → i < length γ.circuit.outputs → stored_at γ.circuit (material γ) i ≡ made_for γ i
  unfolding stored_at
  stored_is i h = rw (hashed_is γ, front_long, material_ends) (stored_after front i h)
