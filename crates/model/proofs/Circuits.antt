-- Laws of circuits: one gate more, and more gates. Assumes nothing.
use Prim.Native.Nat.{ℕ, zero, suc, ◌+◌, ◌-◌, ◌≤◌, ◌<◌}
use native.Mathlib.Nat.{add-zero, add-suc}
use native.Mathlib.Omega.{arith}
use mathlib.Core.Path.{◌≡◌, refl, sym}
use mathlib.Core.List.{List, [], ◌∷◌, ◌++◌}
use lib.ListN.{length, length-append}
use Rattle.model.specs.declared.Gate.{Gate}
use Rattle.model.specs.Bytes.{tabulate}
use Rattle.model.specs.Circuit.{Kind, charged, free, refused, kind_of, charge, charges, wires}
use Rattle.model.proofs.Lists.{tabulate_snoc}

pub charges_snoc : (gs : List Gate) (g : Gate) → charges (gs ++ (g ∷ [])) ≡ charges gs + charge (kind_of g.code)
unfolding charges
charges_snoc [] g = omega arith
charges_snoc (x ∷ gs) g = omega (arith, charges_snoc gs g)

pub charges_append : (gs hs : List Gate) → charges (gs ++ hs) ≡ charges gs + charges hs
unfolding charges
charges_append [] hs = omega arith
charges_append (g ∷ gs) hs = omega (arith, charges_append gs hs)

pub charge_le : (k : Kind) → charge k ≤ 1
charge_le (charged u v x) = omega arith
charge_le (free p q c) = omega arith
charge_le refused = omega arith

-- no more charged gates than gates
pub charges_le : (gs : List Gate) → charges gs ≤ length gs
unfolding charges
charges_le [] = omega arith
charges_le (g ∷ gs) = omega (arith, charge_le (kind_of g.code), charges_le gs)

-- charged gates among the first k of q, and gate k
module _ (f : ℕ → Gate) where
  charges_grow : (k j : ℕ) → charges (tabulate k f) ≤ charges (tabulate (k + j) f)
  charges_grow k zero = rw add-zero (omega arith)
  charges_grow k (suc j) = rw (add-suc, tabulate_snoc (k + j) f, charges_snoc) (omega (arith, charges_grow k j))

  pub charges_among : (k q : ℕ) → k < q → charges (tabulate k f) + charge (kind_of (f k).code) ≤ charges (tabulate q f)
  charges_among k q h =
      let e : suc k + (q - suc k) ≡ q = omega arith in
      let g : charges (tabulate (suc k) f) ≡ charges (tabulate k f) + charge (kind_of (f k).code) = rw (tabulate_snoc k f, charges_snoc) in
      rw (← g, ← e) (charges_grow (suc k) (q - suc k))

module _ {A : Type 0} (step : List A → Gate → A) where
  pub wires_snoc : (gs : List Gate) (g : Gate) (ws : List A) → wires step (gs ++ (g ∷ [])) ws ≡ wires step gs ws ++ (step (wires step gs ws) g ∷ [])
  unfolding wires
  wires_snoc [] g ws = refl
  wires_snoc (x ∷ gs) g ws = wires_snoc gs g (ws ++ (step ws x ∷ []))

  pub wires_append : (gs hs : List Gate) (ws : List A) → wires step (gs ++ hs) ws ≡ wires step hs (wires step gs ws)
  unfolding wires
  wires_append [] hs ws = refl
  wires_append (g ∷ gs) hs ws = wires_append gs hs (ws ++ (step ws g ∷ []))

  pub wires_length : (gs : List Gate) (ws : List A) → length (wires step gs ws) ≡ length ws + length gs
  unfolding wires
  wires_length [] ws = sym (add-zero (length ws))
  wires_length (g ∷ gs) ws = rw (wires_length gs (ws ++ (step ws g ∷ []))) (simp length-append (omega arith))
