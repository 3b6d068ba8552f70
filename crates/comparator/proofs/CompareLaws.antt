-- The circuit that is written compares: its counts, that it is accepted, and what it carries, by induction over the bits. Assumes nothing.
use Prim.Native.Nat.{ℕ, zero, suc, ◌+◌, ◌*◌, ◌-◌, ◌/◌, ◌%◌, ◌^◌, ◌≤◌, ◌<◌}
use native.Mathlib.Nat.{mod-eq_of_lt, mod-lt}
use native.Mathlib.Numerals.{add-one}
use native.Mathlib.Omega.{arith}
use mathlib.Core.Path.{◌≡◌, refl, ◌∙◌}
use mathlib.Core.List.{List, [], ◌∷◌, ◌++◌, map}
use lib.ListN.{length, get_or, length-append, get_or-append}
use lib.Pow.{pow_pos, mod-pow-add}
use lib.Seq.{get_or-append-add}
use Rattle.model.specs.declared.Gate.{Gate}
use Rattle.model.specs.Circuit.{kinds, kind_of, charges, value, circuit_of, last_wires, wires, gate_value, plain_values}
use Rattle.model.specs.Refusals.{fine, circuit_verdict}
use Rattle.model.specs.Operations.{sizes_of}
use Rattle.model.specs.Demand3.{carries}
use Rattle.model.proofs.Circuits.{charges_append, wires_append}
use Rattle.model.proofs.Codes.{Used, used_charged, used_free}
use Rattle.model.proofs.Accepted.{GatesHold, no_gate_law, gate}
use Rattle.model.proofs.Made.{Makes, gates_append, made_accepted, made_circuit, made_sizes}
use Rattle.comparator.specs.Compares.{figures, SaysAtMost, Compares}
use Rattle.comparator.specs.Comparator as C
use Rattle.comparator.specs.Comparator.{first_gate, bit_gates, so_far, next_gates, bits_to, comparator_gates, comparator_bytes}
use Rattle.comparator.proofs.FigureLaws.{is_bit, figures_long, price_at, ceiling_at}
use Rattle.comparator.proofs.WriteLaws.{bits_many, gates_many}
use Rattle.comparator.proofs.BitLaws.{Says, at_most, above, first_says, next_says, bit_wires}

-- ---- the charged gates
bit_charged : (price ceiling below : ℕ) → charges (bit_gates price ceiling below) ≡ 1
unfolding bit_gates charges kind_of kinds
bit_charged price ceiling below = refl

bits_charged : (w k : ℕ) → charges (bits_to w k) ≡ k
unfolding bits_to charges
bits_charged w zero = refl
bits_charged w (suc k) =
    let bit : charges (next_gates w k) ≡ 1 = bit_charged _ _ _ in
    rw (charges_append (bits_to w k) (next_gates w k)) (omega (arith, bit, bits_charged w k))

gates_charged : (w : ℕ) → 1 ≤ w → charges (comparator_gates w) ≡ w
unfolding comparator_gates charges kind_of kinds
gates_charged w h = omega (arith, bits_charged w (w - 1))

-- ---- the limits of the gates

holds : (own a b code : ℕ) (gs : List Gate) → 1 ≤ a → a < b → b < own → Used (kind_of code) → GatesHold (suc own) gs
    → GatesHold own (C.gate a b code ∷ gs)
holds own a b code gs h l m u rest = gate (record { a_low = h; order = l; b_high = m; used = u }) rest

-- of four, the first on the wire after those before it
bit_holds : (price ceiling below : ℕ) → 1 ≤ price → price < below → 1 ≤ ceiling → ceiling < below
    → GatesHold (below + 1) (bit_gates price ceiling below)
unfolding bit_gates kind_of kinds
bit_holds price ceiling below h l h' l' =
    holds (below + 1) price below 9 _ h l (omega arith) used_free
    (holds (suc (below + 1)) ceiling below 6 _ h' l' (omega arith) used_free
    (holds (suc (suc (below + 1))) (below + 1) (below + 2) 8 _ (omega arith) (omega arith) (omega arith) used_charged
    (holds (suc (suc (suc (below + 1)))) below (below + 3) 6 [] (omega arith) (omega arith) (omega arith) used_free no_gate_law)))

bits_hold : (w k : ℕ) → k + 1 ≤ w → GatesHold (2 * w + 2) (bits_to w k)
unfolding bits_to
bits_hold w zero h = no_gate_law
bits_hold w (suc k) h =
    let at : so_far w k + 1 ≡ 2 * w + 2 + length (bits_to w k) = omega (arith, bits_many w k) in
    let bit : GatesHold (so_far w k + 1) (next_gates w k) = bit_holds _ _ _ (omega arith) (omega arith) (omega arith) (omega arith) in
    gates_append (bits_hold w k (omega arith)) (rw at at bit)

gates_hold : (w : ℕ) → 1 ≤ w → GatesHold (suc (2 * w)) (comparator_gates w)
unfolding comparator_gates kind_of kinds
gates_hold w h =
    let at : 2 * w + 2 ≡ suc (suc (2 * w)) = omega arith in
    holds (suc (2 * w)) 1 (w + 1) (first_gate w).code (bits_to w (w - 1)) (omega arith) (omega arith) (omega arith) used_charged
    (rw at at (bits_hold w (w - 1) (omega arith)))

makes : (w : ℕ) → 1 ≤ w → w ≤ 64 → Makes (2 * w) 1 (comparator_gates w)
makes w h l =
    let many = gates_many w h in
    record {
      sizes = record {
        n_low = omega arith;
        n_high = omega arith;
        m_low = omega arith;
        m_high = omega (arith, many);
        q_low = omega (arith, many);
        sum = omega (arith, many);
      };
      few_outputs = omega (arith, many);
      gates_hold = gates_hold w h;
    }

-- a bit more of a number
one_bit : (z k : ℕ) → z % 2 ^ (k + 1 + 1) ≡ (z / 2 ^ (k + 1) % 2) * 2 ^ (k + 1) + z % 2 ^ (k + 1)
one_bit z k = let at : k + 1 + 1 ≡ 1 + (k + 1) = omega arith in rw at (mod-pow-add z 1 (k + 1))

-- ---- what the wires carry, once the gates of k bits above the lowest are done: the inputs' values are kept, and the last wire says whether the k + 1
-- lowest bits of the price are at most those of the ceiling
module _ (w x y : ℕ) where
  record Carried (k : ℕ) (ws : List ℕ) : Type 0 where
    long : length ws ≡ so_far w k
    kept : (i : ℕ) → i < 2 * w → get_or ws i 0 ≡ get_or (figures w x y) i 0
    says : Says (get_or ws (so_far w k - 1) 0) (x % 2 ^ (k + 1)) (y % 2 ^ (k + 1))

  abbrev start : List ℕ
  start = figures w x y ++ (gate_value (figures w x y) (first_gate w) ∷ [])

  is_first : 1 ≤ w → get_or start (so_far w 0 - 1) 0 ≡ value 11 (x % 2) (y % 2)
  unfolding gate_value
  is_first h =
      let at : so_far w 0 - 1 ≡ length (figures w x y) + 0 = omega (arith, figures_long w x y) in
      let a : get_or (figures w x y) 0 0 ≡ x % 2 = price_at w x y 0 (omega arith) ∙ omega arith in
      let b : get_or (figures w x y) (w + 0) 0 ≡ y % 2 = ceiling_at w x y 0 (omega arith) ∙ omega arith in
      let c : w + 1 - 1 ≡ w + 0 = omega arith in
      rw (at, get_or-append-add (figures w x y) (gate_value (figures w x y) (first_gate w) ∷ []) 0 0, c, a, b)

  carried_first : 1 ≤ w → Carried 0 start
  carried_first h =
      let n = figures_long w x y in
      record {
        long = simp length-append (omega (arith, n));
        kept = λ i l. get_or-append (figures w x y) _ 0 i (omega (arith, n));
        says = rw (is_first h) (first_says (x % 2) (y % 2) (is_bit x) (is_bit y));
      }

  carried_next : (k : ℕ) (ws : List ℕ) → k + 1 < w → Carried k ws → Carried (k + 1) (wires gate_value (next_gates w k) ws)
  carried_next k ws h c =
      let more : wires gate_value (next_gates w k) ws ≡ ws ++ _ =
      bit_wires ws (k + 2) (w + k + 2) (so_far w k) (omega arith) (omega arith) (omega arith) (omega arith) c.long in
      let a : get_or ws (k + 2 - 1) 0 ≡ x / 2 ^ (k + 1) % 2 =
      (let at : k + 2 - 1 ≡ k + 1 = omega arith in rw at (c.kept (k + 1) (omega arith) ∙ price_at w x y (k + 1) h)) in
      let b : get_or ws (w + k + 2 - 1) 0 ≡ y / 2 ^ (k + 1) % 2 =
      (let at : w + k + 2 - 1 ≡ w + (k + 1) = omega arith in rw at (c.kept (w + (k + 1)) (omega arith) ∙ ceiling_at w x y (k + 1) h)) in
      let last : so_far w (k + 1) - 1 ≡ length ws + 3 = omega (arith, c.long) in
      record {
        long = rw more (simp length-append (omega (arith, c.long)));
        kept = λ i l. rw more (get_or-append ws _ 0 i (omega (arith, c.long)) ∙ c.kept i l);
        says =
            rw (more, last, get_or-append-add ws _ 3 0, a, b, one_bit x k, one_bit y k)
            (next_says (2 ^ (k + 1)) (x % 2 ^ (k + 1)) (y % 2 ^ (k + 1)) _ _ _ (mod-lt x (pow_pos (k + 1))) (mod-lt y (pow_pos (k + 1))) (is_bit _) (is_bit _)
            c.says);
      }

  carried : (k : ℕ) → k + 1 ≤ w → Carried k (wires gate_value (bits_to w k) start)
  unfolding bits_to wires
  carried zero h = carried_first h
  carried (suc k) h =
      rw (wires_append gate_value (bits_to w k) (next_gates w k) start, ← add-one k)
      (carried_next k (wires gate_value (bits_to w k) start) (omega arith) (carried k (omega arith)))

-- ---- the output
says_at_most : (c x y : ℕ) → Says c x y → SaysAtMost (c ∷ []) x y
says_at_most c x y (at_most e h) = record { yes = (λ _. h, λ _. rw e); no = (λ z. absurd (let o : ◌≡◌ {A = ℕ} 0 1 = cc in omega arith), λ l. absurd (omega arith)) }
says_at_most c x y (above e h) = record { yes = (λ z. absurd (let o : ◌≡◌ {A = ℕ} 0 1 = cc in omega arith), λ l. absurd (omega arith)); no = (λ _. h, λ _. rw e) }

module _ (w : ℕ) (low : 1 ≤ w) (high : w ≤ 64) where
  is_circuit : circuit_of (comparator_bytes w) ≡ record { n = 2 * w; gates = comparator_gates w; outputs = last_wires (2 * w) (length (comparator_gates w)) 1 }
  unfolding comparator_bytes
  is_circuit = made_circuit (2 * w) 1 (comparator_gates w) (makes w low high)

  values_are : (x y : ℕ) → plain_values (circuit_of (comparator_bytes w)) (figures w x y) ≡ wires gate_value (bits_to w (w - 1)) (start w x y)
  unfolding plain_values comparator_gates wires
  values_are x y = rw is_circuit

  output_says : (x y : ℕ) → x < 2 ^ w → y < 2 ^ w
      → SaysAtMost (map (carries (comparator_bytes w) (figures w x y)) (circuit_of (comparator_bytes w)).outputs) x y
  unfolding carries last_wires
  output_says x y h l =
      let c = carried w x y (w - 1) (omega arith) in
      let top : w - 1 + 1 ≡ w = omega arith in
      let x_whole : x % 2 ^ (w - 1 + 1) ≡ x = rw top (mod-eq_of_lt h) in
      let y_whole : y % 2 ^ (w - 1 + 1) ≡ y = rw top (mod-eq_of_lt l) in
      let at : 2 * w + length (comparator_gates w) - 1 + 1 + 0 - 1 ≡ so_far w (w - 1) - 1 = omega (arith, gates_many w low) in
      rw (is_circuit, at, values_are x y) (says_at_most _ x y (rw (x_whole, y_whole) at c.says))

  pub compares : Compares w (comparator_bytes w)
  compares = record { accepted = is_accepted; sizes = are_sizes; at_most = output_says }
    where
      is_accepted : circuit_verdict (comparator_bytes w) ≡ fine
      is_accepted = unfold comparator_bytes in made_accepted (2 * w) 1 (comparator_gates w) (makes w low high)

      are_sizes : sizes_of (comparator_bytes w) ≡ record { n = 2 * w; m = 1; q = 4 * w - 3; p = w }
      are_sizes = unfold comparator_bytes in rw (gates_many w low, gates_charged w low) at (made_sizes (2 * w) 1 (comparator_gates w) (makes w low high))
