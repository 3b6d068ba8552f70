-- An accepted circuit: its sizes and its gates keep their limits, and its outputs are wires of it. Assumes nothing.
use Prim.Native.Nat.{ℕ, zero, suc, ◌+◌, ◌*◌, ◌≤◌, ◌<◌}
use native.Mathlib.Omega.{arith}
use mathlib.Core.Path.{◌≡◌, refl, ap₂}
use mathlib.Core.Bool.{Bool, true, false}
use mathlib.Core.List.{List, [], ◌∷◌, map}
use borrow.Author.Tests.{le-leb, ltb-true, leb-true, eqb-true, not-false}
use lib.ListN.{length, get_or}
use Rattle.model.specs.declared.Gate.{Gate}
use Rattle.model.specs.Bytes.{from}
use Rattle.model.specs.Circuit as C
use Rattle.model.specs.Circuit.{Circuit, Kind, kind_of, inputs, outputs, gates, gate_at, output_at, gate_wire, named, most_outputs, sizes_hold, circuit_length, operands_hold, circuit_of}
use Rattle.model.specs.Refusals.{fine, is_refused, head_verdict, gate_verdict, record_verdict, output_verdict, outputs_verdict, circuit_verdict}
use Rattle.model.proofs.Lists.{tabulate_length}
use Rattle.model.proofs.Outputs.{outputs_many, named_output, last_output}
use Rattle.model.proofs.Verdicts.{then_fine, refuse_fine, and_both, first_each}
use Rattle.model.proofs.Codes.{Used, used_charged, used_free}

-- ---- the header

pub record SizesHold (n m q : ℕ) : Type 0 where
  pub n_low : 2 ≤ n
  pub n_high : n ≤ 4096
  pub m_low : 1 ≤ m
  pub m_high : m ≤ n + q
  pub q_low : 1 ≤ q
  pub sum : n + q ≤ 65535

-- whether outputs are named or not, there are no more than wires
most_wires : (by_name : Bool) (n m q : ℕ) → m ≤ most_outputs by_name n q → m ≤ n + q
unfolding most_outputs
most_wires true n m q h = h
most_wires false n m q h = omega arith

pub sizes_held : (by_name : Bool) (n m q : ℕ) → sizes_hold by_name n m q ≡ true → SizesHold n m q
unfolding sizes_hold
sizes_held by_name n m q e =
    let a = and_both _ _ e in
    let b = and_both _ _ a.0 in
    let c = and_both _ _ b.0 in
    let d = and_both _ _ c.0 in
    let f = and_both _ _ d.0 in
    record {
      n_low = leb-true _ _ f.0;
      n_high = leb-true _ _ f.1;
      m_low = leb-true _ _ d.1;
      m_high = most_wires by_name n m q (leb-true _ _ c.1);
      q_low = leb-true _ _ b.1;
      sum = leb-true _ _ a.1;
    }

-- and back, with the limit of m that its mark has
pub sizes_kept : (by_name : Bool) (n m q : ℕ) → SizesHold n m q → m ≤ most_outputs by_name n q → sizes_hold by_name n m q ≡ true
unfolding sizes_hold
sizes_kept by_name n m q h most =
    rw (le-leb _ _ h.n_low, le-leb _ _ h.n_high, le-leb _ _ h.m_low, le-leb _ _ most, le-leb _ _ h.q_low, le-leb _ _ h.sum)

pub record HeaderHolds (s : List ℕ) : Type 0 where
  pub sizes : SizesHold (inputs s) (outputs s) (gates s)
  pub whole : length s ≡ circuit_length (named s) (outputs s) (gates s)

pub header_holds : (s : List ℕ) → head_verdict s ≡ fine → HeaderHolds s
unfolding head_verdict
header_holds s e =
    let a = then_fine _ _ e in
    let b = then_fine _ _ a.0 in
    record {
      sizes = sizes_held (named s) (inputs s) (outputs s) (gates s) (not-false _ (refuse_fine _ _ _ b.1));
      whole = eqb-true _ _ (not-false _ (refuse_fine _ _ _ a.1));
    }

pub accepted_header : (s : List ℕ) → circuit_verdict s ≡ fine → HeaderHolds s
unfolding circuit_verdict
accepted_header s e = header_holds s (then_fine _ _ (then_fine _ _ e).0).0

-- the gates lie within the bytes, and so do the output records of a circuit that names its outputs
module _ (s : List ℕ) (h : HeaderHolds s) where
  pub gates_inside : 8 + 7 * gates s ≤ length s
  unfolding circuit_length
  gates_inside = go (named s) h.whole
    where
      go : (b : Bool) → length s ≡ circuit_length b (outputs s) (gates s) → 8 + 7 * gates s ≤ length s
      go true e = omega arith
      go false e = omega arith

  pub outputs_inside : named s ≡ true → 8 + 7 * gates s + 4 * outputs s ≤ length s
  unfolding circuit_length
  outputs_inside e = let w : length s ≡ 8 + 7 * gates s + 4 * outputs s = rw e at h.whole in omega arith

-- ---- the gates

-- a gate of wire number own takes two wires before it, in rising order, by a code in use
pub record GateHolds (own : ℕ) (g : Gate) : Type 0 where
  pub a_low : 1 ≤ g.a.0
  pub order : g.a.0 < g.b.0
  pub b_high : g.b.0 < own
  pub used : Used (kind_of g.code)

not_refused : (k : Kind) → is_refused k ≡ false → Used k
not_refused (C.charged u v x) e = used_charged
not_refused (C.free p q c) e = used_free
not_refused C.refused e = absurd (let z : ◌≡◌ {A = ℕ} 0 1 = cc in omega arith)

pub gate_holds : (own : ℕ) (g : Gate) → gate_verdict own g ≡ fine → GateHolds own g
unfolding gate_verdict operands_hold
gate_holds own g e =
    let v = then_fine _ _ e in
    let a = and_both _ _ (not-false _ (refuse_fine _ _ _ v.0)) in
    let b = and_both _ _ a.0 in
    record {
      a_low = leb-true _ _ b.0;
      order = ltb-true _ _ b.1;
      b_high = ltb-true _ _ a.1;
      used = not_refused _ (refuse_fine _ _ _ v.1);
    }

pub accepted_gate : (s : List ℕ) (k : ℕ) → circuit_verdict s ≡ fine → k < gates s → GateHolds (gate_wire (inputs s) k) (gate_at s k)
unfolding circuit_verdict record_verdict
accepted_gate s k e h =
    let r = first_each (record_verdict s (inputs s)) (gates s) k (then_fine _ _ (then_fine _ _ e).0).1 h in
    gate_holds (gate_wire (inputs s) k) (gate_at s k) (then_fine _ _ r).1

-- ---- the outputs

-- output i is a wire
pub record OutputHolds (s : List ℕ) (i : ℕ) : Type 0 where
  pub low : 1 ≤ get_or (circuit_of s).outputs i 0
  pub high : get_or (circuit_of s).outputs i 0 ≤ inputs s + gates s

named_holds : (s : List ℕ) (i : ℕ) → output_verdict s i ≡ fine → get_or (circuit_of s).outputs i 0 ≡ output_at s i → OutputHolds s i
unfolding output_verdict
named_holds s i e is =
    let a = and_both _ _ (not-false _ (refuse_fine _ _ _ (then_fine _ _ e).1)) in
    record { low = rw is (leb-true _ _ a.0); high = rw is (leb-true _ _ a.1) }

pub accepted_output : (s : List ℕ) (i : ℕ) → circuit_verdict s ≡ fine → i < outputs s → OutputHolds s i
unfolding circuit_verdict outputs_verdict
accepted_output s i e h = go (named s) refl
  where
    all_fine : outputs_verdict s ≡ fine
    all_fine = (then_fine _ _ e).1

    go : (b : Bool) → named s ≡ b → OutputHolds s i
    go true is = named_holds s i (first_each (output_verdict s) (outputs s) i (rw is at all_fine) h) (named_output s is i h)
    go false is =
        let z = (accepted_header s e).sizes in
        record { low = omega (arith, last_output s is i h); high = omega (arith, last_output s is i h, z.m_high) }

-- ---- the circuit

-- so do the gates of a list, the first of wire number w
pub data GatesHold : ℕ → List Gate → Type 0 where
  no_gate_law : {w : ℕ} → GatesHold w []
  gate : {w : ℕ} {g : Gate} {gs : List Gate} → GateHolds w g → GatesHold (suc w) gs → GatesHold w (g ∷ gs)

-- each is one of the wires 1 to n
pub data Within (n : ℕ) : List ℕ → Type 0 where
  none : Within n []
  more : {w : ℕ} {ws : List ℕ} → 1 ≤ w → w ≤ n → Within n ws → Within n (w ∷ ws)

-- functions that agree on those agree on the list
pub map_within : {A : Type 0} {n : ℕ} {ws : List ℕ} (f g : ℕ → A) → Within n ws → ((w : ℕ) → 1 ≤ w → w ≤ n → f w ≡ g w) → map f ws ≡ map g ws
map_within f g none e = refl
map_within f g (more {w = w} h l t) e = ap₂ ◌∷◌ (e w h l) (map_within f g t e)

pub record CircuitHolds (c : Circuit) : Type 0 where
  pub gates_hold : GatesHold (suc c.n) c.gates
  pub outputs_within : Within (c.n + length c.gates) c.outputs

gates_from : (s : List ℕ) (n i k : ℕ) → ((j : ℕ) → i ≤ j → j < i + k → GateHolds (gate_wire n j) (gate_at s j))
    → GatesHold (gate_wire n i) (from i k (gate_at s))
gates_from s n i zero h = no_gate_law
gates_from s n i (suc k) h =
    let next : gate_wire n (suc i) ≡ suc (gate_wire n i) = omega arith in
    gate (h i (omega arith) (omega arith)) (rw next at (gates_from s n (suc i) k (λ j l u. h j (omega arith) (omega arith))))

within_each : (n : ℕ) (ws : List ℕ) → ((i : ℕ) → i < length ws → (1 ≤ get_or ws i 0) × (get_or ws i 0 ≤ n)) → Within n ws
within_each n [] h = none
within_each n (w ∷ ws) h =
    let first = h 0 (omega arith) in
    more first.0 first.1 (within_each n ws (λ i l. h (suc i) (omega arith)))

pub accepted_circuit : (s : List ℕ) → circuit_verdict s ≡ fine → CircuitHolds (circuit_of s)
unfolding circuit_of
accepted_circuit s e =
    let n = inputs s in
    let q = gates s in
    let first : gate_wire n 0 ≡ suc n = omega arith in
    record {
      gates_hold = rw first at (gates_from s n 0 q (λ j l u. accepted_gate s j e (omega arith)));
      outputs_within =
          rw (tabulate_length q (gate_at s))
          (within_each (n + q) (circuit_of s).outputs
          (λ i l. let h = accepted_output s i e (rw (outputs_many s) at l) in (h.low, h.high)));
    }
