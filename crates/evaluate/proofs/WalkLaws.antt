-- The walk over the gates: one gate's token, and the invariant of the loop. Assumes nothing.
use Prim.Native.Nat.{ℕ, suc, ◌+◌, ◌*◌, ◌-◌, ◌≤◌, ◌<◌}
use native.Mathlib.Nat.{mul-le-mul, zero-mul}
use native.Mathlib.Numerals.{add-one}
use native.Mathlib.Omega.{arith}
use mathlib.Core.Path.{◌≡◌, refl, sym, ap, ap₂, ◌∙◌}
use mathlib.Core.Bool.{Bool, true, false, cond}
use mathlib.Core.List.{List, [], ◌∷◌, ◌++◌}
use borrow.Author.Tests.{eq-eqb, ne_eqb}
use lib.Dec.{eqb}
use lib.ListN.{length, get_or, take, drop, take-append-drop}
use lib.Seq.{drop-drop, length-take-le, take_at}
use mir.Syntax.{w16, w64}
use mir.Val.{Fits}
use Rattle.model.specs.declared.Gate.{Gate}
use Rattle.model.specs.declared.Wire.{Wire}
use Rattle.model.specs.Bytes.{tabulate, over, put}
use Rattle.model.specs.Circuit.{Kind, charged, free, refused, circuit_of, inputs, outputs, gates, gate_at, gate_wire, kind_of, charge, charges, wire}
use Rattle.model.specs.Aes.{Block, ◌⊕◌, block, times}
use Rattle.model.specs.Scheme.{Scheme, record_length}
use Rattle.model.specs.Garbling.{scheme_of}
use Rattle.model.specs.Tokens.{free_token}
use Rattle.model.specs.Material.{join_blocks, hashed, last_start, last_bytes, material_length}
use Rattle.model.specs.Evaluation.{cut, open_at, open_step, open_gates, evaluate, evaluate_bytes, token_at}
use Rattle.model.specs.Calls.{opened_calls, evaluate_calls_at, evaluate_calls}
use Rattle.model.specs.Operations.{evaluate_calls_of}
use Rattle.model.specs.Refusals.{is_refused}
use Rattle.model.proofs.Bits.{Bit, b0, b1, bit_of}
use Rattle.model.proofs.Xor.{⊕_comm}
use Rattle.model.proofs.XorRules.{times_0, times_1}
use Rattle.model.proofs.Codes.{Used, used_charged, used_free}
use Rattle.model.proofs.Accepted.{HeaderHolds, GateHolds, accepted_header, gates_inside, accepted_gate}
use Rattle.model.proofs.Lists.{tabulate_snoc, tabulate_length}
use Rattle.model.proofs.Buffers.{over_length, over_over, put_length}
use Rattle.model.proofs.Filling.{over_block}
use Rattle.model.proofs.Blocks.{Blocks, blocks_length, join_length, cut_blocks, cut_take, join_cut, token_at_front}
use Rattle.model.proofs.Circuits.{charge_le, charges_le}
use Rattle.model.proofs.Places.{length_last, start_first, start_next, record_fits}
use Rattle.model.proofs.Calls.{asked_few, evaluate_calls_at_law, evaluate_calls_all, evaluate_calls_snoc}
use Rattle.model.proofs.Gates.{open_at_wide}
use Rattle.model.proofs.Lengths.{opened_blocks}
use Rattle.model.proofs.OneMore.{opened_snoc}
use Rattle.model.proofs.Schemes.{scheme_sound}
use Rattle.circuit.specs.Answers.{TakesIs}
use Rattle.scheme.specs.declared.OpenedGate.{OpenedGate}
use Rattle.scheme.specs.Garbled.{OpenedIs}
use Rattle.scheme.specs.Rows.{RecordRoom}
use Rattle.evaluate.specs.Walk.{Operands, GateRoom, TokenStart, TokenIs, FreeTokenIs, OpenedTo, WalkStart, WiresStart, S, tokens_to, Walking, WalkedIs, WiresAre}

-- a free gate's token, from what its code takes: F is held on the operand that it takes, or on the first of both
module _ (k : Kind) (a both : ℕ) (takes : TakesIs k a both) (A B F : Block) (is_F : F ≡ cond (eqb a 1) A B) where
  by_operands : F ⊕ times both B ≡ free_token a takes.q A B
  unfolding free_token
  by_operands = rw (takes.is_both, is_F) (go (bit_of a takes.bit_a) (bit_of takes.q takes.bit_q) takes.one)
    where
      go : {a q : ℕ} → Bit a → Bit q → 1 ≤ a + q → cond (eqb a 1) A B ⊕ times (a * q) B ≡ times a A ⊕ times q B
      go b0 b0 h = absurd (omega arith)
      go b0 b1 h = rw (times_0, times_0, times_1) (⊕_comm B (block 0))
      go b1 b0 h = ap (◌⊕ times 0 B) (sym (times_1 A))
      go b1 b1 h = ap (◌⊕ times 1 B) (sym (times_1 A))

  free_opened : (S : Scheme) (g : ℕ) (bs : List ℕ) → F ⊕ times both B ≡ open_at S k g bs A B
  unfolding open_at
  free_opened S g bs = by_operands ∙ rw takes.is_free

-- a charged gate's token, by its scheme
charged_opens : (S : Scheme) (k : Kind) → charge k ≡ 1 → (g : ℕ) (bs : List ℕ) (A B : Block) → open_at S k g bs A B ≡ S.opened g (cut S.stored (drop 4 bs)) A B
unfolding open_at
charged_opens S (charged u v x) h g bs A B = refl
charged_opens S (free p q c) h g bs A B = absurd (omega arith)
charged_opens S refused h g bs A B = absurd (omega arith)

-- and its calls
charged_calls : (scheme : ℕ) (k : Kind) → charge k ≡ 1 → (g : ℕ) (A B : Block) → evaluate_calls_at scheme k g A B ≡ length (opened_calls scheme g A B)
unfolding evaluate_calls_at
charged_calls scheme (charged u v x) h g A B = refl
charged_calls scheme (free p q c) h g A B = absurd (omega arith)
charged_calls scheme refused h g A B = absurd (omega arith)

-- a free gate has none
free_calls : (scheme : ℕ) (k : Kind) → charge k ≡ 0 → (g : ℕ) (A B : Block) → 0 ≡ evaluate_calls_at scheme k g A B
free_calls scheme k h g A B = sym (evaluate_calls_at_law scheme k g A B ∙ rw (h, zero-mul))

-- ---- write_free and write_charged
module _ (n k : ℕ) (g : Gate) (d : List ℕ) (start : Operands n k g d) where
  pub token_own : Fits w16 (n + k + 1)
  token_own = omega (arith, start.few)

  pub token_low_b : 1 ≤ g.b.0
  token_low_b = omega (arith, start.a_low, start.order)

  pub token_load_a : 16 * (g.a.0 - 1) + 16 ≤ length d
  token_load_a = omega (arith, start.a_low, start.order, start.b_high, start.token_room)

  pub token_load_b : 16 * (g.b.0 - 1) + 16 ≤ length d
  token_load_b = omega (arith, start.order, start.b_high, start.token_room)

  -- the same of either of the two
  module _ (a : ℕ) (f : Wire) (is_f : f ≡ cond (eqb a 1) g.a g.b) where
    pub token_low_first : 1 ≤ f.0
    token_low_first = rw is_f (go (eqb a 1))
      where
        go : (x : Bool) → 1 ≤ (cond x g.a g.b).0
        go true = start.a_low
        go false = token_low_b

    pub token_load_first : 16 * (f.0 - 1) + 16 ≤ length d
    token_load_first = rw is_f (go (eqb a 1))
      where
        go : (x : Bool) → 16 * ((cond x g.a g.b).0 - 1) + 16 ≤ length d
        go true = token_load_a
        go false = token_load_b

-- first_taken
module _ (a : ℕ) (x y : Wire) where
  pub first_a : a ≡ 1 → x ≡ cond (eqb a 1) x y
  first_a e = rw (eq-eqb _ _ e)

  pub first_b : (a ≡ 1 → ⊥) → y ≡ cond (eqb a 1) x y
  first_b e = rw (ne_eqb _ _ e)

pub both_low : (k : Kind) (a both : ℕ) → TakesIs k a both → both ≤ 1
both_low k a both takes = omega (arith, takes.is_both, mul-le-mul takes.bit_a takes.bit_q)

module _ (n k : ℕ) (g : Gate) (d : List ℕ) (B : Block) (is_B : B ≡ take 16 (drop (16 * (g.b.0 - 1)) d)) (d' : List ℕ) where
  pub free_done : charge (kind_of g.code) ≡ 0 → (a both : ℕ) → TakesIs (kind_of g.code) a both → (f : Wire) → f ≡ cond (eqb a 1) g.a g.b
      → (F : Block) → F ≡ take 16 (drop (16 * (f.0 - 1)) d) → (x : Block) → x ≡ F ⊕ times both B → d' ≡ put d (16 * (n + k)) x → FreeTokenIs n k g d d'
  unfolding token_at
  free_done h a both takes f is_f F is_F x is_x is_d = record {
    left = λ scheme s at. record {
      token_left =
          let A : Block = take 16 (drop (16 * (g.a.0 - 1)) d) in
          let opened = free_opened (kind_of g.code) a both takes A B F (is_F ∙ rw is_f (chosen (eqb a 1))) (scheme_of scheme) (gate_wire n k) (drop at s) in
          is_d ∙ rw (is_x, opened, is_B);
      is_next = rw h (omega arith);
      calls_made = free_calls scheme (kind_of g.code) h _ _ _;
    };
  }
    where
      chosen : (b : Bool) → take 16 (drop (16 * ((cond b g.a g.b).0 - 1)) d) ≡ cond b (take 16 (drop (16 * (g.a.0 - 1)) d)) B
      chosen true = refl
      chosen false = sym is_B

  pub charged_done : (A : Block) → A ≡ take 16 (drop (16 * (g.a.0 - 1)) d) → (scheme : ℕ) (s : List ℕ) (at : ℕ) → charge (kind_of g.code) ≡ 1 → (r : OpenedGate) → d' ≡ put d (16 * (n + k)) r.token.bytes
      → OpenedIs ((scheme_of scheme).opened (n + k + 1) (cut (scheme_of scheme).stored (drop 4 (drop at s))) A B) (opened_calls scheme (n + k + 1) A B) r
      → TokenIs scheme n k g s at d (at + record_length (scheme_of scheme)) r.calls d'
  unfolding token_at
  charged_done A is_A scheme s at h r is_d is_r = record {
    token_left = is_d ∙ rw (is_r.is_token ∙ sym (charged_opens (scheme_of scheme) (kind_of g.code) h (gate_wire n k) (drop at s) A B), is_A, is_B);
    is_next = rw h (omega arith);
    calls_made = is_r.is_calls ∙ sym (charged_calls scheme (kind_of g.code) h (gate_wire n k) A B) ∙ rw (is_A, is_B);
  }

pub ruleset token_cases = (token_own, token_low_b, token_load_a, token_load_b, token_low_first, token_load_first, both_low, free_done, charged_done)

pub charged_room : (scheme code at : ℕ) (s : List ℕ) → GateRoom scheme code at s → charge (kind_of code) ≡ 1 → RecordRoom scheme at s
charged_room scheme code at s r h = let l = rw h at r.room in record { known = r.known; room = omega arith }

-- at most two encryptions for a gate
pub few_made : (scheme n k : ℕ) (g : Gate) (s : List ℕ) (at : ℕ) (d : List ℕ) (next made : ℕ) (d' : List ℕ) → TokenIs scheme n k g s at d next made d' → made ≤ 2
few_made scheme n k g s at d next made d' t =
    omega (
      arith,
      t.calls_made,
      evaluate_calls_at_law scheme (kind_of g.code) (gate_wire n k) (token_at d g.a.0) (token_at d g.b.0),
      mul-le-mul (charge_le (kind_of g.code)) (asked_few scheme),
    )

-- ---- write_token

used_known : {k : Kind} → Used k → is_refused k ≡ false
used_known used_charged = refl
used_known used_free = refl

module _ (scheme n k : ℕ) (g : Gate) (s : List ℕ) (at calls : ℕ) (d : List ℕ) (start : TokenStart scheme n k g s at d) (few_calls : calls ≤ 2 * k) where
  pub step_operands : Operands n k g d
  step_operands = start.operands

  pub step_known : is_refused (kind_of g.code) ≡ false
  step_known = start.operands.known

  pub step_room : charge (kind_of g.code) ≡ 1 → RecordRoom scheme at s
  step_room h = charged_room scheme g.code at s start.record_room h

  pub step_free : (d' : List ℕ) → FreeTokenIs n k g d d' → OpenedTo scheme n k g s at calls d at calls d'
  step_free d' t = record { made = 0; token = t.left scheme s at; added = omega arith }

  pub step_charged : (bytes : ℕ) → bytes ≡ record_length (scheme_of scheme) → (next : ℕ) → next ≡ at + bytes → (made : ℕ) (d' : List ℕ)
      → TokenIs scheme n k g s at d (at + record_length (scheme_of scheme)) made d' → OpenedTo scheme n k g s at calls d next (calls + made) d'
  step_charged bytes is_bytes next e made d' t = record { made = made; token = rw (e, is_bytes) t; added = refl }

  -- no count overflows
  pub step_calls : (next made : ℕ) (d' : List ℕ) → TokenIs scheme n k g s at d next made d' → Fits w64 (calls + made)
  step_calls next made d' t = omega (arith, few_calls, start.operands.few, few_made scheme n k g s at d next made d' t)

-- a charge that is not 0 is 1
pub step_one : (k : Kind) (x : ℕ) → x ≡ charge k → (x ≡ 0 → ⊥) → charge k ≡ 1
step_one (charged u v y) x e h = refl
step_one (free p q c) x e h = absurd (h e)
step_one refused x e h = absurd (h e)

pub step_none : (k : Kind) (x : ℕ) → x ≡ charge k → x ≡ 0 → charge k ≡ 0
step_none k x e h = sym e ∙ h

pub ruleset charge_cases = (step_none, step_one)

pub ruleset step_cases = (step_operands, step_known, step_room, step_free, step_charged, step_calls, charge_cases)

-- ---- write_tokens

tokens_blocks : (c s : List ℕ) (k : ℕ) {n : ℕ} {ts : List Block} → Blocks n ts → Blocks (n + k) (tokens_to c s ts k)
unfolding tokens_to
tokens_blocks c s k {n} r =
    rw (tabulate_length k (gate_at c)) at (opened_blocks (S s) (scheme_sound (get_or s 2 0)) (tabulate k (gate_at c)) (drop 9 s) r)

tokens_more : (c s : List ℕ) (ts : List Block) (k : ℕ)
    → tokens_to c s ts (suc k) ≡ tokens_to c s ts k ++ (open_step (S s) (drop (last_start (get_or s 2 0) (charges (tabulate k (gate_at c)))) s) (tokens_to c s ts k) (gate_at c k) ∷ [])
unfolding tokens_to last_start
tokens_more c s ts k =
    rw (tabulate_snoc k (gate_at c), opened_snoc, drop-drop (charges (tabulate k (gate_at c)) * record_length (S s)) 9 s)

-- the first n blocks of a buffer stand at its front
front : (n : ℕ) (o : List ℕ) → 16 * n ≤ length o → o ≡ over (join_blocks (cut n o)) o
unfolding over
front n o h =
    let l : length (take (16 * n) o) ≡ 16 * n = length-take-le (16 * n) o h in
    let e : join_blocks (cut n o) ≡ take (16 * n) o = rw (cut_take n (16 * n) o (omega arith)) at (join_cut n (take (16 * n) o) l) in
    rw (e, l) (sym (take-append-drop (16 * n) o))

module _ (c s : List ℕ) (n q : ℕ) (o : List ℕ) (start : WalkStart c s n q o) where
  pub walk_scheme : 2 < length s
  unfolding material_length
  walk_scheme = omega (arith, start.whole)

  pub walk_start : (at calls : ℕ) → (at ≡ 9) × (calls ≡ 0) → Walking c s n q o 0 at calls o
  unfolding tokens_to open_gates charges evaluate_calls
  walk_start at calls e = record {
    within = omega arith;
    same_length = refl;
    is_at = e.0 ∙ sym (start_first (get_or s 2 0) (gate_at c));
    so_far = front n o (omega (arith, start.room));
    counted = e.1;
  }

  module _ (k at calls : ℕ) (d : List ℕ) (inv : Walking c s n q o k at calls d) where
    -- at most two encryptions for each gate
    pub walk_few : calls ≤ 2 * k
    walk_few =
        let gs = tabulate k (gate_at c) in
        let l : charges gs ≤ k = omega (arith, charges_le gs, tabulate_length k (gate_at c)) in
        omega (arith, inv.counted, evaluate_calls_all (get_or s 2 0) gs (drop 9 s) (cut n o), mul-le-mul l (asked_few (get_or s 2 0)))

    pub walk_end : q ≤ k → WalkedIs c s n o calls d
    unfolding evaluate circuit_of tokens_to
    walk_end h =
        let w = inv.within in
        let e : k ≡ gates c = omega (arith, start.is_q) in
        record { left = inv.so_far ∙ rw e; calls_made = inv.counted ∙ rw e }

    module _ (more : k < q) where
      room_at : at + charge (kind_of (gate_at c k).code) * record_length (S s) ≤ length s
      unfolding circuit_of
      room_at =
          let fits = record_fits (get_or s 2 0) (gate_at c) k (gates c) (omega (arith, start.is_q)) in
          omega (arith, fits, inv.is_at, start.whole, length_last (get_or s 2 0) (last_bytes (hashed s) (outputs c)) (charges (tabulate (gates c) (gate_at c))))

      in_circuit : HeaderHolds c
      in_circuit = accepted_header c start.accepted

      pub walk_gate : 8 + 7 * k + 7 ≤ length c
      walk_gate = omega (arith, gates_inside c in_circuit, start.is_q)

      pub walk_small : k < 65536
      walk_small = omega (arith, in_circuit.sizes.sum, start.is_q)

      pub walk_token : (g : Gate) → g ≡ gate_at c k → TokenStart (get_or s 2 0) n k g s at d
      walk_token g is_g =
          let held : GateHolds (gate_wire n k) g = rw (is_g, start.is_n) (accepted_gate c k start.accepted (omega (arith, start.is_q))) in
          record {
            operands = record {
              few = omega (arith, in_circuit.sizes.sum, start.is_n, start.is_q);
              a_low = held.a_low;
              order = held.order;
              b_high = held.b_high;
              known = used_known held.used;
              token_room = omega (arith, start.room, inv.same_length);
            };
            record_room = record { known = start.known; room = rw is_g room_at };
          }

      held : Blocks (n + k) (tokens_to c s (cut n o) k)
      held = tokens_blocks c s k (cut_blocks n o (omega (arith, start.room)))

      operands_held : GateHolds (gate_wire (inputs c) k) (gate_at c k)
      operands_held = accepted_gate c k start.accepted (omega (arith, start.is_q))

      token_held : (w : ℕ) → 1 ≤ w → w ≤ n + k → token_at d w ≡ wire (block 0) (tokens_to c s (cut n o) k) w
      unfolding over
      token_held w h l = rw inv.so_far (token_at_front held w h l _)

      held_a : token_at d (gate_at c k).a.0 ≡ wire (block 0) (tokens_to c s (cut n o) k) (gate_at c k).a.0
      held_a = let a = operands_held in token_held (gate_at c k).a.0 a.a_low (omega (arith, a.order, a.b_high, start.is_n))

      held_b : token_at d (gate_at c k).b.0 ≡ wire (block 0) (tokens_to c s (cut n o) k) (gate_at c k).b.0
      held_b = let a = operands_held in token_held (gate_at c k).b.0 (omega (arith, a.a_low, a.order)) (omega (arith, a.b_high, start.is_n))

      own_wire : gate_wire n k ≡ suc (length (tokens_to c s (cut n o) k))
      own_wire = omega (arith, blocks_length held)

      token_next : open_at (S s) (kind_of (gate_at c k).code) (gate_wire n k) (drop at s) (token_at d (gate_at c k).a.0) (token_at d (gate_at c k).b.0)
          ≡ open_step (S s) (drop (last_start (get_or s 2 0) (charges (tabulate k (gate_at c)))) s) (tokens_to c s (cut n o) k) (gate_at c k)
      unfolding open_step
      token_next = rw (held_a, held_b, own_wire, inv.is_at)

      -- the calls of gate k are those of the tokens held
      calls_next : evaluate_calls_at (get_or s 2 0) (kind_of (gate_at c k).code) (gate_wire n k) (token_at d (gate_at c k).a.0) (token_at d (gate_at c k).b.0)
          ≡ evaluate_calls_at (get_or s 2 0) (kind_of (gate_at c k).code) (suc (length (tokens_to c s (cut n o) k))) (wire (block 0) (tokens_to c s (cut n o) k) (gate_at c k).a.0) (wire (block 0) (tokens_to c s (cut n o) k) (gate_at c k).b.0)
      calls_next = rw (held_a, held_b, own_wire)

      counted_next : (made : ℕ)
          → made ≡ evaluate_calls_at (get_or s 2 0) (kind_of (gate_at c k).code) (gate_wire n k) (token_at d (gate_at c k).a.0) (token_at d (gate_at c k).b.0)
          → calls + made ≡ evaluate_calls (get_or s 2 0) (tabulate (suc k) (gate_at c)) (drop 9 s) (cut n o)
      unfolding tokens_to
      counted_next made is_made =
          rw (tabulate_snoc k (gate_at c), evaluate_calls_snoc (get_or s 2 0) (tabulate k (gate_at c)) (gate_at c k) (drop 9 s) (cut n o))
          (ap₂ (λ (x y : ℕ). x + y) inv.counted (is_made ∙ calls_next))

      pub walk_turn : (next made : ℕ) (d' : List ℕ) → TokenIs (get_or s 2 0) n k (gate_at c k) s at d next made d' → Walking c s n q o (k + 1) next (calls + made) d'
      walk_turn next made d' step =
          let x : Block = open_step (S s) (drop (last_start (get_or s 2 0) (charges (tabulate k (gate_at c)))) s) (tokens_to c s (cut n o) k) (gate_at c k) in
          let wide : length x ≡ 16 = unfold open_step in (open_at_wide (S s) (scheme_sound (get_or s 2 0)) _ _ _ _ _) in
          let left : d' ≡ put d (16 * (n + k)) x = rw token_next at step.token_left in
          record {
            within = omega arith;
            same_length = rw left (put_length d (16 * (n + k)) x (omega (arith, inv.same_length, start.room)) ∙ inv.same_length);
            is_at = step.is_next ∙ rw inv.is_at (sym (start_next (get_or s 2 0) (gate_at c) k));
            so_far = rw (add-one, tokens_more) (left ∙ rw inv.so_far (over_block held x o wide (omega (arith, start.room))));
            counted = rw add-one (counted_next made step.calls_made);
          }

      pub walk_stepped : (g : Gate) → g ≡ gate_at c k → (next calls' : ℕ) (d' : List ℕ) → OpenedTo (get_or s 2 0) n k g s at calls d next calls' d'
          → Walking c s n q o (k + 1) next calls' d'
      walk_stepped g is_g next calls' d' step = rw step.added (walk_turn next step.made d' (rw is_g at step.token))

pub ruleset walk_turns = (walk_scheme, walk_start, walk_few, walk_end, walk_gate, walk_small, walk_token, walk_stepped)

-- ---- evaluate_wires: d is the buffer after the tokens were copied to its front
module _ (c ts s : List ℕ) (n q : ℕ) (o : List ℕ) (start : WiresStart c ts s n q o) (d : List ℕ) (is_d : d ≡ over ts o) where
  same : length d ≡ length o
  same = rw is_d (over_length ts o (omega (arith, start.tokens, start.walk.room)))

  pub wires_walk : WalkStart c s n q d
  wires_walk =
      let w = start.walk in
      record {
        accepted = w.accepted;
        is_n = w.is_n;
        is_q = w.is_q;
        known = w.known;
        whole = w.whole;
        room = rw same w.room;
      }

  copied : cut n d ≡ cut n ts
  unfolding over
  copied = sym (cut_take n (16 * n) d (omega arith)) ∙ ap (cut n) (rw is_d (take_at ts _ (16 * n) start.tokens))

  all_tokens : length (evaluate_bytes (circuit_of c) ts s) ≡ 16 * (n + q)
  unfolding evaluate_bytes evaluate circuit_of tokens_to
  all_tokens = rw (← start.walk.is_n, ← start.walk.is_q) (join_length (tokens_blocks c s q (cut_blocks n ts (omega (arith, start.tokens)))))

  left_is : (x : List ℕ) → x ≡ over (join_blocks (evaluate (circuit_of c) (cut n d) s)) d → x ≡ over (evaluate_bytes (circuit_of c) ts s) o
  left_is x is_x =
      let e : join_blocks (evaluate (circuit_of c) (cut n ts) s) ≡ evaluate_bytes (circuit_of c) ts s =
      unfold evaluate_bytes circuit_of in (rw start.walk.is_n) in
      is_x
      ∙ rw (copied, e, is_d)
      (over_over (evaluate_bytes (circuit_of c) ts s) o ts (omega (arith, all_tokens, start.tokens)) (omega (arith, all_tokens, start.walk.room)))

  pub wires_done : (calls : ℕ) (x : List ℕ) → WalkedIs c s n d calls x → WiresAre c ts s o calls x
  unfolding evaluate_calls_of
  wires_done calls x is = record { left = left_is x is.left; calls_made = is.calls_made ∙ rw (copied, start.walk.is_n) }

pub ruleset wires_cases = (wires_walk, wires_done)
