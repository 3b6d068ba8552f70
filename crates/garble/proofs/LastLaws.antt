-- The last record: the loops that write its colours and its hashes, and the record whole. Assumes nothing.
use Prim.Native.Nat.{ℕ, suc, ◌+◌, ◌*◌, ◌≤◌, ◌<◌}
use native.Mathlib.Nat.{mul-le-mul}
use native.Mathlib.Numerals.{add-one}
use native.Mathlib.Omega.{arith}
use mathlib.Core.Path.{◌≡◌, refl, sym, ap, ◌∙◌}
use mathlib.Core.Bool.{Bool, true, false}
use mathlib.Core.List.{List, [], ◌∷◌, ◌++◌, map, append_assoc, append-nil}
use lib.ListN.{length, get_or, take, drop, set, length-set, length-map, length-append}
use lib.Seq.{set_split, drop-drop, take-suc, take_all, length-take-le}
use mir.Syntax.{w64}
use mir.Val.{Fits}
use Rattle.model.specs.declared.Sizes.{Sizes}
use Rattle.model.specs.declared.Wanted.{Wanted}
use Rattle.model.specs.Bytes.{tabulate, over, put}
use Rattle.model.specs.Circuit.{circuit_of, outputs}
use Rattle.model.specs.Aes.{Block, ◌⊕◌}
use Rattle.model.specs.Tokens.{wants_hashes, colour}
use Rattle.model.specs.Hashes.{hash}
use Rattle.model.specs.Ending.{output_tweak, colours, hashes, ending_of}
use Rattle.model.specs.Material.{last_bytes}
use Rattle.model.specs.Evaluation.{token_at}
use Rattle.model.proofs.Lists.{tabulate_snoc, tabulate_length, map_elements}
use Rattle.model.proofs.Buffers.{put_none, put_put, put_length}
use Rattle.model.proofs.Accepted.{OutputHolds, accepted_output}
use Rattle.model.proofs.Outputs.{outputs_many}
use Rattle.model.proofs.Endings.{hash_wide}
use Rattle.model.proofs.OldEnding.{colours_bytes}
use Rattle.circuit.specs.Outputs.{OutputStart}
use Rattle.circuit.proofs.AcceptedLaws as Sized
use Rattle.garble.specs.Walk.{ColoursStart, HashesStart, stored_from, last_of, LastStart, LastIs}

-- one byte at an index
set_put : (o : List ℕ) (j v : ℕ) → j < length o → set o j v ≡ put o j (v ∷ [])
unfolding put over
set_put o j v h = set_split o j v h ∙ ap (λ (l : List ℕ). take j o ++ (v ∷ l)) (ap (λ (k : ℕ). drop k o) (sym (add-one j)) ∙ sym (drop-drop 1 j o))

-- the colour of output j's token in z
abbrev pub colour_at : List ℕ → List ℕ → ℕ → ℕ
colour_at c z j = colour (token_at z (get_or (circuit_of c).outputs j 0))

-- those of i outputs are written at `at`: d was o
pub record Writing (c : List ℕ) (z : List ℕ) (at : ℕ) (o : List ℕ) (i : ℕ) (d : List ℕ) : Type 0 where
  pub within : i ≤ outputs c
  pub same_length : length d ≡ length o
  pub so_far : d ≡ put o at (tabulate i (colour_at c z))

module _ (c : List ℕ) (s : Sizes) (z o : List ℕ) (at : ℕ) (start : ColoursStart c s z o at) where
  is_m : s.m ≡ outputs c
  is_m = Sized.is_m c s start.sized

  pub colours_start : Writing c z at o 0 o
  colours_start = record { within = omega arith; same_length = refl; so_far = put_none o at }

  -- an output, and its wire as it was told
  module _ (j : ℕ) (h : j < s.m) where
    pub colours_output : OutputStart c s j
    colours_output = record { sized = start.sized; more = rw is_m at h }

    module _ (w : ℕ) (is_w : w ≡ get_or (circuit_of c).outputs j 0) where
      among : OutputHolds c j
      among = accepted_output c j start.sized.accepted (rw is_m at h)

      pub colours_wire : 1 ≤ w
      colours_wire = rw is_w among.low

      pub colours_token : 16 * w ≤ length z
      colours_token = omega (arith, is_w, among.high, start.tokens)

  module _ (i : ℕ) (d : List ℕ) (inv : Writing c z at o i d) where
    pub colours_end : s.m ≤ i → d ≡ put o at (map (λ w. colour (token_at z w)) (circuit_of c).outputs)
    colours_end h =
        let e : length (circuit_of c).outputs ≡ i = omega (arith, outputs_many c, is_m, inv.within) in
        rw (map_elements (λ w. colour (token_at z w)) i (circuit_of c).outputs e) inv.so_far

    module _ (h : i < s.m) where
      pub colours_slot : at + i < length d
      colours_slot = omega (arith, inv.same_length, start.room)

      pub colours_turn : (w : ℕ) → w ≡ get_or (circuit_of c).outputs i 0 → (x : List ℕ) (v : ℕ) → x ≡ token_at z w → v ≡ colour x
          → Writing c z at o (i + 1) (set d (at + i) v)
      colours_turn w is_w x v e f = record {
        within = omega (arith, is_m);
        same_length = simp length-set inv.same_length;
        so_far =
            set_put d (at + i) v colours_slot
            ∙ rw (inv.so_far, add-one, tabulate_snoc i (colour_at c z), f, e, is_w)
            (put_put o at (tabulate i (colour_at c z)) (_ ∷ []) (at + i)
            (omega (arith, tabulate_length i (colour_at c z))) (omega (arith, tabulate_length i (colour_at c z), start.room)));
      }

pub ruleset colours_cases = (colours_start, colours_end, colours_output, colours_wire, colours_token, colours_slot, colours_turn)

-- ---- the hashes: the pair of output k, by its zero token x
abbrev pair_of : Block → Block → ℕ → List ℕ
pair_of x R k = hashes.stored k x (x ⊕ R)

pair_long : (x R : Block) (k : ℕ) → length (pair_of x R k) ≡ 32
unfolding hashes
pair_long x R k = length-append (hash x (output_tweak k)) _ ∙ omega (arith, hash_wide x (output_tweak k), hash_wide (x ⊕ R) (output_tweak k))

-- a pair, as it is written
pub pair_done : (x y R u v : Block) (k at : ℕ) (o d1 d2 : List ℕ) → at + 32 ≤ length o → y ≡ x ⊕ R → u ≡ hash x (output_tweak k) → v ≡ hash y (output_tweak k)
    → d1 ≡ put o at u → d2 ≡ put d1 (at + 16) v → d2 ≡ put o at (pair_of x R k)
unfolding hashes
pair_done x y R u v k at o d1 d2 room is_y is_u is_v e f =
    let wide_u : length u ≡ 16 = ap length is_u ∙ hash_wide x (output_tweak k) in
    let wide_v : length v ≡ 16 = ap length is_v ∙ hash_wide y (output_tweak k) in
    let both : u ++ v ≡ hash x (output_tweak k) ++ hash (x ⊕ R) (output_tweak k) = rw (is_u, is_v, is_y) in
    f ∙ ap (λ (l : List ℕ). put l (at + 16) v) e ∙ put_put o at u v (at + 16) (omega (arith, wide_u)) (omega (arith, wide_u, wide_v, room)) ∙ ap (put o at) both

pub pair_room : (u : Block) (at : ℕ) (o d : List ℕ) → at + 32 ≤ length o → (x : Block) (k : ℕ) → u ≡ hash x (output_tweak k) → d ≡ put o at u → at + 16 + 16 ≤ length d
pair_room u at o d room x k is_u e =
    let wide_u : length u ≡ 16 = ap length is_u ∙ hash_wide x (output_tweak k) in
    rw (e, put_length o at u (omega (arith, wide_u, room))) (omega (arith, room))

module _ (z : List ℕ) (R : Block) where
  pub hashes_long : (k : ℕ) (ws : List ℕ) → length (stored_from hashes z R k ws) ≡ 32 * length ws
  unfolding stored_from
  hashes_long k [] = omega arith
  hashes_long k (w ∷ ws) = length-append (pair_of (token_at z w) R k) _ ∙ omega (arith, pair_long (token_at z w) R k, hashes_long (suc k) ws)

  hashes_snoc : (k : ℕ) (ws : List ℕ) (w : ℕ) → stored_from hashes z R k (ws ++ (w ∷ [])) ≡ stored_from hashes z R k ws ++ pair_of (token_at z w) R (k + length ws)
  unfolding stored_from
  hashes_snoc k [] w = append-nil (pair_of (token_at z w) R k) ∙ ap (λ (j : ℕ). pair_of (token_at z w) R j) (omega arith)
  hashes_snoc k (v ∷ ws) w =
      let e : suc k + length ws ≡ k + suc (length ws) = omega arith in
      ap (λ (l : List ℕ). pair_of (token_at z v) R k ++ l) (hashes_snoc (suc k) ws w ∙ ap (λ (j : ℕ). stored_from hashes z R (suc k) ws ++ pair_of (token_at z w) R j) e)
      ∙ sym (append_assoc (pair_of (token_at z v) R k) (stored_from hashes z R (suc k) ws) _)

-- those of i outputs are written at `at`: d was o
pub record Hashing (c : List ℕ) (z : List ℕ) (R : Block) (at : ℕ) (o : List ℕ) (i : ℕ) (d : List ℕ) : Type 0 where
  pub within : i ≤ outputs c
  pub same_length : length d ≡ length o
  pub so_far : d ≡ put o at (stored_from hashes z R 1 (take i (circuit_of c).outputs))

module _ (c : List ℕ) (s : Sizes) (z o : List ℕ) (at : ℕ) (start : HashesStart c s z o at) where
  of_m : s.m ≡ outputs c
  of_m = Sized.is_m c s start.sized

  few : s.m ≤ 65535
  few = Sized.few_outputs c s start.sized

  pub hashes_start : (R : Block) → Hashing c z R at o 0 o
  unfolding stored_from
  hashes_start R = record { within = omega arith; same_length = refl; so_far = put_none o at }

  -- an output, and its wire as it was told
  module _ (j : ℕ) (h : j < s.m) where
    pub hashes_output : OutputStart c s j
    hashes_output = record { sized = start.sized; more = rw of_m at h }

    pub hashes_place : Fits w64 (32 * j)
    hashes_place = omega (arith, few)

    pub hashes_number : (k : ℕ) → k ≤ j + 1 → k ≤ 65536
    hashes_number k l = omega (arith, few)

    module _ (w : ℕ) (is_w : w ≡ get_or (circuit_of c).outputs j 0) where
      output_among : OutputHolds c j
      output_among = accepted_output c j start.sized.accepted (rw of_m at h)

      pub hashes_wire : 1 ≤ w
      hashes_wire = rw is_w output_among.low

      pub hashes_token : 16 * w ≤ length z
      hashes_token = omega (arith, is_w, output_among.high, start.tokens)

  module _ (R : Block) (i : ℕ) (d : List ℕ) (inv : Hashing c z R at o i d) where
    pub hashes_end : s.m ≤ i → d ≡ put o at (stored_from hashes z R 1 (circuit_of c).outputs)
    hashes_end h =
        let e : length (circuit_of c).outputs ≤ i = omega (arith, outputs_many c, of_m, inv.within) in
        rw (take_all i (circuit_of c).outputs e) at inv.so_far

    module _ (h : i < s.m) where
      pub hashes_slot : at + 32 * i + 32 ≤ length d
      hashes_slot = omega (arith, inv.same_length, start.room)

      pub hashes_turn : (w : ℕ) → w ≡ get_or (circuit_of c).outputs i 0 → (x : Block) → x ≡ token_at z w
          → (d1 : List ℕ) → d1 ≡ put d (at + 32 * i) (pair_of x R (i + 1)) → Hashing c z R at o (i + 1) d1
      hashes_turn w is_w x is_x d1 e =
          let pair : List ℕ = pair_of x R (i + 1) in
          let wide : length pair ≡ 32 = pair_long x R (i + 1) in
          let so : List ℕ = stored_from hashes z R 1 (take i (circuit_of c).outputs) in
          let long : length (take i (circuit_of c).outputs) ≡ i = length-take-le i (circuit_of c).outputs (omega (arith, outputs_many c, of_m)) in
          let so_long : length so ≡ 32 * i = hashes_long z R 1 (take i (circuit_of c).outputs) ∙ omega (arith, long) in
          let number : 1 + length (take i (circuit_of c).outputs) ≡ i + 1 = omega (arith, long) in
          let token : token_at z (get_or (circuit_of c).outputs i 0) ≡ x = sym (is_x ∙ rw is_w) in
          let more : stored_from hashes z R 1 (take (i + 1) (circuit_of c).outputs) ≡ so ++ pair =
          ap (stored_from hashes z R 1) (ap (λ (k : ℕ). take k (circuit_of c).outputs) (add-one i) ∙ take-suc (circuit_of c).outputs i 0 (omega (arith, outputs_many c, of_m)))
          ∙ hashes_snoc z R 1 (take i (circuit_of c).outputs) (get_or (circuit_of c).outputs i 0)
          ∙ ap (λ (k : ℕ). so ++ pair_of (token_at z (get_or (circuit_of c).outputs i 0)) R k) number
          ∙ ap (λ (t : Block). so ++ pair_of t R (i + 1)) token in
          record {
            within = omega (arith, of_m);
            same_length = ap length e ∙ put_length d (at + 32 * i) pair (omega (arith, wide, inv.same_length, start.room)) ∙ inv.same_length;
            so_far =
                e ∙ ap (λ (l : List ℕ). put l (at + 32 * i) pair) inv.so_far
                ∙ put_put o at so pair (at + 32 * i) (omega (arith, so_long)) (omega (arith, so_long, wide, start.room))
                ∙ ap (put o at) (sym more);
          }

pub ruleset hashes_cases = (hashes_start, hashes_end, hashes_output, hashes_place, hashes_number, hashes_wire, hashes_token, hashes_slot, hashes_turn)

-- ---- the record whole: its head, and what comes after it

-- colours are what is stored where no hashes are wanted
colours_are : (z : List ℕ) (R : Block) (k : ℕ) (ws : List ℕ) → stored_from colours z R k ws ≡ map (λ w. colour (token_at z w)) ws
unfolding stored_from colours
colours_are z R k [] = refl
colours_are z R k (w ∷ ws) = ap (◌∷◌ (colour (token_at z w))) (colours_are z R (suc k) ws)

module _ (c : List ℕ) (want : Wanted) (s : Sizes) (z f : List ℕ) (at : ℕ) (start : LastStart c want s z f at) where
  m_is : s.m ≡ outputs c
  m_is = Sized.is_m c s start.sized

  many : length (circuit_of c).outputs ≡ s.m
  many = outputs_many c ∙ sym m_is

  -- up to two calls for each output do not overflow
  pub last_fits : (k : ℕ) → k ≤ 2 → Fits w64 (k * s.m)
  last_fits k h = omega (arith, mul-le-mul h (Sized.few_outputs c s start.sized))

  pub last_room : at + 2 ≤ length f
  last_room = omega (arith, start.room)

  module _ (t : Bool) (is_t : t ≡ wants_hashes want) (x : ℕ) (is_x : x ≡ (ending_of t).last_mark) (d : List ℕ) (is_d : d ≡ put f at (0x47 ∷ x ∷ [])) where
    room_by : (b : Bool) → t ≡ b → at + 2 + last_bytes b s.m ≤ length d
    room_by b e = rw (is_d, put_length f at (0x47 ∷ x ∷ []) last_room, ← e, is_t) start.room

    pub by_hashes : t ≡ true → HashesStart c s z d (at + 2)
    unfolding last_bytes ending_of hashes
    by_hashes e = record { sized = start.sized; tokens = start.tokens; room = room_by true e }

    pub by_colours : t ≡ false → ColoursStart c s z d (at + 2)
    by_colours e = record { sized = start.sized; tokens = start.tokens; room = rw (colours_bytes s.m) at (room_by false e) }

    -- what is stored comes after the head
    whole : (b : Bool) → t ≡ b → (q : List ℕ) → length q ≡ last_bytes b s.m → put d (at + 2) q ≡ put f at (0x47 ∷ (ending_of b).last_mark ∷ q)
    whole b e q l =
        rw (is_d, is_x, e)
        (put_put f at (0x47 ∷ (ending_of b).last_mark ∷ []) q (at + 2) (omega arith) (omega (arith, l, rw (← is_t, e) at start.room)))

    left_is : (b : Bool) → t ≡ b → (R : Block) (f' : List ℕ) → f' ≡ put d (at + 2) (stored_from (ending_of b) z R 1 (circuit_of c).outputs)
        → length (stored_from (ending_of b) z R 1 (circuit_of c).outputs) ≡ last_bytes b s.m → f' ≡ put f at (last_of c R z (wants_hashes want))
    unfolding last_of
    left_is b e R f' is_f l = is_f ∙ whole b e _ l ∙ rw (← is_t, e)

    pub hashed_done : t ≡ true → (R : Block) (f' : List ℕ) → f' ≡ put d (at + 2) (stored_from hashes z R 1 (circuit_of c).outputs) → LastIs c want R z f at f' (2 * s.m)
    unfolding ending_of last_bytes hashes
    hashed_done e R f' is_f =
        let b : wants_hashes want ≡ true = sym is_t ∙ e in
        record {
          left = left_is true e R f' is_f (hashes_long z R 1 (circuit_of c).outputs ∙ rw many);
          calls_made = rw b (ap (λ (k : ℕ). 2 * k) m_is);
        }

    pub coloured_done : t ≡ false → (R : Block) (f' : List ℕ) → f' ≡ put d (at + 2) (map (λ w. colour (token_at z w)) (circuit_of c).outputs) → LastIs c want R z f at f' 0
    unfolding ending_of
    coloured_done e R f' is_f =
        let b : wants_hashes want ≡ false = sym is_t ∙ e in
        let same : f' ≡ put d (at + 2) (stored_from colours z R 1 (circuit_of c).outputs) = rw (colours_are z R 1 (circuit_of c).outputs) is_f in
        let long : length (stored_from colours z R 1 (circuit_of c).outputs) ≡ last_bytes false s.m =
        rw (colours_are z R 1 (circuit_of c).outputs, colours_bytes s.m) (length-map (circuit_of c).outputs _ ∙ many) in
        record { left = left_is false e R f' same long; calls_made = rw b }

pub ruleset last_cases = (last_fits, last_room, by_hashes, by_colours, hashed_done, coloured_done)
