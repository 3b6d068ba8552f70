-- The encryptions that are counted: how many they are, that none is missing from a gate's list, and that nothing is asked twice. Assumes nothing.
use Prim.Native.Nat.{ℕ, suc, ◌+◌, ◌*◌, ◌≤◌}
use native.Mathlib.Nat.{add-mul}
use native.Mathlib.Omega.{arith}
use mathlib.Core.Path.{◌≡◌, refl, sym, ap, ap₂, ◌∙◌}
use mathlib.Core.Logic.{⊎_elim}
use mathlib.Core.Bool.{Bool, true, false, cond}
use mathlib.Core.List.Memᴰ
use mathlib.Core.List.{List, [], ◌∷◌, ◌++◌, append-nil, map, Memᴰ}
use lib.Dec.{eqb}
use lib.Bits.{differ}
use lib.ListN.{length}
use Rattle.model.specs.declared.Gate.{Gate}
use Rattle.model.specs.declared.Wanted.{Wanted}
use Rattle.model.specs.Circuit.{Kind, charged, free, refused, kind_of, charge, charges, circuit_of, wire, wires}
use Rattle.model.specs.Aes.{Block, ◌⊕◌, block, aes, fixed_key, π}
use Rattle.model.specs.Tokens.{Garbling, wants_hashes, colour, garbling_of, input_zeros}
use Rattle.model.specs.Scheme.{Site, Scheme}
use Rattle.model.specs.Gax.{key_block, dual_key, sealed, row_at, open_row, gax}
use Rattle.model.specs.Gaxr.{reduced_zero, gaxr}
use Rattle.model.specs.Hashes.{Call, answered, hash, hash_call_of, hash_of}
use Rattle.model.specs.HalfGates.{half_a, half_b, row_g, row_e, joined, half_zero, half}
use Rattle.model.specs.Garbling.{scheme_of, own, site_of, zero_step}
use Rattle.model.specs.Ending.{colours, hashes, ending_of}
use Rattle.model.specs.Material.{join_blocks}
use Rattle.model.specs.Evaluation.{open_step, past, open_gates}
use Rattle.model.specs.Calls.{Ask, sealing, hashing, call_for, sealing_at, sealings, hashings, garble_asks, garbled_calls, sealing_held, hashings_held, evaluate_asks, opened_calls, garble_calls_at, garble_calls, calls_of, output_calls, evaluate_calls_at, evaluate_calls}
use Rattle.model.specs.Operations.{file_length, made, garble_made}
use Rattle.model.proofs.Bits.{Bit, b0, b1}
use Rattle.model.proofs.Tokens.{Offset, colour_bit, colour_⊕}

-- ---- how many: four at a charged gate to garble; one, one, two and two to evaluate

pub garbled_four : (k : ℕ) (s : Site) → length (garbled_calls k s) ≡ 4
unfolding garbled_calls garble_asks sealings hashings
garbled_four k s = go (eqb k 1) (eqb k 2)
  where
    go : (a b : Bool) → length (map (call_for k) (cond a (sealings s) (cond b (sealings s) (hashings s)))) ≡ 4
    go true b = refl
    go false true = refl
    go false false = refl

-- by a scheme byte
unfoldable pub asked_held : ℕ → ℕ
asked_held k = cond (eqb k 1) 1 (cond (eqb k 2) 1 2)

pub asked_few : (k : ℕ) → asked_held k ≤ 2
unfolding asked_held
asked_few k = go (eqb k 1) (eqb k 2)
  where
    go : (a b : Bool) → cond a 1 (cond b 1 2) ≤ 2
    go true b = omega arith
    go false true = omega arith
    go false false = omega arith

pub opened_held : (k g : ℕ) (A B : Block) → length (opened_calls k g A B) ≡ asked_held k
unfolding opened_calls evaluate_asks asked_held sealing_held hashings_held
opened_held k g A B = go (eqb k 1) (eqb k 2)
  where
    go : (a b : Bool) → length (map (call_for k) (cond a (sealing_held g A B) (cond b (sealing_held g A B) (hashings_held g A B)))) ≡ cond a 1 (cond b 1 2)
    go true b = refl
    go false true = refl
    go false false = refl

-- ---- and summed over the gates: "4p", "p in schemes 1 and 2, 2p in scheme 3"; and in scheme 4

module _ (γ : Garbling) where
  pub garble_calls_at_law : (k : Kind) (s : Site) → garble_calls_at γ k s ≡ 4 * charge k
  unfolding garble_calls_at
  garble_calls_at_law (charged u v x) s = garbled_four γ.scheme s
  garble_calls_at_law (free p q c) s = refl
  garble_calls_at_law refused s = refl

  pub garble_calls_all : (gs : List Gate) (xs : List Block) → garble_calls γ gs xs ≡ 4 * charges gs
  unfolding garble_calls charges
  garble_calls_all [] xs = refl
  garble_calls_all (g ∷ gs) xs =
      omega (arith, garble_calls_at_law (kind_of g.code) (site_of γ xs g), garble_calls_all gs (xs ++ (zero_step γ xs g ∷ [])))

-- "for 47 4A adds 2m calls" (02, job 12): the hashes that are stored are the answers of the calls counted, one each
pub stored_answers : (k : ℕ) (X Y : Block) → hashes.stored k X Y ≡ join_blocks (map answered (hashes.calls k X Y))
unfolding hashes hash join_blocks
stored_answers k X Y = rw append-nil

calls_many : (γ : Garbling) (b : Bool) (k : ℕ) (ws : List ℕ) → length (calls_of γ (ending_of b) k ws) ≡ cond b (2 * length ws) 0
unfolding calls_of ending_of hashes colours
calls_many γ true k [] = refl
calls_many γ true k (w ∷ ws) = omega (arith, calls_many γ true (suc k) ws)
calls_many γ false k [] = refl
calls_many γ false k (w ∷ ws) = calls_many γ false (suc k) ws

pub output_calls_2m : (γ : Garbling) → output_calls γ ≡ cond γ.hashed (2 * length γ.circuit.outputs) 0
unfolding output_calls
output_calls_2m γ = calls_many γ γ.hashed 1 γ.circuit.outputs

pub garble_made_4p : (c seed : List ℕ) (want : Wanted)
    → garble_made c seed want ≡ made (file_length c want) (4 * charges (circuit_of c).gates + cond (wants_hashes want) (2 * length (circuit_of c).outputs) 0)
unfolding garble_made
garble_made_4p c seed want = rw (garble_calls_all (garbling_of c seed want) (circuit_of c).gates (input_zeros (garbling_of c seed want)), output_calls_2m (garbling_of c seed want))

module _ (k : ℕ) where
  pub evaluate_calls_at_law : (kind : Kind) (g : ℕ) (A B : Block) → evaluate_calls_at k kind g A B ≡ charge kind * asked_held k
  unfolding evaluate_calls_at
  evaluate_calls_at_law (charged u v x) g A B = opened_held k g A B ∙ omega arith
  evaluate_calls_at_law (free p q c) g A B = omega arith
  evaluate_calls_at_law refused g A B = omega arith

  pub evaluate_calls_all : (gs : List Gate) (bs : List ℕ) (ts : List Block) → evaluate_calls k gs bs ts ≡ charges gs * asked_held k
  unfolding evaluate_calls charges
  evaluate_calls_all [] bs ts = omega arith
  evaluate_calls_all (g ∷ gs) bs ts =
      ap₂ (λ (x y : ℕ). x + y) (evaluate_calls_at_law (kind_of g.code) _ _ _) (evaluate_calls_all gs _ _)
      ∙ sym (add-mul (charge (kind_of g.code)) (charges gs) (asked_held k))

pub evaluate_calls_p : (gs : List Gate) (bs : List ℕ) (ts : List Block) → evaluate_calls 1 gs bs ts ≡ charges gs
unfolding asked_held
evaluate_calls_p gs bs ts = evaluate_calls_all 1 gs bs ts ∙ omega arith

pub evaluate_calls_p_reduced : (gs : List Gate) (bs : List ℕ) (ts : List Block) → evaluate_calls 2 gs bs ts ≡ charges gs
unfolding asked_held
evaluate_calls_p_reduced gs bs ts = evaluate_calls_all 2 gs bs ts ∙ omega arith

pub evaluate_calls_2p : (gs : List Gate) (bs : List ℕ) (ts : List Block) → evaluate_calls 3 gs bs ts ≡ 2 * charges gs
unfolding asked_held
evaluate_calls_2p gs bs ts = evaluate_calls_all 3 gs bs ts ∙ omega arith

pub evaluate_calls_2p_rekeyed : (gs : List Gate) (bs : List ℕ) (ts : List Block) → evaluate_calls 4 gs bs ts ≡ 2 * charges gs
unfolding asked_held
evaluate_calls_2p_rekeyed gs bs ts = evaluate_calls_all 4 gs bs ts ∙ omega arith

-- ---- one gate more, at the end

pub garble_calls_snoc : (γ : Garbling) (gs : List Gate) (g : Gate) (xs : List Block)
    → garble_calls γ (gs ++ (g ∷ [])) xs ≡ garble_calls γ gs xs + garble_calls_at γ (kind_of g.code) (site_of γ (wires (zero_step γ) gs xs) g)
unfolding garble_calls wires
garble_calls_snoc γ [] g xs = omega arith
garble_calls_snoc γ (x ∷ gs) g xs = omega (arith, garble_calls_snoc γ gs g (xs ++ (zero_step γ xs x ∷ [])))

pub evaluate_calls_snoc : (k : ℕ) (gs : List Gate) (g : Gate) (bs : List ℕ) (ts : List Block)
    → let us = open_gates (scheme_of k) gs bs ts in
    evaluate_calls k (gs ++ (g ∷ [])) bs ts
    ≡ evaluate_calls k gs bs ts + evaluate_calls_at k (kind_of g.code) (own us) (wire (block 0) us g.a.0) (wire (block 0) us g.b.0)
unfolding evaluate_calls open_gates
evaluate_calls_snoc k [] g bs ts = omega arith
evaluate_calls_snoc k (x ∷ gs) g bs ts =
    omega (arith, evaluate_calls_snoc k gs g (past (scheme_of k) (kind_of x.code) bs) (ts ++ (open_step (scheme_of k) bs ts x ∷ [])))

-- ---- uses-only: nothing is missing from the lists. Two schemes that agree on what is listed have the same rows, zero token and opened token.

pub record UsesOnly {L : Type 0} (S S' : Scheme) (Agree : List L → Type 0) (garbling : Site → List L) (opening : ℕ → Block → Block → List L) : Type 0 where
  pub same_rows : (s : Site) → Agree (garbling s) → S.rows s ≡ S'.rows s
  pub same_zero : (s : Site) → Agree (garbling s) → S.zero_token s ≡ S'.zero_token s
  pub same_opened : (g : ℕ) (rows : List Block) (A B : Block) → Agree (opening g A B) → S.opened g rows A B ≡ S'.opened g rows A B

-- schemes 1 and 2, over two ciphers
module _ (E E' : Block → Block → ℕ → Block → Block) where
  -- they agree on what is listed
  abbrev pub CiphersAgree : List Ask → Type 0
  CiphersAgree l = (A B : Block) (T : ℕ) → Memᴰ (sealing A B T) l → (Z : Block) → E A B T Z ≡ E' A B T Z

  -- at a site
  module _ (s : Site) (agree : CiphersAgree (sealings s)) where
    same_sealed : (c d : ℕ) → Memᴰ (sealing_at s c d) (sealings s) → (z : Block) → sealed E s c d z ≡ sealed E' s c d z
    unfolding sealed sealing_at
    same_sealed c d m z = agree _ _ _ m z

    sealed_00 : (z : Block) → sealed E s 0 0 z ≡ sealed E' s 0 0 z
    unfolding sealings
    sealed_00 = same_sealed 0 0 (Memᴰ.head refl)

    sealed_01 : (z : Block) → sealed E s 0 1 z ≡ sealed E' s 0 1 z
    unfolding sealings
    sealed_01 = same_sealed 0 1 (Memᴰ.tail (Memᴰ.head refl))

    sealed_10 : (z : Block) → sealed E s 1 0 z ≡ sealed E' s 1 0 z
    unfolding sealings
    sealed_10 = same_sealed 1 0 (Memᴰ.tail (Memᴰ.tail (Memᴰ.head refl)))

    sealed_11 : (z : Block) → sealed E s 1 1 z ≡ sealed E' s 1 1 z
    unfolding sealings
    sealed_11 = same_sealed 1 1 (Memᴰ.tail (Memᴰ.tail (Memᴰ.tail (Memᴰ.head refl))))

    gax_rows : (gax E).rows s ≡ (gax E').rows s
    unfolding gax row_at
    gax_rows = rw (sealed_00, sealed_01, sealed_10, sealed_11)

    gaxr_zero : reduced_zero E s ≡ reduced_zero E' s
    unfolding reduced_zero
    gaxr_zero = rw sealed_00

    gaxr_rows : (gaxr E).rows s ≡ (gaxr E').rows s
    unfolding gaxr row_at
    gaxr_rows = rw (gaxr_zero, sealed_01, sealed_10, sealed_11)

  -- at a gate
  same_row : (g : ℕ) (rows : List Block) (A B : Block) → CiphersAgree (sealing_held g A B) → open_row E g rows A B ≡ open_row E' g rows A B
  unfolding open_row sealing_held
  same_row g rows A B agree = agree _ _ _ (Memᴰ.head refl) _

  pub gax_uses_only : UsesOnly (gax E) (gax E') CiphersAgree sealings sealing_held
  gax_uses_only = record {
    same_rows = gax_rows;
    same_zero = λ s agree. unfold gax in refl;
    same_opened = λ g rows A B agree. unfold gax in (same_row g rows A B agree);
  }

  pub gaxr_uses_only : UsesOnly (gaxr E) (gaxr E') CiphersAgree sealings sealing_held
  gaxr_uses_only = record {
    same_rows = gaxr_rows;
    same_zero = λ s agree. unfold gaxr in (gaxr_zero s agree);
    same_opened = λ g rows A B agree. unfold gaxr in (same_row g _ A B agree);
  }

-- schemes 3 and 4, over two hashes
module _ (H H' : Block → ℕ → Block) where
  -- they agree on what is listed
  abbrev pub HashesAgree : List Ask → Type 0
  HashesAgree l = (x : Block) (i : ℕ) → Memᴰ (hashing x i) l → H x i ≡ H' x i

  module _ (s : Site) (agree : HashesAgree (hashings s)) where
    hash_a : H (half_a s) (2 * s.g) ≡ H' (half_a s) (2 * s.g)
    unfolding hashings
    hash_a = agree _ _ (Memᴰ.head refl)

    hash_ar : H (half_a s ⊕ s.R) (2 * s.g) ≡ H' (half_a s ⊕ s.R) (2 * s.g)
    unfolding hashings
    hash_ar = agree _ _ (Memᴰ.tail (Memᴰ.head refl))

    hash_b : H (half_b s) (2 * s.g + 1) ≡ H' (half_b s) (2 * s.g + 1)
    unfolding hashings
    hash_b = agree _ _ (Memᴰ.tail (Memᴰ.tail (Memᴰ.head refl)))

    hash_br : H (half_b s ⊕ s.R) (2 * s.g + 1) ≡ H' (half_b s ⊕ s.R) (2 * s.g + 1)
    unfolding hashings
    hash_br = agree _ _ (Memᴰ.tail (Memᴰ.tail (Memᴰ.tail (Memᴰ.head refl))))

    same_g : row_g H s ≡ row_g H' s
    unfolding row_g
    same_g = rw (hash_a, hash_ar)

    same_e : row_e H s ≡ row_e H' s
    unfolding row_e
    same_e = rw (hash_b, hash_br)

    half_rows : (half H).rows s ≡ (half H').rows s
    unfolding half
    half_rows = rw (same_g, same_e)

    half_zero_law : (half H).zero_token s ≡ (half H').zero_token s
    unfolding half half_zero joined
    half_zero_law = rw (same_g, same_e, hash_a, hash_b)

  same_joined : (g : ℕ) (G E A B : Block) → HashesAgree (hashings_held g A B) → joined H g G E A B ≡ joined H' g G E A B
  unfolding joined hashings_held
  same_joined g G E A B agree =
      let a = agree A (2 * g) (Memᴰ.head refl) in
      let b = agree B (2 * g + 1) (Memᴰ.tail (Memᴰ.head refl)) in
      rw (a, b)

  pub half_uses_only : UsesOnly (half H) (half H') HashesAgree hashings hashings_held
  half_uses_only = record {
    same_rows = half_rows;
    same_zero = half_zero_law;
    same_opened = λ g rows A B agree. unfold half in (same_joined g _ _ A B agree);
  }

-- ---- and no encryption: every scheme is that of its scheme byte over a block cipher P, AES for those of 01 and 02, and two block ciphers that agree
-- on the encryptions listed have the same

abbrev pub BlockCipher : Type 0
BlockCipher = Block → Block → Block

module _ (P : BlockCipher) where
  -- E and H, over P
  abbrev pub dual_key_over : Block → Block → ℕ → Block → Block
  dual_key_over A B T Z = P fixed_key (key_block A B T) ⊕ key_block A B T ⊕ Z

  abbrev pub hash_over : ℕ → Block → ℕ → Block
  hash_over k x i = P (hash_call_of k x i).key (hash_call_of k x i).input ⊕ (hash_call_of k x i).input

  unfoldable pub scheme_over : ℕ → Scheme
  scheme_over k = cond (eqb k 1) (gax dual_key_over) (cond (eqb k 2) (gaxr dual_key_over) (half (hash_over k)))

-- those of 01 and 02
pub over_aes : (k : ℕ) → scheme_over aes k ≡ scheme_of k
unfolding scheme_over scheme_of dual_key π hash_of answered
over_aes k = refl

mem_map : {A B : Type 0} (f : A → B) {x : A} {l : List A} → Memᴰ x l → Memᴰ (f x) (map f l)
mem_map f {l = []} m = absurd (Memᴰ.not-nil m)
mem_map f {l = y ∷ l} m = ⊎_elim (λ e. Memᴰ.head (ap f e)) (λ n. Memᴰ.tail (mem_map f n)) (Memᴰ.cases_cons m)

module _ (P P' : BlockCipher) where
  -- they agree on the encryptions listed
  abbrev pub EncryptionsAgree : List Call → Type 0
  EncryptionsAgree l = (c : Call) → Memᴰ c l → P c.key c.input ≡ P' c.key c.input

  module _ (k : ℕ) (l : List Ask) (agree : EncryptionsAgree (map (call_for k) l)) where
    ciphers_agree : CiphersAgree (dual_key_over P) (dual_key_over P') l
    unfolding call_for
    ciphers_agree A B T m Z = ap (λ (b : Block). b ⊕ key_block A B T ⊕ Z) (agree (record { key = fixed_key; input = key_block A B T }) (mem_map (call_for k) m))

    hashes_agree : HashesAgree (hash_over P k) (hash_over P' k) l
    unfolding call_for
    hashes_agree x i m = ap (λ (b : Block). b ⊕ (hash_call_of k x i).input) (agree (hash_call_of k x i) (mem_map (call_for k) m))

  -- what uses only the asks listed uses only their encryptions
  by_encryptions : (k : ℕ) {S S' : Scheme} {Agree : List Ask → Type 0} {garbling : Site → List Ask} {opening : ℕ → Block → Block → List Ask}
      → ((l : List Ask) → EncryptionsAgree (map (call_for k) l) → Agree l) → UsesOnly S S' Agree garbling opening
      → UsesOnly S S' EncryptionsAgree (λ s. map (call_for k) (garbling s)) (λ g A B. map (call_for k) (opening g A B))
  by_encryptions k f u = record {
    same_rows = λ s agree. u.same_rows s (f _ agree);
    same_zero = λ s agree. u.same_zero s (f _ agree);
    same_opened = λ g rows A B agree. u.same_opened g rows A B (f _ agree);
  }

  pub scheme_uses_only : (k : ℕ) → UsesOnly (scheme_over P k) (scheme_over P' k) EncryptionsAgree (garbled_calls k) (opened_calls k)
  unfolding scheme_over garbled_calls opened_calls garble_asks evaluate_asks
  scheme_uses_only k = go (eqb k 1) (eqb k 2)
    where
      over : BlockCipher → Bool → Bool → Scheme
      over Q a b = cond a (gax (dual_key_over Q)) (cond b (gaxr (dual_key_over Q)) (half (hash_over Q k)))

      go : (a b : Bool) → UsesOnly (over P a b) (over P' a b) EncryptionsAgree (λ s. map (call_for k) (cond a (sealings s) (cond b (sealings s) (hashings s))))
          (λ g A B. map (call_for k) (cond a (sealing_held g A B) (cond b (sealing_held g A B) (hashings_held g A B))))
      go true b = by_encryptions k (ciphers_agree k) (gax_uses_only (dual_key_over P) (dual_key_over P'))
      go false true = by_encryptions k (ciphers_agree k) (gaxr_uses_only (dual_key_over P) (dual_key_over P'))
      go false false = by_encryptions k (hashes_agree k) (half_uses_only (hash_over P k) (hash_over P' k))

-- ---- needed: no two entries of a list are equal, so that nothing is asked twice

abbrev pub NotAmong : Ask → List Ask → Type 0
NotAmong x [] = Unit {0}
NotAmong x (y ∷ l) = (x ≡ y → ⊥) × NotAmong x l

abbrev pub Distinct : List Ask → Type 0
Distinct [] = Unit {0}
Distinct (x ∷ l) = NotAmong x l × Distinct l

-- by their tweaks
abbrev pub tweak_of : Ask → ℕ
tweak_of (sealing A B T) = T
tweak_of (hashing x i) = i

-- or by the colour of what is hashed
abbrev pub colour_of : Ask → ℕ
colour_of (sealing A B T) = 0
colour_of (hashing x i) = colour x

by_tweak : (x y : Ask) → (tweak_of x ≡ tweak_of y → ⊥) → x ≡ y → ⊥
by_tweak x y h e = h (ap tweak_of e)

by_colour : (x y : Ask) → (colour_of x ≡ colour_of y → ⊥) → x ≡ y → ⊥
by_colour x y h e = h (ap colour_of e)

pub sealings_needed : (s : Site) → Distinct (sealings s)
unfolding sealings sealing_at
sealings_needed s = (
  (by_tweak _ _ (λ h. omega arith), (by_tweak _ _ (λ h. omega arith), (by_tweak _ _ (λ h. omega arith), tt))),
  (
    (by_tweak _ _ (λ h. omega arith), (by_tweak _ _ (λ h. omega arith), tt)),
    ((by_tweak _ _ (λ h. omega arith), tt), (tt, tt)),
  ),
)

-- R has colour 1
pub other_colour : {R : Block} (x : Block) → Offset R → colour x ≡ colour (x ⊕ R) → ⊥
other_colour {R} x o e = go (colour_bit x) (e ∙ colour_⊕ x R ∙ ap (differ (colour x)) o.colour_1)
  where
    go : {b : ℕ} → Bit b → b ≡ differ b 1 → ⊥
    go b0 h = omega arith
    go b1 h = omega arith

pub hashings_needed : (s : Site) → Offset s.R → Distinct (hashings s)
unfolding hashings
hashings_needed s o = (
  (by_colour _ _ (other_colour (half_a s) o), (by_tweak _ _ (λ h. omega arith), (by_tweak _ _ (λ h. omega arith), tt))),
  (
    (by_tweak _ _ (λ h. omega arith), (by_tweak _ _ (λ h. omega arith), tt)),
    ((by_colour _ _ (other_colour (half_b s) o), tt), (tt, tt)),
  ),
)

pub sealing_held_needed : (g : ℕ) (A B : Block) → Distinct (sealing_held g A B)
unfolding sealing_held
sealing_held_needed g A B = (tt, tt)

pub hashings_held_needed : (g : ℕ) (A B : Block) → Distinct (hashings_held g A B)
unfolding hashings_held
hashings_held_needed g A B = ((by_tweak _ _ (λ h. omega arith), tt), (tt, tt))
