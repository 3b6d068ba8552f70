-- Everything that a scheme lists of its cipher or its hash is needed: of each entry there are two ciphers, or two hashes, that agree on all that is
-- listed but that one, and do not give the same. So the lists are the shortest of which `UsesOnly` holds. Assumes nothing.
use Prim.Native.Nat.{ℕ, ◌+◌, ◌*◌, ◌≤◌}
use native.Mathlib.Omega.{arith}
use mathlib.Core.Path.{◌≡◌, refl, sym, ap, ◌∙◌}
use mathlib.Core.Logic.{◌⊎◌, inl, inr}
use mathlib.Core.Bool.{Bool, true, false, cond, ◌&&◌}
use mathlib.Core.List.Memᴰ
use mathlib.Core.List.{List, [], ◌∷◌, Memᴰ}
use borrow.Author.Tests.{eq-eqb, ne_eqb, eqb-true}
use lib.Dec.{eqb}
use lib.Bits.{differ}
use lib.ListN.{get_or}
use Rattle.model.specs.Bytes.{bytes_of}
use Rattle.model.specs.Aes.{Block, ◌⊕◌, block, times}
use Rattle.model.specs.Tokens.{colour}
use Rattle.model.specs.Scheme.{Site, Scheme}
use Rattle.model.specs.Gax.{value_at, sealed, row_at, open_row, gax}
use Rattle.model.specs.Gaxr.{reduced_zero, gaxr}
use Rattle.model.specs.HalfGates.{half_a, half_b, row_g, row_e, joined, half}
use Rattle.model.specs.Calls.{Ask, sealing, hashing, sealing_at, sealings, hashings, sealing_held, hashings_held}
use Rattle.model.proofs.Bits.{Bit, b0, b1}
use Rattle.model.proofs.Xor.{⊕_assoc}
use Rattle.model.proofs.Tokens.{Offset, colour_bit, colour_⊕}
use Rattle.model.proofs.Verdicts.{and_both}
use Rattle.model.proofs.Calls.{tweak_of, colour_of, other_colour}

-- ---- blocks 0 and 1 are told apart by their colours, also in an exclusive or

colour_0 : colour (block 0) ≡ 0
unfolding colour block bytes_of
colour_0 = refl

colour_1 : colour (block 1) ≡ 1
unfolding colour block bytes_of
colour_1 = refl

not_zero : block 0 ≡ block 1 → ⊥
not_zero e = omega (arith, sym colour_0 ∙ ap colour e ∙ colour_1)

flipped : (z : Block) → colour (block 0 ⊕ z) ≡ colour (block 1 ⊕ z) → ⊥
flipped z e = go (colour_bit z) (rw (colour_⊕ (block 0) z, colour_⊕ (block 1) z, colour_0, colour_1) at e)
  where
    go : {b : ℕ} → Bit b → differ 0 b ≡ differ 1 b → ⊥
    go b0 h = omega arith
    go b1 h = omega arith

first_flipped : (z : Block) → block 0 ⊕ z ≡ block 1 ⊕ z → ⊥
first_flipped z e = flipped z (ap colour e)

second_flipped : (y z : Block) → y ⊕ block 0 ⊕ z ≡ y ⊕ block 1 ⊕ z → ⊥
second_flipped y z e =
    flipped z (go (colour_bit y) (colour_bit (block 0 ⊕ z)) (colour_bit (block 1 ⊕ z)) (sym (colour_⊕ y (block 0 ⊕ z)) ∙ ap colour e ∙ colour_⊕ y (block 1 ⊕ z)))
  where
    go : {a b c : ℕ} → Bit a → Bit b → Bit c → differ a b ≡ differ a c → b ≡ c
    go b0 b0 b0 h = refl
    go b0 b0 b1 h = h
    go b0 b1 b0 h = h
    go b0 b1 b1 h = refl
    go b1 b0 b0 h = refl
    go b1 b0 b1 h = sym h
    go b1 b1 b0 h = sym h
    go b1 b1 b1 h = refl

small : {x : ℕ} → Bit x → x ≤ 1
small b0 = omega arith
small b1 = omega arith

-- ---- schemes 1 and 2

abbrev pub Cipher : Type 0
Cipher = Block → Block → ℕ → Block → Block

-- they agree on the calls listed, but for x
abbrev pub CiphersAgreeBut : Cipher → Cipher → Ask → List Ask → Type 0
CiphersAgreeBut E E' x l = (A B : Block) (T : ℕ) → Memᴰ (sealing A B T) l → (sealing A B T ≡ x → ⊥) → (Z : Block) → E A B T Z ≡ E' A B T Z

pub record SealingNeeded (S : Cipher → Scheme) (s : Site) (x : Ask) : Type 0 where
  pub E : Cipher
  pub E' : Cipher
  pub agree_but : CiphersAgreeBut E E' x (sealings s)
  pub not_same : (S E).rows s ≡ (S E').rows s → (S E).zero_token s ≡ (S E').zero_token s → ⊥

-- to a cipher that knows one block is opposed one that knows another under a single tweak
abbrev blank : Cipher
blank A B T Z = block 0

abbrev marked : ℕ → Cipher
marked t A B T Z = cond (eqb T t) (block 1) (block 0)

module _ (s : Site) where
  -- what holds of the four calls holds of each that is listed
  each_sealing : (P : Ask → Type 0) → ((c d : ℕ) → Bit c → Bit d → P (sealing_at s c d)) → (x : Ask) → Memᴰ x (sealings s) → P x
  unfolding sealings
  each_sealing P f x m = first (Memᴰ.cases_cons m)
    where
      fourth : (x ≡ sealing_at s 1 1) ⊎ Memᴰ x [] → P x
      fourth (inl e) = rw e (f 1 1 b1 b1)
      fourth (inr n) = absurd (Memᴰ.not-nil n)

      third : (x ≡ sealing_at s 1 0) ⊎ Memᴰ x (sealing_at s 1 1 ∷ []) → P x
      third (inl e) = rw e (f 1 0 b1 b0)
      third (inr n) = fourth (Memᴰ.cases_cons n)

      second : (x ≡ sealing_at s 0 1) ⊎ Memᴰ x (sealing_at s 1 0 ∷ sealing_at s 1 1 ∷ []) → P x
      second (inl e) = rw e (f 0 1 b0 b1)
      second (inr n) = third (Memᴰ.cases_cons n)

      first : (x ≡ sealing_at s 0 0) ⊎ Memᴰ x (sealing_at s 0 1 ∷ sealing_at s 1 0 ∷ sealing_at s 1 1 ∷ []) → P x
      first (inl e) = rw e (f 0 0 b0 b0)
      first (inr n) = second (Memᴰ.cases_cons n)

  -- a tweak has one call
  abbrev tweak_at : ℕ → ℕ → ℕ
  tweak_at c d = 4 * s.g + 2 * c + d

  same_pair : (c d e f : ℕ) → c ≤ 1 → d ≤ 1 → e ≤ 1 → f ≤ 1 → tweak_at c d ≡ tweak_at e f → sealing_at s c d ≡ sealing_at s e f
  same_pair c d e f p q u v h =
      let i : c ≡ e = omega arith in
      let j : d ≡ f = omega arith in
      rw (i, j)

  at_tweak : (c d : ℕ) → Bit c → Bit d → (x : Ask) → Memᴰ x (sealings s) → tweak_of x ≡ tweak_at c d → x ≡ sealing_at s c d
  at_tweak c d p q =
      each_sealing (λ x. tweak_of x ≡ tweak_at c d → x ≡ sealing_at s c d)
      (λ e f u v h. same_pair e f c d (small u) (small v) (small p) (small q) (unfold sealing_at in h))

  -- the two agree but for the call of that tweak
  agree : (c d : ℕ) → Bit c → Bit d → CiphersAgreeBut blank (marked (tweak_at c d)) (sealing_at s c d) (sealings s)
  agree c d p q A B T m n Z = go (eqb T (tweak_at c d)) refl
    where
      go : (b : Bool) → eqb T (tweak_at c d) ≡ b → block 0 ≡ cond b (block 1) (block 0)
      go true e = absurd (n (at_tweak c d p q (sealing A B T) m (eqb-true T (tweak_at c d) e)))
      go false e = refl

  -- and not there
  sealed_marked : (c d : ℕ) (z : Block) → sealed (marked (tweak_at c d)) s c d z ≡ block 1
  unfolding sealed
  sealed_marked c d z = rw (eq-eqb (tweak_at c d) (tweak_at c d) refl)

  row_differs : (c d : ℕ) (x y : Block) → row_at blank s x c d ≡ row_at (marked (tweak_at c d)) s y c d → ⊥
  unfolding row_at
  row_differs c d x y e = not_zero (unfold sealed in e ∙ sealed_marked c d (y ⊕ times (value_at s c d) s.R))

  zero_differs : reduced_zero blank s ≡ reduced_zero (marked (tweak_at 0 0)) s → ⊥
  unfolding reduced_zero
  zero_differs e = first_flipped (times (value_at s 0 0) s.R) (unfold sealed in rw (sealed_marked 0 0 (block 0)) at e)

  gax_row : (E : Cipher) {c d : ℕ} → Bit c → Bit d → get_or ((gax E).rows s) (2 * c + d) (block 0) ≡ row_at E s s.fresh c d
  unfolding gax
  gax_row E b0 b0 = refl
  gax_row E b0 b1 = refl
  gax_row E b1 b0 = refl
  gax_row E b1 b1 = refl

  gax_needs_at : (c d : ℕ) → Bit c → Bit d → SealingNeeded gax s (sealing_at s c d)
  gax_needs_at c d p q = record {
    E = blank;
    E' = marked (tweak_at c d);
    agree_but = agree c d p q;
    not_same = λ e _. row_differs c d s.fresh s.fresh (sym (gax_row blank p q) ∙ ap (λ (l : List Block). get_or l (2 * c + d) (block 0)) e ∙ gax_row (marked (tweak_at c d)) p q);
  }

  gaxr_differs : {c d : ℕ} → Bit c → Bit d → (gaxr blank).rows s ≡ (gaxr (marked (tweak_at c d))).rows s
      → (gaxr blank).zero_token s ≡ (gaxr (marked (tweak_at c d))).zero_token s → ⊥
  unfolding gaxr
  gaxr_differs b0 b0 e f = zero_differs f
  gaxr_differs b0 b1 e f = row_differs 0 1 _ _ (ap (λ (l : List Block). get_or l 0 (block 0)) e)
  gaxr_differs b1 b0 e f = row_differs 1 0 _ _ (ap (λ (l : List Block). get_or l 1 (block 0)) e)
  gaxr_differs b1 b1 e f = row_differs 1 1 _ _ (ap (λ (l : List Block). get_or l 2 (block 0)) e)

  -- each call listed is needed
  pub gax_needs : (x : Ask) → Memᴰ x (sealings s) → SealingNeeded gax s x
  gax_needs = each_sealing (SealingNeeded gax s) gax_needs_at

  pub gaxr_needs : (x : Ask) → Memᴰ x (sealings s) → SealingNeeded gaxr s x
  gaxr_needs =
      each_sealing (SealingNeeded gaxr s)
      (λ c d p q. record { E = blank; E' = marked (tweak_at c d); agree_but = agree c d p q; not_same = gaxr_differs p q })

-- ---- schemes 3 and 4

abbrev pub Hash : Type 0
Hash = Block → ℕ → Block

-- they agree on the calls listed, but for x
abbrev pub HashesAgreeBut : Hash → Hash → Ask → List Ask → Type 0
HashesAgreeBut H H' x l = (y : Block) (i : ℕ) → Memᴰ (hashing y i) l → (hashing y i ≡ x → ⊥) → H y i ≡ H' y i

pub record HashingNeeded (S : Hash → Scheme) (s : Site) (x : Ask) : Type 0 where
  pub H : Hash
  pub H' : Hash
  pub agree_but : HashesAgreeBut H H' x (hashings s)
  pub not_same : (S H).rows s ≡ (S H').rows s → (S H).zero_token s ≡ (S H').zero_token s → ⊥

-- one block, and another under a single tweak and colour
abbrev plain : Hash
plain x i = block 0

abbrev spotted : ℕ → ℕ → Hash
spotted t k x i = cond (eqb i t && eqb (colour x) k) (block 1) (block 0)

-- where it is the other, and where not
spotted_there : (x : Block) (i : ℕ) → spotted i (colour x) x i ≡ block 1
spotted_there x i = rw (eq-eqb i i refl, eq-eqb (colour x) (colour x) refl)

spotted_not : (t k : ℕ) (x : Block) → (colour x ≡ k → ⊥) → spotted t k x t ≡ block 0
spotted_not t k x n = rw (eq-eqb t t refl, ne_eqb (colour x) k n)

module _ (s : Site) (o : Offset s.R) where
  abbrev j : ℕ
  j = 2 * s.g

  abbrev k : ℕ
  k = 2 * s.g + 1

  -- what holds of the four calls holds of each that is listed
  each_hashing : (P : Ask → Type 0) → P (hashing (half_a s) j) → P (hashing (half_a s ⊕ s.R) j) → P (hashing (half_b s) k) → P (hashing (half_b s ⊕ s.R) k)
      → (x : Ask) → Memᴰ x (hashings s) → P x
  unfolding hashings
  each_hashing P a b c d x m = first (Memᴰ.cases_cons m)
    where
      fourth : (x ≡ hashing (half_b s ⊕ s.R) k) ⊎ Memᴰ x [] → P x
      fourth (inl e) = rw e d
      fourth (inr n) = absurd (Memᴰ.not-nil n)

      third : (x ≡ hashing (half_b s) k) ⊎ Memᴰ x (hashing (half_b s ⊕ s.R) k ∷ []) → P x
      third (inl e) = rw e c
      third (inr n) = fourth (Memᴰ.cases_cons n)

      second : (x ≡ hashing (half_a s ⊕ s.R) j) ⊎ Memᴰ x (hashing (half_b s) k ∷ hashing (half_b s ⊕ s.R) k ∷ []) → P x
      second (inl e) = rw e b
      second (inr n) = third (Memᴰ.cases_cons n)

      first : (x ≡ hashing (half_a s) j) ⊎ Memᴰ x (hashing (half_a s ⊕ s.R) j ∷ hashing (half_b s) k ∷ hashing (half_b s ⊕ s.R) k ∷ []) → P x
      first (inl e) = rw e a
      first (inr n) = second (Memᴰ.cases_cons n)

  -- a tweak and a colour have one call
  abbrev OneCall : Ask → Ask → Type 0
  OneCall x y = tweak_of y ≡ tweak_of x → colour_of y ≡ colour_of x → y ≡ x

  unlike_a : colour (half_a s) ≡ colour (half_a s ⊕ s.R) → ⊥
  unlike_a = other_colour (half_a s) o

  unlike_b : colour (half_b s) ≡ colour (half_b s ⊕ s.R) → ⊥
  unlike_b = other_colour (half_b s) o

  one_call : (x : Ask) → Memᴰ x (hashings s) → (y : Ask) → Memᴰ y (hashings s) → OneCall x y
  one_call =
      each_hashing (λ x. (y : Ask) → Memᴰ y (hashings s) → OneCall x y)
      (each_hashing (OneCall (hashing (half_a s) j)) (λ t c. refl) (λ t c. absurd (unlike_a (sym c))) (λ t c. absurd (omega arith)) (λ t c. absurd (omega arith)))
      (each_hashing (OneCall (hashing (half_a s ⊕ s.R) j)) (λ t c. absurd (unlike_a c)) (λ t c. refl) (λ t c. absurd (omega arith)) (λ t c. absurd (omega arith)))
      (each_hashing (OneCall (hashing (half_b s) k)) (λ t c. absurd (omega arith)) (λ t c. absurd (omega arith)) (λ t c. refl) (λ t c. absurd (unlike_b (sym c))))
      (each_hashing (OneCall (hashing (half_b s ⊕ s.R) k)) (λ t c. absurd (omega arith)) (λ t c. absurd (omega arith)) (λ t c. absurd (unlike_b c)) (λ t c. refl))

  agree_hashes : (x : Ask) → Memᴰ x (hashings s) → HashesAgreeBut plain (spotted (tweak_of x) (colour_of x)) x (hashings s)
  agree_hashes x mine y i m n = go (eqb i (tweak_of x) && eqb (colour y) (colour_of x)) refl
    where
      go : (b : Bool) → (eqb i (tweak_of x) && eqb (colour y) (colour_of x)) ≡ b → block 0 ≡ cond b (block 1) (block 0)
      go true e =
          let both = and_both (eqb i (tweak_of x)) (eqb (colour y) (colour_of x)) e in
          absurd (n (one_call x mine (hashing y i) m (eqb-true i (tweak_of x) both.0) (eqb-true (colour y) (colour_of x) both.1)))
      go false e = refl

  -- each changes its row
  abbrev Differs : Ask → Type 0
  Differs x = (half plain).rows s ≡ (half (spotted (tweak_of x) (colour_of x))).rows s → ⊥

  g_rows : (H H' : Hash) → (half H).rows s ≡ (half H').rows s → row_g H s ≡ row_g H' s
  unfolding half
  g_rows H H' e = ap (λ (l : List Block). get_or l 0 (block 0)) e

  e_rows : (H H' : Hash) → (half H).rows s ≡ (half H').rows s → row_e H s ≡ row_e H' s
  unfolding half
  e_rows H H' e = ap (λ (l : List Block). get_or l 1 (block 0)) e

  differs_a : Differs (hashing (half_a s) j)
  unfolding row_g
  differs_a e =
      let r = g_rows plain (spotted j (colour (half_a s))) e in
      first_flipped _ (rw (spotted_there (half_a s) j, spotted_not j (colour (half_a s)) (half_a s ⊕ s.R) (λ c. unlike_a (sym c))) at r)

  differs_ar : Differs (hashing (half_a s ⊕ s.R) j)
  unfolding row_g
  differs_ar e =
      let r = g_rows plain (spotted j (colour (half_a s ⊕ s.R))) e in
      second_flipped _ _ (rw (spotted_there (half_a s ⊕ s.R) j, spotted_not j (colour (half_a s ⊕ s.R)) (half_a s) unlike_a) at r)

  differs_b : Differs (hashing (half_b s) k)
  unfolding row_e
  differs_b e =
      let r = e_rows plain (spotted k (colour (half_b s))) e in
      first_flipped _ (rw (spotted_there (half_b s) k, spotted_not k (colour (half_b s)) (half_b s ⊕ s.R) (λ c. unlike_b (sym c))) at r)

  differs_br : Differs (hashing (half_b s ⊕ s.R) k)
  unfolding row_e
  differs_br e =
      let r = e_rows plain (spotted k (colour (half_b s ⊕ s.R))) e in
      second_flipped _ _ (rw (spotted_there (half_b s ⊕ s.R) k, spotted_not k (colour (half_b s ⊕ s.R)) (half_b s) unlike_b) at r)

  -- each call listed is needed
  pub half_needs : (x : Ask) → Memᴰ x (hashings s) → HashingNeeded half s x
  half_needs x m = record {
    H = plain;
    H' = spotted (tweak_of x) (colour_of x);
    agree_but = agree_hashes x m;
    not_same = λ e _. each_hashing Differs differs_a differs_ar differs_b differs_br x m e;
  }

-- ---- evaluating, with A and B held

pub record SealingHeldNeeded (S : Cipher → Scheme) (g : ℕ) (A B : Block) (x : Ask) : Type 0 where
  pub E : Cipher
  pub E' : Cipher
  pub agree_but : CiphersAgreeBut E E' x (sealing_held g A B)
  pub not_same : (rows : List Block) → (S E).opened g rows A B ≡ (S E').opened g rows A B → ⊥

pub record HashingHeldNeeded (S : Hash → Scheme) (g : ℕ) (A B : Block) (x : Ask) : Type 0 where
  pub H : Hash
  pub H' : Hash
  pub agree_but : HashesAgreeBut H H' x (hashings_held g A B)
  pub not_same : (rows : List Block) → (S H).opened g rows A B ≡ (S H').opened g rows A B → ⊥

abbrev other : Cipher
other A B T Z = block 1

module _ (g : ℕ) (A B : Block) where
  -- there is one call of a cipher
  only_sealing : (x y : Ask) → Memᴰ x (sealing_held g A B) → Memᴰ y (sealing_held g A B) → y ≡ x
  unfolding sealing_held
  only_sealing x y m n = Memᴰ.eq_of_singleton n ∙ sym (Memᴰ.eq_of_singleton m)

  row_opened_differs : (rows : List Block) → open_row blank g rows A B ≡ open_row other g rows A B → ⊥
  unfolding open_row
  row_opened_differs rows e = not_zero e

  pub gax_held_needs : (x : Ask) → Memᴰ x (sealing_held g A B) → SealingHeldNeeded gax g A B x
  unfolding gax
  gax_held_needs x m = record {
    E = blank;
    E' = other;
    agree_but = λ a b t n no Z. absurd (no (only_sealing x (sealing a b t) m n));
    not_same = row_opened_differs;
  }

  pub gaxr_held_needs : (x : Ask) → Memᴰ x (sealing_held g A B) → SealingHeldNeeded gaxr g A B x
  unfolding gaxr
  gaxr_held_needs x m = record {
    E = blank;
    E' = other;
    agree_but = λ a b t n no Z. absurd (no (only_sealing x (sealing a b t) m n));
    not_same = λ rows. row_opened_differs (block 0 ∷ rows);
  }

  -- two of a hash, of a tweak each
  each_held : (P : Ask → Type 0) → P (hashing A (2 * g)) → P (hashing B (2 * g + 1)) → (x : Ask) → Memᴰ x (hashings_held g A B) → P x
  unfolding hashings_held
  each_held P a b x m = first (Memᴰ.cases_cons m)
    where
      second : (x ≡ hashing B (2 * g + 1)) ⊎ Memᴰ x [] → P x
      second (inl e) = rw e b
      second (inr n) = absurd (Memᴰ.not-nil n)

      first : (x ≡ hashing A (2 * g)) ⊎ Memᴰ x (hashing B (2 * g + 1) ∷ []) → P x
      first (inl e) = rw e a
      first (inr n) = second (Memᴰ.cases_cons n)

  one_held : (x : Ask) → Memᴰ x (hashings_held g A B) → (y : Ask) → Memᴰ y (hashings_held g A B) → tweak_of y ≡ tweak_of x → y ≡ x
  one_held =
      each_held (λ x. (y : Ask) → Memᴰ y (hashings_held g A B) → tweak_of y ≡ tweak_of x → y ≡ x)
      (each_held (λ y. tweak_of y ≡ 2 * g → y ≡ hashing A (2 * g)) (λ t. refl) (λ t. absurd (omega arith)))
      (each_held (λ y. tweak_of y ≡ 2 * g + 1 → y ≡ hashing B (2 * g + 1)) (λ t. absurd (omega arith)) (λ t. refl))

  abbrev tweaked : ℕ → Hash
  tweaked t x i = cond (eqb i t) (block 1) (block 0)

  agree_held : (x : Ask) → Memᴰ x (hashings_held g A B) → HashesAgreeBut plain (tweaked (tweak_of x)) x (hashings_held g A B)
  agree_held x mine y i m n = go (eqb i (tweak_of x)) refl
    where
      go : (b : Bool) → eqb i (tweak_of x) ≡ b → block 0 ≡ cond b (block 1) (block 0)
      go true e = absurd (n (one_held x mine (hashing y i) m (eqb-true i (tweak_of x) e)))
      go false e = refl

  abbrev OpenedDiffers : Ask → Type 0
  OpenedDiffers x = (G E : Block) → joined plain g G E A B ≡ joined (tweaked (tweak_of x)) g G E A B → ⊥

  opened_a : OpenedDiffers (hashing A (2 * g))
  unfolding joined
  opened_a G E e =
      first_flipped _ (rw (eq-eqb (2 * g) (2 * g) refl, ne_eqb (2 * g + 1) (2 * g) (λ h. omega arith)) at e)

  opened_b : OpenedDiffers (hashing B (2 * g + 1))
  unfolding joined
  opened_b G E e =
      let u : Block = times (colour A) G in
      let w : Block = times (colour B) (E ⊕ A) in
      let f : block 0 ⊕ u ⊕ block 0 ⊕ w ≡ block 0 ⊕ u ⊕ block 1 ⊕ w =
      rw (eq-eqb (2 * g + 1) (2 * g + 1) refl, ne_eqb (2 * g) (2 * g + 1) (λ h. omega arith)) at e in
      second_flipped (block 0 ⊕ u) w (⊕_assoc (block 0) u (block 0 ⊕ w) ∙ f ∙ sym (⊕_assoc (block 0) u (block 1 ⊕ w)))

  pub half_held_needs : (x : Ask) → Memᴰ x (hashings_held g A B) → HashingHeldNeeded half g A B x
  unfolding half
  half_held_needs x m = record {
    H = plain;
    H' = tweaked (tweak_of x);
    agree_but = agree_held x m;
    not_same = λ rows. each_held OpenedDiffers opened_a opened_b x m _ _;
  }
