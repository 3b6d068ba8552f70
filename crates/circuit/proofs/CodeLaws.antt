-- The codes that no arm of `matched_kind` names are refused; and the number that `all_bits` makes of the match has at a code's places what
-- its kind has. Both are computed over the sixteen codes. Assumes nothing.
use Prim.Native.Nat.{ℕ, zero, suc, ◌+◌, ◌*◌, ◌/◌, ◌%◌, ◌^◌, ◌<◌, ◌≤◌}
use native.Mathlib.Decide.{dec_lt}
use native.Mathlib.Nat.{mul-le-mul}
use native.Mathlib.Omega.{arith}
use mathlib.Core.Path.{◌≡◌, refl, sym, ◌∙◌}
use mathlib.Core.Bool.{Bool, true, false, ◌||◌, false≢true}
use borrow.Author.Tests.{leb-true}
use lib.Dec.{eqb, leb}
use Rattle.model.specs.declared.AndGate.{AndGate}
use Rattle.model.specs.declared.XorGate.{XorGate}
use Rattle.model.specs.declared.Kind as Kinds
use Rattle.model.specs.Bytes.{tabulate}
use Rattle.model.specs.Circuit.{Kind, charged, free, refused, kinds, kind_of, charge}
use Rattle.model.specs.Refusals.{is_refused}
use Rattle.model.proofs.Codes.{past_table, in_table}
use Rattle.model.proofs.Lists.{agree}
use Rattle.circuit.specs.Answers.{meaning, TakesIs, apart, bits_apart, bits_from, kind_bit}

past_codes : (code : ℕ) → 15 < code → kind_of code ≡ refused
unfolding kind_of kinds
past_codes code h = past_table kinds code (omega arith)

-- ---- matched_kind

-- an arm gives the kind x of the code k that it names
pub arm : (code k : ℕ) (r : Kinds.Kind) (x : Kind) → code ≡ k → meaning r ≡ x → x ≡ kind_of k → meaning r ≡ kind_of code
arm code k r x is_code is_r is_x = rw is_code (is_r ∙ is_x)

-- 0, 15 and those above are refused
outside : (code : ℕ) → (1 ≤ code → 15 ≤ code) → refused ≡ kind_of code
outside code h = go (dec_lt 15 code) (dec_lt 0 code)
  where
    ends : (kind_of 0 ≡ refused) × (kind_of 15 ≡ refused)
    ends = unfold kind_of kinds in (refl, refl)

    go : Dec (15 < code) → Dec (0 < code) → refused ≡ kind_of code
    go (Dec.yes l) _ = sym (past_codes code l)
    go (Dec.no l) (Dec.yes m) = let past = h m in let last : code ≡ 15 = omega arith in rw last (sym ends.1)
    go (Dec.no l) (Dec.no m) = let first : code ≡ 0 = omega arith in rw first (sym ends.0)

after : {code k : ℕ} → k ≤ code → (code ≡ k → ⊥) → suc k ≤ code
after l h = omega arith

-- and they are the codes that no arm names
pub code_other : (code : ℕ) → (code ≡ 1 → ⊥) → (code ≡ 2 → ⊥) → (code ≡ 3 → ⊥) → (code ≡ 4 → ⊥) → (code ≡ 5 → ⊥) → (code ≡ 6 → ⊥) → (code ≡ 7 → ⊥) → (code ≡ 8 → ⊥) → (code ≡ 9 → ⊥) → (code ≡ 10 → ⊥) → (code ≡ 11 → ⊥) → (code ≡ 12 → ⊥) → (code ≡ 13 → ⊥) → (code ≡ 14 → ⊥) → refused ≡ kind_of code
code_other code h1 h2 h3 h4 h5 h6 h7 h8 h9 h10 h11 h12 h13 h14 =
    outside code (λ m. after (after (after (after (after (after (after (after (after (after (after (after (after (after m h1) h2) h3) h4) h5) h6) h7) h8) h9) h10) h11) h12) h13) h14)

-- ---- code_charge and code_refused: what the match gave

module _ (code : ℕ) (k : Kinds.Kind) (is_k : meaning k ≡ kind_of code) where
  module _ (g : AndGate) (e : k ≡ Kinds.Kind.Charged g) where
    pub charge_charged : 1 ≡ charge (kind_of code)
    charge_charged = rw (← is_k, e)

    pub charged_known : false ≡ is_refused (kind_of code)
    charged_known = rw (← is_k, e)

  module _ (g : XorGate) (e : k ≡ Kinds.Kind.Free g) where
    pub charge_free : 0 ≡ charge (kind_of code)
    charge_free = rw (← is_k, e)

    pub free_known : false ≡ is_refused (kind_of code)
    free_known = rw (← is_k, e)

  module _ (e : k ≡ Kinds.Kind.Refused) where
    pub charge_refused : 0 ≡ charge (kind_of code)
    charge_refused = rw (← is_k, e)

    pub refused_known : true ≡ is_refused (kind_of code)
    refused_known = rw (← is_k, e)

pub ruleset charge_cases = (charge_charged, charge_free, charge_refused)

pub ruleset refused_cases = (charged_known, free_known, refused_known)

-- ---- code_bits, four_bits and all_bits

-- each of the four is at most 1
bits_few : (code : ℕ) → bits_apart (kind_of code) ≤ 0x1000100010001
bits_few code = go (dec_lt 15 code)
  where
    go : Dec (15 < code) → bits_apart (kind_of code) ≤ 0x1000100010001
    go (Dec.yes h) = rw (past_codes code h) (omega arith)
    go (Dec.no h) = leb-true _ _ (agree true (λ k. leb (bits_apart (kind_of k)) 0x1000100010001) (λ k. true) (unfold kind_of kinds in refl) code (omega arith))

module _ (code : ℕ) (k : Kinds.Kind) (is_k : meaning k ≡ kind_of code) (r : ℕ) (is_r : r ≡ bits_apart (meaning k)) where
  pub bits_are : r ≡ bits_apart (kind_of code)
  bits_are = rw is_k at is_r

  pub bits_small : r ≤ 0x1000100010001
  bits_small = rw bits_are (bits_few code)

pub four_read : (code a b c d : ℕ) → a ≡ bits_apart (kind_of code) → b ≡ bits_apart (kind_of (code + 1)) → c ≡ bits_apart (kind_of (code + 2)) → d ≡ bits_apart (kind_of (code + 3))
    → a + 2 * b + 4 * c + 8 * d ≡ bits_from 4 code
unfolding bits_from
four_read code a b c d is_a is_b is_c is_d =
    let e : code + 2 ≡ code + 1 + 1 = omega arith in
    let f : code + 3 ≡ code + 1 + 1 + 1 = omega arith in
    rw (is_a, is_b, is_c, is_d, e, f) (omega arith)

pub sixteen_read : (a b c d : ℕ) → a ≡ bits_from 4 0 → b ≡ bits_from 4 4 → c ≡ bits_from 4 8 → d ≡ bits_from 4 12
    → a + 16 * b + 256 * c + 4096 * d ≡ bits_from 16 0
unfolding bits_from kind_of kinds
sixteen_read a b c d is_a is_b is_c is_d = rw (is_a, is_b, is_c, is_d)

-- ---- code_bit

bit_places : (i code : ℕ) → i ≤ 3 → code ≤ 15 → bits_from 16 0 / 2 ^ (16 * i + code) % 2 ≡ kind_bit i (kind_of code)
unfolding bits_from kind_of kinds
bit_places zero code l h = agree 0 (λ k. bits_from 16 0 / 2 ^ (16 * 0 + k) % 2) (λ k. kind_bit 0 (kind_of k)) refl code h
bit_places (suc zero) code l h = agree 0 (λ k. bits_from 16 0 / 2 ^ (16 * 1 + k) % 2) (λ k. kind_bit 1 (kind_of k)) refl code h
bit_places (suc (suc zero)) code l h = agree 0 (λ k. bits_from 16 0 / 2 ^ (16 * 2 + k) % 2) (λ k. kind_bit 2 (kind_of k)) refl code h
bit_places (suc (suc (suc zero))) code l h = agree 0 (λ k. bits_from 16 0 / 2 ^ (16 * 3 + k) % 2) (λ k. kind_bit 3 (kind_of k)) refl code h
bit_places (suc (suc (suc (suc i)))) code l h = absurd (omega arith)

pub bit_read : (i code all : ℕ) → i ≤ 3 → code ≤ 15 → all ≡ bits_from 16 0 → all / 2 ^ (16 * i + code) % 2 ≡ kind_bit i (kind_of code)
bit_read i code all l h e = rw e (bit_places i code l h)

-- ---- what the four bits of a code that is not refused say of it

pub code_known : (code : ℕ) → is_refused (kind_of code) ≡ false → code ≤ 15
unfolding kind_of kinds
code_known code known = let h = in_table kinds code known in omega arith

-- and as another function found it
pub code_found : (code : ℕ) (b : Bool) → b ≡ is_refused (kind_of code) → b ≡ false → code ≤ 15
code_found code b is_b e = code_known code (sym is_b ∙ e)

pub charge_read : (k : Kind) (w : ℕ) → w ≡ kind_bit 0 k → w ≡ charge k
charge_read (charged u v x) w e = e
charge_read (free p q c) w e = e
charge_read refused w e = e

pub takes_fit : (p q : ℕ) → p ≤ 1 → q ≤ 1 → p * q < 256
takes_fit p q lp lq = omega (arith, mul-le-mul lp lq)

-- a free code takes one operand at least, computed over the sixteen
takes : ℕ → Bool
takes code = is_refused (kind_of code) || eqb (charge (kind_of code)) 1 || leb 1 (kind_bit 1 (kind_of code) + kind_bit 2 (kind_of code))

all_take : tabulate 16 takes ≡ tabulate 16 (λ code. true)
unfolding takes kind_of kinds
all_take = refl

module _ (code : ℕ) (known : is_refused (kind_of code) ≡ false) (none : charge (kind_of code) ≡ 0) where
  takes_one : 1 ≤ kind_bit 1 (kind_of code) + kind_bit 2 (kind_of code)
  unfolding takes
  takes_one = leb-true _ _ (rw (known, none) at (agree true takes (λ k. true) all_take code (code_known code known)))

  pub takes_free : (p q : ℕ) → p ≡ kind_bit 1 (kind_of code) → p ≤ 1 → q ≡ kind_bit 2 (kind_of code) → q ≤ 1 → TakesIs (kind_of code) p (p * q)
  takes_free p q is_p lp is_q lq = record {
    q = q;
    c = kind_bit 3 (kind_of code);
    is_free = rw (is_p, is_q) (go (kind_of code) known none);
    is_both = refl;
    bit_a = lp;
    bit_q = lq;
    one = rw (is_p, is_q) takes_one;
  }
    where
      go : (k : Kind) → is_refused k ≡ false → charge k ≡ 0 → k ≡ free (kind_bit 1 k) (kind_bit 2 k) (kind_bit 3 k)
      go (charged u v x) e h = absurd (omega arith)
      go (free p q c) e h = refl
      go refused e h = absurd (false≢true (sym e))

pub kind_refused : (k : Kind) (b : Bool) → b ≡ is_refused k → b ≡ true → refused ≡ k
kind_refused (charged u v x) b is_b e = absurd (false≢true (sym is_b ∙ e))
kind_refused (free p q c) b is_b e = absurd (false≢true (sym is_b ∙ e))
kind_refused refused b is_b e = refl

module _ (k : Kind) (w x y z : ℕ) (is_w : w ≡ kind_bit 0 k) (is_x : x ≡ kind_bit 1 k) (is_y : y ≡ kind_bit 2 k) (is_z : z ≡ kind_bit 3 k) where
  pub kind_charged : w ≡ 1 → charged x y z ≡ k
  kind_charged one = rw (is_x, is_y, is_z) (go k (sym is_w ∙ one))
    where
      go : (k : Kind) → kind_bit 0 k ≡ 1 → charged (kind_bit 1 k) (kind_bit 2 k) (kind_bit 3 k) ≡ k
      go (charged u v x) e = refl
      go (free p q c) e = absurd (omega arith)
      go refused e = absurd (omega arith)

  pub kind_free : (w ≡ 1 → ⊥) → (b : Bool) → b ≡ is_refused k → b ≡ false → free x y z ≡ k
  kind_free none b is_b known = rw (is_x, is_y, is_z) (go k (λ e. none (is_w ∙ e)) (sym is_b ∙ known))
    where
      go : (k : Kind) → (kind_bit 0 k ≡ 1 → ⊥) → is_refused k ≡ false → free (kind_bit 1 k) (kind_bit 2 k) (kind_bit 3 k) ≡ k
      go (charged u v x) n e = absurd (n refl)
      go (free p q c) n e = refl
      go refused n e = absurd (false≢true (sym e))

pub ruleset kind_cases = (code_found, kind_refused, kind_charged, kind_free)
