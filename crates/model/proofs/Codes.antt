-- What each kind of code says of the gate's values, computed once over the table of kinds. Assumes nothing.
use Prim.Native.Nat.{ℕ, zero, suc, ◌+◌, ◌*◌, ◌-◌, ◌≤◌, ◌<◌}
use native.Mathlib.Decide.{dec_lt}
use native.Mathlib.Nat.{add-zero, zero-add, add-suc, suc-add}
use native.Mathlib.Omega.{arith}
use mathlib.Core.Path.{◌≡◌, refl, sym, ap, ◌∙◌}
use mathlib.Core.Bool.{false, false≢true}
use mathlib.Core.List.{List, [], ◌∷◌}
use lib.Bits.{differ}
use lib.ListN.{length, get_or, drop, get_or-eq_default}
use Rattle.model.specs.Circuit.{Kind, charged, free, refused, kinds, kind_of, value}
use Rattle.model.specs.HalfGates.{alpha, beta, gamma}
use Rattle.model.specs.Refusals.{is_refused}
use Rattle.model.proofs.Bits.{Bit, b0, b1, bit_mod, bit_other}

pub value_bit : (code u v : ℕ) → Bit (value code u v)
unfolding value
value_bit code u v = bit_mod _

-- the pair (u, v) has the value x, and the three other pairs have the other value
pub record OwnPair (f : ℕ → ℕ → ℕ) (u v x : ℕ) : Type 0 where
  pub bit_u : Bit u
  pub bit_v : Bit v
  pub bit_x : Bit x
  pub own : f u v ≡ x
  pub other_v : f u (1 - v) ≡ 1 - x
  pub other_u : f (1 - u) v ≡ 1 - x
  pub other_both : f (1 - u) (1 - v) ≡ 1 - x

-- pu ⊕ qv ⊕ c
abbrev pub free_value : ℕ → ℕ → ℕ → ℕ → ℕ → ℕ
free_value p q c u v = differ (differ (p * u) (q * v)) c

-- that is the value of every pair
pub record FreeTable (f : ℕ → ℕ → ℕ) (p q c : ℕ) : Type 0 where
  pub bit_p : Bit p
  pub bit_q : Bit q
  pub bit_c : Bit c
  at_0_0 : f 0 0 ≡ free_value p q c 0 0
  at_0_1 : f 0 1 ≡ free_value p q c 0 1
  at_1_0 : f 1 0 ≡ free_value p q c 1 0
  at_1_1 : f 1 1 ≡ free_value p q c 1 1

pub free_table_at : {f : ℕ → ℕ → ℕ} {p q c u v : ℕ} → FreeTable f p q c → Bit u → Bit v → f u v ≡ free_value p q c u v
free_table_at t b0 b0 = t.at_0_0
free_table_at t b0 b1 = t.at_0_1
free_table_at t b1 b0 = t.at_1_0
free_table_at t b1 b1 = t.at_1_1

-- f is the table that the kind names
abbrev pub Means : (ℕ → ℕ → ℕ) → Kind → Type 0
Means f (charged u v x) = OwnPair f u v x
Means f (free p q c) = FreeTable f p q c
Means f refused = Unit

-- the kinds of a list name the tables of the codes from i on
abbrev MeansFrom : ℕ → List Kind → Type 0
MeansFrom i [] = Unit
MeansFrom i (k ∷ ks) = Means (value i) k × MeansFrom (suc i) ks

-- of all sixteen codes, the last eight by themselves: one call of `search` would take too many steps
last_mean : MeansFrom 8 (drop 8 kinds)
unfolding kinds value
last_mean = search (b0, b1)

all_mean : MeansFrom 0 kinds
unfolding kinds value
all_mean = search (b0, b1, last_mean)

means_at : (ks : List Kind) (i : ℕ) → MeansFrom i ks → (k : ℕ) → Means (value (i + k)) (get_or ks k refused)
means_at [] i e k = tt
means_at (x ∷ ks) i e zero = rw add-zero e.0
means_at (x ∷ ks) i e (suc k) = rw (add-suc, ← suc-add) (means_at ks (suc i) e.1 k)

pub code_means : (code : ℕ) → Means (value code) (kind_of code)
unfolding kind_of
code_means code = rw zero-add at (means_at kinds 0 all_mean code)

-- charged codes: "of the four truth pairs .. one has a value of its own", and kind_of names that pair and that value
pub charged_own_pair : (code u v x : ℕ) → kind_of code ≡ charged u v x → OwnPair (value code) u v x
charged_own_pair code u v x e = rw e at (code_means code)

-- free codes: the value is pu ⊕ qv ⊕ c
pub free_value_law : (code p q c u v : ℕ) → kind_of code ≡ free p q c → Bit u → Bit v → value code u v ≡ free_value p q c u v
free_value_law code p q c u v e = free_table_at (rw e at (code_means code))

-- a kind that a gate may have
pub data Used : Kind → Type 0 where
  used_charged : {u v x : ℕ} → Used (charged u v x)
  used_free : {p q c : ℕ} → Used (free p q c)

-- ---- a code past a table of kinds has none

pub past_table : (ks : List Kind) (code : ℕ) → length ks ≤ code → get_or ks code refused ≡ refused
past_table ks code h = get_or-eq_default ks refused {n = code} h

pub in_table : (ks : List Kind) (code : ℕ) → is_refused (get_or ks code refused) ≡ false → code < length ks
in_table ks code known = go (dec_lt code (length ks))
  where
    go : Dec (code < length ks) → code < length ks
    go (Dec.yes h) = h
    go (Dec.no h) = absurd (false≢true (sym known ∙ ap is_refused (past_table ks code (omega arith))))

-- ---- charged codes by their α, β and γ

pub data Charged : Kind → Type 0 where
  is_charged_kind : {u v x : ℕ} → Charged (charged u v x)

-- w is u and d is 1, or w is the other value and d is 0
data Compared (u : ℕ) : ℕ → ℕ → Type 0 where
  same : Compared u u 1
  other : Compared u (1 - u) 0

compared : {u w : ℕ} → Bit u → Bit w → Compared u w (differ (1 - u) w)
compared b0 b0 = same
compared b0 b1 = other
compared b1 b0 = other
compared b1 b1 = same

negated_0 : {x : ℕ} → Bit x → differ (1 - x) 0 ≡ 1 - x
negated_0 b0 = refl
negated_0 b1 = refl

negated_1 : {x : ℕ} → Bit x → differ (1 - x) 1 ≡ x
negated_1 b0 = refl
negated_1 b1 = refl

and_table : {f : ℕ → ℕ → ℕ} {u v x a b d e : ℕ} → OwnPair f u v x → Compared u a d → Compared v b e → f a b ≡ differ (1 - x) (d * e)
and_table o same same = o.own ∙ sym (negated_1 o.bit_x)
and_table o same other = o.other_v ∙ sym (negated_0 o.bit_x)
and_table o other same = o.other_u ∙ sym (negated_0 o.bit_x)
and_table o other other = o.other_both ∙ sym (negated_0 o.bit_x)

-- the value is γ ⊕ (α ⊕ u)(β ⊕ v): an AND, of operands negated by α and β, itself negated by γ
pub record Negated (f : ℕ → ℕ → ℕ) (k : Kind) : Type 0 where
  pub bit_α : Bit (alpha k)
  pub bit_β : Bit (beta k)
  pub bit_γ : Bit (gamma k)
  pub at : (u v : ℕ) → Bit u → Bit v → f u v ≡ differ (gamma k) (differ (alpha k) u * differ (beta k) v)

negated : (f : ℕ → ℕ → ℕ) (k : Kind) → Means f k → Charged k → Negated f k
negated f _ m is_charged_kind = record {
  bit_α = bit_other m.bit_u;
  bit_β = bit_other m.bit_v;
  bit_γ = bit_other m.bit_x;
  at = λ u v p q. and_table m (compared m.bit_u p) (compared m.bit_v q);
}

pub charged_negated : (code : ℕ) → Charged (kind_of code) → Negated (value code) (kind_of code)
charged_negated code h = negated (value code) (kind_of code) (code_means code) h
