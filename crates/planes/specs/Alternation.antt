-- Masks for exchanges of bits between two words: those bits are 1 whose numbers do not have a digit.
use Rattle.std.specs.Prelude.{ℕ, ◌-◌, ◌/◌, ◌%◌, ◌<◌, ◌≡◌}
use Rattle.std.specs.Coded.{Coded-set, le_prop, coded_list, coded_ℕ}
use Rattle.model.specs.Bytes.{tabulate}
use Rattle.model.specs.Aes.{bit}

-- the digit s of a number, s a power of 2
abbrev pub digit : ℕ → ℕ → ℕ
digit s l = l / s % 2

-- the mask has s bits 1 and s bits 0 in turn
pub record Alternates (s mask : ℕ) : Type 0 where
  pub some : 0 < s
  pub within : s < 64
  pub is_mask : tabulate 64 (bit mask) ≡ tabulate 64 (λ l. 1 - digit s l)

pub Alternates-prop : (s mask : ℕ) → IsProp (Alternates s mask)
Alternates-prop s mask p q = λ i. record {
  some = le_prop p.some q.some i;
  within = le_prop p.within q.within i;
  is_mask = Coded-set (coded_list coded_ℕ) _ _ p.is_mask q.is_mask i;
}
