-- Document 02, job 1, "A comparator by width": what a circuit must do to be one, in the words of the request and without its gates.
use Rattle.std.specs.Prelude.{ℕ, ◌*◌, ◌/◌, ◌%◌, ◌^◌, ◌-◌, ◌<◌, ◌≤◌, ◌≡◌, ◌↔◌, List, [], ◌∷◌, ◌++◌, map}
use Rattle.model.specs.Bytes.{tabulate}
use Rattle.model.specs.Circuit.{circuit_of}
use Rattle.model.specs.Refusals.{fine, circuit_verdict}
use Rattle.model.specs.Operations.{sizes_of}
use Rattle.model.specs.Demand3.{carries}

-- the w low bits of a number, "lowest bit first"
unfoldable pub figure_bits : ℕ → ℕ → List ℕ
figure_bits w x = tabulate w (λ i. x / 2 ^ i % 2)

-- the values of the inputs: "inputs 1 to w are the price, lowest bit first, the next w the ceiling"
unfoldable pub figures : ℕ → ℕ → ℕ → List ℕ
figures w price ceiling = figure_bits w price ++ figure_bits w ceiling

-- one bit, "1 exactly when price ≤ ceiling, equality included", and 0 exactly when not
pub record SaysAtMost (bits : List ℕ) (price ceiling : ℕ) : Type 0 where
  pub yes : (bits ≡ 1 ∷ []) ↔ (price ≤ ceiling)
  pub no : (bits ≡ 0 ∷ []) ↔ (ceiling < price)

-- the bytes c are a comparator of width w: "an accepted circuit", "with one output", "exactly w charged gates, 4w-3 gates in all"; and "For every pair
-- of numbers below 2^w the plain output is 1 exactly when price ≤ ceiling"
pub record Compares (w : ℕ) (c : List ℕ) : Type 0 where
  pub accepted : circuit_verdict c ≡ fine
  pub sizes : sizes_of c ≡ record { n = 2 * w; m = 1; q = 4 * w - 3; p = w }
  pub at_most : (price ceiling : ℕ) → price < 2 ^ w → ceiling < 2 ^ w
      → SaysAtMost (map (carries c (figures w price ceiling)) (circuit_of c).outputs) price ceiling
