-- The chain of a comparison: what `ChainIs` says of a comparator and the bits of two figures. Assumes nothing.
use Prim.Native.Nat.{ℕ, ◌≤◌, ◌<◌, ◌^◌}
use mathlib.Core.Path.{◌≡◌, sym, ap, ◌∙◌}
use mathlib.Core.List.{List}
use lib.ListN.{length}
use Rattle.std.specs.Prelude.{Result, Ok, Err}
use Rattle.model.specs.declared.Sizes.{Sizes}
use Rattle.model.specs.declared.Wanted.{Wanted}
use Rattle.model.specs.Circuit.{outputs}
use Rattle.model.specs.Garbling.{Known}
use Rattle.model.specs.Refusals.{fine, mark_verdict}
use Rattle.model.specs.Operations.{sizes_of}
use Rattle.model.specs.Demand3.{Allowed}
use Rattle.comparator.specs.Compares.{figures, Compares}
use Rattle.comparator.specs.Comparator.{comparator_bytes}
use Rattle.comparator.proofs.FigureLaws.{figures_long, figures_bits}
use Rattle.comparator.proofs.CompareLaws.{compares}
use Rattle.chain.specs.declared.Stopped.{Stopped}
use Rattle.chain.specs.Chain.{ChainIs}
use Rattle.chain.specs.Comparison.{Compared, ComparisonHolds}

module _ (w : ℕ) (c : List ℕ) (is : Compares w c) where
  -- the arguments are those that demand 3 names
  allowed : (price ceiling : ℕ) (seed : List ℕ) (want : Wanted) → length seed ≡ 16 → Known want.scheme → mark_verdict want.mark ≡ fine → Allowed c seed want (figures w price ceiling)
  unfolding sizes_of
  allowed price ceiling seed want long known marked = record {
    accepted = is.accepted;
    known = known;
    marked = marked;
    seed_bytes = long;
    one_each = figures_long w price ceiling ∙ sym (ap (λ (z : Sizes). z.n) is.sizes);
    bits = figures_bits w price ceiling;
  }

  one_output : outputs c ≡ 1
  unfolding sizes_of
  one_output = ap (λ (z : Sizes). z.m) is.sizes

  module _ (price ceiling : ℕ) (h : price < 2 ^ w) (l : ceiling < 2 ^ w) (seed : List ℕ) (want : Wanted) (a : Allowed c seed want (figures w price ceiling))
      (f z o t ws y b f' z' o' t' ws' y' b' : List ℕ) where
    ended : (r : Result Unit Stopped) → ChainIs c seed want (figures w price ceiling) f z o t ws y b r f' z' o' t' ws' y' b' → Compared want price ceiling b' r
    ended (Ok _) p = rw (rw one_output at p.bits_right.decoded) (is.at_most price ceiling h l)
    ended (Err (Stopped.Garble e)) p = p.only_these a
    ended (Err (Stopped.Encode e)) p = p.only_19 a
    ended (Err (Stopped.Evaluate e)) p = p.only_19
    ended (Err (Stopped.Outputs e)) p = p.only_19
    ended (Err (Stopped.Decode e)) p = p.only_19

  pub comparison : ComparisonHolds w c
  comparison = record {
    compared = λ price ceiling h l seed want long known marked. ended price ceiling h l seed want (allowed price ceiling seed want long known marked);
  }

-- and so of the circuit that `comparator` writes, for every width that it takes
pub comparison_by_width : (w : ℕ) → 1 ≤ w → w ≤ 64 → ComparisonHolds w (comparator_bytes w)
comparison_by_width w h l = comparison w (comparator_bytes w) (compares w h l)
