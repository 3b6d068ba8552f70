-- 30: an output whose two hashes are equal, found in the bytes of a material. Document 02, job 12.
use Rattle.std.specs.Prelude.{ℕ, ◌+◌, List}
use Rattle.model.specs.declared.Sizes.{Sizes}
use Rattle.model.specs.declared.Wanted.{Wanted}
use Rattle.model.specs.Tokens.{wants_hashes}
use Rattle.model.specs.Ending.{Ending, ending_of}
use Rattle.model.specs.Material.{last_start}
use Rattle.model.specs.Evaluation.{bytes_for}
use Rattle.model.specs.Refusals.{Verdict, refuse, first_of}

-- what is stored of output i, from 0, where that of all outputs starts at an index of s
unfoldable pub pair_verdict : Ending → List ℕ → ℕ → ℕ → Verdict
pair_verdict E s at i = refuse (E.clash (bytes_for E s at i)) 30 (i + 1)

-- the first of all, in a material of sizes z
unfoldable pub found_verdict : List ℕ → Wanted → Sizes → Verdict
found_verdict s want z = first_of (pair_verdict (ending_of (wants_hashes want)) s (last_start want.scheme z.p + 2)) z.m
