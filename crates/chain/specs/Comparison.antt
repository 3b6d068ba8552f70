-- Document 02, job 1: "The chain from seed to bit then holds of the comparison itself." Of what `chain` promises of its buffers (Chain), where the
-- circuit is a comparator and the values are the bits of a price and of a ceiling.
use Rattle.std.specs.Prelude.{ℕ, ◌<◌, ◌^◌, ◌≡◌, List, Result, Ok, Err, length, take}
use Rattle.model.specs.declared.Wanted.{Wanted}
use Rattle.model.specs.Garbling.{Known}
use Rattle.model.specs.Refusals.{fine, verdict_of, mark_verdict}
use Rattle.comparator.specs.Compares.{figures, SaysAtMost}
use Rattle.chain.specs.declared.Stopped.{Stopped}
use Rattle.chain.specs.Chain.{IsRoom, GarbleStops, ChainIs}

-- where the chain ended, b' the buffer of the bits then: all ran, and the decoded bit is 1 exactly when price ≤ ceiling; or a buffer was too short, 19;
-- or garble met 30, where its material is to end in hashes
abbrev pub Compared : Wanted → ℕ → ℕ → List ℕ → Result Unit Stopped → Type 0
Compared want price ceiling b' (Ok _) = SaysAtMost (take 1 b') price ceiling
Compared want price ceiling b' (Err (Stopped.Garble e)) = GarbleStops want (verdict_of e)
Compared want price ceiling b' (Err (Stopped.Encode e)) = IsRoom (verdict_of e)
Compared want price ceiling b' (Err (Stopped.Evaluate e)) = IsRoom (verdict_of e)
Compared want price ceiling b' (Err (Stopped.Outputs e)) = IsRoom (verdict_of e)
Compared want price ceiling b' (Err (Stopped.Decode e)) = IsRoom (verdict_of e)

-- for every comparator c of a width w, whatever its gates, and every pair of numbers below 2^w, seed of 16 bytes, run, scheme and mark, and any buffers
pub record ComparisonHolds (w : ℕ) (c : List ℕ) : Type 0 where
  pub compared : (price ceiling : ℕ) → price < 2 ^ w → ceiling < 2 ^ w
      → (seed : List ℕ) (want : Wanted) → length seed ≡ 16 → Known want.scheme → mark_verdict want.mark ≡ fine
      → (f z o t ws y b f' z' o' t' ws' y' b' : List ℕ) (r : Result Unit Stopped)
      → ChainIs c seed want (figures w price ceiling) f z o t ws y b r f' z' o' t' ws' y' b'
      → Compared want price ceiling b' r
