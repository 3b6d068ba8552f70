-- What is known after text was written.
use Rattle.std.specs.Prelude.{ℕ, ◌+◌, ◌≤◌, ◌≡◌, List, length, take}
use Rattle.model.specs.Bytes.{put}
use Rattle.model.specs.Program.{program_text}

-- new bytes, at most so many, were written to a buffer at an index: what is left there, and the index past them
pub record Wrote (most : ℕ) (new old : List ℕ) (at end : ℕ) (left : List ℕ) : Type 0 where
  pub is_left : left ≡ put old at new
  pub is_end : end ≡ at + length new
  pub few : length new ≤ most
  pub kept : length left ≡ length old

-- the first bytes of an array are what the program prints of its input
pub record TextIs (input bytes : List ℕ) (len : ℕ) : Type 0 where
  pub is_text : take len bytes ≡ program_text input
  pub is_len : len ≡ length (program_text input)
  pub fits : len ≤ length bytes
