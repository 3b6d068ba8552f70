-- What is known where the output records are searched, and where an output's wire is asked for. Document 01, "Circuit"; document 02, job 8.
use Rattle.std.specs.Prelude.{ℕ, ◌<◌, ◌≡◌, true, List}
use Rattle.model.specs.declared.Sizes.{Sizes}
use Rattle.model.specs.Circuit.{inputs, outputs, gates, named}
use Rattle.model.specs.Refusals.{fine, head_verdict}
use Rattle.circuit.specs.declared.header.Header.{Header}
use Rattle.circuit.specs.Accepted.{Accepted}

-- the header of c, which 1 to 4 do not refuse
pub record HeaderIs (c : List ℕ) (h : Header) : Type 0 where
  pub head : head_verdict c ≡ fine
  pub is_n : h.n ≡ inputs c
  pub is_m : h.m ≡ outputs c
  pub is_q : h.q ≡ gates c

-- and c names its outputs
pub record NamedStart (c : List ℕ) (h : Header) : Type 0 where
  pub header : HeaderIs c h
  pub by_name : named c ≡ true

-- of which record k, from 0, is one
pub record RecordStart (c : List ℕ) (h : Header) (k : ℕ) : Type 0 where
  pub start : NamedStart c h
  pub more : k < h.m

-- output i, from 0, of an accepted circuit of sizes z
pub record OutputStart (c : List ℕ) (z : Sizes) (i : ℕ) : Type 0 where
  pub sized : Accepted c z
  pub more : i < outputs c
