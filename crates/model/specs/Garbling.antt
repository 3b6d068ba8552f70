-- All wires garbled: the scheme of a scheme byte, and the zero token of every wire. Document 01, "Tokens" and "Scheme 1" to "Scheme 3"; 02, job 7.
use Rattle.std.specs.Prelude.{ℕ, suc, ◌≤◌, cond, List, map, eqb, length}
use Rattle.model.specs.declared.Gate.{Gate}
use Rattle.model.specs.Circuit.{Kind, charged, free, refused, kind_of, wire, wires}
use Rattle.model.specs.Aes.{Block, block}
use Rattle.model.specs.Tokens.{Garbling, seed_block, offset, input_zeros, one_token, free_zero}
use Rattle.model.specs.Scheme.{Scheme, Site}
use Rattle.model.specs.Gax.{dual_key, gax}
use Rattle.model.specs.Gaxr.{gaxr}
use Rattle.model.specs.Hashes.{hash_of}
use Rattle.model.specs.HalfGates.{half}

-- "scheme byte (1 to 3)" (01, "Material"), and 4 (02, job 7): no other byte is asked for, since 14 refuses it
pub record Known (scheme : ℕ) : Type 0 where
  pub low : 1 ≤ scheme
  pub high : scheme ≤ 4

-- scheme 1, 2, 3 or 4: the last two are half-gates, each over its hash
unfoldable pub scheme_of : ℕ → Scheme
scheme_of k = cond (eqb k 1) (gax dual_key) (cond (eqb k 2) (gaxr dual_key) (half (hash_of k)))

-- the wire number of the gate that comes after the wires xs
abbrev pub own : {A : Type 0} → List A → ℕ
own xs = suc (length xs)

module _ (γ : Garbling) where
  -- what garbling knows at a gate, from the zero tokens of the wires before it
  unfoldable pub site_of : List Block → Gate → Site
  site_of xs g = record {
    R = offset γ;
    fresh = seed_block γ (own xs);
    g = own xs;
    code = g.code;
    Xa = wire (block 0) xs g.a.0;
    Xb = wire (block 0) xs g.b.0;
  }

  -- the zero token of a gate's wire
  unfoldable pub zero_at : Kind → Site → Block
  zero_at (charged u v x) s = (scheme_of γ.scheme).zero_token s
  zero_at (free p q c) s = free_zero p q c s.R s.Xa s.Xb
  zero_at refused s = block 0

  unfoldable pub zero_step : List Block → Gate → Block
  zero_step xs g = zero_at (kind_of g.code) (site_of xs g)

  -- the zero tokens of all wires
  unfoldable pub zero_tokens : List Block
  zero_tokens = wires zero_step γ.circuit.gates (input_zeros γ)

  -- the one tokens of the inputs
  unfoldable pub input_ones : List Block
  input_ones = map (one_token γ) (input_zeros γ)
