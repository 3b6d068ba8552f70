-- What a scheme is: what garbling and evaluation do at a charged gate. Document 01, "Scheme 1" to "Scheme 3", each give one, and 02, job 7, a fourth.
use Rattle.std.specs.Prelude.{ℕ, ◌+◌, ◌*◌, List}
use Rattle.model.specs.Aes.{Block}

-- What garbling knows at a charged gate.
pub record Site : Type 0 where
  pub R : Block  -- the seed's offset
  pub fresh : Block  -- the seed's block of wire g
  pub g : ℕ  -- the gate's wire number
  pub code : ℕ  -- its code
  pub Xa : Block  -- the zero tokens of its operands
  pub Xb : Block

pub record Scheme : Type 0 where
  pub stored : ℕ  -- r, the rows that the material has of a charged gate
  pub zero_token : Site → Block  -- X of the gate
  pub rows : Site → List Block  -- its rows, in the material's order
  pub opened : ℕ → List Block → Block → Block → Block  -- evaluation at wire g, from the rows and the tokens held on a and b

-- "mark 47 54, its wire number (2 bytes), its r rows (r = 4, 3, 2" (01, "Material"): the bytes of a charged gate's record
unfoldable pub record_length : Scheme → ℕ
record_length S = 4 + 16 * S.stored
