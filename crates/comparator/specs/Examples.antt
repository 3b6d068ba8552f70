-- Examples of document 02, job 1, worked by hand. The theorem is `examples` of proofs/Examples.antt.
use Rattle.std.specs.Prelude.{◌≡◌, [], ◌∷◌}
use Rattle.model.specs.Refusals.{fine, refused}
use Rattle.comparator.specs.Compares.{figures}
use Rattle.comparator.specs.Comparator.{comparator_bytes, width_verdict, comparator_verdict}

pub record Examples : Type 0 where
  -- "lowest bit first": a price of 6 and a ceiling of 3, of three bits each
  pub six_and_three : figures 3 6 3 ≡ 0 ∷ 1 ∷ 1 ∷ 1 ∷ 1 ∷ 0 ∷ []
  -- one bit: one gate, wire 3 is NOT wire 1 OR wire 2
  pub one_bit : comparator_bytes 1 ≡ 0x43 ∷ 0x48 ∷ 0x00 ∷ 0x02 ∷ 0x00 ∷ 0x01 ∷ 0x00 ∷ 0x01 ∷ 0x43 ∷ 0x47 ∷ 0x00 ∷ 0x01 ∷ 0x00 ∷ 0x02 ∷ 0x0B ∷ []
  -- two bits: wires 1 and 2 are the price, 3 and 4 the ceiling; wire 5 says it of the lower bits, and wires 6 to 9 are the gates of the higher
  pub two_bits : comparator_bytes 2
      ≡ 0x43 ∷ 0x48 ∷ 0x00 ∷ 0x04 ∷ 0x00 ∷ 0x01 ∷ 0x00 ∷ 0x05
      ∷ 0x43 ∷ 0x47 ∷ 0x00 ∷ 0x01 ∷ 0x00 ∷ 0x03 ∷ 0x0B
      ∷ 0x43 ∷ 0x47 ∷ 0x00 ∷ 0x02 ∷ 0x00 ∷ 0x05 ∷ 0x09
      ∷ 0x43 ∷ 0x47 ∷ 0x00 ∷ 0x04 ∷ 0x00 ∷ 0x05 ∷ 0x06
      ∷ 0x43 ∷ 0x47 ∷ 0x00 ∷ 0x06 ∷ 0x00 ∷ 0x07 ∷ 0x08
      ∷ 0x43 ∷ 0x47 ∷ 0x00 ∷ 0x05 ∷ 0x00 ∷ 0x08 ∷ 0x06 ∷ []
  -- "21 when w is outside 1 to 64 (place w), before refusal 19"
  pub no_width : width_verdict 0 ≡ refused 21 0
  pub narrowest : width_verdict 1 ≡ fine
  pub widest : width_verdict 64 ≡ fine
  pub too_wide : comparator_verdict 65 0 ≡ refused 21 65
  -- the circuit of 8 bits has 211 bytes
  pub no_room : comparator_verdict 8 210 ≡ refused 19 211
  pub just_room : comparator_verdict 8 211 ≡ fine
