use Rattle.model.specs.Aes.{xtime, mul_bits, gmul, squares, inverse, bit, affine_bit, affine_bits, s_box}
use Rattle.model.proofs.Lists.{entry}
use Rattle.aes.proofs.sbox.SBox.new.Goals as goal

-- the table is compared with `tabulate 256 s_box`, entry by entry, and `entry` carries the rule to each
pub invariant_of-result : goal.invariant_of-result
unfolding xtime mul_bits gmul squares inverse bit affine_bit affine_bits s_box
invariant_of-result c = record { is_s_box = entry 0 256 s_box }
