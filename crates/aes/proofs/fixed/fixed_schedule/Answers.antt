use mathlib.Core.Path.{refl}
use Rattle.model.specs.Aes.{xtime, mul_bits, gmul, squares, inverse, bit, affine_bit, affine_bits, s_box, sub_word, power_of_x, temp, next_word, expand_by, key_expansion, fixed_key}
use Rattle.aes.proofs.fixed.fixed_schedule.Goals as goal

pub returns : goal.returns
unfolding xtime mul_bits gmul squares inverse bit affine_bit affine_bits s_box sub_word power_of_x temp next_word expand_by key_expansion fixed_key
returns c = refl
