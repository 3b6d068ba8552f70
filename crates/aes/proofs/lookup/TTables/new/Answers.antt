use mathlib.Core.Path.{refl}
use Rattle.model.specs.Aes.{xtime, mul_bits, gmul, squares, inverse, bit, affine_bit, affine_bits, s_box}
use Rattle.aes.specs.Tables.{word_of}
use Rattle.aes.proofs.Tables.{tables_hold}
use Rattle.aes.proofs.lookup.TTables.new.Goals as goal

-- both comparisons are computed, and `tables_hold` carries the rule to each entry
pub invariant_of-result : goal.invariant_of-result
unfolding xtime mul_bits gmul squares inverse bit affine_bit affine_bits s_box word_of
invariant_of-result c = record { is_t_tables = tables_hold _ refl refl }
