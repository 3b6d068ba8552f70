-- The table of examples holds of the definitions. Assumes nothing.
use mathlib.Core.Path.{refl}
use Rattle.model.specs.Bytes.{be16, number, bytes_of, equal_bytes}
use Rattle.model.specs.Circuit.{value, kinds, kind_of, charges, mark_at, inputs, outputs, gates, named, gate_at, output_at, last_wires, circuit_of, most_outputs, sizes_hold, circuit_length, operands_hold, wires, gate_value, plain_values}
use Rattle.model.specs.Aes.{◌⊕◌, block, fixed_key, times, xtime, mul_bits, gmul, squares, inverse, bit, affine_bit, affine_bits, s_box, double, quadruple}
use Rattle.model.specs.Tokens.{run_block}
use Rattle.model.specs.Hashes.{hash_block, hash_call, sigma, rekeyed_call}
use Rattle.model.specs.HalfGates.{half}
use Rattle.model.specs.Scheme.{record_length}
use Rattle.model.specs.Garbling.{scheme_of}
use Rattle.model.specs.Ending.{output_tweak, first_hash, second_hash, colours, hashes, ending_of}
use Rattle.model.specs.Material.{hashed, last_bytes, material_length}
use Rattle.model.specs.Refusals.{refuse, ◌then◌, first_of, head_verdict, gate_verdict, record_verdict, output_verdict, outputs_verdict, circuit_verdict, scheme_verdict, mark_verdict}
use Rattle.model.specs.Operations.{sizes_of}
use Rattle.model.specs.Examples.{Examples}

pub examples : Examples
unfolding be16 number bytes_of value kinds kind_of charges mark_at inputs outputs gates named gate_at output_at last_wires circuit_of most_outputs sizes_hold circuit_length operands_hold wires gate_value plain_values ◌⊕◌ block fixed_key times xtime mul_bits gmul squares inverse bit affine_bit affine_bits s_box double quadruple run_block hash_block hash_call sigma rekeyed_call refuse ◌then◌ first_of head_verdict gate_verdict record_verdict output_verdict outputs_verdict circuit_verdict scheme_verdict mark_verdict sizes_of equal_bytes output_tweak first_hash second_hash colours hashes ending_of half scheme_of record_length hashed last_bytes material_length
examples = record {
  P1 = refl;
  P2 = refl;
  P3 = refl;
  P4 = refl;
  P5 = refl;
  P6 = refl;
  P7 = record { is_α = refl; is_β = refl; is_γ = refl };
  P8 = record { is_α = refl; is_β = refl; is_γ = refl };
  P9 = record { is_α = refl; is_β = refl; is_γ = refl };
  P10 = record { is_α = refl; is_β = refl; is_γ = refl };
  p11_check = refl;
  p11_plain = refl;
  p12 = refl;
  p13 = refl;
  p13_own_wire = refl;
  p14 = refl;
  p14_short = refl;
  largest = refl;
  too_many_gates = refl;
  too_few_inputs = refl;
  too_many_outputs = refl;
  negated_check = refl;
  negated_plain = refl;
  passed_plain = refl;
  unused_operand = refl;
  fifteen = refl;
  sixteen = refl;
  first_run = refl;
  second_run = refl;
  long_run = refl;
  halves = refl;
  under_tweak = refl;
  under_fixed = refl;
  fourth_scheme = refl;
  fifth_scheme = refl;
  named_check = refl;
  named_outputs = refl;
  output_mark = refl;
  output_wire = refl;
  output_wire_0 = refl;
  first_output = refl;
  more_than_wires = refl;
  named_short = refl;
  first_tweak = refl;
  last_tweak = refl;
  with_colours = refl;
  with_hashes = refl;
  mark_of_colours = refl;
  mark_of_hashes = refl;
  mark_of_none = refl;
  hashed_file = refl;
  equal_pair = refl;
  unequal_pair = refl;
}
