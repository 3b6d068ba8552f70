-- The examples, by computation. Assumes nothing.
use mathlib.Core.Path.{refl}
use Rattle.model.specs.Circuit.{gate_bytes, record_bytes, circuit_bytes}
use Rattle.model.specs.Refusals.{refuse, ◌then◌, room_verdict}
use Rattle.comparator.specs.Compares.{figure_bits, figures}
use Rattle.comparator.specs.Comparator.{bit_gates, bits_to, comparator_gates, comparator_bytes, comparator_length, width_verdict, comparator_verdict}
use Rattle.comparator.specs.Examples.{Examples}

pub examples : Examples
unfolding gate_bytes record_bytes circuit_bytes refuse ◌then◌ room_verdict figure_bits figures bit_gates bits_to comparator_gates comparator_bytes comparator_length width_verdict comparator_verdict
examples = record {
  six_and_three = refl;
  one_bit = refl;
  two_bits = refl;
  no_width = refl;
  narrowest = refl;
  widest = refl;
  too_wide = refl;
  no_room = refl;
  just_room = refl;
}
