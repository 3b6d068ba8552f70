use Rattle.text.proofs.WriteLaws.{decimal_cases, tens_less}
use Rattle.text.proofs.decimal.+write_decimal.Goals as goal

pub write_byte-requires : goal.write_byte-requires
write_byte-requires t c = search decimal_cases

pub returns-then-x-lt10 : goal.returns-then-x-lt10
returns-then-x-lt10 t c = search decimal_cases

pub write_decimal-last-requires : goal.write_decimal-last-requires
write_decimal-last-requires t c = (search tens_less, search decimal_cases)

pub write_byte-requires-2 : goal.write_byte-requires-2
write_byte-requires-2 t c = search decimal_cases

pub returns : goal.returns
returns t c = search decimal_cases
