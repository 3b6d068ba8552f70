use Rattle.model.proofs.Verdicts.{passed}
use Rattle.comparator.proofs.ComparatorLaws.{comparator_cases}
use Rattle.comparator.proofs.comparator.Goals as goal

pub overflow_mul-needed : goal.overflow_mul-needed
overflow_mul-needed c = search (comparator_cases, c.in_ok-check_width.was)

pub overflow_sub-needed : goal.overflow_sub-needed
overflow_sub-needed c = search (comparator_cases, c.in_ok-check_width.was)

pub overflow_cast-width : goal.overflow_cast-width
overflow_cast-width c = search (comparator_cases, c.in_ok-check_width.was)

pub write_comparator-requires : goal.write_comparator-requires
write_comparator-requires c = search (comparator_cases, c.in_ok-check_width.was, c.in_ok-check_room.was)

pub returns-in_err-check_width : goal.returns-in_err-check_width
returns-in_err-check_width c = rw (passed _ _ c.from_residual.ensures.1) (search (comparator_cases, c.in_err-check_width.was))

pub returns-in_err-check_room : goal.returns-in_err-check_room
returns-in_err-check_room c =
    rw (passed _ _ c.from_residual-in_err-check_room.ensures.1)
    (search (comparator_cases, c.in_ok-check_width.was, c.in_err-check_room.was))

pub returns : goal.returns
returns c = search (comparator_cases, c.in_ok-check_width.was, c.in_ok-check_room.was)
