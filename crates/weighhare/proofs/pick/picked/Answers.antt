use mathlib.Core.Bool.{false}
use mathlib.Core.Path.{refl, sym, ap}
use Rattle.std.specs.Result.{is_err}
use Rattle.model.proofs.Verdicts.{passed}
use Rattle.garble.proofs.PickLaws.{pick_from}
use Rattle.weighhare.proofs.PickLaws.{pick_cases}
use Rattle.weighhare.proofs.pick.picked.Goals as goal

pub returns-in_err-pick_check : goal.returns-in_err-pick_check
returns-in_err-pick_check c = rw (passed _ _ c.from_residual.ensures.1) (search (pick_cases, c.in_err-pick_check.was))

pub overflow_sub-result : goal.overflow_sub-result
overflow_sub-result c = pick_from c.args.zeros c.args.ones _ _ _ c.pick_check.ensures false (sym (ap is_err c.in_ok-pick_check.was)) refl

pub returns : goal.returns
returns c = search (pick_cases, c.in_ok-pick_check.was)
