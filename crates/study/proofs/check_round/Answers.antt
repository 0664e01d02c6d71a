-- `study::check_round` opens the file for the round.
use mathlib.Core.Path.{sym, ap, ◌∙◌}
use mathlib.Core.List.{[], ◌∷◌}
use Rattle.answer.specs.Outcome.{opened}
use Rattle.answer.proofs.Outcomes.{refused_as, success-as}
use Rattle.study.specs.Calls.{open_values, check_tests}
use Rattle.study.proofs.check_round.Goals as goal

pub returns-in-Err : goal.returns-in-Err
returns-in-Err c = let f = c.args.file.now in sym (refused_as (check_tests f c.args.round) (open_values f) (0 ∷ []) _ (sym c.open_round.ensures ∙ ap opened c.in-Err.is))

pub returns-in-Ok : goal.returns-in-Ok
returns-in-Ok c = let f = c.args.file.now in sym (success-as (check_tests f c.args.round) (open_values f) (0 ∷ []) (sym c.open_round.ensures ∙ ap opened c.in-Ok.is))
