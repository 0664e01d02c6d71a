-- `study::open_round` opens the file, then tests the number.
use mathlib.Core.Path.{◌≡◌, sym, ap, ◌∙◌}
use mathlib.Core.List.{[], ◌∷◌}
use Rattle.answer.specs.Outcome.{success, opened, header_values}
use Rattle.answer.proofs.Outcomes.{outcome-refused}
use Rattle.study.specs.Calls.{bad_number, open_tests, open_values, open_answer}
use Rattle.study.proofs.Lookups.{number-bad}
use Rattle.study.proofs.open_round.Goals as goal

pub returns-then-h-round : goal.returns-then-h-round
returns-then-h-round c =
    let opens : open_answer c.args.file.now ≡ success (header_values c.in-Ok.h) = sym c.open_study.ensures ∙ ap opened c.in-Ok.is in
    sym (number-bad c.args.file.now _ (opens) c.args.round c.if-h-round.true)

pub returns-in-Err : goal.returns-in-Err
returns-in-Err c = let f = c.args.file.now in sym (outcome-refused (open_tests f) ((10, bad_number f c.args.round) ∷ []) (open_values f) (open_values f) _ (sym c.open_study.ensures ∙ ap opened c.in-Err.is))
