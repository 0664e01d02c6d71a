-- `compose::series` passes on a refusal of the records, and otherwise delivers the merged record.
use mathlib.Core.Path.{◌≡◌, sym, ap, ◌∙◌}
use mathlib.Core.List.{[], ◌∷◌}
use Rattle.answer.specs.Outcome.{success, outcome, done}
use Rattle.answer.proofs.Fills.{fill-refused, fill-delivered}
use Rattle.compose.specs.Compose.{record_tests, series_bytes}
use Rattle.compose.proofs.Answers.{joined-joinable}
use Rattle.compose.proofs.series.Goals as goal

pub returns-in-Err : goal.returns-in-Err
returns-in-Err c =
    let x = c.args.left.now in
    let y = c.args.right.now in
    let both = fill-refused (record_tests x y) (series_bytes x y) c.args.out.now _ (sym c.joinable.ensures ∙ ap done c.in-Err.is) in record { answer = both.0; slice = both.1 }

pub merge_series-requires : goal.merge_series-requires
merge_series-requires c =
    let passed : let a = c.args in outcome (record_tests a.left.now a.right.now) (0 ∷ []) ≡ success (0 ∷ []) = sym c.joinable.ensures ∙ ap done c.in_default.is in
    joined-joinable c.args.left.now c.args.right.now (passed)

pub returns : goal.returns
returns c =
    let passed : let a = c.args in outcome (record_tests a.left.now a.right.now) (0 ∷ []) ≡ success (0 ∷ []) = sym c.joinable.ensures ∙ ap done c.in_default.is in
    let a = c.args in
    let both = fill-delivered (record_tests a.left.now a.right.now) (series_bytes a.left.now a.right.now) a.out.now (passed) c.merge_series.ensures (c.deliver.ensures.answer, c.deliver.ensures.slice) in record { answer = both.0; slice = both.1 }
