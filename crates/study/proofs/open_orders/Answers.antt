-- `study::open_orders` opens the file for the round, then tests its orders.
use mathlib.Core.Path.{sym, ap, ◌∙◌}
use mathlib.Core.List.{[], ◌∷◌}
use native.Mathlib.Omega.{arith}
use Rattle.answer.specs.Outcome.{opened}
use Rattle.answer.proofs.Outcomes.{outcome-refused}
use Rattle.study.specs.Calls.{bad_orders, open_values, check_tests}
use Rattle.study.proofs.Lookups.{sizes-small, size_small, round-small, bytes-few, bytes_decide}
use Rattle.study.proofs.open_orders.Goals as goal

pub overflow_add-h : goal.overflow_add-h
overflow_add-h c = omega (arith, size_small c.args.file.now _ c.args.round (sym c.open_round.ensures ∙ ap opened c.in-Ok.is))

pub round_at-orders-requires : goal.round_at-orders-requires
round_at-orders-requires c = round-small c.args.file.now _ c.args.round (sym c.open_round.ensures ∙ ap opened c.in-Ok.is)

pub is_round-requires : goal.is_round-requires
is_round-requires c =
    let s = sizes-small c.args.file.now _ c.args.round (sym c.open_round.ensures ∙ ap opened c.in-Ok.is) in
    (s.0, s.1, bytes-few c.args.file.now _ c.args.round (sym c.open_round.ensures ∙ ap opened c.in-Ok.is) _ c.round_at-orders.ensures.bytes)

pub returns-then-not-is_round : goal.returns-then-not-is_round
returns-then-not-is_round c =
    let decides = bytes_decide c.args.file.now _ c.args.round (sym c.open_round.ensures ∙ ap opened c.in-Ok.is) _ c.round_at-orders.ensures.bytes _ c.is_round.ensures in
    rw c.if-not-is_round.true at decides

pub returns-in-Err : goal.returns-in-Err
returns-in-Err c = let f = c.args.file.now in let r = c.args.round in sym (outcome-refused (check_tests f r) ((11, bad_orders f r) ∷ []) (open_values f) (open_values f) _ (sym c.open_round.ensures ∙ ap opened c.in-Err.is))

pub returns-else-not-is_round : goal.returns-else-not-is_round
returns-else-not-is_round c =
    let decides = bytes_decide c.args.file.now _ c.args.round (sym c.open_round.ensures ∙ ap opened c.in-Ok.is) _ c.round_at-orders.ensures.bytes _ c.is_round.ensures in
    rw c.if-not-is_round.false at decides
