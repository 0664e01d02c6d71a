-- `study::round_bytes` hands back a part only where the check is good.
use mathlib.Core.Path.{◌≡◌, sym, ap, ◌∙◌}
use mathlib.Core.List.{[], ◌∷◌}
use native.Mathlib.Omega.{arith}
use Rattle.answer.specs.Outcome.{success, outcome, opened, header_values}
use Rattle.answer.proofs.Outcomes.{refused_as}
use Rattle.study.specs.Calls.{open_values, check_tests}
use Rattle.study.proofs.Lookups.{lookup-refused, size_small, round-small, round-part, round-found}
use Rattle.study.proofs.round_bytes.Goals as goal

pub returns-in_default-clause-bytes : goal.returns-in_default-clause-bytes
returns-in_default-clause-bytes c = let f = c.args.file.now in
    let r = c.args.round in
    lookup-refused f r _ (refused_as (check_tests f r) (open_values f) (0 ∷ []) _ (sym c.open_round.ensures ∙ ap opened c.in_default.is))

pub overflow_add-h : goal.overflow_add-h
overflow_add-h c = omega (arith, size_small c.args.file.now _ c.args.round (sym c.open_round.ensures ∙ ap opened c.in-Ok.is))

pub round_at-requires : goal.round_at-requires
round_at-requires c = round-small c.args.file.now _ c.args.round (sym c.open_round.ensures ∙ ap opened c.in-Ok.is)

pub returns-clause-bytes : goal.returns-clause-bytes
returns-clause-bytes c =
    let opens : outcome (check_tests c.args.file.now c.args.round) (open_values c.args.file.now) ≡ success (header_values c.in-Ok.h) = sym c.open_round.ensures ∙ ap opened c.in-Ok.is in
    let f = c.args.file.now in
    let r = c.args.round in
    c.round_at.ensures.bytes ∙ round-part f _ r opens ∙ sym (round-found f _ r opens)
