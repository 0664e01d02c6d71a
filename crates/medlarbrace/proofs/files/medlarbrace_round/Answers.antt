-- `medlarbrace_round` opens the file for the round, and says where its bytes stand.
use mathlib.Core.Path.{◌≡◌, sym, ap, ◌∙◌}
use native.Mathlib.Omega.{arith}
use Rattle.answer.specs.Outcome.{success, outcome, opened, header_values}
use Rattle.answer.proofs.Outcomes.{refused_as}
use Rattle.study.specs.Calls.{open_values, check_tests}
use Rattle.study.proofs.Lookups.{size_small, round-small}
use Rattle.medlarbrace.specs.Interface.{code, value_left, place_values}
use Rattle.medlarbrace.proofs.Opened.{place-good}
use Rattle.medlarbrace.proofs.files.medlarbrace_round.Goals as goal

pub overflow_add-n : goal.overflow_add-n
overflow_add-n c =
    let opens : outcome (check_tests c.args.file.now c.args.round) (open_values c.args.file.now) ≡ success (header_values c.in-Ok.h) = sym c.open_round.ensures ∙ ap opened c.in-Ok.is in
    omega (arith, size_small c.args.file.now _ c.args.round (opens))

pub round_start-requires : goal.round_start-requires
round_start-requires c =
    let opens : outcome (check_tests c.args.file.now c.args.round) (open_values c.args.file.now) ≡ success (header_values c.in-Ok.h) = sym c.open_round.ensures ∙ ap opened c.in-Ok.is in
    round-small c.args.file.now _ c.args.round (opens)

pub returns-in-Ok : goal.returns-in-Ok
returns-in-Ok c =
    let opens : outcome (check_tests c.args.file.now c.args.round) (open_values c.args.file.now) ≡ success (header_values c.in-Ok.h) = sym c.open_round.ensures ∙ ap opened c.in-Ok.is in
    let a = c.args in
    let e = place-good a.file.now _ a.round opens in
    record { code = sym (ap code e); start = c.round_start.ensures ∙ sym (ap (λ t. value_left 0 t a.start.now) e); count = sym (ap (λ t. value_left 1 t a.count.now) e) }

pub returns-in-Err : goal.returns-in-Err
returns-in-Err c =
    let a = c.args in
    let f = a.file.now in
    let e = refused_as (check_tests f a.round) (open_values f) (place_values f a.round) _ (sym c.open_round.ensures ∙ ap opened c.in-Err.is) in
    record { code = c.from.ensures ∙ sym (ap code e); start = sym (ap (λ t. value_left 0 t a.start.now) e); count = sym (ap (λ t. value_left 1 t a.count.now) e) }
