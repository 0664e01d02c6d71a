-- `report::report` opens the file, and writes what is due.
use mathlib.Core.Path.{◌≡◌, sym, ap, subst, ◌∙◌}
use native.Mathlib.Omega.{arith}
use Rattle.answer.specs.Outcome.{success, header_values, opened}
use Rattle.lines.specs.Report.{report_opens}
use Rattle.lines.specs.Steps.{Due}
use Rattle.lines.proofs.Reports.{small, due-first}
use Rattle.report.proofs.report.Goals as goal

pub report_refusal-requires : goal.report_refusal-requires
report_refusal-requires g c = record { file_value = sym c.open_input.ensures ∙ ap opened c.in-Err.is; begun = c.none-begun.ensures }

pub overflow_cast-h : goal.overflow_cast-h
overflow_cast-h g c =
    let opens : report_opens c.args.file.now ≡ success (header_values c.in-Ok.h) = sym c.open_input.ensures ∙ ap opened c.in-Ok.is in
    let s = small c.args.file.now (header_values c.in-Ok.h) opens in
    omega (arith, s.0, s.1)

pub overflow_cast-h-in-Ok : goal.overflow_cast-h-in-Ok
overflow_cast-h-in-Ok g c =
    let opens : report_opens c.args.file.now ≡ success (header_values c.in-Ok.h) = sym c.open_input.ensures ∙ ap opened c.in-Ok.is in
    let s = small c.args.file.now (header_values c.in-Ok.h) opens in
    omega (arith, s.0, s.1)

pub report_study-requires : goal.report_study-requires
report_study-requires g c =
    let opens : report_opens c.args.file.now ≡ success (header_values c.in-Ok.h) = sym c.open_input.ensures ∙ ap opened c.in-Ok.is in
    let f = c.args.file.now in
    let v = header_values c.in-Ok.h in
    record { due = (opens, subst (Due f v 0) (sym c.new.ensures.slice) (due-first f v opens)); begun = c.none-begun.ensures }
