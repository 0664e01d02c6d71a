-- `report::report_refusal` writes the one line of a refusal.
use mathlib.Core.Path.{◌≡◌, sym, ap, ◌∙◌}
use mathlib.Core.List.{[], ◌∷◌}
use native.Mathlib.Omega.{arith}
use lib.ListN.{length, get_or}
use Rattle.answer.specs.Outcome.{number_of}
use Rattle.lines.specs.Text.{refused_line}
use Rattle.lines.specs.Report.{report_lines, line_at}
use Rattle.lines.proofs.Reports.{refused-lines}
use Rattle.report.proofs.Rounds.{last-sent}
use Rattle.report.proofs.report_refusal.Goals as goal

pub write_line-requires : goal.write_line-requires
write_line-requires g c =
    let only : report_lines c.args.file.now ≡ refused_line (number_of c.args.refusal) ∷ [] = refused-lines c.args.file.now (number_of c.args.refusal) c.requires.file_value in
    let z = c.requires.begun.0 in (
      c.requires.begun.1,
      omega (arith, z, ap length only),
      c.as_bytes.ensures.value ∙ c.deref.ensures.0 ∙ c.refused_line.ensures ∙ ap refused_line c.from.ensures ∙ sym (ap (λ l. get_or l 0 []) only) ∙ ap (line_at c.args.file.now) (sym z),
    )

pub returns : goal.returns
returns g c =
    let only : report_lines c.args.file.now ≡ refused_line (number_of c.args.refusal) ∷ [] = refused-lines c.args.file.now (number_of c.args.refusal) c.requires.file_value in
    last-sent (report_lines c.args.file.now) c.args.begun.lines c.write_line.result.lines c.write_line.result.whole (omega (arith, c.requires.begun.0, ap length only)) c.write_line.ensures
