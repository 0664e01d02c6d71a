-- `report::report_study` writes the lines in order, up to the last or to the first write that fails.
use mathlib.Core.Path.{◌≡◌, refl, ap, ◌∙◌}
use mathlib.Core.Bool.{true, true≢false}
use native.Mathlib.Omega.{arith}
use lib.ListN.{length}
use borrow.Author.Rules.{rules}
use Rattle.answer.specs.Outcome.{header_values}
use Rattle.lines.specs.Report.{report_lines, line_at}
use Rattle.lines.specs.Steps.{Due}
use Rattle.report.proofs.Rounds.{goes, goes-less}
use Rattle.report.proofs.report_study.Goals as goal

pub loop-more-init : goal.loop-more-init
loop-more-init g c =
    (refl, record { on = λ _. (c.requires.begun.1, rw c.requires.begun.0 c.requires.due.1); ended = λ q. absurd (true≢false q) })

pub study_line-follows-requires : goal.study_line-follows-requires
study_line-follows-requires g c =
    let due : (c.loop-more.sent.whole ≡ true) × Due c.args.file.now (header_values c.args.h) c.lines-i.result c.loop-more.tally =
    let on = c.loop-more.invariant.1.on c.loop-more-test.true in (on.0, rw c.lines-i.ensures on.1) in
    (c.requires.due.0, due.1)

pub write_line-sent-requires : goal.write_line-sent-requires
write_line-sent-requires g c =
    let due : (c.loop-more.sent.whole ≡ true) × Due c.args.file.now (header_values c.args.h) c.lines-i.result c.loop-more.tally =
    let on = c.loop-more.invariant.1.on c.loop-more-test.true in (on.0, rw c.lines-i.ensures on.1) in
    let k = c.study_line-follows in
    let e = c.lines-i.ensures in
    (due.0, omega (arith, due.1.line, e), c.as_bytes.ensures.value ∙ c.deref.ensures.0 ∙ k.ensures.line ∙ ap (line_at c.args.file.now) e)

pub loop-more-smaller : goal.loop-more-smaller
loop-more-smaller g c =
    let due : (c.loop-more.sent.whole ≡ true) × Due c.args.file.now (header_values c.args.h) c.lines-i.result c.loop-more.tally =
    let on = c.loop-more.invariant.1.on c.loop-more-test.true in (on.0, rw c.lines-i.ensures on.1) in
    let w = c.write_line-sent in
    let e = c.lines-i.ensures in
    rw (c.whole.ensures, c.loop-more-test.true) (goes-less (length (report_lines c.args.file.now)) c.loop-more.sent.lines w.result.lines c.study_line-follows.result w.result.whole (omega (arith, due.1.line, e)) w.ensures)

pub loop-more-preserved : goal.loop-more-preserved
loop-more-preserved g c =
    let due : (c.loop-more.sent.whole ≡ true) × Due c.args.file.now (header_values c.args.h) c.lines-i.result c.loop-more.tally =
    let on = c.loop-more.invariant.1.on c.loop-more-test.true in (on.0, rw c.lines-i.ensures on.1) in
    let w = c.write_line-sent in
    let k = c.study_line-follows in
    let e = c.lines-i.ensures in
    (search rules, rw c.whole.ensures (goes c.args.file.now (header_values c.args.h) k.new.tally c.lines-i.result w.result.lines k.result w.result.whole due.1.line k.ensures.next (omega (arith, w.ensures, e))))

pub returns : goal.returns
returns g c = c.loop-more.invariant.1.ended c.loop-more-test.false
