-- `report::report_study` writes the lines in order, up to the last or to the first write that fails.
use mathlib.Core.Path.{◌≡◌}
use Prim.Native.Nat.{◌+◌, ◌-◌}
use lib.ListN.{length}
use Rattle.laws.specs.Tests.{flag}
use Rattle.answer.specs.Outcome.{header_values}
use Rattle.lines.specs.Report.{report_lines}
use Rattle.report.proofs.Rounds.{Going}
use Rattle.report.proofs.report_study.Given as goal

abbrev pub invariant-loop-more : goal.invariant-loop-more
invariant-loop-more g l = (length l.tally ≡ length l.initial.tally) × Going l.file (header_values l.h) l.tally l.sent.lines l.sent.whole l.more

abbrev pub decreases-loop-more : goal.decreases-loop-more
decreases-loop-more g l = length (report_lines l.file) - l.sent.lines + flag l.more
