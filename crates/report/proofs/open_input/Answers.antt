-- `report::open_input` refuses what is too long for the program, and opens the rest.
use mathlib.Core.Path.{refl}
use borrow.Author.Rules.{rules}
use borrow.Author.Tests.{lt-ltb, le-ltb}
use lib.ListN.{length}
use Rattle.lines.specs.Report.{max_input}
use Rattle.report.proofs.open_input.Goals as goal

pub returns-then-file-gt-MAX_INPUT : goal.returns-then-file-gt-MAX_INPUT
returns-then-file-gt-MAX_INPUT c = rw (lt-ltb max_input (length c.args.file.now) c.if-file-gt-MAX_INPUT.true) refl

pub returns : goal.returns
returns c = rw (le-ltb max_input (length c.args.file.now) (search rules)) c.open_study.ensures
