-- `report::study_line` makes line i of an open study.
use mathlib.Core.Path.{sym, ◌∙◌}
use Prim.Native.Nat.{◌-◌}
use native.Mathlib.Omega.{arith}
use borrow.Author.Rules.{rules}
use Rattle.answer.specs.Outcome.{header_values}
use Rattle.lines.proofs.Reports.{sizes-next, round-next, count_next, count_fits}
use Rattle.report.proofs.study_line.Goals as goal

pub returns-then-i-eq0 : goal.returns-then-i-eq0
returns-then-i-eq0 c =
    let s = sizes-next c.args.file.now (header_values c.args.h) c.requires.0 c.args.i c.args.tally.now (search rules) c.requires.1 in
    record { line = c.sizes_line.ensures ∙ sym s.0; next = s.1 }

pub returns-then-round-h : goal.returns-then-round-h
returns-then-round-h c =
    let k = c.round_line in
    let s = round-next c.args.file.now (header_values c.args.h) c.requires.0 c.args.i (c.args.i - 1) c.args.tally.now (omega arith) (search rules) c.requires.1 in
    record { line = k.ensures.told.0 ∙ sym s.0; next = rw (k.ensures.told.1, k.ensures.tally) s.1 }

pub count_line-requires : goal.count_line-requires
count_line-requires c = count_fits c.args.file.now (header_values c.args.h) c.requires.0 c.args.i (c.args.i - 1 - c.args.h.rounds) c.args.tally.now (omega arith) c.requires.1

pub returns : goal.returns
returns c =
    let s = count_next c.args.file.now (header_values c.args.h) c.requires.0 c.args.i (c.args.i - 1 - c.args.h.rounds) c.args.tally.now (omega arith) c.requires.1 in
    record { line = c.count_line.ensures ∙ sym s.0; next = s.1 }
