-- `cells::lines_start` looks at a line a turn.
use mathlib.Core.Path.{◌≡◌}
use Prim.Native.Nat.{◌-◌}
use Rattle.laws.specs.Every.{every}
use Rattle.record.specs.Record.{listed}
use Rattle.cells.specs.Steps.{turn_all, line_test}
use Rattle.cells.proofs.Rows.{AtLine}
use Rattle.cells.proofs.lines_start.Given as goal

abbrev pub invariant-loop-x : goal.invariant-loop-x
invariant-loop-x l =
    AtLine (turn_all l.fn.along (listed l.record)) l.lines l.stride l.y.0 l.at l.x × (l.all ≡ every (l.lines - l.x) (line_test (turn_all l.fn.along (listed l.record)) l.lines l.cells l.n l.stride l.step))
