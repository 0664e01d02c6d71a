-- `cells::heights` takes pair after pair.
use Rattle.record.specs.Record.{listed}
use Rattle.cells.specs.Steps.{turn_all}
use Rattle.cells.proofs.Peaks.{Heights}
use Rattle.cells.proofs.heights.Given as goal

abbrev pub invariant-loop-i : goal.invariant-loop-i
invariant-loop-i l = Heights (turn_all l.along (listed l.record)) l.heights l.i
