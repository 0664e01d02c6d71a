-- `reliability::row` adds one term after another.
use mathlib.Core.Path.{◌≡◌}
use Rattle.reliability.specs.Steps.{row_sum}
use Rattle.reliability.proofs.row.Given as goal

abbrev pub invariant-loop-i : goal.invariant-loop-i
invariant-loop-i l = l.s ≡ row_sum l.cells l.at l.v l.i
