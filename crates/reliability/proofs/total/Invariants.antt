-- `reliability::total` adds one row after another.
use mathlib.Core.Path.{◌≡◌}
use Rattle.reliability.specs.Steps.{rows_sum}
use Rattle.reliability.proofs.total.Given as goal

abbrev pub invariant-loop-l1 : goal.invariant-loop-l1
invariant-loop-l1 l = l.s ≡ rows_sum l.cells l.u l.v l.n2 l.l1
