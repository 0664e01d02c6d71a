-- `parts::bad_arcs`: whether an entry before i is bad.
use mathlib.Core.Path.{◌≡◌}
use Rattle.parts.specs.Steps.{bad_before}
use Rattle.parts.proofs.bad_arcs.Given as goal

abbrev pub invariant-loop-i : goal.invariant-loop-i
invariant-loop-i g l = l.bad ≡ bad_before l.n g.row.ENTRY l.arcs l.i
