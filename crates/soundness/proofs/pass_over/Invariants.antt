-- `soundness::pass_over` looks at one cell after another, without an early exit.
use mathlib.Core.Path.{◌≡◌}
use Rattle.soundness.specs.Steps.{cut, rises_by, sum_from}
use Rattle.soundness.proofs.pass_over.Given as goal

abbrev pub invariant-loop-i : goal.invariant-loop-i
invariant-loop-i l = (l.rises ≡ rises_by l.cells l.at l.step l.i) × (l.sum ≡ cut (sum_from l.cells l.at l.i))
