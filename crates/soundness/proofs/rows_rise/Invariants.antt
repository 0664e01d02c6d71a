-- `soundness::rows_rise` goes from row to row.
use mathlib.Core.Path.{◌≡◌}
use Rattle.soundness.specs.Steps.{rows_rise}
use Rattle.soundness.proofs.rows_rise.Given as goal

abbrev pub invariant-loop-l1 : goal.invariant-loop-l1
invariant-loop-l1 l = l.rise ≡ rows_rise l.cells l.n2 l.l1
