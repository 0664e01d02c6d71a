-- `differ` counts at most one for each cell that it has passed.
use Rattle.std.proofs.Common.{◌+◌, ◌*◌, ◌≤◌}
use Rattle.test_removal.proofs.differ.Given as goal

abbrev pub invariant-loop-a : goal.invariant-loop-a
invariant-loop-a l = l.wrong ≤ 65 * l.a

abbrev pub invariant-loop-b : goal.invariant-loop-b
invariant-loop-b l = l.wrong ≤ 65 * l.a + l.b
