-- The loop of `cell_sum` goes over the cells, each below 2^32.
use Rattle.std.proofs.Common.{◌*◌, ◌≤◌}
use Rattle.test_tallies.proofs.cell_sum.Given as goal

abbrev pub invariant-loop-x : goal.invariant-loop-x
invariant-loop-x l = l.sum ≤ 4294967295 * l.x-index
