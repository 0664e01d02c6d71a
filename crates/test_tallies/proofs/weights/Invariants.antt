-- The loop of `weights` adds a place at each turn.
use Rattle.std.proofs.Common.{◌≡◌, ◌+◌, ◌≤◌}
use Rattle.arrayvec.specs.ArrayVec.{array_vec_len}
use Rattle.test_tallies.proofs.weights.Given as goal

abbrev pub invariant-loop : goal.invariant-loop
invariant-loop l = (array_vec_len l.out ≡ l.counter + 1) × (l.n ≤ 64)
