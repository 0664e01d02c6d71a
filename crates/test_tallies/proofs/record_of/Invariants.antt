-- The loop of `record_of` tries twelve pairs; no more are listed than tried.
use Rattle.std.proofs.Common.{◌+◌, ◌*◌, ◌≤◌}
use Rattle.arrayvec.specs.ArrayVec.{array_vec_len}
use Rattle.test_tallies.proofs.record_of.Given as goal

abbrev pub invariant-loop-i : goal.invariant-loop-i
invariant-loop-i l = (3 ≤ array_vec_len l.record) × (array_vec_len l.record ≤ 3 + 2 * l.i) × (l.p1 ≤ 72) × (l.p2 ≤ 71)
