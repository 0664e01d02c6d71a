-- The loop of `rounds_of` adds at most 128 bytes a round.
use Rattle.std.proofs.Common.{◌*◌, ◌≤◌}
use Rattle.arrayvec.specs.ArrayVec.{array_vec_len}
use Rattle.try_convert.proofs.fronts.rounds_of.Given as goal

abbrev pub invariant-loop-r : goal.invariant-loop-r
invariant-loop-r l = array_vec_len l.rounds ≤ 128 * l.r
