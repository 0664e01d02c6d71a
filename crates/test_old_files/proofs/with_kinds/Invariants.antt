-- The loop of `with_kinds` makes three bytes of two at each turn.
use Rattle.std.proofs.Common.{◌*◌, ◌+◌, ◌≤◌, length, ◌≡◌}
use Rattle.arrayvec.specs.ArrayVec.{array_vec_len}
use Rattle.test_old_files.proofs.with_kinds.Given as goal

abbrev pub invariant-loop-arc : goal.invariant-loop-arc
invariant-loop-arc l =
    (2 * array_vec_len l.entries + 3 * length l.arc-iterator.rest.now ≤ 3 * length l.arcs)
    × (l.arc-iterator.size ≡ 2)
