-- The loop of `without_kinds` makes two bytes of three at each turn.
use Rattle.std.proofs.Common.{◌*◌, ◌+◌, ◌≤◌, length, ◌≡◌}
use Rattle.arrayvec.specs.ArrayVec.{array_vec_len}
use Rattle.try_convert.proofs.made.without_kinds.Given as goal

abbrev pub invariant-loop-arc : goal.invariant-loop-arc
invariant-loop-arc l =
    (3 * array_vec_len l.ends + 2 * length l.arc-iterator.rest.now ≤ 2 * length l.arcs)
    × (l.arc-iterator.size ≡ 3)
