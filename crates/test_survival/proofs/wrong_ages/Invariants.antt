-- At most one is wrong a turn.
use Prim.Native.Nat.{◌≤◌}
use Rattle.test_survival.proofs.wrong_ages.Given as goal

abbrev pub invariant-loop-y : goal.invariant-loop-y
invariant-loop-y l = l.wrong ≤ l.y
