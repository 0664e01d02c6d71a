-- At most one is wrong a turn.
use Prim.Native.Nat.{◌≤◌}
use Rattle.test_survival.proofs.wrong_rates.Given as goal

abbrev pub invariant-loop-j : goal.invariant-loop-j
invariant-loop-j l = l.wrong ≤ l.j
