-- What is carried stays below 10^10.
use Prim.Native.Nat.{◌≤◌}
use Rattle.test_exact.proofs.mix.Given as goal

abbrev pub invariant-loop-word : goal.invariant-loop-word
invariant-loop-word l = l.carry ≤ 10000000000
