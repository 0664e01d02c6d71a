-- `weights::fill`: the weights of i nodes stand.
use mathlib.Core.Path.{◌≡◌}
use mathlib.Core.List.{◌++◌}
use Prim.Native.Nat.{suc}
use lib.ListN.{drop}
use Rattle.chance.specs.Chance.{weights}
use Rattle.weights.proofs.fill.Given as goal

abbrev pub invariant-loop-i : goal.invariant-loop-i
invariant-loop-i l = l.out ≡ weights l.p l.i ++ drop (suc l.i) l.initial.out
