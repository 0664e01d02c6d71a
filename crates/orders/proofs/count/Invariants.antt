-- `orders::count`: what was counted, and what stands from the next part on, make the whole.
use mathlib.Core.Path.{◌≡◌}
use Prim.Native.Nat.{◌+◌}
use lib.ListN.{drop}
use Rattle.orders.specs.Order.{count}
use Rattle.orders.proofs.count.Given as goal

abbrev pub invariant-loop-at : goal.invariant-loop-at
invariant-loop-at l = count l.x l.bytes ≡ l.n + count l.x (drop l.at l.bytes)
