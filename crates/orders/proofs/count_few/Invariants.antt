-- `orders::count_few`: what was counted, and what stands from the next byte on, make the whole.
use mathlib.Core.Path.{◌≡◌}
use Prim.Native.Nat.{◌+◌, ◌≤◌}
use lib.ListN.{drop}
use Rattle.orders.specs.Order.{count}
use Rattle.orders.proofs.count_few.Given as goal

abbrev pub invariant-loop-b : goal.invariant-loop-b
invariant-loop-b l = (l.n ≤ l.b-index) × (count l.x l.bytes ≡ l.n + count l.x (drop l.b-index l.bytes))
