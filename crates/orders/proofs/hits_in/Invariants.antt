-- `orders::hits_in`: what was counted, and what stands from the next place on, make what stands in the part.
use mathlib.Core.Path.{◌≡◌}
use Prim.Native.Nat.{◌+◌, ◌*◌, ◌≤◌}
use lib.ListN.{drop}
use Rattle.orders.specs.Order.{count}
use Rattle.orders.proofs.hits_in.Given as goal

abbrev pub invariant-loop-place : goal.invariant-loop-place
invariant-loop-place l = (l.hits ≤ 2 * l.place-index) × (2 * count l.x l.place-items ≡ l.hits + 2 * count l.x (drop l.place-index l.place-items))
