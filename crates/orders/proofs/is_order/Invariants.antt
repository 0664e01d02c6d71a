-- `orders::is_order`: the members before v stand once, so those from v on decide; of the scan for v, what was hit, and what stands from part k on, make the whole.
use mathlib.Core.Path.{◌≡◌}
use mathlib.Core.Bool.{true}
use Prim.Native.Nat.{◌≤◌}
use Rattle.orders.specs.Order.{is_order_of}
use Rattle.orders.proofs.Scans.{Scan, stand_from}
use Rattle.orders.proofs.is_order.Given as goal

abbrev pub invariant-loop-k : goal.invariant-loop-k
invariant-loop-k l = record {
  fits : l.fits ≡ true;
  at_most_once : l.hits ≤ 2;
  scan : Scan l.class l.v l.k l.hits l.nodes l.order l.places;
}

abbrev pub invariant-members : goal.invariant-members
invariant-members l = (l.fits ≡ true) × (is_order_of l.class l.nodes l.order ≡ stand_from l.class l.order l.nodes l.v)
