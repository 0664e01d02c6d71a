-- `labels::flood` goes from level to level until none waits above the source's label.
use Prim.Native.Nat.{◌-◌}
use Rattle.relax.specs.Steps.{Graph, Floodable}
use Rattle.labels.proofs.Drains.{Flooding}
use Rattle.labels.proofs.flood.Given as goal

abbrev pub invariant-loop-next : goal.invariant-loop-next
invariant-loop-next l = (f : Graph) → Floodable f l.net l.begin l.fn.label l.fn.stack l.fn.wait → Flooding f l.net.capacities.now l.net.links.now (l.begin.x.0 - 1) l.fn.label l.fn.stack l.fn.wait l.label l.stack l.wait l.level.0 l.node

abbrev pub decreases-loop-next : goal.decreases-loop-next
decreases-loop-next l = l.level.0
