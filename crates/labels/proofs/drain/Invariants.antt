-- `labels::drain` empties the stack, or stops when the source has the level; every push lowers the count of nodes below the level.
use Prim.Native.Nat.{◌+◌, ◌-◌, ◌*◌}
use Rattle.relax.specs.Steps.{Graph, low, Floodable}
use Rattle.labels.proofs.Drains.{Draining}
use Rattle.labels.proofs.drain.Given as goal

abbrev pub invariant-loop-top : goal.invariant-loop-top
invariant-loop-top l = (f : Graph) → Floodable f l.net l.at l.fn.label l.fn.stack l.fn.wait → Draining f l.net.capacities.now l.net.links.now (l.at.x.0 - 1) l.at.level.0 l.fn.label l.fn.stack l.fn.wait l.label l.stack l.wait l.top

abbrev pub decreases-loop-top : goal.decreases-loop-top
decreases-loop-top l = l.top + 2 * low l.at.level.0 l.label
