-- `relax::spread` follows the chain of the node at work, in every network that the slices hold; an arc raises nothing or raises a label.
use Prim.Native.Nat.{◌-◌}
use Rattle.relax.specs.Steps.{Graph, Ready}
use Rattle.relax.proofs.Spreads.{Spreading}
use Rattle.relax.proofs.spread.Given as goal

abbrev pub invariant-loop-i : goal.invariant-loop-i
invariant-loop-i l = (f : Graph) → Ready f l.net l.at l.initial.label l.initial.stack l.initial.wait → Spreading f l.net.capacities.now l.net.links.now (l.at.x.0 - 1) l.at.level.0 l.initial.label l.initial.stack l.initial.wait l.at.top l.label l.stack l.wait l.top l.at.node l.i

abbrev pub decreases-loop-i : goal.decreases-loop-i
decreases-loop-i l = l.i
