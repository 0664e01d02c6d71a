-- `sweep::sweep` goes down from x to x: what is collected, and what lies below x, hold where the network does.
use mathlib.Core.Path.{◌≡◌}
use Prim.Native.Nat.{◌+◌}
use lib.ListN.{length}
use Rattle.limits.specs.Limits.{max_position}
use Rattle.buffer.specs.Steps.{record_in}
use Rattle.relax.specs.Steps.{Graph}
use Rattle.sweep.specs.Steps.{Sweepable}
use Rattle.sweep.proofs.Turns.{Sweeping}
use Rattle.sweep.proofs.sweep.Given as goal

abbrev pub invariant-loop-next : goal.invariant-loop-next
invariant-loop-next l = ((f : Graph) → Sweepable f l.net l.order l.n2 l.begin → Sweeping f l.net.capacities.now l.net.links.now l.order l.label l.stack l.wait (record_in l.found.bytes) l.x.0 l.node l.last.0) × (length l.wait ≡ max_position + 1)

abbrev pub decreases-loop-next : goal.decreases-loop-next
decreases-loop-next l = l.x.0
