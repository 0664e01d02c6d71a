-- `convert::places`: the table has the nodes before v.
use mathlib.Core.Path.{◌≡◌}
use lib.ListN.{length}
use Rattle.limits.specs.Limits.{max_nodes}
use Rattle.convert.proofs.Scans.{TableTo}
use Rattle.convert.proofs.places.Given as goal

abbrev pub invariant-loop-v : goal.invariant-loop-v
invariant-loop-v l = (length l.place ≡ max_nodes) × TableTo l.v l.nodes l.place
