-- `members::put_nodes`: the members among the nodes before v are in both tables.
use Rattle.members.specs.Steps.{Tabled}
use mathlib.Core.Path.{◌≡◌}
use lib.ListN.{length}
use Rattle.members.proofs.put_nodes.Given as goal

abbrev pub invariant-loop-v : goal.invariant-loop-v
invariant-loop-v l = Tabled 1 l.nodes l.table1 l.n1 l.v × Tabled 2 l.nodes l.table2 l.n2 l.v × (length l.table1 ≡ length l.initial.table1) × (length l.table2 ≡ length l.initial.table2)
