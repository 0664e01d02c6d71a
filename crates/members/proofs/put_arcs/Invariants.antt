-- `members::put_arcs`: the members among all nodes and the arcs before place i are in both tables; while one is missing, arcs are left.
use Rattle.limits.specs.Limits.{arc_count}
use Rattle.members.specs.Steps.{elements_in, Tabled}
use mathlib.Core.Path.{◌≡◌}
use Prim.Native.Nat.{◌+◌, ◌-◌}
use lib.ListN.{length}
use Rattle.members.proofs.put_arcs.Given as goal

abbrev pub invariant-loop-n1 : goal.invariant-loop-n1
invariant-loop-n1 l = Tabled 1 (elements_in l.nodes l.arcs) l.table1 l.n1 (length l.nodes + l.i) × Tabled 2 (elements_in l.nodes l.arcs) l.table2 l.n2 (length l.nodes + l.i) × (length l.table1 ≡ length l.initial.table1) × (length l.table2 ≡ length l.initial.table2)

abbrev pub decreases-loop-n1 : goal.decreases-loop-n1
decreases-loop-n1 l = arc_count l.arcs - l.i
