-- `members::put_nodes`: the members among the nodes before v are in both tables.
use Rattle.members.proofs.Tables.{none_yet, fits, stepped, nodes-done}
use mathlib.Core.Path.{refl}
use native.Mathlib.Omega.{arith}
use lib.ListN.{length-set}
use Rattle.members.proofs.put_nodes.Goals as goal

pub loop-v-init : goal.loop-v-init
loop-v-init c = let a = c.args in (none_yet 1 a.nodes.now a.table1.now c.requires.room.0 c.requires.few.1, none_yet 2 a.nodes.now a.table2.now c.requires.room.1 c.requires.few.2, refl, refl)

pub offset_bounds-table1-n1 : goal.offset_bounds-table1-n1
offset_bounds-table1-n1 c = omega (arith, fits c.loop-v.invariant.0)

pub bounds-table1-n1 : goal.bounds-table1-n1
bounds-table1-n1 c = omega (arith, fits c.loop-v.invariant.0)

pub offset_bounds-table2-n2 : goal.offset_bounds-table2-n2
offset_bounds-table2-n2 c = omega (arith, fits c.loop-v.invariant.1)

pub bounds-table2-n2 : goal.bounds-table2-n2
bounds-table2-n2 c = omega (arith, fits c.loop-v.invariant.1)

pub overflow_add-n1 : goal.overflow_add-n1
overflow_add-n1 c = omega (arith, fits c.loop-v.invariant.0)

pub overflow_add-n2 : goal.overflow_add-n2
overflow_add-n2 c = omega (arith, fits c.loop-v.invariant.1)

pub loop-v-preserved : goal.loop-v-preserved
loop-v-preserved c = let l = c.loop-v.invariant in (stepped l.0 (omega arith) c.same.result c.same.ensures.0, stepped l.1 (omega arith) c.same-in-loop-v.result c.same-in-loop-v.ensures.0, rw length-set l.2, rw length-set l.3)

pub returns : goal.returns
returns c = let l = c.loop-v.invariant in record { long1 = l.2; long2 = l.3; one = nodes-done l.0 (omega arith); two = nodes-done l.1 (omega arith) }
