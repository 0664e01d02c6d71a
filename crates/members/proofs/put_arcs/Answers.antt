-- `members::put_arcs`: the members among all nodes and the arcs before place i are in both tables; while one is missing, arcs are left.
use Rattle.members.proofs.Tables.{arcs-begin, fits, arcs-left, arc-stepped, all_in, most}
use mathlib.Core.Path.{refl}
use native.Mathlib.Omega.{arith}
use lib.ListN.{length-set}
use Rattle.members.proofs.put_arcs.Goals as goal

pub loop-n1-init : goal.loop-n1-init
loop-n1-init c = (arcs-begin c.requires.one, arcs-begin c.requires.two, refl, refl)

pub overflow_add-n1 : goal.overflow_add-n1
overflow_add-n1 c = omega (arith, fits c.loop-n1.invariant.0, fits c.loop-n1.invariant.1)

pub overflow_mul-class : goal.overflow_mul-class
overflow_mul-class c = let a = c.args in let l = c.loop-n1.invariant in let left = arcs-left a.nodes.now a.arcs.now l.0 l.1 (omega (arith, c.requires.total)) in omega (arith, c.requires.few)

pub overflow_add-class : goal.overflow_add-class
overflow_add-class c = let a = c.args in let l = c.loop-n1.invariant in let left = arcs-left a.nodes.now a.arcs.now l.0 l.1 (omega (arith, c.requires.total)) in omega (arith, c.requires.few)

pub bounds-arcs-i : goal.bounds-arcs-i
bounds-arcs-i c = let a = c.args in let l = c.loop-n1.invariant in let left = arcs-left a.nodes.now a.arcs.now l.0 l.1 (omega (arith, c.requires.total)) in omega arith

pub overflow_add-element : goal.overflow_add-element
overflow_add-element c = let a = c.args in let l = c.loop-n1.invariant in let left = arcs-left a.nodes.now a.arcs.now l.0 l.1 (omega (arith, c.requires.total)) in omega (arith, c.requires.few)

pub overflow_cast-element : goal.overflow_cast-element
overflow_cast-element c = let a = c.args in let l = c.loop-n1.invariant in let left = arcs-left a.nodes.now a.arcs.now l.0 l.1 (omega (arith, c.requires.total)) in omega (arith, c.requires.few)

pub bounds-table1-n1 : goal.bounds-table1-n1
bounds-table1-n1 c = omega (arith, fits c.loop-n1.invariant.0)

pub bounds-table2-n2 : goal.bounds-table2-n2
bounds-table2-n2 c = omega (arith, fits c.loop-n1.invariant.1)

pub overflow_add-i : goal.overflow_add-i
overflow_add-i c = let a = c.args in let l = c.loop-n1.invariant in let left = arcs-left a.nodes.now a.arcs.now l.0 l.1 (omega (arith, c.requires.total)) in omega (arith, c.requires.few)

pub loop-n1-smaller : goal.loop-n1-smaller
loop-n1-smaller c = let a = c.args in let l = c.loop-n1.invariant in let left = arcs-left a.nodes.now a.arcs.now l.0 l.1 (omega (arith, c.requires.total)) in omega arith

pub loop-n1-preserved : goal.loop-n1-preserved
loop-n1-preserved c = let a = c.args in let l = c.loop-n1.invariant in let left = arcs-left a.nodes.now a.arcs.now l.0 l.1 (omega (arith, c.requires.total)) in (arc-stepped a.nodes.now a.arcs.now l.0 left c.same.result c.same.ensures.0, arc-stepped a.nodes.now a.arcs.now l.1 left c.same-in-loop-n1.result c.same-in-loop-n1.ensures.0, rw length-set l.2, rw length-set l.3)

pub returns : goal.returns
returns c = let l = c.loop-n1.invariant in let t = c.requires.total in record { long1 = l.2; long2 = l.3; one = all_in l.0 (omega (arith, most l.1)); two = all_in l.1 (omega (arith, most l.0)) }
