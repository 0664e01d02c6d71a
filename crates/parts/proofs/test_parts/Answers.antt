-- `parts::test_parts`: the node bytes, the pass over the arcs, then the sizes of both.
use mathlib.Core.Path.{sym, ap, ◌∙◌}
use native.Mathlib.Omega.{arith}
use Rattle.parts.specs.Steps.{counted}
use Rattle.parts.proofs.Arcs.{code-refused, code-few, code-last}
use Rattle.parts.proofs.test_parts.Goals as goal

pub overflow_add-n1 : goal.overflow_add-n1
overflow_add-n1 c = omega (arith, code-few c.args.nodes.now c.args.arcs.now (sym c.bad_classes.ensures ∙ c.if-bad_classes.false) _ c.count_arcs.ensures c.in-Ok.of_arcs.n1 c.in-Ok.of_arcs.n2 (ap counted c.in-Ok.is), c.count.ensures.1)

pub overflow_add-n2 : goal.overflow_add-n2
overflow_add-n2 c = omega (arith, code-few c.args.nodes.now c.args.arcs.now (sym c.bad_classes.ensures ∙ c.if-bad_classes.false) _ c.count_arcs.ensures c.in-Ok.of_arcs.n1 c.in-Ok.of_arcs.n2 (ap counted c.in-Ok.is), c.count-in-Ok.ensures.1)

pub returns-then-n1-n2 : goal.returns-then-n1-n2
returns-then-n1-n2 c =
    let last = code-last c.args.nodes.now c.args.arcs.now (sym c.bad_classes.ensures ∙ c.if-bad_classes.false) _ c.count_arcs.ensures c.in-Ok.of_arcs.n1 c.in-Ok.of_arcs.n2 (ap counted c.in-Ok.is) _ _ c.count.ensures.0 c.count-in-Ok.ensures.0 in
    rw c.if-n1-n2.true at last

pub returns-in-Err : goal.returns-in-Err
returns-in-Err c = code-refused c.args.nodes.now c.args.arcs.now (sym c.bad_classes.ensures ∙ c.if-bad_classes.false) _ c.count_arcs.ensures _ (ap counted c.in-Err.is)

pub returns-else-n1-n2 : goal.returns-else-n1-n2
returns-else-n1-n2 c =
    let last = code-last c.args.nodes.now c.args.arcs.now (sym c.bad_classes.ensures ∙ c.if-bad_classes.false) _ c.count_arcs.ensures c.in-Ok.of_arcs.n1 c.in-Ok.of_arcs.n2 (ap counted c.in-Ok.is) _ _ c.count.ensures.0 c.count-in-Ok.ensures.0 in
    rw c.if-n1-n2.false at last
