-- `convert::test_old` in stages: the trailer, nodes and arcs, the rounds.
use mathlib.Core.Path.{ap}
use Rattle.answer.specs.Outcome.{done}
use Rattle.convert.proofs.Stages.{code-refused, code-few, code-last}
use Rattle.convert.proofs.test_old.Goals as goal

pub returns-in-Err-test_old_parts : goal.returns-in-Err-test_old_parts
returns-in-Err-test_old_parts c =
    code-refused c.args.old.now c.read_trailer-t.result _ _ _ _ _ _ c.read_trailer-t.ensures c.node_bytes-nodes.ensures c.arc_bytes.ensures c.count-n1.ensures.0 c.count-n2.ensures.0 c.test_trailer.ensures (ap done c.in_default.is) c.test_old_parts.ensures _ (ap done c.in-Err-test_old_parts.is)

pub bad_orders-requires-clause-few : goal.bad_orders-requires-clause-few
bad_orders-requires-clause-few c =
    code-few c.args.old.now c.read_trailer-t.result _ _ _ _ _ _ c.read_trailer-t.ensures c.node_bytes-nodes.ensures c.arc_bytes.ensures c.count-n1.ensures.0 c.count-n2.ensures.0 c.test_trailer.ensures (ap done c.in_default.is) c.test_old_parts.ensures (ap done c.in_default-test_old_parts.is)

pub returns-then-bad_orders : goal.returns-then-bad_orders
returns-then-bad_orders c =
    let last = code-last c.args.old.now c.read_trailer-t.result _ _ _ _ _ _ c.read_trailer-t.ensures c.node_bytes-nodes.ensures c.arc_bytes.ensures c.count-n1.ensures.0 c.count-n2.ensures.0 c.test_trailer.ensures (ap done c.in_default.is) c.test_old_parts.ensures (ap done c.in_default-test_old_parts.is) _ _ c.round_at.ensures.bytes c.bad_orders.ensures c.if-t-dm.false in
    rw c.if-bad_orders.true at last

pub returns : goal.returns
returns c =
    let last = code-last c.args.old.now c.read_trailer-t.result _ _ _ _ _ _ c.read_trailer-t.ensures c.node_bytes-nodes.ensures c.arc_bytes.ensures c.count-n1.ensures.0 c.count-n2.ensures.0 c.test_trailer.ensures (ap done c.in_default.is) c.test_old_parts.ensures (ap done c.in_default-test_old_parts.is) _ _ c.round_at.ensures.bytes c.bad_orders.ensures c.if-t-dm.false in
    rw c.if-bad_orders.false at last
