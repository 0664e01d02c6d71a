-- `members::element_orders`: what the nodes leave in the tables the arcs go on with, and the orders are looked up in them.
use mathlib.Core.Path.{◌∙◌}
use native.Mathlib.Omega.{arith}
use Rattle.members.proofs.Tables.{nodes-room, arcs-next, order_is}
use Rattle.members.proofs.element_orders.Goals as goal

pub put_nodes-begin-requires : goal.put_nodes-begin-requires
put_nodes-begin-requires c = let n = c.args.nodes.now in let b = c.args.arcs.now in record { few = (c.requires.few.0, omega arith, omega arith); room = (nodes-room n b c.requires.orders.0, nodes-room n b c.requires.orders.1) }

pub put_arcs-requires : goal.put_arcs-requires
put_arcs-requires c = let n = c.args.nodes.now in let b = c.args.arcs.now in record { few = c.requires.few; total = omega (arith, c.requires.orders.0.long, c.requires.orders.1.long); one = arcs-next n b c.requires.orders.0 c.put_nodes-begin.ensures.long1 c.put_nodes-begin.ensures.one; two = arcs-next n b c.requires.orders.1 c.put_nodes-begin.ensures.long2 c.put_nodes-begin.ensures.two }

pub look_up-requires : goal.look_up-requires
look_up-requires c = let q = c.requires.orders.0 in let long = c.put_arcs.ensures.long1 ∙ c.put_nodes-begin.ensures.long1 in record { few = (omega (arith, long), c.requires.room.0); small = λ m h. omega (arith, long, q.small m h, q.few) }

pub look_up-requires-2 : goal.look_up-requires-2
look_up-requires-2 c = let q = c.requires.orders.1 in let long = c.put_arcs.ensures.long2 ∙ c.put_nodes-begin.ensures.long2 in record { few = (omega (arith, long), c.requires.room.1); small = λ m h. omega (arith, long, q.small m h, q.few) }

pub returns : goal.returns
returns c = let a = c.put_arcs in let u = c.look_up in let v = c.look_up-2 in record { long1 = u.ensures.long; long2 = v.ensures.long; one = order_is a.new.table1 u.new.out c.requires.orders.0 (omega (arith, u.ensures.long, c.requires.room)) a.ensures.one u.ensures.named; two = order_is a.new.table2 v.new.out c.requires.orders.1 (omega (arith, v.ensures.long, c.requires.room)) a.ensures.two v.ensures.named }
