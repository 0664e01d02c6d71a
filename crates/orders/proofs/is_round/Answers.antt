-- `orders::is_round`: a class of n members, named by place, is n elements of one class.
use mathlib.Core.Path.{ap₂, ◌∙◌}
use mathlib.Core.Bool.{◌&&◌}
use lib.ListN.{take, drop}
use Rattle.orders.proofs.Orders.{first-size, first-order}
use Rattle.orders.proofs.is_round.Goals as goal

pub are_orders-requires-clause-sizes : goal.are_orders-requires-clause-sizes
are_orders-requires-clause-sizes c = (first-size 1 c.args.n1 c.requires.0, first-size 2 c.args.n2 c.requires.1)

pub returns : goal.returns
returns c = let a = c.args in
    let h = c.requires in
    c.are_orders.ensures ∙ ap₂ ◌&&◌ (first-order 1 a.n1 h.0 (take a.n1 a.round.now)) (first-order 2 a.n2 h.1 (drop a.n1 a.round.now))
