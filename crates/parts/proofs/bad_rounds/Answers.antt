-- `parts::bad_rounds`: a class of n members, named by place, is n elements of one class.
use mathlib.Core.Path.{ap, ap₂, ◌∙◌}
use mathlib.Core.Bool.{not, ◌&&◌}
use Prim.Native.Nat.{◌+◌}
use lib.ListN.{take, drop}
use Rattle.orders.proofs.Orders.{first-size, first-order}
use Rattle.parts.specs.Study.{pieces}
use Rattle.parts.proofs.Rounds.{all_same}
use Rattle.parts.proofs.bad_rounds.Goals as goal

pub bad_orders-requires-clause-sizes : goal.bad_orders-requires-clause-sizes
bad_orders-requires-clause-sizes c = (first-size 1 c.args.n1 c.requires.0, first-size 2 c.args.n2 c.requires.1)

pub returns : goal.returns
returns c = let a = c.args in
    let h = c.requires in
    c.bad_orders.ensures
    ∙ ap not (all_same _ _ (pieces a.rounds (a.n1 + a.n2) a.bytes.now) (λ x. ap₂ ◌&&◌ (first-order 1 a.n1 h.0 (take a.n1 x)) (first-order 2 a.n2 h.1 (drop a.n1 x))))
