-- `parts::bad_orders`: the rounds before r are good, so those from r on decide.
use mathlib.Core.Path.{◌∙◌}
use Prim.Native.Nat.{◌+◌}
use Rattle.parts.proofs.Rounds.{good-turn}
use Rattle.parts.proofs.bad_orders.Invariants.{good}
use Rattle.parts.proofs.bad_orders.Goals as goal

pub returns-then-not-are_orders : goal.returns-then-not-are_orders
returns-then-not-are_orders c = let a = c.args in
    let t = good a.classes1.now a.classes2.now a.n1 in
    rw (good-turn t a.rounds (a.n1 + a.n2) a.bytes.now c.loop-r.r _ _ c.loop-r.invariant c.loop-r-test.true c.part.ensures.bytes c.are_orders.ensures, c.if-not-are_orders.true)

pub loop-r-preserved : goal.loop-r-preserved
loop-r-preserved c = let a = c.args in
    let t = good a.classes1.now a.classes2.now a.n1 in
    good-turn t a.rounds (a.n1 + a.n2) a.bytes.now c.loop-r.r _ _ c.loop-r.invariant c.loop-r-test.true c.part.ensures.bytes c.are_orders.ensures ∙ rw c.if-not-are_orders.false
