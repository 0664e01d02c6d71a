use mathlib.Core.Path.{◌≡◌}
use Prim.Native.Nat.{◌+◌, ◌-◌}
use native.Mathlib.Omega.{arith}
use lib.ListN.{get_or, take}
use Rattle.chance.specs.Chance.{spread}
use Rattle.weights.proofs.Steps.{turn, value, finish}
use Rattle.weights.proofs.step.Goals as goal

pub overflow_add-out : goal.overflow_add-out
overflow_add-out c =
    let value_l : get_or c.loop-l.out c.loop-l.l 0 - c.share-s.result + c.loop-l.carry ≡ get_or (spread c.args.p 0 (take c.args.m c.args.out.now)) c.loop-l.l 0 = value c.args.p c.args.m c.args.out.now c.requires.1 c.loop-l.invariant c.loop-l-test.true c.share-s.result c.share-s.ensures.0 in
    omega (arith, value_l, c.requires.2 c.loop-l.l)

pub loop-l-preserved : goal.loop-l-preserved
loop-l-preserved c = turn c.args.p c.args.m c.args.out.now c.requires.1 c.loop-l.invariant c.loop-l-test.true c.share-s.result c.share-s.ensures.0

pub returns : goal.returns
returns c = finish c.args.p c.args.m c.args.out.now c.requires.1 c.loop-l.invariant c.loop-l-test.false
