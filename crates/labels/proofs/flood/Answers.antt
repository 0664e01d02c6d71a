-- `labels::flood` goes from level to level until none waits above the source's label.
use mathlib.Core.Path.{subst}
use Prim.Native.Nat.{◌-◌}
use native.Mathlib.Nat.{pos_of_ne-zero}
use native.Mathlib.Omega.{arith}
use lib.ListN.{get_or}
use Rattle.relax.specs.Steps.{NoneWaits, NextLevel}
use Rattle.labels.proofs.Drains.{flooded, settle, leveled, label-most}
use Rattle.labels.proofs.flood.Goals as goal

pub next_level-requires : goal.next_level-requires
next_level-requires c =
    let b = c.requires.1 in
    let w = c.drain.ensures.work c.requires.0 (leveled b (c.loop-next.invariant c.requires.0 b)) in
    omega (arith, w.high, w.laid.small2, w.long-wait, label-most w c.args.begin.source (omega (arith, b.source, w.laid.s-in)))

pub returns-in_default-clause-settled : goal.returns-in_default-clause-settled
returns-in_default-clause-settled c = λ f b.
    let l = c.loop-next in
    let none = subst (λ s. NoneWaits c.drain.new.wait l.level.0 (get_or c.drain.new.label s 0)) b.source c.in_default.ensures in
    settle (c.drain.ensures.work f (leveled b (l.invariant f b))) none (l.invariant f b).begun

pub loop-next-preserved : goal.loop-next-preserved
loop-next-preserved c = λ f b.
    let l = c.loop-next in
    let m = c.in-Some.next.0 in
    let w = c.drain.new.wait in
    let next = subst (λ s. NextLevel w l.level.0 (get_or c.drain.new.label s 0) m) b.source c.in-Some.ensures in
    flooded (l.invariant f b) (c.drain.ensures.work f (leveled b (l.invariant f b))) c.drain.ensures.long next (get_or w m 0 - 1) (omega (arith, pos_of_ne-zero c.in-Some.ensures.waiting))
