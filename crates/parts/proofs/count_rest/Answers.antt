-- `parts::count_rest`: the entries before i are good and counted, or one of them ends the pass.
use mathlib.Core.Path.{sym, ◌∙◌}
use Prim.Native.Nat.{◌+◌, ◌*◌}
use native.Mathlib.Omega.{arith}
use lib.ListN.{get_or}
use Rattle.limits.specs.Limits.{arc_size}
use Rattle.parts.proofs.Arcs.{of-class1, of-class2, bad_all, looked-kind, looked-next, looked-end}
use Rattle.parts.proofs.count_rest.Goals as goal

pub returns-then-bad_arcs : goal.returns-then-bad_arcs
returns-then-bad_arcs c = rw (bad_all c.args.n c.args.arcs.now ∙ sym c.bad_arcs.ensures ∙ c.if-bad_arcs.true)

pub returns-then-kind-gt-MAX_KIND : goal.returns-then-kind-gt-MAX_KIND
returns-then-kind-gt-MAX_KIND c = let a = c.args in
    let l = c.loop-i in
    rw (bad_all a.n a.arcs.now ∙ sym c.bad_arcs.ensures ∙ c.if-bad_arcs.false, looked-kind a.n a.arcs.now l.invariant (omega arith) (omega arith))

pub loop-i-preserved : goal.loop-i-preserved
loop-i-preserved c = let a = c.args in
    let l = c.loop-i in
    let kind = get_or a.arcs.now (arc_size * l.i + 2) 0 in
    looked-next a.n a.arcs.now l.invariant (omega arith) _ _ (sym c.bad_arc.ensures ∙ c.if-bad_arc.false) (omega arith) (of-class1 kind (omega arith)) (of-class2 kind (omega arith))

pub returns : goal.returns
returns c = looked-end c.args.n c.args.arcs.now c.loop-i.invariant (omega arith)
