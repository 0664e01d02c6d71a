-- `relax::spread` follows the chain of the node at work, in every network that the slices hold; an arc raises nothing or raises a label.
use mathlib.Core.Path.{refl, sym, ◌∙◌}
use Prim.Native.Nat.{◌+◌, ◌-◌, ◌*◌, ◌/◌}
use native.Mathlib.Omega.{arith}
use lib.ListN.{length, get_or}
use borrow.Author.Tests.{leb-true, leb-false}
use Rattle.relax.proofs.Spreads.{turn-at, place, at-node, start_is, falls, node_in, mark-in, passed, again, space, grown-one, idle}
use Rattle.relax.proofs.spread.Goals as goal

pub offset_bounds-links-at : goal.offset_bounds-links-at
offset_bounds-links-at c = let r = c.requires.1 in omega (arith, r.node, r.work.laid.few)

pub bounds-links-at : goal.bounds-links-at
bounds-links-at c = let r = c.requires.1 in omega (arith, r.node, r.lent.long, r.lent.chains.long)

pub loop-i-init : goal.loop-i-init
loop-i-init c = λ f r. record { work = r.work; kept = record { long = refl; long-stack = refl; long-wait = refl; less = omega arith }; lent = r.lent; room = r.room }

pub overflow_mul-p : goal.overflow_mul-p
overflow_mul-p c = omega (arith, place (c.loop-i.invariant c.requires.0 c.requires.1) (c.loop-i.i - 1) (omega arith))

pub overflow_add-p : goal.overflow_add-p
overflow_add-p c = omega (arith, place (c.loop-i.invariant c.requires.0 c.requires.1) (c.loop-i.i - 1) (omega arith))

pub overflow_add-i : goal.overflow_add-i
overflow_add-i c = omega (arith, place (c.loop-i.invariant c.requires.0 c.requires.1) (c.loop-i.i - 1) (omega arith))

pub offset_bounds-links-p : goal.offset_bounds-links-p
offset_bounds-links-p c = omega (arith, place (c.loop-i.invariant c.requires.0 c.requires.1) (c.loop-i.i - 1) (omega arith))

pub bounds-links-p : goal.bounds-links-p
bounds-links-p c = omega (arith, place (c.loop-i.invariant c.requires.0 c.requires.1) (c.loop-i.i - 1) (omega arith))

pub offset_bounds-links-p-in-loop-i : goal.offset_bounds-links-p-in-loop-i
offset_bounds-links-p-in-loop-i c = omega (arith, place (c.loop-i.invariant c.requires.0 c.requires.1) (c.loop-i.i - 1) (omega arith))

pub bounds-links-p-in-loop-i : goal.bounds-links-p-in-loop-i
bounds-links-p-in-loop-i c = omega (arith, place (c.loop-i.invariant c.requires.0 c.requires.1) (c.loop-i.i - 1) (omega arith))

pub overflow_add-size : goal.overflow_add-size
overflow_add-size c = let s = c.loop-i.invariant c.requires.0 c.requires.1 in omega (arith, at-node s (c.loop-i.i - 1) (omega arith) _ (start_is s (c.loop-i.i - 1) (omega arith)))

pub loop-i-smaller-then-at_least : goal.loop-i-smaller-then-at_least
loop-i-smaller-then-at_least c = falls (turn-at (c.loop-i.invariant c.requires.0 c.requires.1) (omega arith) c.min-c.ensures)

pub loop-i-preserved-then-at_least : goal.loop-i-preserved-then-at_least
loop-i-preserved-then-at_least c = λ f r. passed (turn-at (c.loop-i.invariant f r) (omega arith) c.min-c.ensures) (leb-true _ _ (sym c.at_least.ensures ∙ c.if-at_least.true))

pub bounds-label-u-in-loop-i : goal.bounds-label-u-in-loop-i
bounds-label-u-in-loop-i c = omega (arith, node_in (turn-at (c.loop-i.invariant c.requires.0 c.requires.1) (omega arith) c.min-c.ensures))

pub offset_bounds-stack-top : goal.offset_bounds-stack-top
offset_bounds-stack-top c = omega (arith, space (turn-at (c.loop-i.invariant c.requires.0 c.requires.1) (omega arith) c.min-c.ensures) (leb-false _ _ (sym c.at_least.ensures ∙ c.if-at_least.false)))

pub bounds-stack-top : goal.bounds-stack-top
bounds-stack-top c = omega (arith, space (turn-at (c.loop-i.invariant c.requires.0 c.requires.1) (omega arith) c.min-c.ensures) (leb-false _ _ (sym c.at_least.ensures ∙ c.if-at_least.false)))

pub overflow_add-wait : goal.overflow_add-wait
overflow_add-wait c = omega (arith, node_in (turn-at (c.loop-i.invariant c.requires.0 c.requires.1) (omega arith) c.min-c.ensures))

pub offset_bounds-wait-mark_at : goal.offset_bounds-wait-mark_at
offset_bounds-wait-mark_at c = omega (arith, mark-in (turn-at (c.loop-i.invariant c.requires.0 c.requires.1) (omega arith) c.min-c.ensures) (leb-false _ _ (sym c.at_least.ensures ∙ c.if-at_least.false)), c.mark_at.ensures)

pub bounds-wait-mark_at : goal.bounds-wait-mark_at
bounds-wait-mark_at c = omega (arith, mark-in (turn-at (c.loop-i.invariant c.requires.0 c.requires.1) (omega arith) c.min-c.ensures) (leb-false _ _ (sym c.at_least.ensures ∙ c.if-at_least.false)), c.mark_at.ensures)

pub overflow_add-top : goal.overflow_add-top
overflow_add-top c =
    let a = c.args in
    let u = get_or a.net.links.now (length a.net.capacities.now / 2 + 2 * (c.loop-i.i - 1)) 0 in
    omega (arith, space (turn-at (c.loop-i.invariant c.requires.0 c.requires.1) (omega arith) c.min-c.ensures) (leb-false _ _ (sym c.at_least.ensures ∙ c.if-at_least.false)), c.growth-top.ensures, grown-one a.at.level.0 c.min-c.result.0 a.at.x.0 (get_or a.net.capacities.now u 0))

pub loop-i-smaller : goal.loop-i-smaller
loop-i-smaller c = falls (turn-at (c.loop-i.invariant c.requires.0 c.requires.1) (omega arith) c.min-c.ensures)

pub loop-i-preserved : goal.loop-i-preserved
loop-i-preserved c = λ f r. again (turn-at (c.loop-i.invariant f r) (omega arith) c.min-c.ensures) (leb-false _ _ (sym c.at_least.ensures ∙ c.if-at_least.false)) c.mark_at.result c.growth-top.result c.args.at.x.0 c.mark_at.ensures c.growth-top.ensures (omega (arith, c.requires.1.some))

pub shape_of-label : goal.shape_of-label
shape_of-label c = (c.loop-i.invariant c.requires.0 c.requires.1).kept.long

pub shape_of-stack : goal.shape_of-stack
shape_of-stack c = (c.loop-i.invariant c.requires.0 c.requires.1).kept.long-stack

pub shape_of-wait : goal.shape_of-wait
shape_of-wait c = (c.loop-i.invariant c.requires.0 c.requires.1).kept.long-wait

pub returns : goal.returns
returns c = let l = c.loop-i.invariant in record { work = λ f r. idle (l f r).work (omega arith); kept = (l c.requires.0 c.requires.1).kept }
