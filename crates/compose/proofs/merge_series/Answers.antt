-- `compose::merge_series`: the record has collected all minima but those of the pairs that are left (`Merging both min`).
use mathlib.Core.Path.{sym, ap, ◌∙◌}
use mathlib.Core.Logic.{inl, inr}
use native.Mathlib.Nat.{le_of_lt}
use native.Mathlib.Omega.{arith}
use borrow.Author.Tests.{leb-true, leb-false}
use Rattle.buffer.specs.Steps.{record_in}
use Rattle.compose.proofs.Merges.{merging-none, series-puttable, series-left, series-right, series-done, pair_is, count-is}
use Rattle.compose.proofs.merge_series.Goals as goal

pub loop-i-init : goal.loop-i-init
loop-i-init c =
    let l = c.read_head-l.ensures in
    let k = count-is c.args.left.now c.requires.left_is l.2 in
    let m = count-is c.args.right.now c.requires.right_is c.read_head-m.ensures.2 in
    (merging-none c.requires l.0 l.1 (ap record_in c.empty-joined.ensures), k.0, m.0, k.1, m.1)

pub returns-else-j-m : goal.returns-else-j-m
returns-else-j-m c = series-done c.loop-i.invariant.0 (inr (omega arith))

pub put-requires : goal.put-requires
put-requires c =
    let l = c.loop-i in
    series-puttable l.invariant.0 (omega arith) (omega arith) (pair_is c.args.left.now c.requires.left_is l.i c.pair_at-p.ensures) (pair_is c.args.right.now c.requires.right_is l.j c.pair_at-q.ensures) c.min.ensures

pub loop-i-preserved-then-at_least : goal.loop-i-preserved-then-at_least
loop-i-preserved-then-at_least c =
    let l = c.loop-i in
    let p-is = pair_is c.args.left.now c.requires.left_is l.i c.pair_at-p.ensures in
    let q-is = pair_is c.args.right.now c.requires.right_is l.j c.pair_at-q.ensures in
    (series-left l.invariant.0 (omega arith) (omega arith) p-is q-is c.min.ensures c.put.ensures.front (leb-true _ _ (sym c.at_least.ensures ∙ c.if-at_least.true)), l.invariant.1, l.invariant.2, l.invariant.3, l.invariant.4)

pub loop-i-preserved : goal.loop-i-preserved
loop-i-preserved c =
    let l = c.loop-i in
    let p-is = pair_is c.args.left.now c.requires.left_is l.i c.pair_at-p.ensures in
    let q-is = pair_is c.args.right.now c.requires.right_is l.j c.pair_at-q.ensures in
    (series-right l.invariant.0 (omega arith) (omega arith) p-is q-is c.min.ensures c.put.ensures.front (le_of_lt (leb-false _ _ (sym c.at_least.ensures ∙ c.if-at_least.false))), l.invariant.1, l.invariant.2, l.invariant.3, l.invariant.4)

pub returns-after-loop-i : goal.returns-after-loop-i
returns-after-loop-i c = series-done c.loop-i.invariant.0 (inl (omega arith))
