-- `compose::merge_parallel`: the record has collected all pairs but those that are left (`Merging either max`).
use mathlib.Core.Path.{◌≡◌, sym, ap, ◌∙◌}
use Prim.Native.Nat.{◌+◌, ◌-◌}
use native.Mathlib.Omega.{arith}
use borrow.Author.Tests.{leb-true, leb-false}
use Rattle.buffer.specs.Steps.{record_in}
use Rattle.compose.proofs.Merges.{merging-none, left-puttable, right-puttable, parallel-left, parallel-right, parallel-done, pair_is, count-is}
use Rattle.compose.proofs.merge_parallel.Goals as goal
use Rattle.compose.proofs.merge_parallel.Goals.{then-at_least, else-at_least}

pub loop-n-init : goal.loop-n-init
loop-n-init c =
    let l = c.read_head-l.ensures in
    let k = count-is c.args.left.now c.requires.left_is l.2 in
    let m = count-is c.args.right.now c.requires.right_is c.read_head.ensures.2 in
    (merging-none c.requires l.0 l.1 (ap record_in c.empty-joined.ensures), omega arith, omega arith)

pub put-requires : goal.put-requires
put-requires c =
    let l = c.loop-n in
    left-puttable l.invariant.0 (omega arith) (pair_is c.args.left.now c.requires.left_is l.i c.pair_at-p.ensures) (pair_is c.args.right.now c.requires.right_is l.j c.pair_at-q.ensures) (leb-true _ _ (sym c.at_least.ensures ∙ c.if-at_least.true))

pub put-requires-else-at_least : goal.put-requires-else-at_least
put-requires-else-at_least c =
    let l = c.loop-n in
    right-puttable l.invariant.0 (omega arith) (pair_is c.args.left.now c.requires.left_is l.i c.pair_at-p.ensures) (pair_is c.args.right.now c.requires.right_is l.j c.pair_at-q.ensures) (leb-false _ _ (sym c.at_least.ensures ∙ c.if-at_least.false))

pub loop-n-preserved : goal.loop-n-preserved
loop-n-preserved c =
    let l = c.loop-n in
    let p-is = pair_is c.args.left.now c.requires.left_is l.i c.pair_at-p.ensures in
    let q-is = pair_is c.args.right.now c.requires.right_is l.j c.pair_at-q.ensures in
    elim c.if-at_least.branch [
      | then-at_least w ↦
          rw (w.joined-is, w.i-is, w.j-is)
          (parallel-left l.invariant.0 (omega arith) p-is q-is (leb-true _ _ (sym c.at_least.ensures ∙ w.if-at_least.true)) w.put.ensures.front, omega arith, l.invariant.2)
      | else-at_least w ↦
          rw (w.joined-is, w.i-is, w.j-is)
          (parallel-right l.invariant.0 (omega arith) p-is q-is (leb-false _ _ (sym c.at_least.ensures ∙ w.if-at_least.false)) w.put-else-at_least.ensures.front, omega arith, l.invariant.2)
    ]

pub returns : goal.returns
returns c = parallel-done c.loop-n.invariant.0 (omega arith)
