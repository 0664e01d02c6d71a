-- `orders::count`: what was counted, and what stands from the next part on, make the whole.
use Prim.Native.Nat.{ℕ, ◌+◌}
use native.Mathlib.Omega.{arith}
use lib.ListN.{length-take}
use Rattle.orders.proofs.Scans.{part_counted, count_most, count_past}
use Rattle.orders.proofs.count.Goals as goal

pub count_few-requires : goal.count_few-requires
count_few-requires c = rw c.part.ensures.bytes (omega (arith, length-take {A = ℕ}))

pub overflow_add-n : goal.overflow_add-n
overflow_add-n c = let a = c.args in
    let counted = part_counted a.x c.loop-at.n _ c.loop-at.at 255 a.bytes.now _ c.loop-at.invariant c.count_few.ensures c.part.ensures.bytes in
    omega (arith, counted, count_most a.x a.bytes.now)

pub loop-at-preserved : goal.loop-at-preserved
loop-at-preserved c = part_counted c.args.x c.loop-at.n _ c.loop-at.at 255 c.args.bytes.now _ c.loop-at.invariant c.count_few.ensures c.part.ensures.bytes

pub returns : goal.returns
returns c = let a = c.args in omega (arith, c.loop-at.invariant, count_past a.x a.bytes.now c.loop-at.at c.loop-at-test.false, count_most a.x a.bytes.now)

pub returns-2 : goal.returns-2
returns-2 c = let a = c.args in
    let counted = part_counted a.x c.loop-at.n _ c.loop-at.at 255 a.bytes.now _ c.loop-at.invariant c.count_few.ensures c.part.ensures.bytes in
    omega (arith, counted, count_past a.x a.bytes.now (c.loop-at.at + 255) (omega arith), count_most a.x a.bytes.now)
