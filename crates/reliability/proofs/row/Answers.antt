-- `reliability::row` adds one term after another.
use Prim.Native.Nat.{◌+◌, ◌*◌, ◌≤◌}
use native.Mathlib.Omega.{arith}
use lib.ListN.{get_or}
use Rattle.laws.specs.Sums.{part-fits}
use Rattle.reliability.proofs.row.Goals as goal

pub overflow_add-s-in-loop-i : goal.overflow_add-s-in-loop-i
overflow_add-s-in-loop-i c =
    let a = c.args in
    let l = c.loop-i in
    let fits : l.s + get_or a.v.now l.i 0 * get_or a.cells.now (a.at + l.i) 0 ≤ 1000000000000 =
    rw l.invariant (part-fits a.n 1000000000000 l.i (λ i. get_or a.v.now i 0 * get_or a.cells.now (a.at + i) 0) c.requires.2 (omega arith)) in
    omega arith
