-- `reliability::total` adds one row after another.
use Prim.Native.Nat.{◌+◌, ◌*◌, ◌≤◌}
use native.Mathlib.Omega.{arith}
use lib.ListN.{get_or}
use Rattle.laws.specs.Sums.{part-fits}
use Rattle.soundness.specs.Tally.{width}
use Rattle.reliability.specs.Steps.{row_sum}
use Rattle.reliability.proofs.total.Goals as goal
use Rattle.reliability.proofs.total.Goals.{After-row}

-- one row more fits
fits : (c : After-row) → c.loop-l1.s + get_or c.args.u.now c.loop-l1.l1 0 * c.row.result ≤ 10000000000000000000
fits c =
    let a = c.args in
    rw (c.loop-l1.invariant, c.row.ensures) (part-fits (a.n1 + 1) 10000000000000000000 c.loop-l1.l1 (λ k. get_or a.u.now k 0 * row_sum a.cells.now (k * width a.n2) a.v.now (width a.n2)) c.requires.6 (omega arith))

pub overflow_mul-s : goal.overflow_mul-s
overflow_mul-s c = omega (arith, fits (goal.at.overflow_mul-s c).After-row)

pub overflow_add-s : goal.overflow_add-s
overflow_add-s c = omega (arith, fits (goal.at.overflow_add-s c).After-row)
