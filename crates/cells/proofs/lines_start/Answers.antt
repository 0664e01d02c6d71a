-- `cells::lines_start` looks at a line a turn.
use mathlib.Core.Path.{◌≡◌, sym, ap, ◌∙◌}
use Prim.Native.Nat.{◌-◌, max}
use native.Mathlib.Omega.{arith}
use Rattle.laws.specs.Every.{every}
use Rattle.record.specs.Record.{listed}
use Rattle.cells.specs.Steps.{turn_all, peak_at, line_test}
use Rattle.cells.proofs.Rows.{line_first, line-fits, line-next, test-next}
use Rattle.cells.proofs.lines_start.Goals as goal
use Rattle.cells.proofs.lines_start.Goals.{After-max-y}

-- the height of the line
rose : (c : After-max-y) → c.max-y.result.0 ≡ max c.loop-x.y.0 (peak_at (turn_all c.args.along (listed c.args.«record».now)) c.loop-x.x)
rose c =
    let l = c.loop-x in
    c.max-y.ensures ∙ ap (max l.y.0) (c.heights-top.ensures l.x (omega (arith, l.invariant.0.upto, c.requires.few.0)))

pub loop-x-init : goal.loop-x-init
loop-x-init c =
    let a = c.args in
    let l = turn_all a.along (listed a.«record».now) in
    let e : a.lines - a.lines ≡ 0 = omega arith in
    (line_first l a.lines a.n a.stride c.requires.within, ap (λ k. every k (line_test l a.lines a.cells.now a.n a.stride a.step)) (sym e))

pub starts-all-requires : goal.starts-all-requires
starts-all-requires c =
    let a = c.args in
    let l = c.loop-x in
    let z = c.max-y.result.0 in
    let fit = line-fits (turn_all a.along (listed a.«record».now)) a.lines a.n a.stride c.requires.within l.invariant.0 (omega arith) z (rose (goal.at.starts-all-requires c).After-max-y) in
    rw l.invariant.0.place (fit, λ i h. c.requires.room (a.lines - l.x) i (omega (arith, l.invariant.0.upto)) h)

pub loop-x-preserved : goal.loop-x-preserved
loop-x-preserved c =
    let a = c.args in
    let l = c.loop-x in
    let z = c.max-y.result.0 in
    let m = turn_all a.along (listed a.«record».now) in
    let up = rose (goal.at.loop-x-preserved c).After-max-y in (
      line-next m a.lines a.n a.stride c.requires.within l.invariant.0 (omega arith) z up,
      rw c.starts-all.ensures (test-next m a.lines a.n a.stride c.requires.within l.invariant.0 (omega arith) z up a.cells.now a.step l.invariant.1),
    )
