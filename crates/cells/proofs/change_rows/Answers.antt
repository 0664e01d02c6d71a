-- `cells::change_rows` changes a row a turn.
use mathlib.Core.Path.{◌≡◌, ap, ◌∙◌}
use Prim.Native.Nat.{◌+◌, ◌-◌, max}
use native.Mathlib.Omega.{arith}
use Rattle.record.specs.Record.{listed}
use Rattle.cells.specs.Steps.{peak_at}
use Rattle.cells.proofs.Tables.{part-at, part-changed}
use Rattle.cells.proofs.Rows.{small, row_first, done_first, fits, room, later, row_next, done_next, count-first, count_small, count_next}
use Rattle.cells.proofs.change_rows.Goals as goal
use Rattle.cells.proofs.change_rows.Goals.{After-max-y}

-- the height of the row
rose : (c : After-max-y) → c.max-y.result.0 ≡ max c.loop-x.y.0 (peak_at (listed c.args.«record».now) c.loop-x.x)
rose c =
    let l = c.loop-x in
    c.max-y.ensures ∙ ap (max l.y.0) (c.heights-top.ensures l.x (omega (arith, l.invariant.0.upto, small c.requires.0)))

pub loop-x-init : goal.loop-x-init
loop-x-init c = (row_first c.requires.0, done_first c.requires.0 c.args.up c.args.down, count-first c.requires.0)

pub overflow_sub-w : goal.overflow_sub-w
overflow_sub-w c = fits c.requires.0 c.loop-x.invariant.0 (omega arith) c.max-y.result.0 (rose (goal.at.overflow_sub-w c).After-max-y)

pub change_part-requires : goal.change_part-requires
change_part-requires c =
    let l = c.loop-x in
    let z = c.max-y.result.0 in
    let w = c.args.n2 + 1 in
    let up = rose (goal.at.change_part-requires c).After-max-y in
    λ i h.
    rw (part-at l.cells (l.at + (w - z)) (l.at + w - (l.at + (w - z))) i h)
    (later c.requires.0 l.invariant.0 (omega arith) z up l.invariant.1 c.requires.1 i (omega (arith, h)))

pub overflow_add-n : goal.overflow_add-n
overflow_add-n c =
    let l = c.loop-x in
    omega (arith, count_small c.requires.0 l.x l.n l.invariant.2, small c.requires.0, fits c.requires.0 l.invariant.0 (omega arith) c.max-y.result.0 (rose (goal.at.overflow_add-n c).After-max-y))

pub loop-x-preserved : goal.loop-x-preserved
loop-x-preserved c =
    let l = c.loop-x in
    let z = c.max-y.result.0 in
    let w = c.args.n2 + 1 in
    let up = rose (goal.at.loop-x-preserved c).After-max-y in
    let fit = fits c.requires.0 l.invariant.0 (omega arith) z up in
    let within = room c.requires.0 l.invariant.0 (omega arith) z up in
    let part = part-changed c.args.up c.args.down l.cells (l.at + (w - z)) (l.at + w - (l.at + (w - z))) z (omega (arith, fit)) (omega (arith, fit, within, l.invariant.1.long)) c.change_part.ensures in (
      row_next c.requires.0 l.invariant.0 (omega arith) z up,
      rw part (done_next c.requires.0 l.invariant.0 (omega arith) z up l.invariant.1),
      count_next c.requires.0 l.invariant.0 (omega arith) z up l.invariant.2,
    )

pub overflow_cast-result : goal.overflow_cast-result
overflow_cast-result c = let l = c.loop-x in omega (arith, count_small c.requires.0 l.x l.n l.invariant.2)
