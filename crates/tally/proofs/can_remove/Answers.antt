-- `tally::can_remove` lends the cells to both tests.
use mathlib.Core.Path.{ap₂, ◌∙◌}
use mathlib.Core.Bool.{◌&&◌}
use native.Mathlib.Omega.{arith}
use Rattle.laws.specs.Parts.{tail-part}
use Rattle.soundness.specs.Tally.{head_words}
use Rattle.tally.proofs.Readies.{ready-long, ready-fits, ready-cells}
use Rattle.tally.proofs.Edges.{removable-is}
use Rattle.tally.proofs.can_remove.Goals as goal

pub slice_bounds-edges_ready-count : goal.slice_bounds-edges_ready-count
slice_bounds-edges_ready-count c = ready-long c.args.«record».now c.args.tally.now c.requires

pub slice_bounds-edges_ready-start : goal.slice_bounds-edges_ready-start
slice_bounds-edges_ready-start c = ready-long c.args.«record».now c.args.tally.now c.requires

pub edges_ready-edges-requires : goal.edges_ready-edges-requires
edges_ready-edges-requires c =
    let r = c.args.«record».now in
    let t = c.args.tally.now in
    let h = c.read_head-head.ensures in
    let e = ready-fits r t c.requires in
    rw (tail-part t head_words, h.0, h.1, e.1, e.2) (ready-cells r t c.requires)

pub slice_bounds-top_ready-count : goal.slice_bounds-top_ready-count
slice_bounds-top_ready-count c = ready-long c.args.«record».now c.args.tally.now c.requires

pub slice_bounds-top_ready-start : goal.slice_bounds-top_ready-start
slice_bounds-top_ready-start c = ready-long c.args.«record».now c.args.tally.now c.requires

pub bounds-tally-2 : goal.bounds-tally-2
bounds-tally-2 c = omega (arith, ready-long c.args.«record».now c.args.tally.now c.requires)

pub top_ready-requires : goal.top_ready-requires
top_ready-requires c =
    let r = c.args.«record».now in
    let t = c.args.tally.now in
    let h = c.read_head-head.ensures in
    let e = ready-fits r t c.requires in
    rw (tail-part t head_words, h.0, h.1, e.1, e.2) (ready-cells r t c.requires)

pub returns : goal.returns
returns c =
    let r = c.args.«record».now in
    let t = c.args.tally.now in
    let h = c.read_head-head.ensures in
    let e = ready-fits r t c.requires in
    ap₂ ◌&&◌ (rw (tail-part t head_words, h.0, h.1, e.1, e.2) at c.edges_ready-edges.ensures) (rw (tail-part t head_words, h.0, h.1, e.1, e.2) at c.top_ready.ensures) ∙ removable-is r t c.requires
