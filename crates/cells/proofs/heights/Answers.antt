-- `cells::heights` takes pair after pair.
use mathlib.Core.Path.{◌≡◌, refl, ap, ◌∙◌}
use Prim.Native.Nat.{◌<◌, ◌+◌}
use native.Mathlib.Omega.{arith}
use lib.ListN.{length, get_or, take}
use lib.Seq.{take-length}
use Rattle.limits.specs.Limits.{max_position}
use Rattle.laws.specs.Parts.{get_or-same}
use Rattle.front.specs.Pair.{pair_of}
use Rattle.record.specs.Record.{listed}
use Rattle.record.proofs.Bytes.{listed-length}
use Rattle.record.proofs.Records.{record_is}
use Rattle.cells.specs.Steps.{turn_all, peak_at}
use Rattle.cells.proofs.Peaks.{turned-in, height-next, turn-length}
use Rattle.cells.proofs.heights.Goals as goal
use Rattle.cells.proofs.heights.Goals.{After-turned-p}

-- the pair that was read
looked : (c : After-turned-p) → let l = turn_all c.args.along (listed c.args.«record».now) in
    (c.turned-p.result ≡ get_or l c.loop-i.i (pair_of 0 0)) × (c.turned-p.result.p1.0 < max_position + 1) × (c.loop-i.i < length l)
looked c = rw (c.turned-p.ensures, c.pair_at.ensures) (turned-in c.args.«record».now ((record_is c.args.«record».now).0 c.requires) c.args.along c.loop-i.i (omega arith))

pub loop-i-init : goal.loop-i-init
loop-i-init c = record { long = refl; at = λ x h. get_or-same (max_position + 1) x 0 }

pub bounds-heights-x : goal.bounds-heights-x
bounds-heights-x c = (looked (goal.at.bounds-heights-x c).After-turned-p).1

pub bounds-heights-x-in-loop-i : goal.bounds-heights-x-in-loop-i
bounds-heights-x-in-loop-i c = (looked (goal.at.bounds-heights-x-in-loop-i c).After-turned-p).1

pub loop-i-preserved : goal.loop-i-preserved
loop-i-preserved c =
    let p = looked (goal.at.loop-i-preserved c).After-turned-p in
    rw c.max.ensures (height-next c.loop-i.invariant p.2 c.turned-p.result p.0 p.1)

pub returns : goal.returns
returns c =
    let l = c.loop-i in
    let r = c.args.«record».now in
    let m = turn_all c.args.along (listed r) in
    let g = (record_is r).0 c.requires in
    let e : l.i ≡ length m = omega (arith, listed-length r g.long, turn-length c.args.along (listed r)) in
    λ x h. l.invariant.at x h ∙ ap (λ k. peak_at (take k m) x) e ∙ ap (λ m. peak_at m x) (take-length m)
