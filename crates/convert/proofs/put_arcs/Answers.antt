-- `convert::put_arcs`: i entries are written.
use mathlib.Core.Path.{◌≡◌, ap, ◌∙◌}
use mathlib.Core.List.{[], ◌∷◌}
use Prim.Native.Nat.{◌+◌, ◌*◌, ◌/◌}
use native.Mathlib.Omega.{arith}
use lib.ListN.{length, get_or, take}
use Rattle.limits.specs.Limits.{arc_size}
use Rattle.slices.specs.Steps.{placed}
use Rattle.convert.specs.Old.{old_arc_size}
use Rattle.convert.specs.Convert.{with_kinds}
use Rattle.convert.proofs.Scans.{put_next, kinds-all}
use Rattle.convert.proofs.put_arcs.Goals as goal

pub loop-i-preserved : goal.loop-i-preserved
loop-i-preserved c = let a = c.args in
    let l = c.loop-i in
    let b = a.arcs.now in
    let entry = get_or b (old_arc_size * l.i) 0 ∷ get_or b (old_arc_size * l.i + 1) 0 ∷ 0 ∷ [] in
    c.put.ensures ∙ ap (placed (a.at + arc_size * l.i) entry) l.invariant ∙ put_next a.at b l.i a.out.now (omega arith) (omega arith)

pub returns : goal.returns
returns c = let a = c.args in
    let l = c.loop-i in
    let b = a.arcs.now in
    let e : l.i ≡ length b / old_arc_size = omega arith in
    l.invariant ∙ ap (λ n. placed a.at (with_kinds (take (old_arc_size * n) b)) a.out.now) e ∙ ap (λ z. placed a.at z a.out.now) (kinds-all b)
