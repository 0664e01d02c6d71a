-- `soundness::is_fair` puts the tests together.
use mathlib.Core.Path.{ap₂}
use mathlib.Core.Bool.{◌&&◌}
use Prim.Native.Nat.{◌+◌, ◌*◌}
use lib.Dec.{eqb, leb}
use lib.ListN.{get_or}
use Rattle.soundness.proofs.Sounds.{cut-whole}
use Rattle.soundness.proofs.is_fair.Goals as goal

pub returns : goal.returns
returns c = let a = c.args in
    let s = cut-whole a.cells.now a.n1 a.n2 c.pass_over-rows.result.sum c.pass_over-row.result.sum c.cut_sum.result c.cut_sum-sum.result c.pass_over-rows.ensures.sum c.pass_over-row.ensures.sum c.cut_sum.ensures c.cut_sum-sum.ensures in
    ap₂ (λ g x. leb (get_or a.cells.now (a.n1 * (a.n2 + 1) + a.n2) 0) a.m && g && eqb a.score x) (ap₂ ◌&&◌ c.pass_over-rows.ensures.rises c.rows_rise.ensures) s
