-- `slices::put`: i bytes are copied.
use mathlib.Core.Path.{◌≡◌, sym, ap, ◌∙◌}
use Prim.Native.Nat.{suc, ◌+◌}
use native.Mathlib.Omega.{arith}
use lib.ListN.{get_or, set}
use lib.Seq.{paste, paste-suc}
use Rattle.slices.proofs.put.Goals as goal

pub loop-i-preserved : goal.loop-i-preserved
loop-i-preserved c = let a = c.args in
    let l = c.loop-i in
    let e : l.i + 1 ≡ suc l.i = omega arith in
    ap (λ d. set d (a.at + l.i) (get_or a.bytes.now l.i 0)) l.invariant ∙ paste-suc a.out.now a.at a.bytes.now l.i 0 (omega arith) (omega arith) ∙ ap (paste a.out.now a.at a.bytes.now) (sym e)
