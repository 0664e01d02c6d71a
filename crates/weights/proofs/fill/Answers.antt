use mathlib.Core.Path.{◌≡◌, ◌∙◌}
use Prim.Native.Nat.{◌<◌}
use native.Mathlib.Omega.{arith}
use lib.ListN.{length, set, length-set}
use Rattle.weights.proofs.Steps.{held-length, node-fits, node}
use Rattle.weights.proofs.fill.Goals as goal

pub step-requires : goal.step-requires
step-requires c =
    let fits_l : c.loop-i.i < length (set c.args.out.now 0 10000000) = simp length-set (omega arith) in
    let len_l : length c.loop-i.out ≡ length (set c.args.out.now 0 10000000) = rw c.loop-i.invariant (held-length c.args.p c.loop-i.i (set c.args.out.now 0 10000000) (fits_l)) in
    (c.requires.0, omega (arith, len_l, length-set c.args.out.now 0 10000000), node-fits c.args.p c.loop-i.i (set c.args.out.now 0 10000000) (fits_l) c.loop-i.invariant c.requires.0)

pub loop-i-preserved : goal.loop-i-preserved
loop-i-preserved c =
    let fits_l : c.loop-i.i < length (set c.args.out.now 0 10000000) = simp length-set (omega arith) in
    c.step.ensures ∙ node c.args.p c.loop-i.i (set c.args.out.now 0 10000000) (fits_l) c.loop-i.invariant
