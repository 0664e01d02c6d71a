-- `convert::put_rounds`: i bytes are written.
use mathlib.Core.Path.{ap, ◌∙◌}
use Prim.Native.Nat.{◌+◌}
use native.Mathlib.Omega.{arith}
use lib.ListN.{get_or, set}
use Rattle.laws.specs.Members.{at_in}
use Rattle.convert.proofs.Scans.{written_next}
use Rattle.convert.proofs.put_rounds.Invariants.{said}
use Rattle.convert.proofs.put_rounds.Goals as goal

pub bounds-place-v : goal.bounds-place-v
bounds-place-v c = let r = c.args.rounds.now in
    let i = c.loop-i.i in
    omega (arith, c.requires.nodes (get_or r i 0) (at_in r i 0 (omega arith)))

pub loop-i-preserved : goal.loop-i-preserved
loop-i-preserved c = let a = c.args in
    let l = c.loop-i in
    ap (λ d. set d (a.at + l.i) (said a.place.now (get_or a.rounds.now l.i 0))) l.invariant ∙ written_next (said a.place.now) a.rounds.now a.out.now a.at c.requires.room l.i (omega arith)
