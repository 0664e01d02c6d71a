-- `parts::good_blocks`: the entries before i are good and counted.
use native.Mathlib.Omega.{arith}
use Rattle.parts.proofs.good_blocks.Goals as goal

pub loop-i-preserved : goal.loop-i-preserved
loop-i-preserved c = let l = c.loop-i in (omega arith, c.in-Some.ensures.2 l.n1 l.n2 l.invariant.1)
