-- `search::fill` fills a half of the slice from its first place on.
use Rattle.search.proofs.Places.{fill_none, fill-again}
use native.Mathlib.Omega.{arith}
use Rattle.search.proofs.fill.Goals as goal

pub loop-v-init : goal.loop-v-init
loop-v-init c = fill_none c.args.at c.args.past c.requires.0

pub loop-v-preserved : goal.loop-v-preserved
loop-v-preserved c = fill-again c.loop-v.invariant (omega arith)

pub returns : goal.returns
returns c = record { long = c.loop-v.invariant.size; filled = λ v b. c.loop-v.invariant.done v (omega arith); kept = c.loop-v.invariant.kept }
