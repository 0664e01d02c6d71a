-- `chains::add`: stores where the arc begins and what follows it, and makes it the head of its node's chain.
use native.Mathlib.Omega.{arith}
use lib.ListN.{length-set}
use Rattle.chains.proofs.add.Goals as goal

pub bounds-links-at-2 : goal.bounds-links-at-2
bounds-links-at-2 c = rw length-set (omega arith)

pub bounds-links-v-2 : goal.bounds-links-v-2
bounds-links-v-2 c = rw (length-set, length-set) (omega arith)
