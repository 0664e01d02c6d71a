-- `relax::growth` is 1 where the node has the level and is in, else 0.
use Rattle.relax.proofs.growth.Goals as goal

pub returns-then-at_least : goal.returns-then-at_least
returns-then-at_least c = rw (← c.at_least.ensures, ← c.at_least-2.ensures, c.if-at_least.true)

pub returns : goal.returns
returns c = rw (← c.at_least.ensures, ← c.at_least-2.ensures, c.if-at_least.false)
