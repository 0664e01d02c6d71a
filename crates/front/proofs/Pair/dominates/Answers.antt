-- `Pair::dominates` is covering and not the same.
use Rattle.front.proofs.Pair.dominates.Goals as goal

pub returns : goal.returns
returns c = rw (c.covers.ensures, c.same.ensures)
