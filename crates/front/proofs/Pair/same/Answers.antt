-- `Pair::same` compares the two positions of each class.
use Rattle.front.proofs.Pair.same.Goals as goal

pub returns : goal.returns
returns c = rw (c.same.ensures, c.same-2.ensures)
