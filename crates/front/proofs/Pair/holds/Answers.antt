-- `Pair::holds` asks whether both positions outlast the failures of their class.
use Rattle.front.proofs.Pair.holds.Goals as goal

pub returns : goal.returns
returns c = rw (c.outlasts.ensures, c.outlasts-2.ensures)
