-- `Pair::min` takes the smaller position of each class.
use Rattle.front.proofs.Pairs.{pair_eq}
use Rattle.front.proofs.Pair.min.Goals as goal

pub returns : goal.returns
returns c = pair_eq c.min.ensures c.min-2.ensures
