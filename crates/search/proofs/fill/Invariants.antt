-- `search::fill` fills a half of the slice from its first place on.
use Rattle.search.proofs.Places.{Filling}
use Rattle.search.proofs.fill.Given as goal

abbrev pub invariant-loop-v : goal.invariant-loop-v
invariant-loop-v l = Filling l.initial.capacities l.at l.past l.capacities l.v
