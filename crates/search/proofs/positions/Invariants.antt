-- `search::positions` fills in the places of an order from the last to the first.
use Rattle.search.proofs.Places.{Placing}
use Rattle.search.proofs.positions.Given as goal

abbrev pub invariant-loop-k : goal.invariant-loop-k
invariant-loop-k l = Placing l.order l.at l.initial.capacities l.capacities l.k
