-- `parts::count_rest`: the entries before i are good and counted, or one of them ends the pass.
use Rattle.parts.specs.Steps.{Looked}
use Rattle.parts.proofs.count_rest.Given as goal

abbrev pub invariant-loop-i : goal.invariant-loop-i
invariant-loop-i l = Looked l.n l.arcs l.i l.n1 l.n2
