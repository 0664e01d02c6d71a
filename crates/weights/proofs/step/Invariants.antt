-- `weights::step`: l of the old weights are read.
use Rattle.weights.proofs.Steps.{Partway}
use Rattle.weights.proofs.step.Given as goal

abbrev pub invariant-loop-l : goal.invariant-loop-l
invariant-loop-l l = Partway l.p l.m l.initial.out l.out l.carry l.l
