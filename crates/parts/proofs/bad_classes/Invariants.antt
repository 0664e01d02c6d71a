-- `parts::bad_classes`: what is found so far, and what the node bytes from there on say.
use mathlib.Core.Path.{◌≡◌}
use mathlib.Core.Bool.{◌||◌}
use lib.Dec.{ltb}
use lib.ListN.{drop}
use Rattle.laws.specs.Members.{any}
use Rattle.parts.specs.Tests.{bad_classes}
use Rattle.parts.proofs.bad_classes.Given as goal

abbrev pub invariant-loop-class : goal.invariant-loop-class
invariant-loop-class l = bad_classes l.nodes ≡ (l.bad || any (ltb 2) (drop l.class-index l.nodes))
