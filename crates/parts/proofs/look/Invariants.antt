-- `parts::look`: no byte before j is bad where none was found, and those of classes 1 and 2 before j are counted.
use mathlib.Core.Path.{◌≡◌}
use mathlib.Core.Bool.{false}
use Prim.Native.Nat.{◌≤◌}
use Rattle.laws.specs.Sums.{sum_to}
use Rattle.parts.proofs.Blocks.{class1_at, class2_at, NoneBad}
use Rattle.parts.proofs.look.Given as goal

abbrev pub invariant-loop-j : goal.invariant-loop-j
invariant-loop-j l = (l.n1 ≤ l.j) × (l.n2 ≤ l.j) × (l.bad ≡ false → NoneBad l.n l.fields l.arcs l.at l.j) × (l.n1 ≡ sum_to l.j (class1_at l.fields l.arcs l.at)) × (l.n2 ≡ sum_to l.j (class2_at l.fields l.arcs l.at))
