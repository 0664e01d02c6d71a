-- `chains::link`: goes from entry to entry; what is in, and what is to come, are all arcs of the entries.
use Rattle.chains.proofs.Entries.{Linking}
use mathlib.Core.Path.{◌≡◌}
use lib.ListN.{length}
use Rattle.chains.proofs.link.Given as goal

abbrev pub invariant-loop-i : goal.invariant-loop-i
invariant-loop-i l = Linking l.arcs l.nodes l.size l.links l.n l.i l.d × (length l.links ≡ length l.initial.links)
