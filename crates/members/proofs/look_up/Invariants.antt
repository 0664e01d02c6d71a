-- `members::look_up`: the first k places are filled in.
use Rattle.members.proofs.Tables.{Naming}
use mathlib.Core.Path.{◌≡◌}
use lib.ListN.{length}
use Rattle.members.proofs.look_up.Given as goal

abbrev pub invariant-loop-k : goal.invariant-loop-k
invariant-loop-k l = Naming l.table l.order l.out l.k × (length l.out ≡ length l.initial.out)
