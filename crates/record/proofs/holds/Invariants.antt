-- `record::holds`: no pair before those left holds.
use mathlib.Core.Path.{◌≡◌}
use lib.ListN.{length}
use Rattle.front.specs.Front.{holds}
use Rattle.record.specs.Record.{listed, paired}
use Rattle.record.proofs.holds.Given as goal

abbrev pub invariant-loop-left : goal.invariant-loop-left
invariant-loop-left l = holds (listed l.bytes) l.a l.b ≡ holds (paired l.left) l.a l.b

abbrev pub decreases-loop-left : goal.decreases-loop-left
decreases-loop-left l = length l.left
