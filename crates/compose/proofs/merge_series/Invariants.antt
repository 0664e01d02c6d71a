-- `compose::merge_series`: the record has collected all minima but those of the pairs that are left (`Merging both min`).
use mathlib.Core.Path.{◌≡◌}
use Prim.Native.Nat.{min, ◌+◌, ◌-◌, ◌≤◌}
use lib.ListN.{length}
use Rattle.limits.specs.Limits.{max_class}
use Rattle.buffer.specs.Steps.{record_in}
use Rattle.record.specs.Record.{record_size1, record_size2, listed}
use Rattle.compose.proofs.Merges.{both, Merging}
use Rattle.compose.proofs.merge_series.Given as goal

abbrev pub invariant-loop-i : goal.invariant-loop-i
invariant-loop-i l = Merging both min (record_size1 l.left) (record_size2 l.left) (listed l.left) (listed l.right) l.i l.j (record_in l.joined.bytes) × (l.k ≡ length (listed l.left)) × (l.m ≡ length (listed l.right)) × (l.k ≤ max_class + 1) × (l.m ≤ max_class + 1)

abbrev pub decreases-loop-i : goal.decreases-loop-i
decreases-loop-i l = (l.k - l.i) + (l.m - l.j)
