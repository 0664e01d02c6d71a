-- `compose::merge_parallel`: the record has collected all pairs but those that are left (`Merging either max`).
use mathlib.Core.Path.{◌≡◌}
use Prim.Native.Nat.{max, ◌+◌, ◌-◌, ◌≤◌}
use lib.ListN.{length}
use Rattle.buffer.specs.Steps.{record_in}
use Rattle.record.specs.Record.{record_size1, record_size2, listed}
use Rattle.compose.proofs.Merges.{either, Merging}
use Rattle.compose.proofs.merge_parallel.Given as goal

abbrev pub invariant-loop-n : goal.invariant-loop-n
invariant-loop-n l = Merging either max (record_size1 l.left) (record_size2 l.left) (listed l.left) (listed l.right) l.i l.j (record_in l.joined.bytes) × (l.i + l.j ≡ l.n) × (l.pairs ≡ length (listed l.left) + length (listed l.right))
