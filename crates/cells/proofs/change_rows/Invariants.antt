-- `cells::change_rows` changes a row a turn.
use mathlib.Core.Path.{◌≡◌}
use Prim.Native.Nat.{◌+◌, ◌-◌}
use Rattle.record.specs.Record.{listed}
use Rattle.soundness.specs.Tally.{width}
use Rattle.cells.proofs.Rows.{AtLine, RowsDone, held_rows}
use Rattle.cells.proofs.change_rows.Given as goal

abbrev pub invariant-loop-x : goal.invariant-loop-x
invariant-loop-x l =
    AtLine (listed l.record) (l.n1 + 1) (width l.n2) l.y.0 l.at l.x × RowsDone l.up l.down l.record l.initial.cells l.cells l.n1 l.n2 l.at l.x × (l.n ≡ held_rows l.record l.n1 l.n2 (l.n1 + 1 - l.x))
