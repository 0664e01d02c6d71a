-- `lines::cells` writes cell after cell.
use Rattle.std.proofs.Common.{◌≡◌, ◌++◌, ◌+◌, ◌*◌, ◌≤◌, take}
use Rattle.arrayvec.specs.ArrayString.{array_string_len}
use Rattle.laws.specs.Members.{concat_map}
use Rattle.lines.specs.Text.{cell_text}
use Rattle.lines.proofs.cells.Given as goal

abbrev pub invariant-loop-x : goal.invariant-loop-x
invariant-loop-x l =
    (l.line.bytes ≡ l.initial.line.bytes ++ concat_map cell_text (take l.x-index l.row))
    × (array_string_len l.line ≤ array_string_len l.initial.line + 21 * l.x-index)
