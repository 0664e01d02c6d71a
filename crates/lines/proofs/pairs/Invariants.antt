-- `lines::pairs` writes pair after pair.
use Rattle.std.proofs.Common.{◌≡◌, ◌++◌, ◌+◌, ◌*◌, ◌≤◌, take}
use Rattle.arrayvec.specs.ArrayString.{array_string_len}
use Rattle.laws.specs.Members.{concat_map}
use Rattle.record.specs.Record.{pair_count, listed}
use Rattle.lines.specs.Text.{pair_text}
use Rattle.lines.proofs.pairs.Given as goal

abbrev pub invariant-loop-i : goal.invariant-loop-i
invariant-loop-i l =
    (l.line.bytes ≡ l.initial.line.bytes ++ concat_map pair_text (take l.i (listed l.record)))
    × (array_string_len l.line ≤ array_string_len l.initial.line + 42 * l.i)
    × (l.k ≡ pair_count l.record)
