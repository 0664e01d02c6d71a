-- `cells::change_part` changes one cell after another.
use mathlib.Core.Path.{◌≡◌}
use mathlib.Core.List.{◌++◌, map}
use lib.ListN.{take, drop}
use Rattle.cells.specs.Steps.{changed_word}
use Rattle.cells.proofs.change_part.Given as goal

abbrev pub invariant-loop-x : goal.invariant-loop-x
invariant-loop-x l = l.x-items ≡ map (changed_word l.up l.down) (take l.x-index l.initial.x-items) ++ drop l.x-index l.initial.x-items
