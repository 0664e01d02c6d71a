-- `cells::change_part` changes one cell after another.
use native.Mathlib.Omega.{arith}
use Rattle.std.proofs.lemmas.List.{get_or_default}
use lib.ListN.{get_or}
use Rattle.std.proofs.lemmas.List.Edits.{map_over_more}
use Rattle.cells.specs.Steps.{changed_word}
use Rattle.cells.proofs.change_part.Goals as goal

pub loop-x-preserved : goal.loop-x-preserved
loop-x-preserved c =
    let l = c.loop-x in
    map_over_more (changed_word c.args.up c.args.down) c.args.cells.now l.x-items l.x-index (get_or l.x-items l.x-index 0) c.loop-x-test.true l.invariant (get_or_default l.x-items l.x-index 0 _ (omega arith))
