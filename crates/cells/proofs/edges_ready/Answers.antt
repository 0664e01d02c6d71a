-- `cells::edges_ready` looks at the cells as rows, and as columns.
use Rattle.cells.proofs.Rows.{rows_lie, columns-lie}
use Rattle.cells.proofs.edges_ready.Goals as goal

pub lines_start-rows-requires : goal.lines_start-rows-requires
lines_start-rows-requires c = rows_lie c.requires

pub lines_start-requires : goal.lines_start-requires
lines_start-requires c = columns-lie c.requires
