-- The crate's functions as a table, each by its symbol with its code; and that a library with this table has the code of those functions that other
-- crates call, with the code of all that they call, if it has what they call of other crates (`Below`).
use mathlib.Core.Bool.{true}
use prog.Linked.{Tree, World, Holds, in_world}
use prog.LinkedThreads.{HasT}
use Rattle.cells.proofs.TheLink as the_link
use Rattle.cells.proofs.change_rows.Symbol as change_rows
use Rattle.cells.proofs.edges_ready.Symbol as edges_ready
use Rattle.cells.proofs.top_ready.Symbol as top_ready

abbrev pub table : Tree
table = the_link.table

abbrev pub Below : World → Type 0
Below = the_link.Below

pub change_rows-linked : (W : World) → Holds W "cells" table → Below W → HasT (in_world W) true change_rows.code
change_rows-linked = the_link.linked-cells::change_rows

pub edges_ready-linked : (W : World) → Holds W "cells" table → Below W → HasT (in_world W) true edges_ready.code
edges_ready-linked = the_link.linked-cells::edges_ready

pub top_ready-linked : (W : World) → Holds W "cells" table → Below W → HasT (in_world W) true top_ready.code
top_ready-linked = the_link.linked-cells::top_ready
