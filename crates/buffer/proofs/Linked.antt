-- The crate's functions as a table, each by its symbol with its code; and that a library with this table has the code of those functions that other
-- crates call, with the code of all that they call, if it has what they call of other crates (`Below`).
use mathlib.Core.Bool.{true}
use prog.Linked.{Tree, World, Holds, in_world}
use prog.LinkedThreads.{HasT}
use Rattle.buffer.proofs.TheLink as the_link
use Rattle.buffer.proofs.FrontRecord.deliver.Symbol as FrontRecord-deliver
use Rattle.buffer.proofs.FrontRecord.empty.Symbol as FrontRecord-empty
use Rattle.buffer.proofs.FrontRecord.put.Symbol as FrontRecord-put

abbrev pub table : Tree
table = the_link.table

abbrev pub Below : World → Type 0
Below = the_link.Below

pub FrontRecord-deliver-linked : (W : World) → Holds W "buffer" table → Below W → HasT (in_world W) true FrontRecord-deliver.code
FrontRecord-deliver-linked = the_link.linked-buffer::FrontRecord::deliver

pub FrontRecord-empty-linked : (W : World) → Holds W "buffer" table → Below W → HasT (in_world W) true FrontRecord-empty.code
FrontRecord-empty-linked = the_link.linked-buffer::FrontRecord::empty

pub FrontRecord-put-linked : (W : World) → Holds W "buffer" table → Below W → HasT (in_world W) true FrontRecord-put.code
FrontRecord-put-linked = the_link.linked-buffer::FrontRecord::put
