-- The crate's functions as a table, each by its symbol with its code; and that a library with this table has the code of those functions that other
-- crates call, with the code of all that they call, if it has what they call of other crates (`Below`).
use mathlib.Core.Bool.{true}
use prog.Linked.{Tree, World, Holds, in_world}
use prog.LinkedThreads.{HasT}
use Rattle.writer.proofs.TheLink as the_link
use Rattle.writer.proofs.put_trailer.Symbol as put_trailer
use Rattle.writer.proofs.write_study.Symbol as write_study

abbrev pub table : Tree
table = the_link.table

abbrev pub Below : World → Type 0
Below = the_link.Below

pub put_trailer-linked : (W : World) → Holds W "writer" table → Below W → HasT (in_world W) true put_trailer.code
put_trailer-linked = the_link.linked-writer::put_trailer

pub write_study-linked : (W : World) → Holds W "writer" table → Below W → HasT (in_world W) true write_study.code
write_study-linked = the_link.linked-writer::write_study
