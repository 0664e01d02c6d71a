-- The crate's functions as a table, each by its symbol with its code; and that a library with this table has the code of those functions that other
-- crates call, with the code of all that they call, if it has what they call of other crates (`Below`).
use mathlib.Core.Bool.{true}
use prog.Linked.{Tree, World, Holds, in_world}
use prog.LinkedThreads.{HasT}
use Rattle.relax.proofs.TheLink as the_link
use Rattle.relax.proofs.spread.Symbol as spread

abbrev pub table : Tree
table = the_link.table

abbrev pub Below : World → Type 0
Below = the_link.Below

pub spread-linked : (W : World) → Holds W "relax" table → Below W → HasT (in_world W) true spread.code
spread-linked = the_link.linked-relax::spread
