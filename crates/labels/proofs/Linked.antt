-- The crate's functions as a table, each by its symbol with its code; and that a library with this table has the code of those functions that other
-- crates call, with the code of all that they call, if it has what they call of other crates (`Below`).
use mathlib.Core.Bool.{true}
use prog.Linked.{Tree, World, Holds, in_world}
use prog.LinkedThreads.{HasT}
use Rattle.labels.proofs.TheLink as the_link
use Rattle.labels.proofs.flood.Symbol as flood

abbrev pub table : Tree
table = the_link.table

abbrev pub Below : World → Type 0
Below = the_link.Below

pub flood-linked : (W : World) → Holds W "labels" table → Below W → HasT (in_world W) true flood.code
flood-linked = the_link.linked-labels::flood
