-- The crate's functions as a table, each by its symbol with its code; and that a library with this table has the code of those functions that other
-- crates call, with the code of all that they call, if it has what they call of other crates (`Below`).
use mathlib.Core.Bool.{true}
use prog.Linked.{Tree, World, Holds, in_world}
use prog.LinkedThreads.{HasT}
use Rattle.sections.proofs.TheLink as the_link
use Rattle.sections.proofs.arc_bytes.Symbol as arc_bytes
use Rattle.sections.proofs.node_bytes.Symbol as node_bytes
use Rattle.sections.proofs.read_trailer.Symbol as read_trailer
use Rattle.sections.proofs.round_at.Symbol as round_at
use Rattle.sections.proofs.round_start.Symbol as round_start

abbrev pub table : Tree
table = the_link.table

abbrev pub Below : World → Type 0
Below = the_link.Below

pub arc_bytes-linked : (W : World) → Holds W "sections" table → Below W → HasT (in_world W) true arc_bytes.code
arc_bytes-linked = the_link.linked-sections::arc_bytes

pub node_bytes-linked : (W : World) → Holds W "sections" table → Below W → HasT (in_world W) true node_bytes.code
node_bytes-linked = the_link.linked-sections::node_bytes

pub read_trailer-linked : (W : World) → Holds W "sections" table → Below W → HasT (in_world W) true read_trailer.code
read_trailer-linked = the_link.linked-sections::read_trailer

pub round_at-linked : (W : World) → Holds W "sections" table → Below W → HasT (in_world W) true round_at.code
round_at-linked = the_link.linked-sections::round_at

pub round_start-linked : (W : World) → Holds W "sections" table → Below W → HasT (in_world W) true round_start.code
round_start-linked = the_link.linked-sections::round_start
