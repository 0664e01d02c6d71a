-- The crate's functions as a table, each by its symbol with its code; and that a library with this table has the code of those functions that other
-- crates call, with the code of all that they call, if it has what they call of other crates (`Below`).
use mathlib.Core.Bool.{true}
use prog.Linked.{Tree, World, Holds, in_world}
use prog.LinkedThreads.{HasT}
use Rattle.parts.proofs.TheLink as the_link
use Rattle.parts.proofs.bad_arcs.Symbol as bad_arcs
use Rattle.parts.proofs.bad_counts.Symbol as bad_counts
use Rattle.parts.proofs.bad_ends.Symbol as bad_ends
use Rattle.parts.proofs.bad_orders.Symbol as bad_orders
use Rattle.parts.proofs.bad_rounds.Symbol as bad_rounds
use Rattle.parts.proofs.test_parts.Symbol as test_parts

abbrev pub table : Tree
table = the_link.table

abbrev pub Below : World → Type 0
Below = the_link.Below

pub bad_arcs-linked : (W : World) → Holds W "parts" table → Below W → HasT (in_world W) true bad_arcs.code
bad_arcs-linked = the_link.linked-parts::bad_arcs

pub bad_counts-linked : (W : World) → Holds W "parts" table → Below W → HasT (in_world W) true bad_counts.code
bad_counts-linked = the_link.linked-parts::bad_counts

pub bad_ends-linked : (W : World) → Holds W "parts" table → Below W → HasT (in_world W) true bad_ends.code
bad_ends-linked = the_link.linked-parts::bad_ends

pub bad_orders-linked : (W : World) → Holds W "parts" table → Below W → HasT (in_world W) true bad_orders.code
bad_orders-linked = the_link.linked-parts::bad_orders

pub bad_rounds-linked : (W : World) → Holds W "parts" table → Below W → HasT (in_world W) true bad_rounds.code
bad_rounds-linked = the_link.linked-parts::bad_rounds

pub test_parts-linked : (W : World) → Holds W "parts" table → Below W → HasT (in_world W) true test_parts.code
test_parts-linked = the_link.linked-parts::test_parts
