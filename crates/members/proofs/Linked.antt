-- The crate's functions as a table, each by its symbol with its code; and that a library with this table has the code of those functions that other
-- crates call, with the code of all that they call, if it has what they call of other crates (`Below`).
use mathlib.Core.Bool.{true}
use prog.Linked.{Tree, World, Holds, in_world}
use prog.LinkedThreads.{HasT}
use Rattle.members.proofs.TheLink as the_link
use Rattle.members.proofs.element_orders.Symbol as element_orders

abbrev pub table : Tree
table = the_link.table

abbrev pub Below : World → Type 0
Below = the_link.Below

pub element_orders-linked : (W : World) → Holds W "members" table → Below W → HasT (in_world W) true element_orders.code
element_orders-linked = the_link.linked-members::element_orders
