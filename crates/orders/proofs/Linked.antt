-- The crate's functions as a table, each by its symbol with its code; and that a library with this table has the code of those functions that other
-- crates call, with the code of all that they call, if it has what they call of other crates (`Below`).
use mathlib.Core.Bool.{true}
use prog.Linked.{Tree, World, Holds, in_world}
use prog.LinkedThreads.{HasT}
use Rattle.orders.proofs.TheLink as the_link
use Rattle.orders.proofs.are_orders.Symbol as are_orders
use Rattle.orders.proofs.count.Symbol as count
use Rattle.orders.proofs.is_round.Symbol as is_round
use Rattle.orders.proofs.same.Symbol as same

abbrev pub table : Tree
table = the_link.table

abbrev pub Below : World → Type 0
Below = the_link.Below

pub are_orders-linked : (W : World) → Holds W "orders" table → Below W → HasT (in_world W) true are_orders.code
are_orders-linked = the_link.linked-orders::are_orders

pub count-linked : (W : World) → Holds W "orders" table → Below W → HasT (in_world W) true count.code
count-linked = the_link.linked-orders::count

pub is_round-linked : (W : World) → Holds W "orders" table → Below W → HasT (in_world W) true is_round.code
is_round-linked = the_link.linked-orders::is_round

pub same-linked : (W : World) → Holds W "orders" table → Below W → HasT (in_world W) true same.code
same-linked = the_link.linked-orders::same
