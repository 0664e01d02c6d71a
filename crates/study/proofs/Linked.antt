-- The crate's functions as a table, each by its symbol with its code; and that a library with this table has the code of those functions that other
-- crates call, with the code of all that they call, if it has what they call of other crates (`Below`).
use mathlib.Core.Bool.{true}
use prog.Linked.{Tree, World, Holds, in_world}
use prog.LinkedThreads.{HasT}
use Rattle.study.proofs.TheLink as the_link
use Rattle.study.proofs.check_round.Symbol as check_round
use Rattle.study.proofs.open_orders.Symbol as open_orders
use Rattle.study.proofs.open_round.Symbol as open_round
use Rattle.study.proofs.open_study.Symbol as open_study
use Rattle.study.proofs.round_bytes.Symbol as round_bytes
use Rattle.study.proofs.test_trailer.Symbol as test_trailer

abbrev pub table : Tree
table = the_link.table

abbrev pub Below : World → Type 0
Below = the_link.Below

pub check_round-linked : (W : World) → Holds W "study" table → Below W → HasT (in_world W) true check_round.code
check_round-linked = the_link.linked-study::check_round

pub open_orders-linked : (W : World) → Holds W "study" table → Below W → HasT (in_world W) true open_orders.code
open_orders-linked = the_link.linked-study::open_orders

pub open_round-linked : (W : World) → Holds W "study" table → Below W → HasT (in_world W) true open_round.code
open_round-linked = the_link.linked-study::open_round

pub open_study-linked : (W : World) → Holds W "study" table → Below W → HasT (in_world W) true open_study.code
open_study-linked = the_link.linked-study::open_study

pub round_bytes-linked : (W : World) → Holds W "study" table → Below W → HasT (in_world W) true round_bytes.code
round_bytes-linked = the_link.linked-study::round_bytes

pub test_trailer-linked : (W : World) → Holds W "study" table → Below W → HasT (in_world W) true test_trailer.code
test_trailer-linked = the_link.linked-study::test_trailer
