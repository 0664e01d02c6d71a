-- The crate's functions as a table, each by its symbol with its code; and that a library with this table has the code of those functions that other
-- crates call, with the code of all that they call, if it has what they call of other crates (`Below`).
use mathlib.Core.Bool.{true}
use prog.Linked.{Tree, World, Holds, in_world}
use prog.LinkedThreads.{HasT}
use Rattle.record.proofs.TheLink as the_link
use Rattle.record.proofs.holds.Symbol as holds
use Rattle.record.proofs.is_record.Symbol as is_record
use Rattle.record.proofs.pair_at.Symbol as pair_at
use Rattle.record.proofs.read_head.Symbol as read_head

abbrev pub table : Tree
table = the_link.table

abbrev pub Below : World → Type 0
Below = the_link.Below

pub holds-linked : (W : World) → Holds W "record" table → Below W → HasT (in_world W) true holds.code
holds-linked = the_link.linked-record::holds

pub is_record-linked : (W : World) → Holds W "record" table → Below W → HasT (in_world W) true is_record.code
is_record-linked = the_link.linked-record::valid::is_record

pub pair_at-linked : (W : World) → Holds W "record" table → Below W → HasT (in_world W) true pair_at.code
pair_at-linked = the_link.linked-record::pair_at

pub read_head-linked : (W : World) → Holds W "record" table → Below W → HasT (in_world W) true read_head.code
read_head-linked = the_link.linked-record::read_head
