-- The crate's functions as a table, each by its symbol with its code; and that a library with this table has the code of those functions that other
-- crates call, with the code of all that they call, if it has what they call of other crates (`Below`).
use mathlib.Core.Bool.{true}
use prog.Linked.{Tree, World, Holds, in_world}
use prog.LinkedThreads.{HasT}
use Rattle.answer.proofs.TheLink as the_link
use Rattle.answer.proofs.U32FromRefusal.from.Symbol as U32FromRefusal-from
use Rattle.answer.proofs.deliver.Symbol as deliver

abbrev pub table : Tree
table = the_link.table

abbrev pub Below : World → Type 0
Below = the_link.Below

pub U32FromRefusal-from-linked : (W : World) → Holds W "answer" table → Below W → HasT (in_world W) true U32FromRefusal-from.code
U32FromRefusal-from-linked = the_link.linked-answer::U32FromRefusal::from

pub deliver-linked : (W : World) → Holds W "answer" table → Below W → HasT (in_world W) true deliver.code
deliver-linked = the_link.linked-answer::deliver
