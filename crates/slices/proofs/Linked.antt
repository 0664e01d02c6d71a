-- The crate's functions as a table, each by its symbol with its code; and that a library with this table has the code of those functions that other
-- crates call, with the code of all that they call, if it has what they call of other crates (`Below`).
use mathlib.Core.Bool.{true}
use prog.Linked.{Tree, World, Holds, in_world}
use prog.LinkedThreads.{HasT}
use Rattle.slices.proofs.TheLink as the_link
use Rattle.slices.proofs.byte.Symbol as byte
use Rattle.slices.proofs.part.Symbol as part
use Rattle.slices.proofs.put.Symbol as put
use Rattle.slices.proofs.put_word.Symbol as put_word
use Rattle.slices.proofs.word.Symbol as word

abbrev pub table : Tree
table = the_link.table

abbrev pub Below : World → Type 0
Below = the_link.Below

pub byte-linked : (W : World) → Holds W "slices" table → Below W → HasT (in_world W) true byte.code
byte-linked = the_link.linked-slices::byte

pub part-linked : (W : World) → Holds W "slices" table → Below W → HasT (in_world W) true part.code
part-linked = the_link.linked-slices::part

pub put-linked : (W : World) → Holds W "slices" table → Below W → HasT (in_world W) true put.code
put-linked = the_link.linked-slices::put

pub put_word-linked : (W : World) → Holds W "slices" table → Below W → HasT (in_world W) true put_word.code
put_word-linked = the_link.linked-slices::put_word

pub word-linked : (W : World) → Holds W "slices" table → Below W → HasT (in_world W) true word.code
word-linked = the_link.linked-slices::word
