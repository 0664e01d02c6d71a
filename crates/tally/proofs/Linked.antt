-- The crate's functions as a table, each by its symbol with its code; and that a library with this table has the code of those functions that other
-- crates call, with the code of all that they call, if it has what they call of other crates (`Below`).
use mathlib.Core.Bool.{true}
use prog.Linked.{Tree, World, Holds, in_world}
use prog.LinkedThreads.{HasT}
use Rattle.tally.proofs.TheLink as the_link
use Rattle.tally.proofs.add.Symbol as add
use Rattle.tally.proofs.new.Symbol as new
use Rattle.tally.proofs.remove.Symbol as remove
use Rattle.tally.proofs.score.Symbol as score

abbrev pub table : Tree
table = the_link.table

abbrev pub Below : World → Type 0
Below = the_link.Below

pub add-linked : (W : World) → Holds W "tally" table → Below W → HasT (in_world W) true add.code
add-linked = the_link.linked-tally::add

pub new-linked : (W : World) → Holds W "tally" table → Below W → HasT (in_world W) true new.code
new-linked = the_link.linked-tally::new

pub remove-linked : (W : World) → Holds W "tally" table → Below W → HasT (in_world W) true remove.code
remove-linked = the_link.linked-tally::remove

pub score-linked : (W : World) → Holds W "tally" table → Below W → HasT (in_world W) true score.code
score-linked = the_link.linked-tally::score
