-- The crate's functions as a table, each by its symbol with its code; and that a library with this table has the code of those functions that other
-- crates call, with the code of all that they call, if it has what they call of other crates (`Below`).
use mathlib.Core.Bool.{true}
use prog.Linked.{Tree, World, Holds, in_world}
use prog.LinkedThreads.{HasT}
use Rattle.weights.proofs.TheLink as the_link
use Rattle.weights.proofs.ageing.Symbol as ageing
use Rattle.weights.proofs.fill.Symbol as fill
use Rattle.weights.proofs.weights.Symbol as weights

abbrev pub table : Tree
table = the_link.table

abbrev pub Below : World → Type 0
Below = the_link.Below

pub ageing-linked : (W : World) → Holds W "weights" table → Below W → HasT (in_world W) true ageing.code
ageing-linked = the_link.linked-weights::ageing

pub fill-linked : (W : World) → Holds W "weights" table → Below W → HasT (in_world W) true fill.code
fill-linked = the_link.linked-weights::fill

pub weights-linked : (W : World) → Holds W "weights" table → Below W → HasT (in_world W) true weights.code
weights-linked = the_link.linked-weights::weights
