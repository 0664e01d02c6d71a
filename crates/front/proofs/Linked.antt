-- The crate's functions as a table, each by its symbol with its code; and that a library with this table has the code of those functions that other
-- crates call, with the code of all that they call, if it has what they call of other crates (`Below`).
use mathlib.Core.Bool.{true}
use prog.Linked.{Tree, World, Holds, in_world}
use prog.LinkedThreads.{HasT}
use Rattle.front.proofs.TheLink as the_link
use Rattle.front.proofs.Pair.covers.Symbol as Pair-covers
use Rattle.front.proofs.Pair.dominates.Symbol as Pair-dominates
use Rattle.front.proofs.Pair.holds.Symbol as Pair-holds
use Rattle.front.proofs.Pair.min.Symbol as Pair-min
use Rattle.front.proofs.pos.Pos.above.Symbol as pos-Pos-above
use Rattle.front.proofs.pos.Pos.at_least.Symbol as pos-Pos-at_least
use Rattle.front.proofs.pos.Pos.max.Symbol as pos-Pos-max
use Rattle.front.proofs.pos.Pos.min.Symbol as pos-Pos-min

abbrev pub table : Tree
table = the_link.table

abbrev pub Below : World → Type 0
Below = the_link.Below

pub Pair-covers-linked : (W : World) → Holds W "front" table → Below W → HasT (in_world W) true Pair-covers.code
Pair-covers-linked = the_link.linked-front::Pair::covers

pub Pair-dominates-linked : (W : World) → Holds W "front" table → Below W → HasT (in_world W) true Pair-dominates.code
Pair-dominates-linked = the_link.linked-front::Pair::dominates

pub Pair-holds-linked : (W : World) → Holds W "front" table → Below W → HasT (in_world W) true Pair-holds.code
Pair-holds-linked = the_link.linked-front::Pair::holds

pub Pair-min-linked : (W : World) → Holds W "front" table → Below W → HasT (in_world W) true Pair-min.code
Pair-min-linked = the_link.linked-front::Pair::min

pub pos-Pos-above-linked : (W : World) → Holds W "front" table → Below W → HasT (in_world W) true pos-Pos-above.code
pos-Pos-above-linked = the_link.linked-front::pos::Pos::above

pub pos-Pos-at_least-linked : (W : World) → Holds W "front" table → Below W → HasT (in_world W) true pos-Pos-at_least.code
pos-Pos-at_least-linked = the_link.linked-front::pos::Pos::at_least

pub pos-Pos-max-linked : (W : World) → Holds W "front" table → Below W → HasT (in_world W) true pos-Pos-max.code
pos-Pos-max-linked = the_link.linked-front::pos::Pos::max

pub pos-Pos-min-linked : (W : World) → Holds W "front" table → Below W → HasT (in_world W) true pos-Pos-min.code
pos-Pos-min-linked = the_link.linked-front::pos::Pos::min
