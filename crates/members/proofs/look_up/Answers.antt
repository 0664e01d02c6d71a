-- `members::look_up`: the first k places are filled in.
use Rattle.laws.specs.Members.{at_in}
use Rattle.members.proofs.Tables.{named-on}
use mathlib.Core.Path.{refl}
use native.Mathlib.Omega.{arith}
use lib.ListN.{get_or, length-set}
use Rattle.members.proofs.look_up.Goals as goal

pub bounds-table-place : goal.bounds-table-place
bounds-table-place c = let o = c.args.order.now in omega (arith, c.requires.small (get_or o c.loop-k.k 0) (at_in o c.loop-k.k 0 (omega arith)))

pub loop-k-preserved : goal.loop-k-preserved
loop-k-preserved c = let l = c.loop-k.invariant in (named-on l.0 (omega arith) (omega (arith, l.1, c.requires.few)) _ refl, rw length-set l.1)

pub returns : goal.returns
returns c = let l = c.loop-k.invariant in record { long = l.1; named = λ k h. l.0.at k (omega arith) }
