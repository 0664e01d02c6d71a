-- `sweep::collect` leaves the buffer, or puts the pair.
use mathlib.Core.Path.{sym, ◌∙◌}
use Prim.Native.Nat.{◌<◌}
use borrow.Author.Tests.{leb-false}
use Rattle.sweep.proofs.collect.Goals as goal

pub put-requires : goal.put-requires
put-requires c =
    let rises : let a = c.args in a.last.0 < a.p.p2.0 = leb-false _ _ (sym c.at_least.ensures ∙ c.if-at_least.false) in
    c.requires rises
