-- `labels::drain` empties the stack, or stops when the source has the level; every push lowers the count of nodes below the level.
use mathlib.Core.Path.{refl, sym, ap, ◌∙◌}
use native.Mathlib.Omega.{arith}
use lib.ListN.{get_or, length-set}
use borrow.Author.Tests.{leb-true}
use Rattle.labels.proofs.Drains.{begin, emptied, drained, popped}
use Rattle.labels.proofs.drain.Goals as goal

pub loop-top-init : goal.loop-top-init
loop-top-init c = λ f b.
    record {
      work = begin c.args.stack.now (omega (arith, b.work.fits, b.room)) b.work;
      lengths = record { labels = refl; pile = length-set c.args.stack.now 0 c.args.at.node; levels = refl };
      lent = b.lent;
      room = rw length-set b.room;
    }

pub returns-then-at_least-clause-work : goal.returns-then-at_least-clause-work
returns-then-at_least-clause-work c = λ f b.
    let l = c.loop-top in
    let full = leb-true c.args.at.level.0 (get_or l.label c.args.at.source 0) (sym c.at_least.ensures ∙ c.if-at_least.true) in
    emptied (l.invariant f b).work (λ _. omega (arith, ap (λ s. get_or l.label s 0) b.source, full))

pub spread-top-requires : goal.spread-top-requires
spread-top-requires c = (c.requires.0, popped c.requires.1 (c.loop-top.invariant c.requires.0 c.requires.1) (omega arith))

pub loop-top-preserved : goal.loop-top-preserved
loop-top-preserved c = λ f b.
    let l = c.loop-top.invariant f b in drained l (c.spread-top.ensures.work f (popped b l (omega arith))) c.spread-top.ensures.kept

pub returns-clause-work : goal.returns-clause-work
returns-clause-work c = λ f b. emptied (c.loop-top.invariant f b).work (λ h. absurd (omega arith))
