-- `tally::new` clears head and cells, and stores the sizes.
use mathlib.Core.Path.{ap, ◌∙◌}
use lib.ListN.{set}
use Rattle.tally.proofs.News.{new-done}
use Rattle.tally.proofs.new.Goals as goal

pub returns : goal.returns
returns c =
    let a = c.args in
    let d = new-done a.n1 a.n2 a.tally.now c.if-a-b.false c.if-tally-n.false in
    record { answer = d.0; slice = ap (λ w. set (set w 0 a.n1) 1 a.n2) c.clear.ensures ∙ d.1 }
