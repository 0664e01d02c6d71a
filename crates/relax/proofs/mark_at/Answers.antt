-- `relax::mark_at` is the level where it waits, else 0.
use mathlib.Core.Path.{sym, ◌∙◌}
use Rattle.relax.proofs.mark_at.Goals as goal

pub returns-then-at_least : goal.returns-then-at_least
returns-then-at_least c = rw (sym c.at_least.ensures ∙ c.if-at_least.true)

pub returns : goal.returns
returns c = rw (sym c.at_least.ensures ∙ c.if-at_least.false)
