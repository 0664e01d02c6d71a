-- `soundness::check` looks at nothing before it is known to be there.
use mathlib.Core.Path.{sym, ◌∙◌}
use native.Mathlib.Omega.{arith}
use Rattle.laws.specs.Parts.{tail-part}
use Rattle.soundness.specs.Tally.{head_words}
use Rattle.soundness.proofs.States.{unfair, good}
use Rattle.soundness.proofs.check.Goals as goal

pub returns-then-not-is_fair : goal.returns-then-not-is_fair
returns-then-not-is_fair c =
    let fair = rw (tail-part c.args.tally.now head_words) at c.is_fair.ensures in
    sym (unfair c.args.tally.now c.in-len4-up.len_at_least c.if-n1-n2.false (omega arith) c.if-rounds-gt-FULL.false (sym fair ∙ c.if-not-is_fair.true))

pub returns : goal.returns
returns c =
    let fair = rw (tail-part c.args.tally.now head_words) at c.is_fair.ensures in
    sym (good c.args.tally.now c.in-len4-up.len_at_least c.if-n1-n2.false (omega arith) c.if-rounds-gt-FULL.false (sym fair ∙ c.if-not-is_fair.false))
