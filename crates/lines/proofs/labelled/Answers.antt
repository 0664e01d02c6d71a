-- `lines::labelled` writes the digits of the definition.
use mathlib.Core.Path.{ap₂, ◌∙◌}
use mathlib.Core.List.{◌++◌}
use Rattle.lines.proofs.Texts.{decimal-is}
use Rattle.lines.proofs.labelled.Goals as goal

pub returns-clause-text : goal.returns-clause-text
returns-clause-text c = c.push_str-2.ensures.bytes ∙ ap₂ (λ a b. a ++ b) c.push_str.ensures.bytes (c.format.ensures.text ∙ decimal-is c.args.n c.ranges.n.fits)
