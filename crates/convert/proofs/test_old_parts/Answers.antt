-- `convert::test_old_parts`: the tests of nodes, then that of arcs.
use mathlib.Core.Path.{◌≡◌, sym, ap, ◌∙◌}
use mathlib.Core.Bool.{true, false}
use mathlib.Core.List.{[], ◌∷◌}
use lib.ListN.{length}
use Rattle.answer.specs.Outcome.{success, outcome}
use Rattle.answer.proofs.Outcomes.{success-as}
use Rattle.parts.specs.Tests.{part_tests}
use Rattle.parts.specs.Steps.{counted}
use Rattle.convert.proofs.Scans.{bad_all}
use Rattle.convert.proofs.Stages.{nodes-passed}
use Rattle.convert.proofs.test_old_parts.Goals as goal

pub returns-then-bad_arcs : goal.returns-then-bad_arcs
returns-then-bad_arcs c =
    let passed : let nodes = c.args.nodes.now in outcome (part_tests (length nodes) nodes []) (0 ∷ []) ≡ success (0 ∷ []) = let nodes = c.args.nodes.now in success-as (part_tests (length nodes) nodes []) _ (0 ∷ []) (sym c.test_parts.ensures ∙ ap counted c.in_default.is) in
    let a = c.args in
    nodes-passed (length a.nodes.now) a.nodes.now a.arcs.now (passed) true (sym (bad_all (length a.nodes.now) a.arcs.now ∙ sym c.bad_arcs.ensures ∙ c.if-bad_arcs.true))

pub returns : goal.returns
returns c =
    let passed : let nodes = c.args.nodes.now in outcome (part_tests (length nodes) nodes []) (0 ∷ []) ≡ success (0 ∷ []) = let nodes = c.args.nodes.now in success-as (part_tests (length nodes) nodes []) _ (0 ∷ []) (sym c.test_parts.ensures ∙ ap counted c.in_default.is) in
    let a = c.args in
    nodes-passed (length a.nodes.now) a.nodes.now a.arcs.now (passed) false (sym (bad_all (length a.nodes.now) a.arcs.now ∙ sym c.bad_arcs.ensures ∙ c.if-bad_arcs.false))
