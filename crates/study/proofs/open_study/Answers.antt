-- `study::open_study` in three stages: the trailer, nodes and arcs, the rounds.
use mathlib.Core.Path.{sym, ap, ◌∙◌}
use native.Mathlib.Omega.{arith}
use borrow.Author.Tests.{lt-ltb, le-ltb}
use Rattle.answer.specs.Outcome.{done}
use Rattle.parts.specs.Steps.{counted}
use Rattle.study.proofs.Opens.{code-refused, code-sizes, code-rounds, code-third}
use Rattle.study.proofs.open_study.Goals as goal

pub overflow_add-n1 : goal.overflow_add-n1
overflow_add-n1 c =
    omega (arith, code-sizes c.args.file.now c.read_trailer-t.result _ _ _ _ c.read_trailer-t.ensures c.node_bytes.ensures c.arc_bytes.ensures c.test_trailer.ensures (ap done c.in_default.is) c.test_parts.ensures c.in-Ok.field-0.n1 c.in-Ok.field-0.n2 (ap counted c.in-Ok.is))

pub overflow_mul-t : goal.overflow_mul-t
overflow_mul-t c =
    omega (arith, code-rounds c.args.file.now c.read_trailer-t.result _ _ _ _ c.read_trailer-t.ensures c.node_bytes.ensures c.arc_bytes.ensures c.test_trailer.ensures (ap done c.in_default.is) c.test_parts.ensures c.in-Ok.field-0.n1 c.in-Ok.field-0.n2 (ap counted c.in-Ok.is))

pub returns-then-t-n1 : goal.returns-then-t-n1
returns-then-t-n1 c =
    let third = code-third c.args.file.now c.read_trailer-t.result _ _ _ _ c.read_trailer-t.ensures c.node_bytes.ensures c.arc_bytes.ensures c.test_trailer.ensures (ap done c.in_default.is) c.test_parts.ensures c.in-Ok.field-0.n1 c.in-Ok.field-0.n2 (ap counted c.in-Ok.is) in
    sym (third ∙ rw (lt-ltb _ _ c.if-t-n1.true))

pub returns-in-Err-test_parts : goal.returns-in-Err-test_parts
returns-in-Err-test_parts c =
    code-refused c.args.file.now c.read_trailer-t.result _ _ _ _ c.read_trailer-t.ensures c.node_bytes.ensures c.arc_bytes.ensures c.test_trailer.ensures (ap done c.in_default.is) c.test_parts.ensures _ (ap counted c.in-Err-test_parts.is)

pub returns-else-t-n1 : goal.returns-else-t-n1
returns-else-t-n1 c =
    let third = code-third c.args.file.now c.read_trailer-t.result _ _ _ _ c.read_trailer-t.ensures c.node_bytes.ensures c.arc_bytes.ensures c.test_trailer.ensures (ap done c.in_default.is) c.test_parts.ensures c.in-Ok.field-0.n1 c.in-Ok.field-0.n2 (ap counted c.in-Ok.is) in
    sym (third ∙ rw (le-ltb _ _ c.if-t-n1.false))
