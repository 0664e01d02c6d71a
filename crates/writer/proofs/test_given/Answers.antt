-- `writer::test_given` in stages: counts and ends, nodes and arcs, rounds.
use mathlib.Core.Path.{ap}
use native.Mathlib.Omega.{arith}
use Rattle.parts.specs.Steps.{counted}
use Rattle.writer.specs.Writer.{Given, given}
use Rattle.writer.proofs.Answers.{code-refused, code-few, code-rounds, code_other, code-last}
use Rattle.writer.proofs.test_given.Goals as goal

pub overflow_add-n1 : goal.overflow_add-n1
overflow_add-n1 c =
    let of : Given = let a = c.args in given a.nodes.now a.arcs.now a.rounds.now a.source a.target a.total in
    omega (arith, code-few of _ _ _ c.bad_counts.ensures c.if-bad_counts-arcs.false c.bad_ends.ensures c.if-bad_ends.false c.test_parts.ensures c.in-Ok.field-0.n1 c.in-Ok.field-0.n2 (ap counted c.in-Ok.is))

pub overflow_mul-total : goal.overflow_mul-total
overflow_mul-total c =
    let of : Given = let a = c.args in given a.nodes.now a.arcs.now a.rounds.now a.source a.target a.total in
    omega (arith, code-rounds of _ _ _ c.bad_counts.ensures c.if-bad_counts-arcs.false c.bad_ends.ensures c.if-bad_ends.false c.test_parts.ensures c.in-Ok.field-0.n1 c.in-Ok.field-0.n2 (ap counted c.in-Ok.is))

pub returns-then-rounds-total : goal.returns-then-rounds-total
returns-then-rounds-total c =
    let of : Given = let a = c.args in given a.nodes.now a.arcs.now a.rounds.now a.source a.target a.total in
    code_other of _ _ _ c.bad_counts.ensures c.if-bad_counts-arcs.false c.bad_ends.ensures c.if-bad_ends.false c.test_parts.ensures c.in-Ok.field-0.n1 c.in-Ok.field-0.n2 (ap counted c.in-Ok.is) c.if-rounds-total.true

pub bad_rounds-requires : goal.bad_rounds-requires
bad_rounds-requires c =
    let of : Given = let a = c.args in given a.nodes.now a.arcs.now a.rounds.now a.source a.target a.total in
    code-few of _ _ _ c.bad_counts.ensures c.if-bad_counts-arcs.false c.bad_ends.ensures c.if-bad_ends.false c.test_parts.ensures c.in-Ok.field-0.n1 c.in-Ok.field-0.n2 (ap counted c.in-Ok.is)

pub returns-then-bad_rounds : goal.returns-then-bad_rounds
returns-then-bad_rounds c =
    let of : Given = let a = c.args in given a.nodes.now a.arcs.now a.rounds.now a.source a.target a.total in
    let last = code-last of _ _ _ c.bad_counts.ensures c.if-bad_counts-arcs.false c.bad_ends.ensures c.if-bad_ends.false c.test_parts.ensures c.in-Ok.field-0.n1 c.in-Ok.field-0.n2 (ap counted c.in-Ok.is) _ c.if-rounds-total.false c.bad_rounds.ensures in
    rw c.if-bad_rounds.true at last

pub returns-in-Err : goal.returns-in-Err
returns-in-Err c =
    let of : Given = let a = c.args in given a.nodes.now a.arcs.now a.rounds.now a.source a.target a.total in
    code-refused of _ _ _ c.bad_counts.ensures c.if-bad_counts-arcs.false c.bad_ends.ensures c.if-bad_ends.false c.test_parts.ensures _ (ap counted c.in-Err.is)

pub returns-else-bad_rounds : goal.returns-else-bad_rounds
returns-else-bad_rounds c =
    let of : Given = let a = c.args in given a.nodes.now a.arcs.now a.rounds.now a.source a.target a.total in
    let last = code-last of _ _ _ c.bad_counts.ensures c.if-bad_counts-arcs.false c.bad_ends.ensures c.if-bad_ends.false c.test_parts.ensures c.in-Ok.field-0.n1 c.in-Ok.field-0.n2 (ap counted c.in-Ok.is) _ c.if-rounds-total.false c.bad_rounds.ensures in
    rw c.if-bad_rounds.false at last
