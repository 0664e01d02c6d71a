-- `convert::convert` writes only when no number is left.
use mathlib.Core.Path.{refl, sym, ap, ◌∙◌}
use native.Mathlib.Omega.{arith}
use Rattle.answer.specs.Outcome.{done}
use Rattle.answer.proofs.Fills.{fill-refused, fill-delivered, deliver-short, deliver-done}
use Rattle.slices.proofs.Placing.{placed_first}
use Rattle.slices.specs.Steps.{placed}
use Rattle.convert.specs.Convert.{convert_tests, convert_bytes}
use Rattle.convert.proofs.Writes.{code_passed, code-end, code-small, code-nodes, code_below, code-length, code_bytes}
use Rattle.convert.proofs.convert.Goals as goal

pub returns-in-Err : goal.returns-in-Err
returns-in-Err c = let f = c.args.old.now in
    let both = fill-refused (convert_tests f) (convert_bytes f) c.args.out.now _ (sym c.test_old.ensures ∙ ap done c.in-Err.is) in record { answer = both.0; slice = both.1 }

pub overflow_add-da : goal.overflow_add-da
overflow_add-da c = omega (arith, code-small c.args.old.now c.read_trailer-t.result _ _ _ _ c.read_trailer-t.ensures c.node_bytes-nodes.ensures c.count.ensures.0 c.count-2.ensures.0 c.test_old.ensures (ap done c.in_default.is))

pub overflow_add-dn : goal.overflow_add-dn
overflow_add-dn c = omega (arith, code-small c.args.old.now c.read_trailer-t.result _ _ _ _ c.read_trailer-t.ensures c.node_bytes-nodes.ensures c.count.ensures.0 c.count-2.ensures.0 c.test_old.ensures (ap done c.in_default.is))

pub overflow_add-end : goal.overflow_add-end
overflow_add-end c = omega (arith, code-small c.args.old.now c.read_trailer-t.result _ _ _ _ c.read_trailer-t.ensures c.node_bytes-nodes.ensures c.count.ensures.0 c.count-2.ensures.0 c.test_old.ensures (ap done c.in_default.is))

pub returns-then-out-end : goal.returns-then-out-end
returns-then-out-end c =
    let f = c.args.old.now in
    let out = c.args.out.now in
    let passed = code_passed c.args.old.now c.read_trailer-t.result _ _ _ _ c.read_trailer-t.ensures c.node_bytes-nodes.ensures c.count.ensures.0 c.count-2.ensures.0 c.test_old.ensures (ap done c.in_default.is) in
    let end = code-end c.args.old.now c.read_trailer-t.result _ _ _ _ c.read_trailer-t.ensures c.node_bytes-nodes.ensures c.count.ensures.0 c.count-2.ensures.0 c.test_old.ensures (ap done c.in_default.is) in
    let both = fill-delivered (convert_tests f) (convert_bytes f) out passed refl (deliver-short (convert_bytes f) out (omega (arith, end))) in record { answer = both.0; slice = both.1 }

pub round_at-requires : goal.round_at-requires
round_at-requires c = omega (arith, code-small c.args.old.now c.read_trailer-t.result _ _ _ _ c.read_trailer-t.ensures c.node_bytes-nodes.ensures c.count.ensures.0 c.count-2.ensures.0 c.test_old.ensures (ap done c.in_default.is))

pub lay_out-requires : goal.lay_out-requires
lay_out-requires c = record {
  nodes = (code-nodes c.args.old.now c.read_trailer-t.result _ _ _ _ c.read_trailer-t.ensures c.node_bytes-nodes.ensures c.count.ensures.0 c.count-2.ensures.0 c.test_old.ensures (ap done c.in_default.is) c.arc_bytes.result.now _ c.arc_bytes.ensures c.round_at.ensures.bytes, code_below c.args.old.now c.read_trailer-t.result _ _ _ _ c.read_trailer-t.ensures c.node_bytes-nodes.ensures c.count.ensures.0 c.count-2.ensures.0 c.test_old.ensures (ap done c.in_default.is) c.arc_bytes.result.now _ c.arc_bytes.ensures c.round_at.ensures.bytes);
  room = omega (arith, code-length c.args.old.now c.read_trailer-t.result _ _ _ _ c.read_trailer-t.ensures c.node_bytes-nodes.ensures c.count.ensures.0 c.count-2.ensures.0 c.test_old.ensures (ap done c.in_default.is) c.arc_bytes.result.now _ c.arc_bytes.ensures c.round_at.ensures.bytes, c.if-out-end.false);
}

pub returns : goal.returns
returns c =
    let f = c.args.old.now in
    let out = c.args.out.now in
    let passed = code_passed c.args.old.now c.read_trailer-t.result _ _ _ _ c.read_trailer-t.ensures c.node_bytes-nodes.ensures c.count.ensures.0 c.count-2.ensures.0 c.test_old.ensures (ap done c.in_default.is) in
    let end = code-end c.args.old.now c.read_trailer-t.result _ _ _ _ c.read_trailer-t.ensures c.node_bytes-nodes.ensures c.count.ensures.0 c.count-2.ensures.0 c.test_old.ensures (ap done c.in_default.is) in
    let same = code_bytes c.args.old.now c.read_trailer-t.result _ _ _ _ c.read_trailer-t.ensures c.node_bytes-nodes.ensures c.count.ensures.0 c.count-2.ensures.0 c.test_old.ensures (ap done c.in_default.is) c.arc_bytes.result.now _ c.arc_bytes.ensures c.round_at.ensures.bytes _ refl in
    let both = fill-delivered (convert_tests f) (convert_bytes f) out passed refl
    (deliver-done (convert_bytes f) out (omega (arith, end)) _ end (c.lay_out.ensures ∙ ap (λ b. placed 0 b out) same ∙ placed_first (convert_bytes f) out)) in record { answer = both.0; slice = both.1 }
