-- `search::search` opens the file for the round, and delivers the record of its front.
use mathlib.Core.Path.{◌≡◌, sym, ap, ◌∙◌}
use mathlib.Core.List.{[], ◌∷◌}
use Prim.Native.Nat.{◌≤◌}
use native.Mathlib.Omega.{arith}
use lib.ListN.{length}
use lib.Seq.{length-take-le}
use Rattle.answer.specs.Outcome.{success, outcome, opened, header_values}
use Rattle.answer.proofs.Outcomes.{refused_as, success-as}
use Rattle.answer.proofs.Fills.{fill-refused, fill-delivered}
use Rattle.sections.specs.File.{round_in, study_of}
use Rattle.study.specs.Calls.{open_values, round_tests}
use Rattle.study.proofs.Lookups.{size_small, round-small, round-part}
use Rattle.search.specs.Search.{search_bytes}
use Rattle.search.proofs.Searches.{round-check, orders-long, round-given}
use Rattle.search.proofs.search.Goals as goal

pub overflow_add-h : goal.overflow_add-h
overflow_add-h c =
    let opens : outcome (round_tests c.args.file.now c.args.round) (open_values c.args.file.now) ≡ success (header_values c.in-Ok.h) = sym c.open_orders.ensures ∙ ap opened c.in-Ok.is in
    let f = c.args.file.now in let r = c.args.round in omega (arith, size_small f _ r (round-check f _ r (opens)))

pub round_at-bytes-requires : goal.round_at-bytes-requires
round_at-bytes-requires c =
    let opens : outcome (round_tests c.args.file.now c.args.round) (open_values c.args.file.now) ≡ success (header_values c.in-Ok.h) = sym c.open_orders.ensures ∙ ap opened c.in-Ok.is in
    let f = c.args.file.now in let r = c.args.round in round-small f _ r (round-check f _ r (opens))

pub slice_bounds-search_round-end : goal.slice_bounds-search_round-end
slice_bounds-search_round-end c =
    let opens : outcome (round_tests c.args.file.now c.args.round) (open_values c.args.file.now) ≡ success (header_values c.in-Ok.h) = sym c.open_orders.ensures ∙ ap opened c.in-Ok.is in
    let part : c.round_at-bytes.result.now ≡ round_in c.args.file.now c.args.round = c.round_at-bytes.ensures.bytes ∙ round-part c.args.file.now _ c.args.round (round-check c.args.file.now _ c.args.round (opens)) in
    let within : c.in-Ok.h.n1 ≤ length c.round_at-bytes.result.now = omega (arith, ap length (part), orders-long c.args.file.now _ c.args.round (opens)) in
    sym (length-take-le c.in-Ok.h.n1 c.round_at-bytes.result.now within)

pub slice_bounds-search_round-count : goal.slice_bounds-search_round-count
slice_bounds-search_round-count c =
    let opens : outcome (round_tests c.args.file.now c.args.round) (open_values c.args.file.now) ≡ success (header_values c.in-Ok.h) = sym c.open_orders.ensures ∙ ap opened c.in-Ok.is in
    let part : c.round_at-bytes.result.now ≡ round_in c.args.file.now c.args.round = c.round_at-bytes.ensures.bytes ∙ round-part c.args.file.now _ c.args.round (round-check c.args.file.now _ c.args.round (opens)) in
    let within : c.in-Ok.h.n1 ≤ length c.round_at-bytes.result.now = omega (arith, ap length (part), orders-long c.args.file.now _ c.args.round (opens)) in
    omega (arith, within)

pub slice_bounds-search_round-start : goal.slice_bounds-search_round-start
slice_bounds-search_round-start c =
    let opens : outcome (round_tests c.args.file.now c.args.round) (open_values c.args.file.now) ≡ success (header_values c.in-Ok.h) = sym c.open_orders.ensures ∙ ap opened c.in-Ok.is in
    let part : c.round_at-bytes.result.now ≡ round_in c.args.file.now c.args.round = c.round_at-bytes.ensures.bytes ∙ round-part c.args.file.now _ c.args.round (round-check c.args.file.now _ c.args.round (opens)) in
    let within : c.in-Ok.h.n1 ≤ length c.round_at-bytes.result.now = omega (arith, ap length (part), orders-long c.args.file.now _ c.args.round (opens)) in
    omega (arith, within)

pub search_round-found-requires : goal.search_round-found-requires
search_round-found-requires c =
    let opens : outcome (round_tests c.args.file.now c.args.round) (open_values c.args.file.now) ≡ success (header_values c.in-Ok.h) = sym c.open_orders.ensures ∙ ap opened c.in-Ok.is in
    let part : c.round_at-bytes.result.now ≡ round_in c.args.file.now c.args.round = c.round_at-bytes.ensures.bytes ∙ round-part c.args.file.now _ c.args.round (round-check c.args.file.now _ c.args.round (opens)) in
    let f = c.args.file.now in
    let r = c.args.round in
    (study_of f, r, round-given f _ r (opens) c.node_bytes-nodes.result.now c.arc_bytes-arcs.result.now c.round_at-bytes.result.now c.node_bytes-nodes.ensures c.arc_bytes-arcs.ensures (part))

pub returns-in-Err : goal.returns-in-Err
returns-in-Err c = let f = c.args.file.now in
    let r = c.args.round in
    let both = fill-refused (round_tests f r) (search_bytes f r) c.args.out.now _ (refused_as (round_tests f r) (open_values f) (0 ∷ []) _ (sym c.open_orders.ensures ∙ ap opened c.in-Err.is)) in record { answer = both.0; slice = both.1 }

pub returns-in-Ok : goal.returns-in-Ok
returns-in-Ok c =
    let opens : outcome (round_tests c.args.file.now c.args.round) (open_values c.args.file.now) ≡ success (header_values c.in-Ok.h) = sym c.open_orders.ensures ∙ ap opened c.in-Ok.is in
    let part : c.round_at-bytes.result.now ≡ round_in c.args.file.now c.args.round = c.round_at-bytes.ensures.bytes ∙ round-part c.args.file.now _ c.args.round (round-check c.args.file.now _ c.args.round (opens)) in
    let f = c.args.file.now in
    let r = c.args.round in
    let g = round-given f _ r (opens) c.node_bytes-nodes.result.now c.arc_bytes-arcs.result.now c.round_at-bytes.result.now c.node_bytes-nodes.ensures c.arc_bytes-arcs.ensures (part) in
    let both = fill-delivered (round_tests f r) (search_bytes f r) c.args.out.now (success-as (round_tests f r) (open_values f) (0 ∷ []) (opens)) (c.search_round-found.ensures (study_of f) r g)
    (c.deliver.ensures.answer, c.deliver.ensures.slice) in record { answer = both.0; slice = both.1 }
