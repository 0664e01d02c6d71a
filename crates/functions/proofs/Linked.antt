-- A library with the table of each crate has the code of each call, with the code of all that it calls.
use mathlib.Core.Bool.{true}
use prog.Linked.{World, Holds, in_world}
use prog.LinkedThreads.{HasT}
use Rattle.answer.proofs.Linked as answer-link
use Rattle.front.proofs.Linked as front-link
use Rattle.slices.proofs.Linked as slices-link
use Rattle.record.proofs.Linked as record-link
use Rattle.buffer.proofs.Linked as buffer-link
use Rattle.compose.proofs.Linked as compose-link
use Rattle.orders.proofs.Linked as orders-link
use Rattle.parts.proofs.Linked as parts-link
use Rattle.sections.proofs.Linked as sections-link
use Rattle.study.proofs.Linked as study-link
use Rattle.writer.proofs.Linked as writer-link
use Rattle.convert.proofs.Linked as convert-link
use Rattle.soundness.proofs.Linked as soundness-link
use Rattle.weights.proofs.Linked as weights-link
use Rattle.reliability.proofs.Linked as reliability-link
use Rattle.chains.proofs.Linked as chains-link
use Rattle.members.proofs.Linked as members-link
use Rattle.relax.proofs.Linked as relax-link
use Rattle.labels.proofs.Linked as labels-link
use Rattle.sweep.proofs.Linked as sweep-link
use Rattle.search.proofs.Linked as search-link
use Rattle.cells.proofs.Linked as cells-link
use Rattle.tally.proofs.Linked as tally-link
use Rattle.medlarbrace.proofs.Linked as medlarbrace-link
use Rattle.medlarbrace.proofs.files.medlarbrace_open.Symbol as opening-symbol
use Rattle.medlarbrace.proofs.files.medlarbrace_round.Symbol as lookup-symbol
use Rattle.medlarbrace.proofs.files.medlarbrace_search.Symbol as search-symbol
use Rattle.medlarbrace.proofs.records.medlarbrace_series.Symbol as series-symbol
use Rattle.medlarbrace.proofs.records.medlarbrace_parallel.Symbol as parallel-symbol
use Rattle.medlarbrace.proofs.tallies.medlarbrace_tally_new.Symbol as new-symbol
use Rattle.medlarbrace.proofs.tallies.medlarbrace_tally_add.Symbol as add-symbol
use Rattle.medlarbrace.proofs.tallies.medlarbrace_tally_remove.Symbol as remove-symbol
use Rattle.medlarbrace.proofs.tallies.medlarbrace_tally_score.Symbol as score-symbol
use Rattle.medlarbrace.proofs.tallies.medlarbrace_ageing.Symbol as ageing-symbol
use Rattle.medlarbrace.proofs.tallies.medlarbrace_weights.Symbol as weights-symbol
use Rattle.medlarbrace.proofs.tallies.medlarbrace_reliability.Symbol as reliability-symbol
use Rattle.medlarbrace.proofs.files.medlarbrace_write.Symbol as writer-symbol
use Rattle.medlarbrace.proofs.files.medlarbrace_convert.Symbol as converter-symbol

pub record Tables (W : World) : Type 0 where
  pub has-answer : Holds W "answer" answer-link.table
  pub has-front : Holds W "front" front-link.table
  pub has-slices : Holds W "slices" slices-link.table
  pub has-record : Holds W "record" record-link.table
  pub has-buffer : Holds W "buffer" buffer-link.table
  pub has-compose : Holds W "compose" compose-link.table
  pub has-orders : Holds W "orders" orders-link.table
  pub has-parts : Holds W "parts" parts-link.table
  pub has-sections : Holds W "sections" sections-link.table
  pub has-study : Holds W "study" study-link.table
  pub has-writer : Holds W "writer" writer-link.table
  pub has-convert : Holds W "convert" convert-link.table
  pub has-soundness : Holds W "soundness" soundness-link.table
  pub has-weights : Holds W "weights" weights-link.table
  pub has-reliability : Holds W "reliability" reliability-link.table
  pub has-chains : Holds W "chains" chains-link.table
  pub has-members : Holds W "members" members-link.table
  pub has-relax : Holds W "relax" relax-link.table
  pub has-labels : Holds W "labels" labels-link.table
  pub has-sweep : Holds W "sweep" sweep-link.table
  pub has-search : Holds W "search" search-link.table
  pub has-cells : Holds W "cells" cells-link.table
  pub has-tally : Holds W "tally" tally-link.table
  pub has-medlarbrace : Holds W "medlarbrace" medlarbrace-link.table

module _ (W : World) (t : Tables W) where
  pub answer-below : answer-link.Below W
  answer-below = tt

  pub front-below : front-link.Below W
  front-below = tt

  pub slices-below : slices-link.Below W
  slices-below = tt

  pub record-below : record-link.Below W
  record-below = (front-link.Pair-holds-linked W t.has-front front-below, (front-link.pos-Pos-above-linked W t.has-front front-below, (front-link.pos-Pos-at_least-linked W t.has-front front-below, (slices-link.byte-linked W t.has-slices slices-below, tt))))

  pub buffer-below : buffer-link.Below W
  buffer-below = (answer-link.deliver-linked W t.has-answer answer-below, (front-link.Pair-covers-linked W t.has-front front-below, (front-link.Pair-dominates-linked W t.has-front front-below, (record-link.pair_at-linked W t.has-record record-below, tt))))

  pub compose-below : compose-link.Below W
  compose-below = (buffer-link.FrontRecord-deliver-linked W t.has-buffer buffer-below, (buffer-link.FrontRecord-empty-linked W t.has-buffer buffer-below, (buffer-link.FrontRecord-put-linked W t.has-buffer buffer-below, (front-link.Pair-min-linked W t.has-front front-below, (front-link.pos-Pos-at_least-linked W t.has-front front-below, (record-link.is_record-linked W t.has-record record-below, (record-link.pair_at-linked W t.has-record record-below, (record-link.read_head-linked W t.has-record record-below, tt))))))))

  pub orders-below : orders-link.Below W
  orders-below = (slices-link.part-linked W t.has-slices slices-below, (slices-link.put-linked W t.has-slices slices-below, tt))

  pub parts-below : parts-link.Below W
  parts-below = (orders-link.are_orders-linked W t.has-orders orders-below, (orders-link.count-linked W t.has-orders orders-below, (slices-link.part-linked W t.has-slices slices-below, tt)))

  pub sections-below : sections-link.Below W
  sections-below = (slices-link.part-linked W t.has-slices slices-below, (slices-link.word-linked W t.has-slices slices-below, tt))

  pub study-below : study-link.Below W
  study-below = (orders-link.is_round-linked W t.has-orders orders-below, (parts-link.bad_counts-linked W t.has-parts parts-below, (parts-link.bad_ends-linked W t.has-parts parts-below, (parts-link.test_parts-linked W t.has-parts parts-below, (sections-link.arc_bytes-linked W t.has-sections sections-below, (sections-link.node_bytes-linked W t.has-sections sections-below, (sections-link.read_trailer-linked W t.has-sections sections-below, (sections-link.round_at-linked W t.has-sections sections-below, tt))))))))

  pub writer-below : writer-link.Below W
  writer-below = (parts-link.bad_counts-linked W t.has-parts parts-below, (parts-link.bad_ends-linked W t.has-parts parts-below, (parts-link.bad_rounds-linked W t.has-parts parts-below, (parts-link.test_parts-linked W t.has-parts parts-below, (slices-link.put-linked W t.has-slices slices-below, (slices-link.put_word-linked W t.has-slices slices-below, tt))))))

  pub convert-below : convert-link.Below W
  convert-below = (orders-link.count-linked W t.has-orders orders-below, (parts-link.bad_arcs-linked W t.has-parts parts-below, (parts-link.bad_orders-linked W t.has-parts parts-below, (parts-link.test_parts-linked W t.has-parts parts-below, (sections-link.arc_bytes-linked W t.has-sections sections-below, (sections-link.node_bytes-linked W t.has-sections sections-below, (sections-link.read_trailer-linked W t.has-sections sections-below, (sections-link.round_at-linked W t.has-sections sections-below, (slices-link.put-linked W t.has-slices slices-below, (study-link.test_trailer-linked W t.has-study study-below, (writer-link.put_trailer-linked W t.has-writer writer-below, tt)))))))))))

  pub soundness-below : soundness-link.Below W
  soundness-below = tt

  pub weights-below : weights-link.Below W
  weights-below = tt

  pub reliability-below : reliability-link.Below W
  reliability-below = (soundness-link.check-linked W t.has-soundness soundness-below, (weights-link.fill-linked W t.has-weights weights-below, tt))

  pub chains-below : chains-link.Below W
  chains-below = tt

  pub members-below : members-link.Below W
  members-below = (orders-link.same-linked W t.has-orders orders-below, tt)

  pub relax-below : relax-link.Below W
  relax-below = (front-link.pos-Pos-at_least-linked W t.has-front front-below, (front-link.pos-Pos-min-linked W t.has-front front-below, tt))

  pub labels-below : labels-link.Below W
  labels-below = (front-link.pos-Pos-at_least-linked W t.has-front front-below, (relax-link.spread-linked W t.has-relax relax-below, tt))

  pub sweep-below : sweep-link.Below W
  sweep-below = (buffer-link.FrontRecord-empty-linked W t.has-buffer buffer-below, (buffer-link.FrontRecord-put-linked W t.has-buffer buffer-below, (front-link.pos-Pos-above-linked W t.has-front front-below, (front-link.pos-Pos-at_least-linked W t.has-front front-below, (labels-link.flood-linked W t.has-labels labels-below, tt)))))

  pub search-below : search-link.Below W
  search-below = (buffer-link.FrontRecord-deliver-linked W t.has-buffer buffer-below, (chains-link.link-linked W t.has-chains chains-below, (front-link.pos-Pos-min-linked W t.has-front front-below, (members-link.element_orders-linked W t.has-members members-below, (sections-link.arc_bytes-linked W t.has-sections sections-below, (sections-link.node_bytes-linked W t.has-sections sections-below, (sections-link.round_at-linked W t.has-sections sections-below, (study-link.open_orders-linked W t.has-study study-below, (sweep-link.sweep-linked W t.has-sweep sweep-below, tt)))))))))

  pub cells-below : cells-link.Below W
  cells-below = (front-link.pos-Pos-max-linked W t.has-front front-below, (record-link.holds-linked W t.has-record record-below, (record-link.pair_at-linked W t.has-record record-below, (record-link.read_head-linked W t.has-record record-below, tt))))

  pub tally-below : tally-link.Below W
  tally-below = (cells-link.change_rows-linked W t.has-cells cells-below, (cells-link.edges_ready-linked W t.has-cells cells-below, (cells-link.top_ready-linked W t.has-cells cells-below, (record-link.is_record-linked W t.has-record record-below, (record-link.read_head-linked W t.has-record record-below, (soundness-link.check-linked W t.has-soundness soundness-below, tt))))))

  pub medlarbrace-below : medlarbrace-link.Below W
  medlarbrace-below = (answer-link.U32FromRefusal-from-linked W t.has-answer answer-below, (compose-link.parallel-linked W t.has-compose compose-below, (compose-link.series-linked W t.has-compose compose-below, (convert-link.convert-linked W t.has-convert convert-below, (reliability-link.reliability-linked W t.has-reliability reliability-below, (search-link.search-linked W t.has-search search-below, (sections-link.round_start-linked W t.has-sections sections-below, (study-link.open_round-linked W t.has-study study-below, (study-link.open_study-linked W t.has-study study-below, (tally-link.add-linked W t.has-tally tally-below, (tally-link.new-linked W t.has-tally tally-below, (tally-link.remove-linked W t.has-tally tally-below, (tally-link.score-linked W t.has-tally tally-below, (weights-link.ageing-linked W t.has-weights weights-below, (weights-link.weights-linked W t.has-weights weights-below, (writer-link.write_study-linked W t.has-writer writer-below, tt))))))))))))))))

  pub opening-linked : HasT (in_world W) true opening-symbol.code
  opening-linked = medlarbrace-link.files-medlarbrace_open-linked W t.has-medlarbrace medlarbrace-below

  pub lookup-linked : HasT (in_world W) true lookup-symbol.code
  lookup-linked = medlarbrace-link.files-medlarbrace_round-linked W t.has-medlarbrace medlarbrace-below

  pub search-linked : HasT (in_world W) true search-symbol.code
  search-linked = medlarbrace-link.files-medlarbrace_search-linked W t.has-medlarbrace medlarbrace-below

  pub series-linked : HasT (in_world W) true series-symbol.code
  series-linked = medlarbrace-link.records-medlarbrace_series-linked W t.has-medlarbrace medlarbrace-below

  pub parallel-linked : HasT (in_world W) true parallel-symbol.code
  parallel-linked = medlarbrace-link.records-medlarbrace_parallel-linked W t.has-medlarbrace medlarbrace-below

  pub new-linked : HasT (in_world W) true new-symbol.code
  new-linked = medlarbrace-link.tallies-medlarbrace_tally_new-linked W t.has-medlarbrace medlarbrace-below

  pub add-linked : HasT (in_world W) true add-symbol.code
  add-linked = medlarbrace-link.tallies-medlarbrace_tally_add-linked W t.has-medlarbrace medlarbrace-below

  pub remove-linked : HasT (in_world W) true remove-symbol.code
  remove-linked = medlarbrace-link.tallies-medlarbrace_tally_remove-linked W t.has-medlarbrace medlarbrace-below

  pub score-linked : HasT (in_world W) true score-symbol.code
  score-linked = medlarbrace-link.tallies-medlarbrace_tally_score-linked W t.has-medlarbrace medlarbrace-below

  pub ageing-linked : HasT (in_world W) true ageing-symbol.code
  ageing-linked = medlarbrace-link.tallies-medlarbrace_ageing-linked W t.has-medlarbrace medlarbrace-below

  pub weights-linked : HasT (in_world W) true weights-symbol.code
  weights-linked = medlarbrace-link.tallies-medlarbrace_weights-linked W t.has-medlarbrace medlarbrace-below

  pub reliability-linked : HasT (in_world W) true reliability-symbol.code
  reliability-linked = medlarbrace-link.tallies-medlarbrace_reliability-linked W t.has-medlarbrace medlarbrace-below

  pub writer-linked : HasT (in_world W) true writer-symbol.code
  writer-linked = medlarbrace-link.files-medlarbrace_write-linked W t.has-medlarbrace medlarbrace-below

  pub converter-linked : HasT (in_world W) true converter-symbol.code
  converter-linked = medlarbrace-link.files-medlarbrace_convert-linked W t.has-medlarbrace medlarbrace-below
