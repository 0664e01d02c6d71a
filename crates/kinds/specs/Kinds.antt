-- THE CALLS OF DOCUMENT 01, and remove, score and convert of document 02, and their arguments by name. Nothing outside this file reads a call in another way.
-- From a public function F of a crate C the checker makes modules that a definition may cite:
--   Rattle.C.proofs.F.Kinds    `ps` and `r`: the kinds of F's parameters, in the order of the source, and of its result
--   Rattle.C.proofs.F.Reads    F's contract: `Learnt`, all its `ensures`, what every caller is told; `Asked`, all its `requires`, what a caller must show
--   Rattle.C.proofs.F.Symbol   `name`: F's name, under which the `library` below has F's code, as it has that of all that F calls
-- A `Call` (runs/specs/Call.antt) of F is any that kept `Learnt`. Its arguments are a tuple in the order of the source (`.0`, `.1 .0`, `.1 .1 .0`): a number
-- is a number; a slice is a place in memory (`ref_ptr`: a block and an offset) and a list (`now`: what it holds at the call), and one that the call may write
-- has a name of the logic's (`ghost_name`).
-- Names here: the call, then the parameter. `Lent` and `Left` are a slice that the call may write, before and after; `..After` is a slice that it may
-- only read, after; `Result` is the answer in document 01's terms (answer/specs/Outcome.antt): values, or a number. `..Run` is the call's code with these
-- arguments (runs/specs/Run.antt): a slice with its elements' type and its lifetime's number, a number with its width.
use Rattle.std.specs.Prelude.{List, [], ◌∷◌, ℕ}
use Rattle.std.specs.Int.{w32, w64}
use Rattle.std.specs.Borrow.{Bor}
use lib.Chars.{codes}
use Rattle.runs.specs.Call.{Call, after}
use Rattle.runs.specs.Arguments.{u8, u32, number, shared, mutable, value, part}
use Rattle.runs.specs.Library.{Library, code_of}
use Rattle.runs.specs.Run.{Run, run}
use Rattle.answer.specs.Outcome.{Outcome, opened, done, written, aged, scored, rated}
use Rattle.study.proofs.open_study.Kinds as open-kinds
use Rattle.study.proofs.open_study.Reads as open-reads
use Rattle.study.proofs.open_study.Symbol as open-symbol
use Rattle.study.proofs.check_round.Kinds as check-kinds
use Rattle.study.proofs.check_round.Reads as check-reads
use Rattle.study.proofs.check_round.Symbol as check-symbol
use Rattle.study.proofs.round_bytes.Kinds as lookup-kinds
use Rattle.study.proofs.round_bytes.Reads as lookup-reads
use Rattle.study.proofs.round_bytes.Symbol as lookup-symbol
use Rattle.search.proofs.search.Kinds as search-kinds
use Rattle.search.proofs.search.Reads as search-reads
use Rattle.search.proofs.search.Symbol as search-symbol
use Rattle.compose.proofs.series.Kinds as series-kinds
use Rattle.compose.proofs.series.Reads as series-reads
use Rattle.compose.proofs.series.Symbol as series-symbol
use Rattle.compose.proofs.parallel.Kinds as parallel-kinds
use Rattle.compose.proofs.parallel.Reads as parallel-reads
use Rattle.compose.proofs.parallel.Symbol as parallel-symbol
use Rattle.tally.proofs.new.Kinds as new-kinds
use Rattle.tally.proofs.new.Reads as new-reads
use Rattle.tally.proofs.new.Symbol as new-symbol
use Rattle.tally.proofs.add.Kinds as add-kinds
use Rattle.tally.proofs.add.Reads as add_reads
use Rattle.tally.proofs.add.Symbol as add-symbol
use Rattle.tally.proofs.remove.Kinds as remove-kinds
use Rattle.tally.proofs.remove.Reads as remove-reads
use Rattle.tally.proofs.remove.Symbol as remove-symbol
use Rattle.tally.proofs.score.Kinds as score-kinds
use Rattle.tally.proofs.score.Reads as score-reads
use Rattle.tally.proofs.score.Symbol as score-symbol
use Rattle.weights.proofs.ageing.Kinds as ageing-kinds
use Rattle.weights.proofs.ageing.Reads as ageing-reads
use Rattle.weights.proofs.ageing.Symbol as ageing-symbol
use Rattle.weights.proofs.weights.Kinds as weights-kinds
use Rattle.weights.proofs.weights.Reads as weights-reads
use Rattle.weights.proofs.weights.Symbol as weights-symbol
use Rattle.reliability.proofs.reliability.Kinds as rate-kinds
use Rattle.reliability.proofs.reliability.Reads as rate-reads
use Rattle.reliability.proofs.reliability.Symbol as rate-symbol
use Rattle.writer.proofs.write_study.Kinds as write-kinds
use Rattle.writer.proofs.write_study.Reads as write-reads
use Rattle.writer.proofs.write_study.Symbol as write_symbol
use Rattle.convert.proofs.convert.Kinds as convert-kinds
use Rattle.convert.proofs.convert.Reads as convert-reads
use Rattle.convert.proofs.convert.Symbol as convert-symbol
use Rattle.writer.specs.Writer.{Given, given}
use Rattle.slices.proofs.Linked as slices-link
use Rattle.orders.proofs.Linked as orders-link
use Rattle.parts.proofs.Linked as parts-link
use Rattle.sections.proofs.Linked as sections-link
use Rattle.study.proofs.Linked as study-link
use Rattle.answer.proofs.Linked as answer-link
use Rattle.front.proofs.Linked as front-link
use Rattle.record.proofs.Linked as record-link
use Rattle.buffer.proofs.Linked as buffer-link
use Rattle.chains.proofs.Linked as chains-link
use Rattle.members.proofs.Linked as members-link
use Rattle.relax.proofs.Linked as relax-link
use Rattle.labels.proofs.Linked as labels-link
use Rattle.sweep.proofs.Linked as sweep-link
use Rattle.search.proofs.Linked as search-link
use Rattle.compose.proofs.Linked as compose-link
use Rattle.cells.proofs.Linked as cells-link
use Rattle.soundness.proofs.Linked as soundness-link
use Rattle.tally.proofs.Linked as tally-link
use Rattle.weights.proofs.Linked as weights-link
use Rattle.reliability.proofs.Linked as reliability-link
use Rattle.writer.proofs.Linked as writer-link
use Rattle.convert.proofs.Linked as convert-link

-- THE LIBRARY: the crates of the calls and those below them, each with the table of its functions (proofs/Linked.antt there)
abbrev pub library : Library
library =
    (codes "slices", slices-link.table) ∷ (codes "orders", orders-link.table) ∷
    (codes "parts", parts-link.table) ∷ (codes "sections", sections-link.table) ∷
    (codes "study", study-link.table) ∷ (codes "answer", answer-link.table) ∷ (codes "front", front-link.table) ∷
    (codes "record", record-link.table) ∷ (codes "buffer", buffer-link.table) ∷
    (codes "chains", chains-link.table) ∷ (codes "members", members-link.table) ∷
    (codes "relax", relax-link.table) ∷ (codes "labels", labels-link.table) ∷ (codes "sweep", sweep-link.table) ∷
    (codes "search", search-link.table) ∷ (codes "compose", compose-link.table) ∷
    (codes "cells", cells-link.table) ∷ (codes "soundness", soundness-link.table) ∷
    (codes "tally", tally-link.table) ∷ (codes "weights", weights-link.table) ∷
    (codes "reliability", reliability-link.table) ∷ (codes "writer", writer-link.table) ∷
    (codes "convert", convert-link.table) ∷ []

-- ---- OPENING: study::open_study(file)
abbrev pub OpenCall : Type 0
OpenCall = Call 1 open-kinds.ps open-kinds.r open-reads.Learnt

abbrev pub open_file : OpenCall → List ℕ
open_file c = c.args.0.now

abbrev pub open_file_after : OpenCall → List ℕ
open_file_after c = (after c).0.now

abbrev pub open_result : OpenCall → Outcome
open_result c = opened c.result

abbrev pub open_run : List ℕ → Run
open_run f = run 1 (shared u8 0 tt f ∷ []) (value open-kinds.r) open-reads.Asked open-reads.Learnt (code_of library open-symbol.name)

-- ---- LOOKUP, the check: study::check_round(file, round)
abbrev pub CheckCall : Type 0
CheckCall = Call 1 check-kinds.ps check-kinds.r check-reads.Learnt

abbrev pub check_file : CheckCall → List ℕ
check_file c = c.args.0.now

abbrev pub check_round : CheckCall → ℕ
check_round c = c.args.1.0

abbrev pub check_file_after : CheckCall → List ℕ
check_file_after c = (after c).0.now

abbrev pub check_result : CheckCall → Outcome
check_result c = done c.result

abbrev pub check_run : List ℕ → ℕ → Run
check_run f r = run 1 (shared u8 0 tt f ∷ number w64 r ∷ []) (value check-kinds.r) check-reads.Asked check-reads.Learnt (code_of library check-symbol.name)

-- ---- LOOKUP, the part: study::round_bytes(file, round), and the bytes of the part that it hands back
abbrev pub LookupCall : Type 0
LookupCall = Call 1 lookup-kinds.ps lookup-kinds.r lookup-reads.Learnt

abbrev pub lookup_file : LookupCall → List ℕ
lookup_file c = c.args.0.now

abbrev pub lookup_round : LookupCall → ℕ
lookup_round c = c.args.1.0

abbrev pub lookup_file_after : LookupCall → List ℕ
lookup_file_after c = (after c).0.now

abbrev pub lookup_result : LookupCall → List ℕ
lookup_result c = c.result.now

-- the file and the part as slices: with the places where they lie
abbrev pub lookup_file_slice : LookupCall → Bor (List ℕ)
lookup_file_slice c = c.args.0

abbrev pub lookup_result_slice : LookupCall → Bor (List ℕ)
lookup_result_slice c = c.result

abbrev pub lookup_run : List ℕ → ℕ → Run
lookup_run f r = run 1 (shared u8 0 tt f ∷ number w64 r ∷ []) (part u8 0 tt) lookup-reads.Asked lookup-reads.Learnt (code_of library lookup-symbol.name)

-- ---- SEARCH: search::search(file, round, out)
abbrev pub SearchCall : Type 0
SearchCall = Call 2 search-kinds.ps search-kinds.r search-reads.Learnt

abbrev pub search_file : SearchCall → List ℕ
search_file c = c.args.0.now

abbrev pub search_round : SearchCall → ℕ
search_round c = c.args.1.0

abbrev pub search_lent : SearchCall → List ℕ
search_lent c = c.args.1.1.0.now

abbrev pub search_file_after : SearchCall → List ℕ
search_file_after c = (after c).0.now

abbrev pub search_left : SearchCall → List ℕ
search_left c = (after c).1.1.0.now

abbrev pub search_result : SearchCall → Outcome
search_result c = written c.result

abbrev pub search_run : List ℕ → ℕ → List ℕ → Run
search_run f r s =
    run 2 (shared u8 0 tt f ∷ number w64 r ∷ mutable u8 1 tt s ∷ [])
    (value search-kinds.r) search-reads.Asked search-reads.Learnt (code_of library search-symbol.name)

-- ---- SERIES (01: row): compose::series(left, right, out); the two records are First and Second
abbrev pub SeriesCall : Type 0
SeriesCall = Call 3 series-kinds.ps series-kinds.r series-reads.Learnt

abbrev pub series_first : SeriesCall → List ℕ
series_first c = c.args.0.now

abbrev pub series_second : SeriesCall → List ℕ
series_second c = c.args.1.0.now

abbrev pub series_lent : SeriesCall → List ℕ
series_lent c = c.args.1.1.0.now

abbrev pub series_first_after : SeriesCall → List ℕ
series_first_after c = (after c).0.now

abbrev pub series_second_after : SeriesCall → List ℕ
series_second_after c = (after c).1.0.now

abbrev pub series_left : SeriesCall → List ℕ
series_left c = (after c).1.1.0.now

abbrev pub series_result : SeriesCall → Outcome
series_result c = written c.result

abbrev pub series_run : List ℕ → List ℕ → List ℕ → Run
series_run y z s =
    run 3 (shared u8 0 tt y ∷ shared u8 1 tt z ∷ mutable u8 2 tt s ∷ [])
    (value series-kinds.r) series-reads.Asked series-reads.Learnt (code_of library series-symbol.name)

-- ---- PARALLEL (01: side): compose::parallel(left, right, out)
abbrev pub ParallelCall : Type 0
ParallelCall = Call 3 parallel-kinds.ps parallel-kinds.r parallel-reads.Learnt

abbrev pub parallel_first : ParallelCall → List ℕ
parallel_first c = c.args.0.now

abbrev pub parallel_second : ParallelCall → List ℕ
parallel_second c = c.args.1.0.now

abbrev pub parallel_lent : ParallelCall → List ℕ
parallel_lent c = c.args.1.1.0.now

abbrev pub parallel_first_after : ParallelCall → List ℕ
parallel_first_after c = (after c).0.now

abbrev pub parallel_second_after : ParallelCall → List ℕ
parallel_second_after c = (after c).1.0.now

abbrev pub parallel_left : ParallelCall → List ℕ
parallel_left c = (after c).1.1.0.now

abbrev pub parallel_result : ParallelCall → Outcome
parallel_result c = written c.result

abbrev pub parallel_run : List ℕ → List ℕ → List ℕ → Run
parallel_run y z s =
    run 3 (shared u8 0 tt y ∷ shared u8 1 tt z ∷ mutable u8 2 tt s ∷ [])
    (value parallel-kinds.r) parallel-reads.Asked parallel-reads.Learnt (code_of library parallel-symbol.name)

-- ---- NEW (01: fresh): tally::new(n1, n2, tally)
abbrev pub NewCall : Type 0
NewCall = Call 1 new-kinds.ps new-kinds.r new-reads.Learnt

abbrev pub new_size1 : NewCall → ℕ
new_size1 c = c.args.0

abbrev pub new_size2 : NewCall → ℕ
new_size2 c = c.args.1.0

abbrev pub new_lent : NewCall → List ℕ
new_lent c = c.args.1.1.0.now

abbrev pub new_left : NewCall → List ℕ
new_left c = (after c).1.1.0.now

abbrev pub new_result : NewCall → Outcome
new_result c = done c.result

abbrev pub new_run : ℕ → ℕ → List ℕ → Run
new_run n1 n2 s =
    run 1 (number w32 n1 ∷ number w32 n2 ∷ mutable u32 0 tt s ∷ [])
    (value new-kinds.r) new-reads.Asked new-reads.Learnt (code_of library new-symbol.name)

-- ---- ADD: tally::add(record, tally)
abbrev pub AddCall : Type 0
AddCall = Call 2 add-kinds.ps add-kinds.r add_reads.Learnt

abbrev pub add_record : AddCall → List ℕ
add_record c = c.args.0.now

abbrev pub add_lent : AddCall → List ℕ
add_lent c = c.args.1.0.now

abbrev pub add_record_after : AddCall → List ℕ
add_record_after c = (after c).0.now

abbrev pub add_left : AddCall → List ℕ
add_left c = (after c).1.0.now

abbrev pub add_result : AddCall → Outcome
add_result c = done c.result

abbrev pub add_run : List ℕ → List ℕ → Run
add_run x t = run 2 (shared u8 0 tt x ∷ mutable u32 1 tt t ∷ []) (value add-kinds.r) add_reads.Asked add_reads.Learnt (code_of library add-symbol.name)

-- ---- REMOVE (02: take): tally::remove(record, tally)
abbrev pub RemoveCall : Type 0
RemoveCall = Call 2 remove-kinds.ps remove-kinds.r remove-reads.Learnt

abbrev pub remove_record : RemoveCall → List ℕ
remove_record c = c.args.0.now

abbrev pub remove_lent : RemoveCall → List ℕ
remove_lent c = c.args.1.0.now

abbrev pub remove_record_after : RemoveCall → List ℕ
remove_record_after c = (after c).0.now

abbrev pub remove_left : RemoveCall → List ℕ
remove_left c = (after c).1.0.now

abbrev pub remove_result : RemoveCall → Outcome
remove_result c = done c.result

abbrev pub remove_run : List ℕ → List ℕ → Run
remove_run x t =
    run 2 (shared u8 0 tt x ∷ mutable u32 1 tt t ∷ [])
    (value remove-kinds.r) remove-reads.Asked remove-reads.Learnt (code_of library remove-symbol.name)

-- ---- SCORE: tally::score(tally)
abbrev pub ScoreCall : Type 0
ScoreCall = Call 1 score-kinds.ps score-kinds.r score-reads.Learnt

abbrev pub score_tally : ScoreCall → List ℕ
score_tally c = c.args.0.now

abbrev pub score_tally_after : ScoreCall → List ℕ
score_tally_after c = (after c).0.now

abbrev pub score_result : ScoreCall → Outcome
score_result c = scored c.result

abbrev pub score_run : List ℕ → Run
score_run t = run 1 (shared u32 0 tt t ∷ []) (value score-kinds.r) score-reads.Asked score-reads.Learnt (code_of library score-symbol.name)

-- ---- AGEING: weights::ageing(age)
abbrev pub AgeingCall : Type 0
AgeingCall = Call 0 ageing-kinds.ps ageing-kinds.r ageing-reads.Learnt

abbrev pub ageing_age : AgeingCall → ℕ
ageing_age c = c.args.0

abbrev pub ageing_result : AgeingCall → Outcome
ageing_result c = aged c.result

abbrev pub ageing_run : ℕ → Run
ageing_run y = run 0 (number w64 y ∷ []) (value ageing-kinds.r) ageing-reads.Asked ageing-reads.Learnt (code_of library ageing-symbol.name)

-- ---- WEIGHTS: weights::weights(n, p, out); n nodes of the chance p
abbrev pub WeightsCall : Type 0
WeightsCall = Call 1 weights-kinds.ps weights-kinds.r weights-reads.Learnt

abbrev pub weights_nodes : WeightsCall → ℕ
weights_nodes c = c.args.0

abbrev pub weights_chance : WeightsCall → ℕ
weights_chance c = c.args.1.0

abbrev pub weights_lent : WeightsCall → List ℕ
weights_lent c = c.args.1.1.0.now

abbrev pub weights_left : WeightsCall → List ℕ
weights_left c = (after c).1.1.0.now

abbrev pub weights_result : WeightsCall → Outcome
weights_result c = done c.result

abbrev pub weights_run : ℕ → ℕ → List ℕ → Run
weights_run n p s =
    run 1 (number w32 n ∷ number w32 p ∷ mutable u32 0 tt s ∷ [])
    (value weights-kinds.r) weights-reads.Asked weights-reads.Learnt (code_of library weights-symbol.name)

-- ---- RELIABILITY: reliability::reliability(tally, p1, p2)
abbrev pub RateCall : Type 0
RateCall = Call 1 rate-kinds.ps rate-kinds.r rate-reads.Learnt

abbrev pub rate_tally : RateCall → List ℕ
rate_tally c = c.args.0.now

abbrev pub rate_chance1 : RateCall → ℕ
rate_chance1 c = c.args.1.0

abbrev pub rate_chance2 : RateCall → ℕ
rate_chance2 c = c.args.1.1.0

abbrev pub rate_tally_after : RateCall → List ℕ
rate_tally_after c = (after c).0.now

abbrev pub rate_result : RateCall → Outcome
rate_result c = rated c.result

abbrev pub rate_run : List ℕ → ℕ → ℕ → Run
rate_run t p1 p2 =
    run 1 (shared u32 0 tt t ∷ number w32 p1 ∷ number w32 p2 ∷ [])
    (value rate-kinds.r) rate-reads.Asked rate-reads.Learnt (code_of library rate-symbol.name)

-- ---- THE WRITER: writer::write_study(nodes, arcs, rounds, source, target, total, out); what it is given, as one record
abbrev pub WriteCall : Type 0
WriteCall = Call 4 write-kinds.ps write-kinds.r write-reads.Learnt

abbrev pub write_given : WriteCall → Given
write_given c = let a = c.args in given a.0.now a.1.0.now a.1.1.0.now a.1.1.1.0 a.1.1.1.1.0 a.1.1.1.1.1.0

abbrev pub write_lent : WriteCall → List ℕ
write_lent c = c.args.1.1.1.1.1.1.0.now

abbrev pub write_given_after : WriteCall → Given
write_given_after c = let a = after c in given a.0.now a.1.0.now a.1.1.0.now a.1.1.1.0 a.1.1.1.1.0 a.1.1.1.1.1.0

abbrev pub write_left : WriteCall → List ℕ
write_left c = (after c).1.1.1.1.1.1.0.now

abbrev pub write_result : WriteCall → Outcome
write_result c = written c.result

abbrev pub write_run : Given → List ℕ → Run
write_run g s =
    run 4
    (shared u8 0 tt g.nodes ∷ shared u8 1 tt g.arcs ∷ shared u8 2 tt g.rounds
    ∷ number w64 g.source ∷ number w64 g.target ∷ number w64 g.total ∷ mutable u8 3 tt s ∷ [])
    (value write-kinds.r) write-reads.Asked write-reads.Learnt (code_of library write_symbol.name)

-- ---- THE CONVERTER: convert::convert(old, out)
abbrev pub ConvertCall : Type 0
ConvertCall = Call 2 convert-kinds.ps convert-kinds.r convert-reads.Learnt

abbrev pub convert_file : ConvertCall → List ℕ
convert_file c = c.args.0.now

abbrev pub convert_lent : ConvertCall → List ℕ
convert_lent c = c.args.1.0.now

abbrev pub convert_file_after : ConvertCall → List ℕ
convert_file_after c = (after c).0.now

abbrev pub convert_left : ConvertCall → List ℕ
convert_left c = (after c).1.0.now

abbrev pub convert_result : ConvertCall → Outcome
convert_result c = written c.result

abbrev pub convert_run : List ℕ → List ℕ → Run
convert_run f s =
    run 2 (shared u8 0 tt f ∷ mutable u8 1 tt s ∷ [])
    (value convert-kinds.r) convert-reads.Asked convert-reads.Learnt (code_of library convert-symbol.name)
