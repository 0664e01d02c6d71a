-- EVERY FUNCTION OF THE C INTERFACE (include/medlarbrace.h) on the machine (runs/specs/Run.antt), as crate medlarbrace has it; what C calls is the function
-- of the same name in crate medlarbrace_c, whose code is a call of this one with the same arguments. Each ends, on any arguments that a machine can hold;
-- it returns 0 or the number of a refusal, what the call of document 01 with the same arguments answers (demands/specs/Demands.antt has what
-- is known of that call), and what it was lent then holds what that call left; where it returns another number than 0, every lent block is as it was.
use Rattle.std.specs.Prelude.{◌≡◌, List, [], ◌∷◌, ℕ, ◌+◌, ◌≤◌, length}
use lib.Chars.{codes}
use mir.Val.{vint}
use Rattle.std.specs.Int.{w32, w64}
use Rattle.answer.specs.Outcome.{Outcome, success}
use Rattle.slices.specs.Bytes.{part_at}
use Rattle.writer.specs.Writer.{Given}
use Rattle.medlarbrace.specs.Interface.{code, value_left, header_answer, header_out, place_answer}
use Rattle.runs.specs.Arguments.{u8, u32, u64, Block, block, number, shared, mutable, place, value, lent}
use Rattle.runs.specs.Library.{Library, code_of}
use Rattle.runs.specs.Run.{at, Held, Run, run, Ends, AlwaysEnds}
use Rattle.kinds.specs.Kinds as call
use Rattle.medlarbrace.proofs.files.medlarbrace_open.Kinds as opening-kinds
use Rattle.medlarbrace.proofs.files.medlarbrace_open.Reads as opening-reads
use Rattle.medlarbrace.proofs.files.medlarbrace_open.Symbol as opening-symbol
use Rattle.medlarbrace.proofs.files.medlarbrace_round.Kinds as lookup-kinds
use Rattle.medlarbrace.proofs.files.medlarbrace_round.Reads as lookup-reads
use Rattle.medlarbrace.proofs.files.medlarbrace_round.Symbol as lookup-symbol
use Rattle.medlarbrace.proofs.files.medlarbrace_search.Kinds as search-kinds
use Rattle.medlarbrace.proofs.files.medlarbrace_search.Reads as search-reads
use Rattle.medlarbrace.proofs.files.medlarbrace_search.Symbol as search-symbol
use Rattle.medlarbrace.proofs.records.medlarbrace_series.Kinds as series-kinds
use Rattle.medlarbrace.proofs.records.medlarbrace_series.Reads as series-reads
use Rattle.medlarbrace.proofs.records.medlarbrace_series.Symbol as series-symbol
use Rattle.medlarbrace.proofs.records.medlarbrace_parallel.Kinds as parallel-kinds
use Rattle.medlarbrace.proofs.records.medlarbrace_parallel.Reads as parallel-reads
use Rattle.medlarbrace.proofs.records.medlarbrace_parallel.Symbol as parallel-symbol
use Rattle.medlarbrace.proofs.tallies.medlarbrace_tally_new.Kinds as new-kinds
use Rattle.medlarbrace.proofs.tallies.medlarbrace_tally_new.Reads as new-reads
use Rattle.medlarbrace.proofs.tallies.medlarbrace_tally_new.Symbol as new-symbol
use Rattle.medlarbrace.proofs.tallies.medlarbrace_tally_add.Kinds as add-kinds
use Rattle.medlarbrace.proofs.tallies.medlarbrace_tally_add.Reads as add_reads
use Rattle.medlarbrace.proofs.tallies.medlarbrace_tally_add.Symbol as add-symbol
use Rattle.medlarbrace.proofs.tallies.medlarbrace_tally_remove.Kinds as remove-kinds
use Rattle.medlarbrace.proofs.tallies.medlarbrace_tally_remove.Reads as remove-reads
use Rattle.medlarbrace.proofs.tallies.medlarbrace_tally_remove.Symbol as remove-symbol
use Rattle.medlarbrace.proofs.tallies.medlarbrace_tally_score.Kinds as score-kinds
use Rattle.medlarbrace.proofs.tallies.medlarbrace_tally_score.Reads as score-reads
use Rattle.medlarbrace.proofs.tallies.medlarbrace_tally_score.Symbol as score-symbol
use Rattle.medlarbrace.proofs.tallies.medlarbrace_ageing.Kinds as ageing-kinds
use Rattle.medlarbrace.proofs.tallies.medlarbrace_ageing.Reads as ageing-reads
use Rattle.medlarbrace.proofs.tallies.medlarbrace_ageing.Symbol as ageing-symbol
use Rattle.medlarbrace.proofs.tallies.medlarbrace_weights.Kinds as weights-kinds
use Rattle.medlarbrace.proofs.tallies.medlarbrace_weights.Reads as weights-reads
use Rattle.medlarbrace.proofs.tallies.medlarbrace_weights.Symbol as weights-symbol
use Rattle.medlarbrace.proofs.tallies.medlarbrace_reliability.Kinds as reliability-kinds
use Rattle.medlarbrace.proofs.tallies.medlarbrace_reliability.Reads as reliability-reads
use Rattle.medlarbrace.proofs.tallies.medlarbrace_reliability.Symbol as reliability-symbol
use Rattle.medlarbrace.proofs.files.medlarbrace_write.Kinds as writer-kinds
use Rattle.medlarbrace.proofs.files.medlarbrace_write.Reads as writer-reads
use Rattle.medlarbrace.proofs.files.medlarbrace_write.Symbol as writer-symbol
use Rattle.medlarbrace.proofs.files.medlarbrace_convert.Kinds as converter-kinds
use Rattle.medlarbrace.proofs.files.medlarbrace_convert.Reads as converter-reads
use Rattle.medlarbrace.proofs.files.medlarbrace_convert.Symbol as converter-symbol
use Rattle.answer.proofs.Linked as answer-link
use Rattle.front.proofs.Linked as front-link
use Rattle.slices.proofs.Linked as slices-link
use Rattle.record.proofs.Linked as record-link
use Rattle.buffer.proofs.Linked as buffer-link
use Rattle.compose.proofs.Linked as compose-link
use Rattle.orders.proofs.Linked as orders-link
use Rattle.parts.proofs.Linked as parts-link
use Rattle.sections.proofs.Linked as sections-link
use Rattle.study.proofs.Linked as study-link
use Rattle.writer.proofs.Linked as writer-link
use Rattle.convert.proofs.Linked as convert-link
use Rattle.soundness.proofs.Linked as soundness-link
use Rattle.weights.proofs.Linked as weights-link
use Rattle.reliability.proofs.Linked as reliability-link
use Rattle.chains.proofs.Linked as chains-link
use Rattle.members.proofs.Linked as members-link
use Rattle.relax.proofs.Linked as relax-link
use Rattle.labels.proofs.Linked as labels-link
use Rattle.sweep.proofs.Linked as sweep-link
use Rattle.search.proofs.Linked as search-link
use Rattle.cells.proofs.Linked as cells-link
use Rattle.tally.proofs.Linked as tally-link
use Rattle.medlarbrace.proofs.Linked as medlarbrace-link

-- THE LIBRARY: the crates of the functions and those below them, each with the table of its functions (proofs/Linked.antt there)
abbrev pub c_library : Library
c_library =
    (codes "answer", answer-link.table) ∷ (codes "front", front-link.table) ∷ (codes "slices", slices-link.table) ∷
    (codes "record", record-link.table) ∷ (codes "buffer", buffer-link.table) ∷
    (codes "compose", compose-link.table) ∷ (codes "orders", orders-link.table) ∷ (codes "parts", parts-link.table) ∷
    (codes "sections", sections-link.table) ∷ (codes "study", study-link.table) ∷
    (codes "writer", writer-link.table) ∷ (codes "convert", convert-link.table) ∷
    (codes "soundness", soundness-link.table) ∷ (codes "weights", weights-link.table) ∷
    (codes "reliability", reliability-link.table) ∷ (codes "chains", chains-link.table) ∷
    (codes "members", members-link.table) ∷ (codes "relax", relax-link.table) ∷ (codes "labels", labels-link.table) ∷
    (codes "sweep", sweep-link.table) ∷ (codes "search", search-link.table) ∷ (codes "cells", cells-link.table) ∷
    (codes "tally", tally-link.table) ∷ (codes "medlarbrace", medlarbrace-link.table) ∷ []

-- ---- THE FUNCTIONS with their arguments; k is what `written` leads to at the call
-- medlarbrace_open(file, header)
abbrev pub open_function : List ℕ → List ℕ → Run
open_function f header =
    run 2 (shared u8 0 tt f ∷ mutable u32 1 tt header ∷ [])
    (value opening-kinds.r) opening-reads.Asked opening-reads.Learnt (code_of c_library opening-symbol.name)

-- medlarbrace_round(file, round, start, count)
abbrev pub round_function : List ℕ → ℕ → ℕ → ℕ → Run
round_function f r start count =
    run 3 (shared u8 0 tt f ∷ number w64 r ∷ place u64 1 tt start ∷ place u64 2 tt count ∷ [])
    (value lookup-kinds.r) lookup-reads.Asked lookup-reads.Learnt (code_of c_library lookup-symbol.name)

-- medlarbrace_search(file, round, out, written)
abbrev pub search_function : List ℕ → ℕ → List ℕ → ℕ → Run
search_function f r out k =
    run 3 (shared u8 0 tt f ∷ number w64 r ∷ mutable u8 1 tt out ∷ place u64 2 tt k ∷ [])
    (value search-kinds.r) search-reads.Asked search-reads.Learnt (code_of c_library search-symbol.name)

-- medlarbrace_series(left, right, out, written)
abbrev pub series_function : List ℕ → List ℕ → List ℕ → ℕ → Run
series_function y z out k =
    run 4 (shared u8 0 tt y ∷ shared u8 1 tt z ∷ mutable u8 2 tt out ∷ place u64 3 tt k ∷ [])
    (value series-kinds.r) series-reads.Asked series-reads.Learnt (code_of c_library series-symbol.name)

-- medlarbrace_parallel(left, right, out, written)
abbrev pub parallel_function : List ℕ → List ℕ → List ℕ → ℕ → Run
parallel_function y z out k =
    run 4 (shared u8 0 tt y ∷ shared u8 1 tt z ∷ mutable u8 2 tt out ∷ place u64 3 tt k ∷ [])
    (value parallel-kinds.r) parallel-reads.Asked parallel-reads.Learnt (code_of c_library parallel-symbol.name)

-- medlarbrace_tally_new(n1, n2, tally)
abbrev pub new_function : ℕ → ℕ → List ℕ → Run
new_function n1 n2 t =
    run 1 (number w32 n1 ∷ number w32 n2 ∷ mutable u32 0 tt t ∷ [])
    (value new-kinds.r) new-reads.Asked new-reads.Learnt (code_of c_library new-symbol.name)

-- medlarbrace_tally_add(record, tally)
abbrev pub add_function : List ℕ → List ℕ → Run
add_function x t = run 2 (shared u8 0 tt x ∷ mutable u32 1 tt t ∷ []) (value add-kinds.r) add_reads.Asked add_reads.Learnt (code_of c_library add-symbol.name)

-- medlarbrace_tally_remove(record, tally)
abbrev pub remove_function : List ℕ → List ℕ → Run
remove_function x t =
    run 2 (shared u8 0 tt x ∷ mutable u32 1 tt t ∷ [])
    (value remove-kinds.r) remove-reads.Asked remove-reads.Learnt (code_of c_library remove-symbol.name)

-- medlarbrace_tally_score(tally, score)
abbrev pub score_function : List ℕ → ℕ → Run
score_function t s =
    run 2 (shared u32 0 tt t ∷ place u32 1 tt s ∷ [])
    (value score-kinds.r) score-reads.Asked score-reads.Learnt (code_of c_library score-symbol.name)

-- medlarbrace_ageing(age, chance)
abbrev pub ageing_function : ℕ → ℕ → Run
ageing_function y chance =
    run 1 (number w64 y ∷ place u32 0 tt chance ∷ [])
    (value ageing-kinds.r) ageing-reads.Asked ageing-reads.Learnt (code_of c_library ageing-symbol.name)

-- medlarbrace_weights(n, chance, weights)
abbrev pub weights_function : ℕ → ℕ → List ℕ → Run
weights_function n p out =
    run 1 (number w32 n ∷ number w32 p ∷ mutable u32 0 tt out ∷ [])
    (value weights-kinds.r) weights-reads.Asked weights-reads.Learnt (code_of c_library weights-symbol.name)

-- medlarbrace_reliability(tally, chance1, chance2, sum, rounds, reliability)
abbrev pub reliability_function : List ℕ → ℕ → ℕ → ℕ → ℕ → ℕ → Run
reliability_function t p1 p2 s m r =
    run 4 (shared u32 0 tt t ∷ number w32 p1 ∷ number w32 p2 ∷ place u64 1 tt s ∷ place u64 2 tt m ∷ place u64 3 tt r ∷ [])
    (value reliability-kinds.r) reliability-reads.Asked reliability-reads.Learnt (code_of c_library reliability-symbol.name)

-- medlarbrace_write(nodes, arcs, rounds, source, target, total, out, written)
abbrev pub write_function : Given → List ℕ → ℕ → Run
write_function g out k =
    run 5
    (shared u8 0 tt g.nodes ∷ shared u8 1 tt g.arcs ∷ shared u8 2 tt g.rounds
    ∷ number w64 g.source ∷ number w64 g.target ∷ number w64 g.total ∷ mutable u8 3 tt out ∷ place u64 4 tt k ∷ [])
    (value writer-kinds.r) writer-reads.Asked writer-reads.Learnt (code_of c_library writer-symbol.name)

-- medlarbrace_convert(old, out, written)
abbrev pub convert_function : List ℕ → List ℕ → ℕ → Run
convert_function f out k =
    run 3 (shared u8 0 tt f ∷ mutable u8 1 tt out ∷ place u64 2 tt k ∷ [])
    (value converter-kinds.r) converter-reads.Asked converter-reads.Learnt (code_of c_library converter-symbol.name)

-- ---- WHAT IS SAID OF A RUN
-- it returns 0 or the number of this answer's refusal (`code`), and what it was lent then holds these, a block each
abbrev pub Says : Run → Outcome → List Block → Type 0
Says c answer blocks = (others : List Block) (e : Ends others c) → (e.value ≡ vint w32 (code answer)) × Held e.memory (at others) blocks

-- where it returns another number than 0, every lent block holds what it held
abbrev pub KeepsUnless0 : Run → Type 0
KeepsUnless0 c = (others : List Block) (e : Ends others c) → (e.value ≡ vint w32 0 → ⊥) → Held e.memory (at others) (lent c.args)

-- it never returns this number
abbrev pub NeverReturns : ℕ → Run → Type 0
NeverReturns n c = (others : List Block) (e : Ends others c) → e.value ≡ vint w32 n → ⊥

pub record EveryFunction : Type 0 where
  -- each ends, and asks nothing of its caller
  pub opening-ends : (f header : List ℕ) → AlwaysEnds (open_function f header)
  pub lookup-ends : (f : List ℕ) (r start count : ℕ) → AlwaysEnds (round_function f r start count)
  pub search-ends : (f : List ℕ) (r : ℕ) (out : List ℕ) (k : ℕ) → AlwaysEnds (search_function f r out k)
  pub series-ends : (y z out : List ℕ) (k : ℕ) → AlwaysEnds (series_function y z out k)
  pub parallel-ends : (y z out : List ℕ) (k : ℕ) → AlwaysEnds (parallel_function y z out k)
  pub new-ends : (n1 n2 : ℕ) (t : List ℕ) → AlwaysEnds (new_function n1 n2 t)
  pub add-ends : (x t : List ℕ) → AlwaysEnds (add_function x t)
  pub remove-ends : (x t : List ℕ) → AlwaysEnds (remove_function x t)
  pub score-ends : (t : List ℕ) (s : ℕ) → AlwaysEnds (score_function t s)
  pub ageing-ends : (y chance : ℕ) → AlwaysEnds (ageing_function y chance)
  pub weights-ends : (n p : ℕ) (out : List ℕ) → AlwaysEnds (weights_function n p out)
  pub reliability-ends : (t : List ℕ) (p1 p2 s m r : ℕ) → AlwaysEnds (reliability_function t p1 p2 s m r)
  pub writer-ends : (g : Given) (out : List ℕ) (k : ℕ) → AlwaysEnds (write_function g out k)
  pub converter-ends : (f out : List ℕ) (k : ℕ) → AlwaysEnds (convert_function f out k)
  -- what each answers and leaves: for every call, the function with that call's arguments answers and leaves what the call did; a value of
  -- the answer goes where its pointer leads (`value_left`: the value's place in the answer; what was there, on a refusal)
  pub search-says : (c : call.SearchCall) (k : ℕ) → let a = call.search_result c in
      Says (search_function (call.search_file c) (call.search_round c) (call.search_lent c) k) a
      (block u8 (call.search_file c) ∷ block u8 (call.search_left c) ∷ block u64 (value_left 0 a k ∷ []) ∷ [])
  pub series-says : (c : call.SeriesCall) (k : ℕ) → let a = call.series_result c in
      Says (series_function (call.series_first c) (call.series_second c) (call.series_lent c) k) a
      (block u8 (call.series_first c) ∷ block u8 (call.series_second c) ∷ block u8 (call.series_left c) ∷ block u64 (value_left 0 a k ∷ []) ∷ [])
  pub parallel-says : (c : call.ParallelCall) (k : ℕ) → let a = call.parallel_result c in
      Says (parallel_function (call.parallel_first c) (call.parallel_second c) (call.parallel_lent c) k) a
      (block u8 (call.parallel_first c) ∷ block u8 (call.parallel_second c) ∷ block u8 (call.parallel_left c) ∷ block u64 (value_left 0 a k ∷ []) ∷ [])
  pub new-says : (c : call.NewCall) →
      Says (new_function (call.new_size1 c) (call.new_size2 c) (call.new_lent c)) (call.new_result c) (block u32 (call.new_left c) ∷ [])
  pub add-says : (c : call.AddCall) →
      Says (add_function (call.add_record c) (call.add_lent c)) (call.add_result c) (block u8 (call.add_record c) ∷ block u32 (call.add_left c) ∷ [])
  pub remove-says : (c : call.RemoveCall) →
      Says (remove_function (call.remove_record c) (call.remove_lent c)) (call.remove_result c)
      (block u8 (call.remove_record c) ∷ block u32 (call.remove_left c) ∷ [])
  pub score-says : (c : call.ScoreCall) (s : ℕ) → let a = call.score_result c in
      Says (score_function (call.score_tally c) s) a (block u32 (call.score_tally c) ∷ block u32 (value_left 0 a s ∷ []) ∷ [])
  pub ageing-says : (c : call.AgeingCall) (chance : ℕ) → let a = call.ageing_result c in
      Says (ageing_function (call.ageing_age c) chance) a (block u32 (value_left 0 a chance ∷ []) ∷ [])
  pub weights-says : (c : call.WeightsCall) →
      Says (weights_function (call.weights_nodes c) (call.weights_chance c) (call.weights_lent c)) (call.weights_result c)
      (block u32 (call.weights_left c) ∷ [])
  pub reliability-says : (c : call.RateCall) (s m r : ℕ) → let a = call.rate_result c in
      Says (reliability_function (call.rate_tally c) (call.rate_chance1 c) (call.rate_chance2 c) s m r) a
      (block u32 (call.rate_tally c) ∷ block u64 (value_left 0 a s ∷ []) ∷ block u64 (value_left 1 a m ∷ []) ∷ block u64 (value_left 2 a r ∷ []) ∷ [])
  pub writer-says : (c : call.WriteCall) (k : ℕ) → let a = call.write_result c in let g = call.write_given c in
      Says (write_function g (call.write_lent c) k) a
      (block u8 g.nodes ∷ block u8 g.arcs ∷ block u8 g.rounds ∷ block u8 (call.write_left c) ∷ block u64 (value_left 0 a k ∷ []) ∷ [])
  pub converter-says : (c : call.ConvertCall) (k : ℕ) → let a = call.convert_result c in
      Says (convert_function (call.convert_file c) (call.convert_lent c) k) a
      (block u8 (call.convert_file c) ∷ block u8 (call.convert_left c) ∷ block u64 (value_left 0 a k ∷ []) ∷ [])
  -- opening into seven words (opening's numbers, then 15), and lookup by place (lookup's): the place and length of the part that lookup hands back
  pub opening-says : (f header : List ℕ) → Says (open_function f header) (header_answer f (length header)) (block u8 f ∷ block u32 (header_out f header) ∷ [])
  pub lookup-says : (f : List ℕ) (r start count : ℕ) → let a = place_answer f r in
      Says (round_function f r start count) a (block u8 f ∷ block u64 (value_left 0 a start ∷ []) ∷ block u64 (value_left 1 a count ∷ []) ∷ [])
  pub lookup-placed : (c : call.LookupCall) (start count : ℕ) → place_answer (call.lookup_file c) (call.lookup_round c) ≡ success (start ∷ count ∷ [])
      → (start + count ≤ length (call.lookup_file c)) × (call.lookup_result c ≡ part_at start count (call.lookup_file c))
  -- a number other than 0 leaves every lent block as it was
  pub opening-keeps : (f header : List ℕ) → KeepsUnless0 (open_function f header)
  pub lookup-keeps : (f : List ℕ) (r start count : ℕ) → KeepsUnless0 (round_function f r start count)
  pub search-keeps : (f : List ℕ) (r : ℕ) (out : List ℕ) (k : ℕ) → KeepsUnless0 (search_function f r out k)
  pub series-keeps : (y z out : List ℕ) (k : ℕ) → KeepsUnless0 (series_function y z out k)
  pub parallel-keeps : (y z out : List ℕ) (k : ℕ) → KeepsUnless0 (parallel_function y z out k)
  pub new-keeps : (n1 n2 : ℕ) (t : List ℕ) → KeepsUnless0 (new_function n1 n2 t)
  pub add-keeps : (x t : List ℕ) → KeepsUnless0 (add_function x t)
  pub remove-keeps : (x t : List ℕ) → KeepsUnless0 (remove_function x t)
  pub score-keeps : (t : List ℕ) (s : ℕ) → KeepsUnless0 (score_function t s)
  pub ageing-keeps : (y chance : ℕ) → KeepsUnless0 (ageing_function y chance)
  pub weights-keeps : (n p : ℕ) (out : List ℕ) → KeepsUnless0 (weights_function n p out)
  pub reliability-keeps : (t : List ℕ) (p1 p2 s m r : ℕ) → KeepsUnless0 (reliability_function t p1 p2 s m r)
  pub writer-keeps : (g : Given) (out : List ℕ) (k : ℕ) → KeepsUnless0 (write_function g out k)
  pub converter-keeps : (f out : List ℕ) (k : ℕ) → KeepsUnless0 (convert_function f out k)
  -- 02, S-1: "Number 7 no longer occurs." Of the functions on studies, which had it
  pub opening-7 : (f header : List ℕ) → NeverReturns 7 (open_function f header)
  pub lookup-7 : (f : List ℕ) (r start count : ℕ) → NeverReturns 7 (round_function f r start count)
  pub search-7 : (f : List ℕ) (r : ℕ) (out : List ℕ) (k : ℕ) → NeverReturns 7 (search_function f r out k)
  pub writer-7 : (g : Given) (out : List ℕ) (k : ℕ) → NeverReturns 7 (write_function g out k)
  pub converter-7 : (f out : List ℕ) (k : ℕ) → NeverReturns 7 (convert_function f out k)
