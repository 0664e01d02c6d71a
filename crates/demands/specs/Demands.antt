-- THE THREE DEMANDS, closed. Each field stands under the sentence that it states: quotes are the user's own words, those marked 01 are document 01's.
-- Proofs: proofs/ (demand1, demand2, demand3; instances on the sample ring: Ring.antt). Read first: answer/specs/Outcome.antt (answers and their numbers),
-- runs/specs (what a call is, and that it ends), kinds/specs/Kinds.antt (the calls, their arguments by name), Terms.antt, plan/specs (plans, and calls one
-- after another with refused ones in between), survival/specs (tallies). Then what a line cites: the tests of a call (specs/ of study, parts, search,
-- compose, tally, soundness, weights, reliability, writer, convert), files (sections), rounds (network), E and D (chance), the report (lines).
use Rattle.std.specs.Prelude.{◌≡◌, ◌↔◌, List, [], ◌∷◌, ℕ, ◌+◌, ◌-◌, ◌*◌, ◌/◌, ◌≤◌, ◌<◌, min, T, ltb, length}
use denote.Slice.{slice_val}
use Rattle.limits.specs.Limits.{arc_count, max_rounds, max_class}
use Rattle.laws.specs.Members.{◌∈◌}
use Rattle.answer.specs.Outcome.{success, refused}
use Rattle.front.specs.declared.Pair.{Pair}
use Rattle.front.specs.Front.{AtMost}
use Rattle.record.specs.Record.{record_size1, record_size2, listed, is_record, record_holds}
use Rattle.compose.specs.Compose.{record_tests}
use Rattle.slices.specs.Bytes.{part_at, Inside}
use Rattle.parts.specs.Study.{Arc, round_size}
use Rattle.sections.specs.File.{trailer_at, trailer, elements_of, study_of}
use Rattle.study.specs.Calls.{open_tests, open_values, check_tests, round_tests}
use Rattle.writer.specs.Writer.{Given, given_elements, meant, study_bytes, given_tests}
use Rattle.network.specs.Round.{study_size1, study_size2, Route, RoundHolds}
use Rattle.convert.specs.Convert.{convert_tests, convert_bytes}
use Rattle.chance.specs.Chance.{weights, sum_e, scale_d, Near}
use Rattle.weights.specs.Calls.{weights_tests}
use Rattle.soundness.specs.Tally.{tally_size1, tally_size2, rounds, tally_score, cell, Sound}
use Rattle.tally.specs.Calls.{new_tests, add_tests, remove_tests, score_tests}
use Rattle.reliability.specs.Calls.{tally_s, rate_tests}
use Rattle.lines.specs.Report.{report_lines}
use Rattle.plan.specs.Plan.{Plan, searched, series, parallel, PlanHolds, PlanSized}
use Rattle.plan.specs.Calls.{Searched, Built, SameFront}
use Rattle.survival.specs.Calls.{Tallied, AllSearched, Rating}
use Rattle.survival.specs.Counts.{Count, HoldsWith}
use Rattle.kinds.specs.Kinds as call
use Rattle.runs.specs.Arguments.{Block}
use Rattle.runs.specs.Run.{at, Ends, AlwaysEnds, Keeps}
use Rattle.demands.specs.Terms.{First, None, Refused, Answers, Fills, Leaves, SameSections, SameOldSections, Undominated, PairOf, OfRoute}
use Rattle.demands.specs.Terms.{RoundRecord, RowRecord, SideRecord, FreshTally, RaisedTally, LoweredTally, PlanPasses, Wrote}

pub record Demand1 : Type 0 where
  -- "If a study, an order, a front, a tally or a chance is bad, or lent space is too short, the call gives the one number that document 01 fixes":
  -- it is refused with n exactly where n is the first number of its list whose test applies, and succeeds, with 01's values, exactly where none does.
  -- opening (1 2 3 4 5 8 32 6 9; 7 is not used since S-1): N, A, M, s, t, n1, n2
  pub opening : (c : call.OpenCall) → Answers (open_tests (call.open_file c)) (open_values (call.open_file c)) (call.open_result c)
  -- lookup (opening's, 10), the check: 0
  pub check : (c : call.CheckCall) → Answers (check_tests (call.check_file c) (call.check_round c)) (0 ∷ []) (call.check_result c)
  -- lookup, the part: where the check is good, the n1 + n2 bytes of the file from T − dM + r × (n1 + n2) on; an empty part where it refuses
  pub lookup : (c : call.LookupCall) → let f = call.lookup_file c in let n = round_size (elements_of f) in
      None (check_tests f (call.lookup_round c)) → call.lookup_result c ≡ part_at (trailer_at f - (trailer f).dm + call.lookup_round c * n) n f
  pub lookup-bad : (c : call.LookupCall) (n : ℕ) → First (check_tests (call.lookup_file c) (call.lookup_round c)) n → call.lookup_result c ≡ []
  -- in both cases a part of the caller's file: in its block of memory, and within its bounds
  pub lookup-inside : (c : call.LookupCall) → Inside (call.lookup_result_slice c) (call.lookup_file_slice c)
  -- search (lookup's, 11, 15): the length of the round's front record
  pub search : (c : call.SearchCall) → let f = call.search_file c in let r = call.search_round c in
      Fills (round_tests f r) (RoundRecord (study_of f) r) (length (call.search_lent c)) (call.search_result c)
  -- row and side (12, 13, 15): the length of the record of the two records' row or side
  pub row : (c : call.SeriesCall) → let y = call.series_first c in let z = call.series_second c in
      Fills (record_tests y z) (RowRecord y z) (length (call.series_lent c)) (call.series_result c)
  pub side : (c : call.ParallelCall) → let y = call.parallel_first c in let z = call.parallel_second c in
      Fills (record_tests y z) (SideRecord y z) (length (call.parallel_lent c)) (call.parallel_result c)
  -- fresh (6, 21): 0
  pub fresh : (c : call.NewCall) → Answers (new_tests (call.new_size1 c) (call.new_size2 c) (length (call.new_lent c))) (0 ∷ []) (call.new_result c)
  -- add (12, 21 to 24): 0
  pub add : (c : call.AddCall) → Answers (add_tests (call.add_record c) (call.add_lent c)) (0 ∷ []) (call.add_result c)
  -- remove (S-2's take; 12, 21 to 23, 31): 0
  pub remove : (c : call.RemoveCall) → Answers (remove_tests (call.remove_record c) (call.remove_lent c)) (0 ∷ []) (call.remove_result c)
  -- score (S-5; 21): the tally's fourth word
  pub score : (c : call.ScoreCall) → Answers (score_tests (call.score_tally c)) (tally_score (call.score_tally c) ∷ []) (call.score_result c)
  -- ageing (14): the chance; 01: "for age y in years, 0 to 30, 1,000,000 − 1,000 × y²"
  pub ageing : (c : call.AgeingCall) → let y = call.ageing_age c in Answers ((14, ltb 30 y) ∷ []) ((1000000 - 1000 * (y * y)) ∷ []) (call.ageing_result c)
  -- weights (6, 14, 15): 0
  pub weighing : (c : call.WeightsCall) →
      Answers (weights_tests (call.weights_nodes c) (call.weights_chance c) (length (call.weights_lent c))) (0 ∷ []) (call.weights_result c)
  -- reliability (14, 21, 22, 25): S, M and R = floor(S / (M × 10^7))
  pub reliability : (c : call.RateCall) → let t = call.rate_tally c in let s = tally_s t (call.rate_chance1 c) (call.rate_chance2 c) in
      Answers (rate_tests t (call.rate_chance1 c) (call.rate_chance2 c)) (s ∷ rounds t ∷ (s / (rounds t * 10000000)) ∷ []) (call.rate_result c)
  -- writer (2 3 5 8 32 6 9 11 15): the length of the study file
  pub writer : (c : call.WriteCall) → let g = call.write_given c in
      Fills (given_tests g) (λ x. x ≡ study_bytes g) (length (call.write_lent c)) (call.write_result c)
  -- converter (S-4; the old 1 2 3 4 5 6 8 9, 11 over all rounds, 15): the length of the new study file
  pub converter : (c : call.ConvertCall) → let f = call.convert_file c in
      Fills (convert_tests f) (λ x. x ≡ convert_bytes f) (length (call.convert_lent c)) (call.convert_result c)
  -- 01: "Bytes outside the sections are ignored."
  pub opening-ignores : (c d : call.OpenCall) → SameSections (call.open_file c) (call.open_file d) → call.open_result c ≡ call.open_result d
  pub check-ignores : (c d : call.CheckCall) → SameSections (call.check_file c) (call.check_file d) → call.check_round c ≡ call.check_round d
      → call.check_result c ≡ call.check_result d
  pub lookup-ignores : (c d : call.LookupCall) → SameSections (call.lookup_file c) (call.lookup_file d) → call.lookup_round c ≡ call.lookup_round d
      → call.lookup_result c ≡ call.lookup_result d
  pub search-ignores : (c d : call.SearchCall) → SameSections (call.search_file c) (call.search_file d) → call.search_round c ≡ call.search_round d
      → call.search_lent c ≡ call.search_lent d → (call.search_result c ≡ call.search_result d) × (call.search_left c ≡ call.search_left d)
  pub converter-ignores : (c d : call.ConvertCall) → SameOldSections (call.convert_file c) (call.convert_file d) → call.convert_lent c ≡ call.convert_lent d
      → (call.convert_result c ≡ call.convert_result d) × (call.convert_left c ≡ call.convert_left d)
  -- and in the report: its lines, of which its text is made
  pub report-ignores : (f g : List ℕ) → SameSections f g → report_lines f ≡ report_lines g
  -- 01: "A refusal returns its number alone, as an answer told apart from every success"
  pub apart : (n : ℕ) (v : List ℕ) → refused n ≡ success v → ⊥
  -- "and changes no lent memory": a refused call leaves the slice that it was lent as it was; a successful one leaves what is past what it wrote
  pub search-leaves : (c : call.SearchCall) →
      Leaves (RoundRecord (study_of (call.search_file c)) (call.search_round c)) (call.search_result c) (call.search_lent c) (call.search_left c)
  pub row-leaves : (c : call.SeriesCall) →
      Leaves (RowRecord (call.series_first c) (call.series_second c)) (call.series_result c) (call.series_lent c) (call.series_left c)
  pub side-leaves : (c : call.ParallelCall) →
      Leaves (SideRecord (call.parallel_first c) (call.parallel_second c)) (call.parallel_result c) (call.parallel_lent c) (call.parallel_left c)
  pub fresh-leaves : (c : call.NewCall) → Leaves (FreshTally (call.new_size1 c) (call.new_size2 c)) (call.new_result c) (call.new_lent c) (call.new_left c)
  pub add-leaves : (c : call.AddCall) → Leaves (RaisedTally (call.add_record c) (call.add_lent c)) (call.add_result c) (call.add_lent c) (call.add_left c)
  pub remove-leaves : (c : call.RemoveCall) →
      Leaves (LoweredTally (call.remove_record c) (call.remove_lent c)) (call.remove_result c) (call.remove_lent c) (call.remove_left c)
  pub weighing-leaves : (c : call.WeightsCall) →
      Leaves (λ x. x ≡ weights (call.weights_chance c) (call.weights_nodes c)) (call.weights_result c) (call.weights_lent c) (call.weights_left c)
  pub writer-leaves : (c : call.WriteCall) → Leaves (λ x. x ≡ study_bytes (call.write_given c)) (call.write_result c) (call.write_lent c) (call.write_left c)
  pub converter-leaves : (c : call.ConvertCall) →
      Leaves (λ x. x ≡ convert_bytes (call.convert_file c)) (call.convert_result c) (call.convert_lent c) (call.convert_left c)
  -- and what a call was lent to read is as it was, whatever it answers
  pub opening-reads : (c : call.OpenCall) → call.open_file_after c ≡ call.open_file c
  pub check-reads : (c : call.CheckCall) → call.check_file_after c ≡ call.check_file c
  pub lookup-reads : (c : call.LookupCall) → call.lookup_file_after c ≡ call.lookup_file c
  pub search-reads : (c : call.SearchCall) → call.search_file_after c ≡ call.search_file c
  pub row_reads : (c : call.SeriesCall) → (call.series_first_after c ≡ call.series_first c) × (call.series_second_after c ≡ call.series_second c)
  pub side-reads : (c : call.ParallelCall) → (call.parallel_first_after c ≡ call.parallel_first c) × (call.parallel_second_after c ≡ call.parallel_second c)
  pub add_reads : (c : call.AddCall) → call.add_record_after c ≡ call.add_record c
  pub remove-reads : (c : call.RemoveCall) → call.remove_record_after c ≡ call.remove_record c
  pub score-reads : (c : call.ScoreCall) → call.score_tally_after c ≡ call.score_tally c
  pub reliability-reads : (c : call.RateCall) → call.rate_tally_after c ≡ call.rate_tally c
  pub writer-reads : (c : call.WriteCall) → call.write_given_after c ≡ call.write_given c
  pub converter-reads : (c : call.ConvertCall) → call.convert_file_after c ≡ call.convert_file c
  -- "every call ends". On every input there is a call of each kind, so that nothing above speaks of nothing;
  pub opening-made : (f : List ℕ) → (c : call.OpenCall) × (call.open_file c ≡ f)
  pub check-made : (f : List ℕ) (r : ℕ) → (c : call.CheckCall) × (call.check_file c ≡ f) × (call.check_round c ≡ r)
  pub lookup-made : (f : List ℕ) (r : ℕ) → (c : call.LookupCall) × (call.lookup_file c ≡ f) × (call.lookup_round c ≡ r)
  pub search-made : (f : List ℕ) (r : ℕ) (s : List ℕ)
      → (c : call.SearchCall) × (call.search_file c ≡ f) × (call.search_round c ≡ r) × (call.search_lent c ≡ s)
  pub row_made : (y z s : List ℕ) → (c : call.SeriesCall) × (call.series_first c ≡ y) × (call.series_second c ≡ z) × (call.series_lent c ≡ s)
  pub side-made : (y z s : List ℕ) → (c : call.ParallelCall) × (call.parallel_first c ≡ y) × (call.parallel_second c ≡ z) × (call.parallel_lent c ≡ s)
  pub fresh-made : (n1 n2 : ℕ) (s : List ℕ) → (c : call.NewCall) × (call.new_size1 c ≡ n1) × (call.new_size2 c ≡ n2) × (call.new_lent c ≡ s)
  pub add-made : (x t : List ℕ) → (c : call.AddCall) × (call.add_record c ≡ x) × (call.add_lent c ≡ t)
  pub remove-made : (x t : List ℕ) → (c : call.RemoveCall) × (call.remove_record c ≡ x) × (call.remove_lent c ≡ t)
  pub score-made : (t : List ℕ) → (c : call.ScoreCall) × (call.score_tally c ≡ t)
  pub ageing-made : (y : ℕ) → (c : call.AgeingCall) × (call.ageing_age c ≡ y)
  pub weighing-made : (n p : ℕ) (s : List ℕ) → (c : call.WeightsCall) × (call.weights_nodes c ≡ n) × (call.weights_chance c ≡ p) × (call.weights_lent c ≡ s)
  pub reliability-made : (t : List ℕ) (p1 p2 : ℕ) → (c : call.RateCall) × (call.rate_tally c ≡ t) × (call.rate_chance1 c ≡ p1) × (call.rate_chance2 c ≡ p2)
  pub writer-made : (g : Given) (s : List ℕ) → (c : call.WriteCall) × (call.write_given c ≡ g) × (call.write_lent c ≡ s)
  pub converter-made : (f s : List ℕ) → (c : call.ConvertCall) × (call.convert_file c ≡ f) × (call.convert_lent c ≡ s)
  -- nothing is asked of its caller, and for all arguments that a machine can hold the call's own code, run from a memory that holds them, ends, and makes
  -- a call with these arguments; what that call left is then in memory, and all else as it was (runs/specs/Run.antt)
  pub opening-ends : (f : List ℕ) → AlwaysEnds (call.open_run f)
  pub check-ends : (f : List ℕ) (r : ℕ) → AlwaysEnds (call.check_run f r)
  pub lookup-ends : (f : List ℕ) (r : ℕ) → AlwaysEnds (call.lookup_run f r)
  pub search-ends : (f : List ℕ) (r : ℕ) (s : List ℕ) → AlwaysEnds (call.search_run f r s)
  pub row_ends : (y z s : List ℕ) → AlwaysEnds (call.series_run y z s)
  pub side-ends : (y z s : List ℕ) → AlwaysEnds (call.parallel_run y z s)
  pub fresh-ends : (n1 n2 : ℕ) (s : List ℕ) → AlwaysEnds (call.new_run n1 n2 s)
  pub add-ends : (x t : List ℕ) → AlwaysEnds (call.add_run x t)
  pub remove-ends : (x t : List ℕ) → AlwaysEnds (call.remove_run x t)
  pub score-ends : (t : List ℕ) → AlwaysEnds (call.score_run t)
  pub ageing-ends : (y : ℕ) → AlwaysEnds (call.ageing_run y)
  pub weighing-ends : (n p : ℕ) (s : List ℕ) → AlwaysEnds (call.weights_run n p s)
  pub reliability-ends : (t : List ℕ) (p1 p2 : ℕ) → AlwaysEnds (call.rate_run t p1 p2)
  pub writer-ends : (g : Given) (s : List ℕ) → AlwaysEnds (call.write_run g s)
  pub converter-ends : (f s : List ℕ) → AlwaysEnds (call.convert_run f s)
  -- so, on the machine: a run that is refused leaves every lent block of memory as it was, and one that is lent slices to read alone always does
  pub opening-keeps : (f : List ℕ) → Keeps (call.open_run f) (λ c. Unit)
  pub check-keeps : (f : List ℕ) (r : ℕ) → Keeps (call.check_run f r) (λ c. Unit)
  pub lookup-keeps : (f : List ℕ) (r : ℕ) → Keeps (call.lookup_run f r) (λ c. Unit)
  pub search-keeps : (f : List ℕ) (r : ℕ) (s : List ℕ) → Keeps (call.search_run f r s) (λ c. Refused (call.search_result c))
  pub row_keeps : (y z s : List ℕ) → Keeps (call.series_run y z s) (λ c. Refused (call.series_result c))
  pub side-keeps : (y z s : List ℕ) → Keeps (call.parallel_run y z s) (λ c. Refused (call.parallel_result c))
  pub fresh_keeps : (n1 n2 : ℕ) (s : List ℕ) → Keeps (call.new_run n1 n2 s) (λ c. Refused (call.new_result c))
  pub add-keeps : (x t : List ℕ) → Keeps (call.add_run x t) (λ c. Refused (call.add_result c))
  pub remove-keeps : (x t : List ℕ) → Keeps (call.remove_run x t) (λ c. Refused (call.remove_result c))
  pub weighing-keeps : (n p : ℕ) (s : List ℕ) → Keeps (call.weights_run n p s) (λ c. Refused (call.weights_result c))
  pub score-keeps : (t : List ℕ) → Keeps (call.score_run t) (λ c. Unit)
  pub reliability-keeps : (t : List ℕ) (p1 p2 : ℕ) → Keeps (call.rate_run t p1 p2) (λ c. Unit)
  pub writer-keeps : (g : Given) (s : List ℕ) → Keeps (call.write_run g s) (λ c. Refused (call.write_result c))
  pub converter-keeps : (f s : List ℕ) → Keeps (call.convert_run f s) (λ c. Refused (call.convert_result c))
  -- and the part that a run of lookup hands back lies in the block where the caller's file was put, within its bounds
  pub lookup-lies : (f : List ℕ) (r : ℕ) (others : List Block) (e : Ends others (call.lookup_run f r)) → let n = length (call.lookup_result e.made) in
      (o : ℕ) × (e.value ≡ slice_val (at others, o) n) × (o + n ≤ length f)

pub record Demand2 : Type 0 where
  -- "The front of a round holds exactly the undominated pairs of all routes from source to target."
  pub exact : (f : List ℕ) (r : ℕ) (x : List ℕ) → Searched f r x → (p : Pair) → (p ∈ listed x) ↔ Undominated (OfRoute (study_of f) r) p
  -- as a front record of the study's class sizes
  pub front : (f : List ℕ) (r : ℕ) (x : List ℕ) → Searched f r x → RoundRecord (study_of f) r x × T (is_record x)
  -- and it holds where direct removal finds the round joined
  pub removal : (f : List ℕ) (r : ℕ) (x : List ℕ) → Searched f r x → (a b : ℕ) → a ≤ study_size1 (study_of f) → b ≤ study_size2 (study_of f)
      → T (record_holds x a b) ↔ RoundHolds (study_of f) r a b
  -- "A tally counts the rounds that direct removal finds joined." For every list of adds after a fresh tally, refused calls in between:
  -- its sizes are those asked for, M is the number of adds, and a cell is the number of added fronts that hold there
  pub sizes : (n1 n2 : ℕ) (xs : List (List ℕ)) (t : List ℕ) → Tallied n1 n2 xs t → (tally_size1 t ≡ n1) × (tally_size2 t ≡ n2)
  pub many : (n1 n2 : ℕ) (xs : List (List ℕ)) (t : List ℕ) → Tallied n1 n2 xs t → rounds t ≡ length xs
  pub cells : (n1 n2 : ℕ) (xs : List (List ℕ)) (t : List ℕ) → Tallied n1 n2 xs t → (l1 l2 : ℕ) → l1 ≤ n1 → l2 ≤ n2
      → Count (λ x. T (record_holds x (n1 - l1) (n2 - l2))) xs (cell t l1 l2)
  pub sound : (n1 n2 : ℕ) (xs : List (List ℕ)) (t : List ℕ) → Tallied n1 n2 xs t → Sound t
  -- where the fronts are those of searched rounds, the studies have these class sizes, and a cell is the number of rounds that removal finds joined
  pub studies : (n1 n2 : ℕ) (qs : List (List ℕ × ℕ)) (xs : List (List ℕ)) (t : List ℕ) → Tallied n1 n2 xs t → AllSearched qs xs
      → (q : List ℕ × ℕ) → q ∈ qs → (study_size1 (study_of q.0) ≡ n1) × (study_size2 (study_of q.0) ≡ n2)
  pub counts : (n1 n2 : ℕ) (qs : List (List ℕ × ℕ)) (xs : List (List ℕ)) (t : List ℕ) → Tallied n1 n2 xs t → AllSearched qs xs
      → (l1 l2 : ℕ) → l1 ≤ n1 → l2 ≤ n2 → Count (HoldsWith n1 n2 l1 l2) qs (cell t l1 l2)
  -- there is such a tally of every list of up to 100,000 rounds of studies of one pair of class sizes to which no number from 1 to 11 applies
  pub tallied : (n1 n2 : ℕ) (qs : List (List ℕ × ℕ)) → n1 ≤ max_class → n2 ≤ max_class → length qs ≤ max_rounds
      → ((q : List ℕ × ℕ) → q ∈ qs → None (round_tests q.0 q.1) × (study_size1 (study_of q.0) ≡ n1) × (study_size2 (study_of q.0) ≡ n2))
      → (xs : List (List ℕ)) × (t : List ℕ) × Tallied n1 n2 xs t × AllSearched qs xs
  -- "The reliability, a whole count of ten-millionths, is never above the exact survival signature formula on that tally": with E = `sum_e` and
  -- D = `scale_d` = 10^(6(n1 + n2)) the formula is E / (M × D), and R × M × D ≤ 10^7 × E
  pub never-above : (t : List ℕ) (p1 p2 s m r : ℕ) → Rating t p1 p2 s m r → let n1 = tally_size1 t in let n2 = tally_size2 t in
      r * rounds t * scale_d n1 n2 ≤ 10000000 * sum_e n1 n2 p1 p2 (cell t)
  -- "and below it by less than n1 + n2 + 1 ten-millionths, n1 and n2 being the class sizes"
  pub below-by-less : (t : List ℕ) (p1 p2 s m r : ℕ) → Rating t p1 p2 s m r → let n1 = tally_size1 t in let n2 = tally_size2 t in
      10000000 * sum_e n1 n2 p1 p2 (cell t) < (r + (n1 + n2) + 1) * rounds t * scale_d n1 n2
  -- M and S too (01: S × D ≤ 10^14 × E ≤ (S + (n1 + n2) × M × 10^7) × D); all of it on the counts that removal finds, told by rounds alone
  pub near : (t : List ℕ) (p1 p2 s m r : ℕ) → Rating t p1 p2 s m r → (m ≡ rounds t) × Near (tally_size1 t) (tally_size2 t) p1 p2 (cell t) s m r
  pub near-rounds : (n1 n2 : ℕ) (qs : List (List ℕ × ℕ)) (xs : List (List ℕ)) (t : List ℕ) → Tallied n1 n2 xs t → AllSearched qs xs
      → (by-removal : ℕ → ℕ → ℕ) → ((l1 l2 : ℕ) → l1 ≤ n1 → l2 ≤ n2 → Count (HoldsWith n1 n2 l1 l2) qs (by-removal l1 l2))
      → (p1 p2 s m r : ℕ) → Rating t p1 p2 s m r → (m ≡ length qs) × Near n1 n2 p1 p2 by-removal s m r
  -- "A written study reads back as given." It spells the study that was meant; opening tells its numbers,
  pub spells : (g : Given) (f : List ℕ) → Wrote g f → study_of f ≡ meant g
  pub opens : (g : Given) (f : List ℕ) → Wrote g f → (c : call.OpenCall) → call.open_file c ≡ f → call.open_result c
      ≡ success (length g.nodes ∷ arc_count g.arcs ∷ g.total ∷ g.source ∷ g.target ∷ study_size1 (meant g) ∷ study_size2 (meant g) ∷ [])
  -- lookup hands back each round, and refuses every other,
  pub checks : (g : Given) (f : List ℕ) → Wrote g f → (c : call.CheckCall) → call.check_file c ≡ f
      → (call.check_round c < g.total → call.check_result c ≡ success (0 ∷ [])) × (g.total ≤ call.check_round c → call.check_result c ≡ refused 10)
  pub looks-up : (g : Given) (f : List ℕ) → Wrote g f → (c : call.LookupCall) → call.lookup_file c ≡ f → call.lookup_round c < g.total
      → call.lookup_result c ≡ part_at (call.lookup_round c * round_size (given_elements g)) (round_size (given_elements g)) g.rounds
  -- and the search of a round is never refused but for its slice, and finds the front of the study that was given
  pub searches : (g : Given) (f : List ℕ) → Wrote g f → (c : call.SearchCall) → call.search_file c ≡ f → call.search_round c < g.total
      → (n : ℕ) → call.search_result c ≡ refused n → n ≡ 15
  pub finds : (g : Given) (f : List ℕ) → Wrote g f → (r : ℕ) (x : List ℕ) → Searched f r x → RoundRecord (meant g) r x

-- "A plan of building is a searched round of a study, or a row or side of two smaller plans." (`Plan`; `series` is row, `parallel` is side.) `Built p x`:
-- each call of the plan succeeded, and x is its front record, through any refused calls in between. `PlanSized p n1 n2`: so its studies say.
pub record Demand3 : Type 0 where
  -- "For every plan in which each call succeeds, whatever its studies and rounds, its front holds at failure counts (a, b) exactly when the plan does,
  -- a from 0 to n1 and b from 0 to n2. A searched round holds where its network holds after the first a failures of class 1 and the first b of
  -- class 2, a row where both parts hold, a side where at least one does." (`PlanHolds`)
  pub holds : (p : Plan) (x : List ℕ) (n1 n2 : ℕ) → Built p x → PlanSized p n1 n2 → (a b : ℕ) → a ≤ n1 → b ≤ n2
      → T (record_holds x a b) ↔ PlanHolds p a b
  -- 01: "Its class sizes are those of its studies, which agree where each call succeeds": there are n1 and n2, and the record has them
  pub agree : (p : Plan) (x : List ℕ) → Built p x → T (is_record x) × PlanSized p (record_size1 x) (record_size2 x)
  -- a plan's calls can all succeed exactly where its studies agree in class sizes and no number from 1 to 11 applies to its rounds
  pub succeeds : (p : Plan) → ((x : List ℕ) × Built p x) ↔ ((n1 : ℕ) × (n2 : ℕ) × PlanSized p n1 n2 × PlanPasses p)
  -- "For every two such plans of the same class sizes, the fronts are equal byte for byte exactly when the plans hold at the same counts."
  pub equal : (p q : Plan) (x y : List ℕ) (n1 n2 : ℕ) → Built p x → Built q y → PlanSized p n1 n2 → PlanSized q n1 n2
      → (x ≡ y) ↔ ((a b : ℕ) → a ≤ n1 → b ≤ n2 → PlanHolds p a b ↔ PlanHolds q a b)
  -- "Every route of a searched round has a pair in that round's front at least as large in both numbers."
  pub route : (f : List ℕ) (r : ℕ) (x : List ℕ) → Built (searched f r) x → (ks : List Arc) → Route (study_of f) ks
      → (p : Pair) × (q : Pair) × PairOf (study_of f) r ks p × (q ∈ listed x) × AtMost p q
  -- "No plan's front lists more pairs than the smaller class size plus one."
  pub short : (p : Plan) (x : List ℕ) (n1 n2 : ℕ) → Built p x → PlanSized p n1 n2 → length (listed x) ≤ min n1 n2 + 1
  -- 01: "each is free of order and grouping, gives a front joined with itself back, and spreads over the other"
  pub row-order : (p q : Plan) → SameFront (series p q) (series q p)
  pub side-order : (p q : Plan) → SameFront (parallel p q) (parallel q p)
  pub row-grouping : (p q r : Plan) → SameFront (series (series p q) r) (series p (series q r))
  pub side-grouping : (p q r : Plan) → SameFront (parallel (parallel p q) r) (parallel p (parallel q r))
  pub row-itself : (p : Plan) → SameFront (series p p) p
  pub side-itself : (p : Plan) → SameFront (parallel p p) p
  pub row-over-side : (p q r : Plan) → SameFront (series p (parallel q r)) (parallel (series p q) (series p r))
  pub side-over-row : (p q r : Plan) → SameFront (parallel p (series q r)) (series (parallel p q) (parallel p r))
