-- THE REQUESTS OF DOCUMENT 02, closed: one record each, in 02's order, each field under the sentence that it states; in front of a record the words that it
-- needs beside the page's, behind it an instance. What a request changes of the three demands stands in Demands.antt. Proofs: proofs/ (request1 to
-- request5; instances failing-ends, taken-back, edge-ages, failing-pipe, standing-score).
use Rattle.std.specs.Prelude.{◌≡◌, ◌↔◌, ◌⊎◌, Bool, not, ◌||◌, cond, List, [], ◌∷◌, ◌++◌, map}
use Rattle.std.specs.Prelude.{ℕ, zero, suc, ◌+◌, ◌-◌, ◌*◌, ◌%◌, ◌≤◌, ◌<◌, T, eqb, ltb, length, get_or, take}
use Rattle.limits.specs.Limits.{arc_size, max_rounds, max_class}
use Rattle.laws.specs.Members.{◌∈◌, keep}
use Rattle.laws.specs.Reorder.{With, Reordered}
use Rattle.answer.specs.Outcome.{Outcome, success, refused, outcome, fill_answer}
use Rattle.front.specs.declared.Pair.{Pair}
use Rattle.record.specs.Record.{listed, record_holds, longest}
use Rattle.orders.specs.Order.{count, members, members_from, place_in_class}
use Rattle.slices.specs.Bytes.{part_at}
use Rattle.parts.specs.Study.{Entry, Arc, Study, entry_class, study_arcs, entries_from, study_elements, arc_element, round_size}
use Rattle.parts.specs.Tests.{bad_classes, bad_arcs, bad_kinds, bad_sizes, part_tests}
use Rattle.sections.specs.File.{trailer_at, trailer, nodes_of, arcs_of, elements_of, study_of}
use Rattle.study.specs.Calls.{bad_rounds, bad_number, bad_orders, trailer_tests, open_tests, opened_rounds, opened_size1, opened_size2, open_values}
use Rattle.writer.specs.Writer.{Given, given, meant, study_bytes, bad_round_bytes, bad_given_orders, count_tests}
use Rattle.network.specs.Walk.{Walk, visits}
use Rattle.network.specs.Round.{study_size1, study_size2, round_at, Route, element_works, RoundHolds}
use Rattle.search.specs.Search.{search_bytes}
use Rattle.convert.specs.Old.{old_search_bytes}
use Rattle.convert.specs.Convert.{converted, convert_tests, convert_bytes}
use Rattle.chance.specs.Chance.{Grows, Near}
use Rattle.soundness.specs.Tally.{tally_size1, tally_size2, rounds, tally_score, words, cell, cell_sum, lacks_room, is_sound, Sound}
use Rattle.tally.specs.Calls.{new_tests, add_tests, removable, remove_tests}
use Rattle.lines.specs.Text.{sizes_line, front_line, refused_line}
use Rattle.lines.specs.Report.{by_answer, count_lines, tally_after, round_answer, fresh_for, max_input, report_opens, report_lines}
use Rattle.plan.specs.Plan.{Plan, searched, series, parallel, PlanSized}
use Rattle.plan.specs.Calls.{Through, Searched, Built}
use Rattle.survival.specs.Calls.{Tallied, Move, adding, removing, Moved, RemovesSucceed, Called, AllSearched, Rating}
use Rattle.survival.specs.Counts.{Count, HoldsWith}
use Rattle.samples.specs.Table.{ring_arcs, ring_file, old_ring_file, ring}
use Rattle.runs.specs.Run.{Ends}
use Rattle.kinds.specs.Kinds as call
use Rattle.demands.specs.Terms.{First, None, Answers, Fills, class_of, position_in, first_order, second_order, route_elements, PairOf, RoundRecord}
use Rattle.demands.specs.Terms.{LoweredTally, Wrote, Converted}

-- ======== S-1 ENDS THAT CAN FAIL
-- ---- the lists of tests with 7, "s or t not class 0", in its place: after 6, which S-4 put behind 8 and 32
abbrev pub bad_end_classes : List ℕ → ℕ → ℕ → Bool
bad_end_classes nodes s t = not (eqb (get_or nodes s 0) 0) || not (eqb (get_or nodes t 0) 0)

abbrev pub former_part_tests : ℕ → List ℕ → List ℕ → ℕ → ℕ → List (ℕ × Bool)
former_part_tests N nodes arcs s t = part_tests N nodes arcs ++ (7, bad_end_classes nodes s t) ∷ []

-- opening (1 2 3 4 5 8 32 6 7 9), lookup (10), search (11, then 15), writer (2 3 5 8 32 6 7 9 11, then 15)
abbrev pub former_open_tests : List ℕ → List (ℕ × Bool)
former_open_tests f =
    let h = trailer f in
    trailer_tests arc_size (length f) h ++ former_part_tests h.nodes (nodes_of f) (arcs_of f) h.source h.target ++ (9, bad_rounds f) ∷ []

abbrev pub former_check_tests : List ℕ → ℕ → List (ℕ × Bool)
former_check_tests f r = former_open_tests f ++ (10, bad_number f r) ∷ []

abbrev pub former_round_tests : List ℕ → ℕ → List (ℕ × Bool)
former_round_tests f r = former_check_tests f r ++ (11, bad_orders f r) ∷ []

abbrev pub former_given_tests : Given → List (ℕ × Bool)
former_given_tests g =
    count_tests g ++ former_part_tests (length g.nodes) g.nodes g.arcs g.source g.target
    ++ (9, bad_round_bytes g) ∷ (11, bad_given_orders g) ∷ []

-- a list without the tests of a number
abbrev pub except_number : ℕ → List (ℕ × Bool) → List (ℕ × Bool)
except_number n tests = keep (λ t. not (eqb t.0 n)) tests

-- ---- the report by the former lists (lines/specs/Report.antt, with these answers): opening, the lines of the rounds from r on, k of them, and all lines
abbrev pub former_report_opens : List ℕ → Outcome
former_report_opens f = cond (ltb max_input (length f)) (refused 1) (outcome (former_open_tests f) (open_values f))

abbrev pub former_round_lines : List ℕ → List ℕ → ℕ → ℕ → ℕ → List (List ℕ)
former_round_lines f t n1 zero r = count_lines (n1 + 1) 0 (tally_after f t r)
former_round_lines f t n1 (suc k) r =
    by_answer (fill_answer (former_round_tests f r) (search_bytes f r) longest)
    (λ n. refused_line n ∷ []) (λ v. front_line r (search_bytes f r) ∷ former_round_lines f t n1 k (suc r))

abbrev pub former_open_lines : List ℕ → List ℕ → List (List ℕ)
former_open_lines f v = sizes_line (opened_size1 v) (opened_size2 v) (opened_rounds v)
    ∷ former_round_lines f (fresh_for v) (opened_size1 v) (opened_rounds v) 0

abbrev pub former_report_lines : List ℕ → List (List ℕ)
former_report_lines f = by_answer (former_report_opens f) (λ n. refused_line n ∷ []) (former_open_lines f)

-- ---- ends
-- both ends are of class 0
abbrev pub EndsNeverFail : Study → Type 0
EndsNeverFail st = (get_or st.classes st.source 0 ≡ 0) × (get_or st.classes st.target 0 ≡ 0)

-- node v works in round r after a failures of class 1 and b of class 2; both ends do
abbrev pub NodeWorks : Study → ℕ → ℕ → ℕ → ℕ → Type 0
NodeWorks st r a b v = T (element_works (study_elements st) (round_at st r) a b v)

abbrev pub EndsWork : Study → ℕ → ℕ → ℕ → Type 0
EndsWork st r a b = NodeWorks st r a b st.source × NodeWorks st r a b st.target

-- of a plan: in both parts of a series, in at least one of a parallel
abbrev pub PlanEndsWork : Plan → ℕ → ℕ → Type 0
PlanEndsWork (searched f r) a b = EndsWork (study_of f) r a b
PlanEndsWork (series p q) a b = PlanEndsWork p a b × PlanEndsWork q a b
PlanEndsWork (parallel p q) a b = PlanEndsWork p a b ⊎ PlanEndsWork q a b

-- a pair is at most node v's position, in v's class
abbrev pub AtMostNode : Study → ℕ → Pair → ℕ → Type 0
AtMostNode st r p v =
    (class_of st v ≡ 1 → p.p1.0 ≤ position_in st (first_order st r) v) × (class_of st v ≡ 2 → p.p2.0 ≤ position_in st (second_order st r) v)

pub record Request1 : Type 0 where
  -- "Source and target may now be of class 1 or 2.": a study is accepted where no number but 7 of the former list applies: it opens, its rounds are searched,
  -- and it can be written
  pub opens : (c : call.OpenCall) → None (except_number 7 (former_open_tests (call.open_file c)))
      → call.open_result c ≡ success (open_values (call.open_file c))
  pub searches : (f : List ℕ) (r : ℕ) → None (except_number 7 (former_round_tests f r)) → (x : List ℕ) × Searched f r x
  pub writes : (g : Given) → None (except_number 7 (former_given_tests g)) → Wrote g (study_bytes g)
  -- "A route's pair takes in its two ends like any other node": they are among the nodes that it visits, over which its pair is the least (`PairOf`); so
  -- no listed pair is above an end's position, in the end's class
  pub visited : (st : Study) (ks : List Arc) → Route st ks → (st.source ∈ visits st.source ks) × (st.target ∈ visits st.source ks)
  pub counted : (f : List ℕ) (r : ℕ) (x : List ℕ) → Searched f r x → (p : Pair) → p ∈ listed x → let st = study_of f in
      AtMostNode st r p st.source × AtMostNode st r p st.target
  -- "and the network holds only where both ends work": told by removal; and of the front of any plan, a searched round or joined blocks
  pub holds-only : (st : Study) (r a b : ℕ) → RoundHolds st r a b → EndsWork st r a b
  pub plan-holds-only : (p : Plan) (x : List ℕ) (n1 n2 : ℕ) → Built p x → PlanSized p n1 n2 → (a b : ℕ) → a ≤ n1 → b ≤ n2
      → T (record_holds x a b) → PlanEndsWork p a b
  -- "Number 7 no longer occurs.": no call answers it, and the report prints none
  pub opening-7 : (c : call.OpenCall) → call.open_result c ≡ refused 7 → ⊥
  pub check-7 : (c : call.CheckCall) → call.check_result c ≡ refused 7 → ⊥
  pub search-7 : (c : call.SearchCall) → call.search_result c ≡ refused 7 → ⊥
  pub row-7 : (c : call.SeriesCall) → call.series_result c ≡ refused 7 → ⊥
  pub side-7 : (c : call.ParallelCall) → call.parallel_result c ≡ refused 7 → ⊥
  pub fresh-7 : (c : call.NewCall) → call.new_result c ≡ refused 7 → ⊥
  pub add-7 : (c : call.AddCall) → call.add_result c ≡ refused 7 → ⊥
  pub remove-7 : (c : call.RemoveCall) → call.remove_result c ≡ refused 7 → ⊥
  pub score-7 : (c : call.ScoreCall) → call.score_result c ≡ refused 7 → ⊥
  pub ageing-7 : (c : call.AgeingCall) → call.ageing_result c ≡ refused 7 → ⊥
  pub weighing-7 : (c : call.WeightsCall) → call.weights_result c ≡ refused 7 → ⊥
  pub reliability-7 : (c : call.RateCall) → call.rate_result c ≡ refused 7 → ⊥
  pub writer-7 : (c : call.WriteCall) → call.write_result c ≡ refused 7 → ⊥
  pub converter-7 : (c : call.ConvertCall) → call.convert_result c ≡ refused 7 → ⊥
  pub report-7 : (f : List ℕ) → (report_opens f ≡ refused 7 → ⊥) × ((r : ℕ) → round_answer f r ≡ refused 7 → ⊥)
  -- "A study with both ends of class 0 keeps its results.": each call answers by its former list, and the report's lines, of which its text is made, are
  -- those by the former lists. What a search and the writer leave in a slice is as Demand1 has it, whatever the ends
  pub opening-kept : (c : call.OpenCall) → let f = call.open_file c in EndsNeverFail (study_of f)
      → Answers (former_open_tests f) (open_values f) (call.open_result c)
  pub check-kept : (c : call.CheckCall) → let f = call.check_file c in EndsNeverFail (study_of f)
      → Answers (former_check_tests f (call.check_round c)) (0 ∷ []) (call.check_result c)
  pub lookup-kept : (c : call.LookupCall) → let f = call.lookup_file c in let n = round_size (elements_of f) in EndsNeverFail (study_of f)
      → None (former_check_tests f (call.lookup_round c)) → call.lookup_result c ≡ part_at (trailer_at f - (trailer f).dm + call.lookup_round c * n) n f
  pub lookup-bad-kept : (c : call.LookupCall) (n : ℕ) → let f = call.lookup_file c in EndsNeverFail (study_of f)
      → First (former_check_tests f (call.lookup_round c)) n → call.lookup_result c ≡ []
  pub search-kept : (c : call.SearchCall) → let f = call.search_file c in let r = call.search_round c in EndsNeverFail (study_of f)
      → Fills (former_round_tests f r) (RoundRecord (study_of f) r) (length (call.search_lent c)) (call.search_result c)
  pub writer-kept : (c : call.WriteCall) → let g = call.write_given c in EndsNeverFail (meant g)
      → Fills (former_given_tests g) (λ x. x ≡ study_bytes g) (length (call.write_lent c)) (call.write_result c)
  pub report-kept : (f : List ℕ) → EndsNeverFail (study_of f) → report_lines f ≡ former_report_lines f

-- the sample ring with ends that fail: the source, of class 1, is the first of its class, the target, of class 2, the last of its
abbrev pub failing_ring : Given
failing_ring = given (1 ∷ 2 ∷ 1 ∷ 1 ∷ 2 ∷ 2 ∷ []) ring_arcs (0 ∷ 2 ∷ 1 ∷ 2 ∷ 1 ∷ 0 ∷ []) 0 1 1

pub record FailingEnds : Type 0 where
  -- it is written; with 7 in its list it was not
  pub wrote : Wrote failing_ring (study_bytes failing_ring)
  pub formerly : First (former_open_tests (study_bytes failing_ring)) 7
  -- its front is the one pair (1, 3): it bears no failure of class 1, and of class 2 all but that of the target
  pub found : Searched (study_bytes failing_ring) 0 (3 ∷ 3 ∷ 1 ∷ 1 ∷ 3 ∷ [])
  pub holds : RoundHolds (study_of (study_bytes failing_ring)) 0 0 2
  pub source-failed : RoundHolds (study_of (study_bytes failing_ring)) 0 1 0 → ⊥
  pub target-failed : RoundHolds (study_of (study_bytes failing_ring)) 0 0 3 → ⊥
  -- and the ring of document 01 is a study whose ends never fail
  pub kept : EndsNeverFail (study_of ring_file)

-- ======== S-2 A ROUND TAKEN BACK
-- `remove` is take. That it can be made on every input and ends, and changes nothing where it is refused, and that "M falls by 1 and each cell where the
-- front holds falls by 1" (`LoweredTally`), is in Demand1. `Moved n1 n2 ms left t` (survival/specs/Calls.antt): t is a tally after the adds and removes ms,
-- refused calls in between, and `left` the fronts that were added and not taken
pub record Remaining (n1 n2 : ℕ) (ms : List Move) (left : List (List ℕ)) (t : List ℕ) (m : Moved n1 n2 ms left t) : Type 0 where
  -- "every take succeeds"
  pub succeed : RemovesSucceed n1 n2 ms left t m
  -- "and the tally is that of the adds that remain": word for word, in whatever order they are made,
  pub same : (xs : List (List ℕ)) (u : List ℕ) → Reordered left xs → Tallied n1 n2 xs u → take (words n1 n2) t ≡ take (words n1 n2) u
  -- which they can be; and each front that was added and not yet taken can be taken next
  pub remain : (xs : List (List ℕ)) → Reordered left xs → (u : List ℕ) × Tallied n1 n2 xs u
  pub next : (x : List ℕ) (rest : List (List ℕ)) → With x rest left → (u : List ℕ) × Moved n1 n2 (removing x ∷ ms) rest u
  -- so, as after adds alone (Demand2): its sizes are those asked for, M is the number of adds that remain, a cell the number of their fronts that hold there
  pub sizes : (tally_size1 t ≡ n1) × (tally_size2 t ≡ n2)
  pub many : rounds t ≡ length left
  pub cells : (l1 l2 : ℕ) → l1 ≤ n1 → l2 ≤ n2 → Count (λ x. T (record_holds x (n1 - l1) (n2 - l2))) left (cell t l1 l2)
  pub sound : Sound t
  -- where the fronts are those of searched rounds, a cell is the number of remaining rounds that direct removal finds joined, and reliability is as near as
  -- ever to the formula on these counts
  pub counts : (qs : List (List ℕ × ℕ)) → AllSearched qs left → (l1 l2 : ℕ) → l1 ≤ n1 → l2 ≤ n2
      → Count (HoldsWith n1 n2 l1 l2) qs (cell t l1 l2)
  pub near-rounds : (qs : List (List ℕ × ℕ)) → AllSearched qs left
      → (by-removal : ℕ → ℕ → ℕ) → ((l1 l2 : ℕ) → l1 ≤ n1 → l2 ≤ n2 → Count (HoldsWith n1 n2 l1 l2) qs (by-removal l1 l2))
      → (p1 p2 v k r : ℕ) → Rating t p1 p2 v k r → (k ≡ length qs) × Near n1 n2 p1 p2 by-removal v k r

-- a cell to be lowered is 0; the outcome, where there is one, is not sound
abbrev pub ZeroCell : List ℕ → List ℕ → Type 0
ZeroCell r t =
    let n1 = tally_size1 t in
    let n2 = tally_size2 t in
    (l1 : ℕ) × (l2 : ℕ) × (l1 ≤ n1) × (l2 ≤ n2) × T (record_holds r (n1 - l1) (n2 - l2)) × (cell t l1 l2 ≡ 0)

abbrev pub UnsoundOutcome : List ℕ → List ℕ → Type 0
UnsoundOutcome r t = (x : List ℕ) × LoweredTally r t x × (Sound x → ⊥)

pub record Request2 : Type 0 where
  -- "For every list of adds and takes after a fresh tally, in which every add succeeds and each take follows an add of the same front not yet taken"
  pub remaining : (n1 n2 : ℕ) (ms : List Move) (left : List (List ℕ)) (t : List ℕ) (m : Moved n1 n2 ms left t) → Remaining n1 n2 ms left t m
  -- "Adding back what was taken restores the words.": on every tally where a take succeeds, all words of the slice, through refused calls in between
  pub restores : (c : call.RemoveCall) → call.remove_result c ≡ success (0 ∷ []) → (d : call.AddCall) → call.add_record d ≡ call.remove_record c
      → Through (call.remove_left c) (call.add_lent d) → (call.add_result d ≡ success (0 ∷ [])) × (call.add_left d ≡ call.remove_lent c)
  -- refused calls in between, takes and adds among them, change nothing
  pub refused-stays : (s u : List ℕ) → Through s u → s ≡ u
  -- "Take makes add's tests without 24 .. 31, after 23"; "and returns 0 on success" is Demand1's `remove`
  pub tests : (r t : List ℕ) → remove_tests r t ≡ except_number 24 (add_tests r t) ++ (31, not (removable r t)) ∷ []
  -- "if M or a cell to be lowered is 0, or the outcome isn't sound"
  pub number-31 : (c : call.RemoveCall) → let r = call.remove_record c in let t = call.remove_lent c in
      (call.remove_result c ≡ refused 31) ↔ (None (except_number 24 (add_tests r t)) × ((rounds t ≡ 0) ⊎ (ZeroCell r t ⊎ UnsoundOutcome r t)))

-- the sample ring's front added, added, taken, added
abbrev pub ring_moves : List Move
ring_moves = adding ring ∷ removing ring ∷ adding ring ∷ adding ring ∷ []

-- 31 for this front and this tally
abbrev pub Refuses31 : List ℕ → List ℕ → Type 0
Refuses31 r t = (c : call.RemoveCall) → call.remove_record c ≡ r → call.remove_lent c ≡ t → call.remove_result c ≡ refused 31

-- two fronts of class sizes 1 and 1: one that holds at (0, 0) alone, and one that holds nowhere
abbrev pub first_alone : List ℕ
first_alone = 1 ∷ 1 ∷ 1 ∷ 1 ∷ 1 ∷ []

abbrev pub nowhere : List ℕ
nowhere = 1 ∷ 1 ∷ 0 ∷ []

pub record TakenBack : Type 0 where
  -- two rounds remain: M, the score and each cell are twice those of the ring's one round; the word past the cells is as it was
  pub moved : Moved 2 2 ring_moves (ring ∷ ring ∷ []) (2 ∷ 2 ∷ 2 ∷ 12 ∷ 0 ∷ 0 ∷ 2 ∷ 0 ∷ 2 ∷ 2 ∷ 2 ∷ 2 ∷ 2 ∷ 7 ∷ [])
  -- 31 by each cause alone: M is 0, and no cell is to be lowered
  pub no-rounds : Refuses31 nowhere (1 ∷ 1 ∷ 0 ∷ 0 ∷ 0 ∷ 0 ∷ 0 ∷ 0 ∷ [])
  -- a cell to be lowered is 0
  pub no_cell : Refuses31 first_alone (1 ∷ 1 ∷ 2 ∷ 0 ∷ 0 ∷ 0 ∷ 0 ∷ 0 ∷ [])
  -- the outcome is not sound: a cell falls as l1 grows; a cell is above M
  pub falls : Refuses31 first_alone (1 ∷ 1 ∷ 2 ∷ 2 ∷ 0 ∷ 1 ∷ 0 ∷ 1 ∷ [])
  pub above-m : Refuses31 nowhere (1 ∷ 1 ∷ 2 ∷ 2 ∷ 0 ∷ 0 ∷ 0 ∷ 2 ∷ [])

-- ======== S-3 AGEING BY FORMULA
-- The call's answer on every age is Demand1's `ageing`, which stays: its line is the code's.
pub record Request3 : Type 0 where
  -- "let the call reckon 1,000,000 − 1,000 × y²" .. "Each age to 30 keeps its chance": told by a sum, so that the difference has not stopped at 0
  pub reckons : (c : call.AgeingCall) → let y = call.ageing_age c in y ≤ 30
      → (p : ℕ) × (call.ageing_result c ≡ success (p ∷ [])) × (p + 1000 * (y * y) ≡ 1000000)
  -- "and every greater age, to the largest that can be passed, its 14"
  pub beyond : (c : call.AgeingCall) → 30 < call.ageing_age c → call.ageing_result c ≡ refused 14

-- the call's own code, run on an age, ends with this answer
abbrev pub RunAnswers : ℕ → Outcome → Type 0
RunAnswers y o = ∥ ((e : Ends [] (call.ageing_run y)) × (call.ageing_result e.made ≡ o)) ∥₁

pub record EdgeAges : Type 0 where
  -- the least age and the greatest with a chance, the next, and the largest of 64 bits
  pub none : RunAnswers 0 (success (1000000 ∷ []))
  pub last : RunAnswers 30 (success (100000 ∷ []))
  pub next : RunAnswers 31 (refused 14)
  pub largest : RunAnswers 18446744073709551615 (refused 14)

-- ======== S-4 PIPES THAT FAIL
-- The lists of tests with 32, 3A and the new members are Demand1's; that a front is the undominated pairs of routes whose arcs count (`PairOf`), and holds
-- where removal of nodes and arcs leaves the ends joined (`RoundHolds`), is Demand2's; of joined blocks Demand3's. Here is what these words mean, and the
-- converter's theorem.
-- the entry at a place of the section; an arc that leads its way, or back
abbrev pub EntryAt : Study → ℕ → Entry → Type 0
EntryAt st i x = (i < length st.entries) × (get_or st.entries i (record { from = 0; to = 0; kind = 0 }) ≡ x)

abbrev pub Forward : Arc → Entry → Type 0
Forward k x = (k.from ≡ x.from) × (k.to ≡ x.to)

abbrev pub Back : Arc → Entry → Type 0
Back k x = (k.from ≡ x.to) × (k.to ≡ x.from)

-- a chain of arcs from source to target whose nodes and arcs all work after a failures of class 1 and b of class 2
pub record WorkingChain (st : Study) (r a b : ℕ) (ks : List Arc) : Type 0 where
  pub walk : Walk (study_arcs st) st.source st.target ks
  pub work : (e : ℕ) → e ∈ route_elements st ks → T (element_works (study_elements st) (round_at st r) a b e)

pub record Request4 : Type 0 where
  -- "Kinds 0, 1, 2 are one-way arcs of that class; 3, 4, 5 are both-way arcs of class 0, 1, 2"
  pub arcs : (st : Study) (k : Arc) → (k ∈ study_arcs st) ↔ ((x : Entry) × EntryAt st k.place x × (Forward k x ⊎ ((2 < x.kind) × Back k x)))
  pub classes : (st : Study) (k : Arc) (x : Entry) → EntryAt st k.place x → class_of st (arc_element st k) ≡ x.kind % 3
  -- "failing once for both ways": arcs of one place are one element
  pub once : (st : Study) (k l : Arc) → k.place ≡ l.place → arc_element st k ≡ arc_element st l
  -- "Members of a class are its nodes by number, then its arcs by place in the section.": N + i is the arc at place i
  pub members-are : (st : Study) (c : ℕ) →
      members c (study_elements st) ≡ members c st.classes ++ members_from c (length st.classes) (map entry_class st.entries)
  -- "Rounds name a member by its place in the class, from 0.": what is named m is the class's member at m
  pub named : (st : Study) (c m : ℕ) → m < count c (study_elements st) → let e = get_or (members c (study_elements st)) m 0 in
      (class_of st e ≡ c) × (place_in_class (study_elements st) e ≡ m)
  -- "Class sizes count both sorts"
  pub sizes : (st : Study) → (study_size1 st ≡ count 1 st.classes + count 1 (map entry_class st.entries))
      × (study_size2 st ≡ count 2 st.classes + count 2 (map entry_class st.entries))
  -- "so the size test follows the arc tests"; "32, after 8 and before 6, for a kind above 5"; "Section limits use 3A"
  pub tests : (f : List ℕ) → let h = trailer f in let entries = entries_from (arcs_of f) in open_tests f
      ≡ trailer_tests 3 (length f) h ++ (5, bad_classes (nodes_of f)) ∷ (8, bad_arcs h.nodes entries) ∷ (32, bad_kinds entries)
      ∷ (6, bad_sizes (elements_of f)) ∷ (9, bad_rounds f) ∷ []
  -- "and the writer's 2 means arc bytes that are no multiple of three"
  pub writer-2 : (c : call.WriteCall) → (length (call.write_given c).arcs % 3 ≡ 0 → ⊥) → call.write_result c ≡ refused 2
  -- "The definition of a joined network and of a route's pair from then on counts arcs, also inside joined blocks.": a searched round holds where a chain
  -- has working nodes and working arcs; no route's pair is above the position of an arc that it uses
  pub joined : (f : List ℕ) (r : ℕ) (x : List ℕ) → Searched f r x → (a b : ℕ) → a ≤ study_size1 (study_of f) → b ≤ study_size2 (study_of f)
      → T (record_holds x a b) ↔ ((ks : List Arc) × WorkingChain (study_of f) r a b ks)
  pub counted : (st : Study) (r : ℕ) (ks : List Arc) (p : Pair) → PairOf st r ks p → (k : Arc) → k ∈ ks → AtMostNode st r p (arc_element st k)
  -- "A converter rewrites each old study whose orders are all good": where no number but 15 applies it succeeds in every slice that is long enough,
  pub converts : (old : List ℕ) → None (convert_tests old) → Converted old (convert_bytes old)
  -- "with kind 0 throughout, laid out as the writer does": what it hands on is what the writer writes of these nodes, arcs with kind 0, ends, and rounds
  -- by places; and the writer writes it
  pub written_as : (old f : List ℕ) → Converted old f → (f ≡ study_bytes (converted old)) × Wrote (converted old) f
  pub kinds-0 : (old f : List ℕ) → Converted old f → (x : Entry) → x ∈ entries_from (arcs_of f) → x.kind ≡ 0
  -- "and its fronts are equal to the old ones": every round is searched, and its record is, byte for byte, that of the old study by the old meaning
  pub searches-all : (old f : List ℕ) → Converted old f → (r : ℕ) → r < (trailer old).rounds → (x : List ℕ) × Searched f r x
  pub fronts : (old f : List ℕ) → Converted old f → (r : ℕ) (x : List ℕ) → Searched f r x → x ≡ old_search_bytes old r

-- four stations that never fail; 2 and 3 are joined both ways by one pipe of class 1, 0 leads to 2 and 3 to 1 by pipes that never fail, 0 to 3 and 2 to 1
-- by two of class 2: the way forth over the pipe bears what the way back does not
abbrev pub bridge : Given
bridge = given (0 ∷ 0 ∷ 0 ∷ 0 ∷ []) (0 ∷ 2 ∷ 0 ∷ 3 ∷ 1 ∷ 0 ∷ 3 ∷ 2 ∷ 4 ∷ 0 ∷ 3 ∷ 2 ∷ 2 ∷ 1 ∷ 2 ∷ []) (0 ∷ 1 ∷ 0 ∷ []) 0 1 1

-- two stations, an arc of kind 1 and a round of one byte
abbrev pub either : List ℕ
either = study_bytes (given (0 ∷ 0 ∷ []) (0 ∷ 1 ∷ 1 ∷ []) (0 ∷ []) 0 1 1)

pub record FailingPipe : Type 0 where
  pub wrote : Wrote bridge (study_bytes bridge)
  -- (2, 2): a pipe of class 2, the last of its class to fail; (1, 3): over the pipe between 2 and 3
  pub found : Searched (study_bytes bridge) 0 (1 ∷ 2 ∷ 2 ∷ 2 ∷ 2 ∷ 1 ∷ 3 ∷ [])
  -- it is used against the way that its entry was written in
  pub used-back : RoundHolds (study_of (study_bytes bridge)) 0 0 2
  -- and fails for that way too
  pub failed : RoundHolds (study_of (study_bytes bridge)) 0 1 2 → ⊥
  -- the old ring of document 01, 56 bytes, converted: the new ring, 63 bytes
  pub ring : Converted old_ring_file ring_file
  -- "Nothing in a file tells its form": these bytes are an old study, whose arc never fails, and a new one, whose arc is of class 1; both are good
  pub as-old : None (convert_tests either) × (old_search_bytes either 0 ≡ 0 ∷ 0 ∷ 1 ∷ 1 ∷ 1 ∷ [])
  pub as-new : Searched either 0 (1 ∷ 0 ∷ 1 ∷ 1 ∷ 1 ∷ [])

-- ======== S-5 THE STANDING SCORE
-- That fresh, add and take leave a tally whose fourth word is "the sum of all cells" (`cell_sum`) is Demand1's `fresh-leaves`, `add-leaves` and
-- `remove-leaves`, by `TallyWords` and `LoweredTally`; S-2's `same` and `restores` speak of every word, so of this one too. Demand1 has the score call.
-- sound by document 01's words alone
pub record FormerlySound (t : List ℕ) : Type 0 where
  pub small : (tally_size1 t ≤ max_class) × (tally_size2 t ≤ max_class)
  pub few : rounds t ≤ max_rounds
  pub grows : Grows (tally_size1 t) (tally_size2 t) (rounds t) (cell t)

-- the fourth word is the sum of all cells
abbrev pub TrueScore : List ℕ → Type 0
TrueScore t = tally_score t ≡ cell_sum (tally_size1 t) (tally_size2 t) (cell t)

pub record Request5 : Type 0 where
  -- "The tally gains a fourth word for it, before the cells"
  pub fourth : (t : List ℕ) → tally_score t ≡ get_or t 3 0
  pub cells-behind : (t : List ℕ) (l1 l2 : ℕ) → cell t l1 l2 ≡ get_or t (4 + (l1 * (tally_size2 t + 1) + l2)) 0
  -- "kept true by fresh, add and take"
  pub fresh-true : (c : call.NewCall) → call.new_result c ≡ success (0 ∷ []) → TrueScore (call.new_left c)
  pub add-true : (c : call.AddCall) → call.add_result c ≡ success (0 ∷ []) → TrueScore (call.add_left c)
  pub take-true : (c : call.RemoveCall) → call.remove_result c ≡ success (0 ∷ []) → TrueScore (call.remove_left c)
  -- "Sound now includes that the word equals the sum": the test of 22, over any words
  pub sound : (t : List ℕ) → T (is_sound t) ↔ (FormerlySound t × TrueScore t)
  -- "the length tests count four words": 21 of add, take and reliability, and of fresh
  pub no_room : (t : List ℕ) → let n1 = tally_size1 t in let n2 = tally_size2 t in
      T (lacks_room t) ↔ ((length t < 4) ⊎ ((n1 ≤ max_class) × (n2 ≤ max_class) × (length t < 4 + (n1 + 1) * (n2 + 1))))
  pub fresh-room : (n1 n2 room : ℕ) → new_tests n1 n2 room ≡ (6, ltb max_class n1 || ltb max_class n2) ∷ (21, ltb room (4 + (n1 + 1) * (n2 + 1))) ∷ []
  -- "The score call returns that word": of any four words or more
  pub returns : (c : call.ScoreCall) → 4 ≤ length (call.score_tally c) → call.score_result c ≡ success (tally_score (call.score_tally c) ∷ [])
  -- "without reading a cell and without the soundness test": its answer depends on whether there are four words, and on the fourth alone
  pub no-cell-read : (c d : call.ScoreCall) → let t = call.score_tally c in let u = call.score_tally d in
      ltb (length t) 4 ≡ ltb (length u) 4 → tally_score t ≡ tally_score u → call.score_result c ≡ call.score_result d
  -- "For every list of adds and takes, refused ones too, after a fresh tally that nothing else changes, it equals the full sum.": takes of fronts that were
  -- never added are among them, and each list of any records can be called
  pub standing : (n1 n2 : ℕ) (ms : List Move) (t : List ℕ) → Called n1 n2 ms t → (c : call.ScoreCall) → call.score_tally c ≡ t
      → (tally_size1 t ≡ n1) × (tally_size2 t ≡ n2) × (call.score_result c ≡ success (cell_sum n1 n2 (cell t) ∷ []))
  pub callable : (n1 n2 : ℕ) → n1 ≤ max_class → n2 ≤ max_class → (ms : List Move) → (t : List ℕ) × Called n1 n2 ms t
  -- so, where the fronts that remain are those of searched rounds, it is the sum of what direct removal finds
  pub found : (n1 n2 : ℕ) (ms : List Move) (left : List (List ℕ)) (t : List ℕ) → Moved n1 n2 ms left t → (qs : List (List ℕ × ℕ)) → AllSearched qs left
      → (by-removal : ℕ → ℕ → ℕ) → ((l1 l2 : ℕ) → l1 ≤ n1 → l2 ≤ n2 → Count (HoldsWith n1 n2 l1 l2) qs (by-removal l1 l2))
      → (c : call.ScoreCall) → call.score_tally c ≡ t → call.score_result c ≡ success (cell_sum n1 n2 by-removal ∷ [])
  -- "Its only refusal is 21 below four words."
  pub only-21 : (c : call.ScoreCall) (n : ℕ) → (call.score_result c ≡ refused n) ↔ ((n ≡ 21) × (length (call.score_tally c) < 4))

-- two fronts of class sizes 1 and 1, one that bears the failure of class 1, one that of class 2; where both hold, `first_alone` does
abbrev pub bears_first : List ℕ
bears_first = 1 ∷ 1 ∷ 1 ∷ 2 ∷ 1 ∷ []

abbrev pub bears_second : List ℕ
bears_second = 1 ∷ 1 ∷ 1 ∷ 1 ∷ 2 ∷ []

-- both added, a front taken that was never added, and an add of no record at all
abbrev pub mixed_moves : List Move
mixed_moves = adding [] ∷ removing first_alone ∷ adding bears_second ∷ adding bears_first ∷ []

-- the fourth word alone is wrong: the cells add up to 3
abbrev pub wrong_score : List ℕ
wrong_score = 1 ∷ 1 ∷ 1 ∷ 2 ∷ 0 ∷ 1 ∷ 1 ∷ 1 ∷ []

-- the score call answers so on this tally, whoever makes it
abbrev pub ScoreIs : List ℕ → Outcome → Type 0
ScoreIs t o = (c : call.ScoreCall) → call.score_tally c ≡ t → call.score_result c ≡ o

pub record StandingScore : Type 0 where
  -- the take succeeds, the add is refused: 3 of the 4 cells hold, once each
  pub called : Called 1 1 mixed_moves (1 ∷ 1 ∷ 1 ∷ 3 ∷ 0 ∷ 1 ∷ 1 ∷ 1 ∷ [])
  pub scored : ScoreIs (1 ∷ 1 ∷ 1 ∷ 3 ∷ 0 ∷ 1 ∷ 1 ∷ 1 ∷ []) (success (3 ∷ []))
  -- the sample ring's one round (R7's tally)
  pub ring-scored : ScoreIs (2 ∷ 2 ∷ 1 ∷ 6 ∷ 0 ∷ 0 ∷ 1 ∷ 0 ∷ 1 ∷ 1 ∷ 1 ∷ 1 ∷ 1 ∷ []) (success (6 ∷ []))
  -- three words, and four that are no tally
  pub three : ScoreIs (65 ∷ 0 ∷ 0 ∷ []) (refused 21)
  pub four : ScoreIs (65 ∷ 0 ∷ 0 ∷ 9 ∷ []) (success (9 ∷ []))
  -- where the fourth word alone is wrong, add, take and reliability answer 22, and the score call that word
  pub add-22 : (c : call.AddCall) → call.add_record c ≡ bears_first → call.add_lent c ≡ wrong_score → call.add_result c ≡ refused 22
  pub take-22 : (c : call.RemoveCall) → call.remove_record c ≡ bears_first → call.remove_lent c ≡ wrong_score → call.remove_result c ≡ refused 22
  pub rate-22 : (c : call.RateCall) → call.rate_tally c ≡ wrong_score → call.rate_chance1 c ≡ 0 → call.rate_chance2 c ≡ 0 → call.rate_result c ≡ refused 22
  pub wrong : ScoreIs wrong_score (success (2 ∷ []))
