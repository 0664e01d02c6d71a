-- S-1, ENDS THAT CAN FAIL: both ends are visited nodes; test 7 is left out of each list by one law, that a test which is false may be.
use mathlib.Core.Path.{◌≡◌, refl, sym, ap, subst, ◌∙◌}
use mathlib.Core.Logic.{◌↔◌, inl, inr, ⊎_elim}
use mathlib.Core.Bool.{Bool, true, false, cond}
use mathlib.Core.List.Memᴰ
use mathlib.Core.List.{List, [], ◌∷◌, ◌++◌, map}
use Prim.Native.Nat.{ℕ, zero, suc, ◌≤◌}
use native.Mathlib.Omega.{arith}
use lib.Dec.{T, ltb}
use lib.ListN.{length, get_or}
use Rattle.limits.specs.Limits.{arc_size}
use Rattle.laws.specs.First.{first-without}
use Rattle.laws.specs.Members.{◌∈◌, here}
use Rattle.answer.specs.Outcome.{Outcome, success, refused, outcome, fill_answer}
use Rattle.answer.proofs.Outcomes.{refused-same, outcome-never}
use Rattle.answer.proofs.Fills.{fill-never}
use Rattle.front.specs.declared.Pair.{Pair}
use Rattle.record.specs.Record.{listed, record_holds, longest}
use Rattle.slices.specs.Bytes.{word_at}
use Rattle.parts.specs.Study.{Arc, Study, study_arcs, arc_element}
use Rattle.parts.specs.Tests.{part_tests}
use Rattle.sections.specs.File.{trailer, nodes_of, arcs_of, study_of}
use Rattle.study.specs.Calls.{bad_rounds, bad_number, bad_orders, trailer_tests, opened_rounds, opened_size1, opened_size2, open_tests, open_values, open_answer, check_tests, round_tests}
use Rattle.writer.specs.Writer.{Given, meant, study_bytes, bad_round_bytes, bad_given_orders, count_tests, given_tests}
use Rattle.compose.specs.Compose.{series_bytes, parallel_bytes, record_tests}
use Rattle.tally.specs.Calls.{new_tests, add_tests, remove_tests, score_tests}
use Rattle.weights.specs.Calls.{weights_tests}
use Rattle.reliability.specs.Calls.{rate_tests}
use Rattle.network.specs.Walk.{visits}
use Rattle.network.specs.Round.{Route, RoundHolds}
use Rattle.network.proofs.Routes.{walk-arrives}
use Rattle.search.specs.Search.{search_bytes}
use Rattle.convert.specs.Convert.{convert_tests, convert_bytes}
use Rattle.lines.specs.Text.{sizes_line, front_line, refused_line}
use Rattle.lines.specs.Report.{by_answer, round_answer, round_lines, fresh_for, max_input, open_lines, report_opens, report_lines}
use Rattle.plan.specs.Plan.{Plan, searched, series, parallel, PlanHolds}
use Rattle.plan.specs.Calls.{Searched}
use Rattle.samples.specs.Table.{ten}
use Rattle.kinds.specs.Kinds as call
use Rattle.demands.specs.Terms.{First, None, RoundRecord}
use Rattle.demands.specs.Requests.{bad_end_classes, former_open_tests, former_check_tests, former_round_tests, former_given_tests, former_round_lines, former_open_lines, former_report_lines}
use Rattle.demands.specs.Requests.{EndsNeverFail, EndsWork, PlanEndsWork, AtMostNode, Request1, failing_ring, FailingEnds}
use Rattle.demands.proofs.Numbers.{first-is, none_is, answers, fills}
use Rattle.demands.proofs.Fronts.{record-one, round-record}
use Rattle.demands.proofs.Plenty.{searched-by, round-made, study-made, wrote_by}
use Rattle.demands.proofs.One.{demand1}
use Rattle.demands.proofs.Two.{demand2}
use Rattle.demands.proofs.Three.{demand3}

-- ---- where a round holds, both ends work
holds-only : (st : Study) (r a b : ℕ) → RoundHolds st r a b → EndsWork st r a b
holds-only st r a b h = (h.2 st.source here, h.2 st.target (walk-arrives (study_arcs st) st.source st.target h.0 h.1))

plan-ends : (p : Plan) (a b : ℕ) → PlanHolds p a b → PlanEndsWork p a b
plan-ends (searched f r) a b h = holds-only (study_of f) r a b h
plan-ends (series p q) a b h = (plan-ends p a b h.0, plan-ends q a b h.1)
plan-ends (parallel p q) a b h = ⊎_elim (λ k. inl (plan-ends p a b k)) (λ k. inr (plan-ends q a b k)) h

-- ---- the pair of a route counts both
visited : (st : Study) (ks : List Arc) → Route st ks → (st.source ∈ visits st.source ks) × (st.target ∈ visits st.source ks)
visited st ks w = (here, walk-arrives (study_arcs st) st.source st.target ks w.0)

counted : (f : List ℕ) (r : ℕ) (x : List ℕ) → Searched f r x → (p : Pair) → p ∈ listed x → let st = study_of f in AtMostNode st r p st.source × AtMostNode st r p st.target
counted f r x s p m =
    let st = study_of f in
    let o = ((demand2.exact f r x s p).0 m).0 in
    let at : (v : ℕ) → v ∈ visits st.source o.0 → AtMostNode st r p v =
    λ v i. let j = Memᴰ.append_left (map (arc_element st) o.0) i in (o.2.0.under v j, o.2.1.under v j) in
    let v = visited st o.0 o.1 in
    (at st.source v.0, at st.target v.1)

-- ---- no list has the number 7
report-7 : (f : List ℕ) → (report_opens f ≡ refused 7 → ⊥) × ((r : ℕ) → round_answer f r ≡ refused 7 → ⊥)
report-7 f = (go (ltb max_input (length f)), λ r. fill-never 7 (round_tests f r) (search_bytes f r) longest tt)
  where
    go : (b : Bool) → cond b (refused 1) (open_answer f) ≡ refused 7 → ⊥
    go true e = absurd (omega (arith, refused-same e))
    go false e = outcome-never 7 (open_tests f) (open_values f) tt e

-- ---- 7 left out, where both ends are of class 0
not-seven : (ts us : List (ℕ × Bool)) (nodes : List ℕ) (s t : ℕ) (v : List ℕ) → get_or nodes s 0 ≡ 0 → get_or nodes t 0 ≡ 0
    → outcome (ts ++ us) v ≡ outcome (ts ++ (7, bad_end_classes nodes s t) ∷ us) v
not-seven ts us nodes s t v a b = sym (first-without refused (success v) ts us (7, bad_end_classes nodes s t) (rw (a, b)))

-- lists with the same outcomes: no test applies, or one is the first, in both
module _ (ts us : List (ℕ × Bool)) (same : (v : List ℕ) → outcome ts v ≡ outcome us v) where
  none-as : None us → None ts
  none-as n = ((none_is ts [] []).0 (same [] ∙ (none_is us [] []).1 (n, refl))).0

  first-as : (n : ℕ) → First us n → First ts n
  first-as n h = (first-is ts [] n).0 (same [] ∙ (first-is us [] n).1 h)

module _ (f : List ℕ) (h : EndsNeverFail (study_of f)) where
  -- opening's list, and whatever follows it
  file-kept : (us : List (ℕ × Bool)) (v : List ℕ) → outcome (open_tests f ++ us) v ≡ outcome (former_open_tests f ++ us) v
  file-kept us v =
      let t = trailer f in
      not-seven (trailer_tests arc_size (length f) t ++ part_tests t.nodes (nodes_of f) (arcs_of f)) ((9, bad_rounds f) ∷ us)
      (nodes_of f) t.source t.target v h.0 h.1

  check-same : (r : ℕ) (v : List ℕ) → outcome (check_tests f r) v ≡ outcome (former_check_tests f r) v
  check-same r v = file-kept ((10, bad_number f r) ∷ []) v

  round_same : (r : ℕ) (v : List ℕ) → outcome (round_tests f r) v ≡ outcome (former_round_tests f r) v
  round_same r v = file-kept ((10, bad_number f r) ∷ (11, bad_orders f r) ∷ []) v

  search-same : (r : ℕ) (bytes : List ℕ) (room : ℕ) → fill_answer (round_tests f r) bytes room ≡ fill_answer (former_round_tests f r) bytes room
  search-same r bytes room = file-kept ((10, bad_number f r) ∷ (11, bad_orders f r) ∷ (15, ltb room (length bytes)) ∷ []) (length bytes ∷ [])

  -- the report
  lines-kept : (t : List ℕ) (n1 k r : ℕ) → round_lines f t n1 k r ≡ former_round_lines f t n1 k r
  lines-kept t n1 zero r = refl
  lines-kept t n1 (suc k) r =
      go (round_answer f r) (front_line r (search_bytes f r)) (lines-kept t n1 k (suc r))
      ∙ ap (λ (o : Outcome). by_answer o (λ n. refused_line n ∷ []) (λ v. front_line r (search_bytes f r) ∷ former_round_lines f t n1 k (suc r))) (search-same r (search_bytes f r) longest)
    where
      go : (o : Outcome) (line : List ℕ) {ls ms : List (List ℕ)} → ls ≡ ms
          → by_answer o refused_line (λ v. line) ∷ by_answer o (λ n. []) (λ v. ls) ≡ by_answer o (λ n. refused_line n ∷ []) (λ v. line ∷ ms)
      go (refused n) line e = refl
      go (success v) line e = ap (λ l. line ∷ l) e

  report-kept : report_lines f ≡ former_report_lines f
  report-kept =
      go (report_opens f)
      ∙ ap (λ (o : Outcome). by_answer o (λ n. refused_line n ∷ []) (former_open_lines f)) (ap (cond (ltb max_input (length f)) (refused 1)) (file-kept [] (open_values f)))
    where
      go : (o : Outcome) → by_answer o (λ n. refused_line n ∷ []) (open_lines f) ≡ by_answer o (λ n. refused_line n ∷ []) (former_open_lines f)
      go (refused n) = refl
      go (success v) = ap (λ ls. sizes_line (opened_size1 v) (opened_size2 v) (opened_rounds v) ∷ ls) (lines-kept (fresh_for v) (opened_size1 v) (opened_rounds v) 0)

  round-record-kept : (r : ℕ) → None (former_round_tests f r) → RoundRecord (study_of f) r (search_bytes f r)
  round-record-kept r n = round-record f r (none-as (round_tests f r) (former_round_tests f r) (round_same r) n)

given-kept : (g : Given) → EndsNeverFail (meant g) → (bytes : List ℕ) (room : ℕ) → fill_answer (given_tests g) bytes room ≡ fill_answer (former_given_tests g) bytes room
given-kept g h bytes room =
    not-seven (count_tests g ++ part_tests (length g.nodes) g.nodes g.arcs)
    ((9, bad_round_bytes g) ∷ (11, bad_given_orders g) ∷ (15, ltb room (length bytes)) ∷ []) g.nodes g.source g.target (length bytes ∷ []) h.0
    h.1

-- THE THEOREM
pub request1 : Request1
request1 =
    record {
      opens = λ c n. ((demand1.opening c).value (open_values (call.open_file c))).1 (n, refl);
      searches = λ f r n. (search_bytes f r, round-made f r n);
      writes = study-made;
      visited = visited;
      counted = counted;
      holds-only = holds-only;
      plan-holds-only = λ p x n1 n2 b s i j k l t. plan-ends p i j ((demand3.holds p x n1 n2 b s i j k l).0 t);
      opening-7 = λ c e. outcome-never 7 (open_tests (call.open_file c)) (open_values (call.open_file c)) tt (sym c.kept ∙ e);
      check-7 = λ c e. outcome-never 7 (check_tests (call.check_file c) (call.check_round c)) (0 ∷ []) tt (sym c.kept ∙ e);
      search-7 = λ c e. fill-never 7 (round_tests (call.search_file c) (call.search_round c)) (search_bytes (call.search_file c) (call.search_round c)) (length (call.search_lent c)) tt (sym c.kept.0 ∙ e);
      row-7 = λ c e. fill-never 7 (record_tests (call.series_first c) (call.series_second c)) (series_bytes (call.series_first c) (call.series_second c)) (length (call.series_lent c)) tt (sym c.kept.0 ∙ e);
      side-7 = λ c e. fill-never 7 (record_tests (call.parallel_first c) (call.parallel_second c)) (parallel_bytes (call.parallel_first c) (call.parallel_second c)) (length (call.parallel_lent c)) tt (sym c.kept.0 ∙ e);
      fresh-7 = λ c e. outcome-never 7 (new_tests (call.new_size1 c) (call.new_size2 c) (length (call.new_lent c))) (0 ∷ []) tt (sym c.kept.0 ∙ e);
      add-7 = λ c e. outcome-never 7 (add_tests (call.add_record c) (call.add_lent c)) (0 ∷ []) tt (sym c.kept.0 ∙ e);
      remove-7 = λ c e. outcome-never 7 (remove_tests (call.remove_record c) (call.remove_lent c)) (0 ∷ []) tt (sym c.kept.0 ∙ e);
      score-7 = λ c e. outcome-never 7 (score_tests (call.score_tally c)) _ tt (sym c.kept ∙ e);
      ageing-7 = λ c e. outcome-never 7 ((14, ltb 30 (call.ageing_age c)) ∷ []) _ tt (sym c.kept ∙ e);
      weighing-7 = λ c e. outcome-never 7 (weights_tests (call.weights_nodes c) (call.weights_chance c) (length (call.weights_lent c))) (0 ∷ []) tt (sym c.kept.0 ∙ e);
      reliability-7 = λ c e. outcome-never 7 (rate_tests (call.rate_tally c) (call.rate_chance1 c) (call.rate_chance2 c)) _ tt (sym c.kept ∙ e);
      writer-7 = λ c e. fill-never 7 (given_tests (call.write_given c)) (study_bytes (call.write_given c)) (length (call.write_lent c)) tt (sym c.kept.0 ∙ e);
      converter-7 = λ c e. fill-never 7 (convert_tests (call.convert_file c)) (convert_bytes (call.convert_file c)) (length (call.convert_lent c)) tt (sym c.kept.0 ∙ e);
      report-7 = report-7;
      opening-kept = λ c h. let f = call.open_file c in answers (former_open_tests f) (open_values f) (call.open_result c) (c.kept ∙ file-kept f h [] (open_values f));
      check-kept = λ c h.
          let f = call.check_file c in
          let r = call.check_round c in
          answers (former_check_tests f r) (0 ∷ []) (call.check_result c) (c.kept ∙ check-same f h r (0 ∷ []));
      lookup-kept = λ c h n.
          let f = call.lookup_file c in
          let r = call.lookup_round c in
          demand1.lookup c (none-as (check_tests f r) (former_check_tests f r) (check-same f h r) n);
      lookup-bad-kept = λ c n h b.
          let f = call.lookup_file c in
          let r = call.lookup_round c in
          demand1.lookup-bad c n (first-as (check_tests f r) (former_check_tests f r) (check-same f h r) n b);
      search-kept = λ c h.
          let f = call.search_file c in
          let r = call.search_round c in
          let b = search_bytes f r in
          let room = length (call.search_lent c) in
          fills (former_round_tests f r) b (RoundRecord (study_of f) r) room (round-record-kept f h r) (λ n x w. record-one w (round-record-kept f h r n)) (call.search_result c)
          (c.kept.0 ∙ search-same f h r b room);
      writer-kept = λ c h.
          let g = call.write_given c in
          let room = length (call.write_lent c) in
          fills (former_given_tests g) (study_bytes g) (λ x. x ≡ study_bytes g) room (λ n. refl) (λ n x w. w) (call.write_result c) (c.kept.0 ∙ given-kept g h (study_bytes g) room);
      report-kept = report-kept;
    }

-- ---- the ring with ends that fail
abbrev file : List ℕ
file = study_bytes failing_ring

abbrev front : List ℕ
front = 3 ∷ 3 ∷ 1 ∷ 1 ∷ 3 ∷ []

found-bytes : search_bytes file 0 ≡ front
unfolding word_at
found-bytes = refl

found : Searched file 0 front
unfolding word_at
found = subst (Searched file 0) found-bytes (searched-by file 0 ten 5 refl)

-- where the round holds, by its record
told : (a b : ℕ) → a ≤ 3 → b ≤ 3 → T (record_holds front a b) ↔ RoundHolds (study_of file) 0 a b
told = demand3.holds (searched file 0) front 3 3 found (demand3.agree (searched file 0) front found).1

pub failing-ends : FailingEnds
unfolding word_at
failing-ends =
    record {
      wrote = wrote_by failing_ring file 65 refl;
      formerly = (first-is (former_open_tests file) [] 7).0 refl;
      found = found;
      holds = (told 0 2 (omega arith) (omega arith)).0 tt;
      source-failed = (told 1 0 (omega arith) (omega arith)).1;
      target-failed = (told 0 3 (omega arith) (omega arith)).1;
      kept = (refl, refl);
    }
