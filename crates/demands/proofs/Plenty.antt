-- Calls that succeed wherever the definitions say so, and from them every plan and every list of rounds that can be built.
use mathlib.Core.Path.{◌≡◌, refl, sym, ap, ap₂, subst, ◌∙◌}
use mathlib.Core.Bool.{Bool, false, ◌&&◌, ◌||◌}
use mathlib.Core.List.Memᴰ
use mathlib.Core.List.{List, [], ◌∷◌}
use Prim.Native.Nat.{ℕ, ◌≤◌}
use native.Mathlib.Omega.{arith}
use borrow.Author.Tests.{le-ltb}
use lib.Dec.{T, ltb, eqb, eqb_refl}
use lib.ListN.{length, take, replicate, length-replicate}
use Rattle.limits.specs.Limits.{max_rounds, max_class}
use Rattle.laws.specs.Members.{◌∈◌, here, there}
use Rattle.laws.specs.Tests.{T_and, T_not}
use Rattle.answer.specs.Outcome.{Outcome, success, outcome, fill_tests, fill_answer, fill_out}
use Rattle.answer.proofs.Fills.{fill-wrote}
use Rattle.record.specs.Record.{record_size1, record_size2, is_record}
use Rattle.compose.specs.Compose.{series_bytes, parallel_bytes, same_sizes, record_tests, series_answer, series_out, parallel_answer, parallel_out}
use Rattle.sections.specs.File.{study_of}
use Rattle.network.specs.Round.{study_size1, study_size2}
use Rattle.study.specs.Calls.{round_tests}
use Rattle.search.specs.Search.{search_bytes, search_answer, search_out}
use Rattle.soundness.specs.Tally.{words}
use Rattle.tally.specs.Calls.{new_answer, new_out, add_answer, add_out, remove_out}
use Rattle.tally.specs.Steps.{Fits}
use Rattle.tally.proofs.Runs.{add-succeeds}
use Rattle.reliability.specs.Calls.{rate_answer}
use Rattle.writer.specs.Writer.{Given, study_bytes, given_tests, write_answer, write_out}
use Rattle.convert.specs.Convert.{convert_tests, convert_bytes, convert_answer, convert_out}
use Rattle.plan.specs.Plan.{Plan, searched, series, parallel, PlanSized}
use Rattle.plan.specs.Calls.{Through, none, Handed, Searched, RowJoined, SideJoined, Built}
use Rattle.plan.proofs.Plans.{sound, one_size}
use Rattle.survival.specs.Calls.{Begun, Adding, Added, Tallied, Removing, AllSearched, Rating}
use Rattle.survival.proofs.Tallies.{run, as_many}
use Rattle.kinds.specs.Kinds as call
use Rattle.demands.specs.Terms.{None, PlanPasses, Wrote, Converted}
use Rattle.demands.proofs.Numbers.{none_is, none-append, fits}
use Rattle.demands.proofs.Made.{search-made, row_made, side-made, fresh-made, add-made, remove-made, reliability-made, writer-made, converter-made}

-- what a successful call filled, handed on at once
at_once : (ts : List (ℕ × Bool)) (bytes s left : List ℕ) (n : ℕ) (a : Outcome) → a ≡ fill_answer ts bytes (length s) → left ≡ fill_out ts bytes s → fill_answer ts bytes (length s) ≡ success (n ∷ []) → Handed a left bytes
at_once ts bytes s left n a e l o = record { size = n; success-is = e ∙ o; slice = left; through = none; part-is = sym (ap (take n) l ∙ fill-wrote ts bytes s n o) }

pub searched-by : (f : List ℕ) (r : ℕ) (s : List ℕ) (n : ℕ) → search_answer f r (length s) ≡ success (n ∷ []) → Searched f r (search_bytes f r)
searched-by f r s n o =
    let m = search-made f r s in
    let c = m.0 in
    let a : call.search_result c ≡ search_answer f r (length s) = c.kept.0 ∙ ap₂ (λ (g : List ℕ) (q : ℕ). search_answer g q (length (call.search_lent c))) m.1 m.2 ∙ ap (λ (i : List ℕ). search_answer f r (length i)) m.3 in
    let l : call.search_left c ≡ search_out f r s = c.kept.1 ∙ ap₂ (λ (g : List ℕ) (q : ℕ). search_out g q (call.search_lent c)) m.1 m.2 ∙ ap (search_out f r) m.3 in
    record {
      made = c;
      file-is = m.1;
      round_is = m.2;
      handed = at_once (round_tests f r) (search_bytes f r) s (call.search_left c) n (call.search_result c) a l o;
    }

pub row_by : (y z s : List ℕ) (n : ℕ) → series_answer y z (length s) ≡ success (n ∷ []) → RowJoined y z (series_bytes y z)
row_by y z s n o =
    let m = row_made y z s in
    let c = m.0 in
    let a : call.series_result c ≡ series_answer y z (length s) = c.kept.0 ∙ ap₂ (λ (g : List ℕ) (q : List ℕ). series_answer g q (length (call.series_lent c))) m.1 m.2 ∙ ap (λ (i : List ℕ). series_answer y z (length i)) m.3 in
    let l : call.series_left c ≡ series_out y z s = c.kept.1 ∙ ap₂ (λ (g : List ℕ) (q : List ℕ). series_out g q (call.series_lent c)) m.1 m.2 ∙ ap (series_out y z) m.3 in
    record {
      made = c;
      first-is = m.1;
      second_is = m.2;
      handed = at_once (record_tests y z) (series_bytes y z) s (call.series_left c) n (call.series_result c) a l o;
    }

pub side-by : (y z s : List ℕ) (n : ℕ) → parallel_answer y z (length s) ≡ success (n ∷ []) → SideJoined y z (parallel_bytes y z)
side-by y z s n o =
    let m = side-made y z s in
    let c = m.0 in
    let a : call.parallel_result c ≡ parallel_answer y z (length s) = c.kept.0 ∙ ap₂ (λ (g : List ℕ) (q : List ℕ). parallel_answer g q (length (call.parallel_lent c))) m.1 m.2 ∙ ap (λ (i : List ℕ). parallel_answer y z (length i)) m.3 in
    let l : call.parallel_left c ≡ parallel_out y z s = c.kept.1 ∙ ap₂ (λ (g : List ℕ) (q : List ℕ). parallel_out g q (call.parallel_lent c)) m.1 m.2 ∙ ap (parallel_out y z) m.3 in
    record {
      made = c;
      first-is = m.1;
      second_is = m.2;
      handed = at_once (record_tests y z) (parallel_bytes y z) s (call.parallel_left c) n (call.parallel_result c) a l o;
    }

pub wrote_by : (g : Given) (s : List ℕ) (n : ℕ) → write_answer g (length s) ≡ success (n ∷ []) → Wrote g (study_bytes g)
wrote_by g s n o =
    let m = writer-made g s in
    let c = m.0 in
    let a : call.write_result c ≡ write_answer g (length s) = c.kept.0 ∙ ap₂ (λ (h : Given) i. write_answer h (length i)) m.1 m.2 in
    let l : call.write_left c ≡ write_out g s = c.kept.1 ∙ ap₂ write_out m.1 m.2 in
    record { made = c; given_is = m.1; handed = at_once (given_tests g) (study_bytes g) s (call.write_left c) n (call.write_result c) a l o }

pub converted-by : (f s : List ℕ) (n : ℕ) → convert_answer f (length s) ≡ success (n ∷ []) → Converted f (convert_bytes f)
converted-by f s n o =
    let m = converter-made f s in
    let c = m.0 in
    let a : call.convert_result c ≡ convert_answer f (length s) = rw (m.1, m.2) at c.kept.0 in
    let l : call.convert_left c ≡ convert_out f s = rw (m.1, m.2) at c.kept.1 in
    record { made = c; old-is = m.1; handed = at_once (convert_tests f) (convert_bytes f) s (call.convert_left c) n (call.convert_result c) a l o }

pub begun-by : (n1 n2 : ℕ) (s : List ℕ) → new_answer n1 n2 (length s) ≡ success (0 ∷ []) → Begun n1 n2 (new_out n1 n2 s)
begun-by n1 n2 s o =
    let m = fresh-made n1 n2 s in
    let c = m.0 in
    let a : call.new_result c ≡ new_answer n1 n2 (length s) = rw (m.1, m.2, m.3) at c.kept.0 in
    let l : call.new_left c ≡ new_out n1 n2 s = rw (m.1, m.2, m.3) at c.kept.1 in
    record { made = c; size1-is = m.1; size2-is = m.2; success-is = a ∙ o; through = subst (Through (call.new_left c)) l none }

pub adding-by : (x t : List ℕ) → Adding x t (add_out x t)
adding-by x t =
    let m = add-made x t in
    let c = m.0 in
    let l : call.add_left c ≡ add_out x t = rw (m.1, m.2) at c.kept.1 in
    record { made = c; record_is = m.1; tally-is = m.2; through = subst (Through (call.add_left c)) l none }

pub added-by : (x t : List ℕ) → add_answer x t ≡ success (0 ∷ []) → Added x t (add_out x t)
added-by x t o =
    let m = adding-by x t in
    let c = m.made in
    let a : call.add_result c ≡ add_answer x t = rw (m.record_is, m.tally-is) at c.kept.0 in
    record { called = m; success-is = a ∙ o }

pub removing-by : (x t : List ℕ) → Removing x t (remove_out x t)
removing-by x t =
    let m = remove-made x t in
    let c = m.0 in
    let l : call.remove_left c ≡ remove_out x t = rw (m.1, m.2) at c.kept.1 in
    record { made = c; record_is = m.1; tally-is = m.2; through = subst (Through (call.remove_left c)) l none }

pub rating-by : (t : List ℕ) (p1 p2 s m r : ℕ) → rate_answer t p1 p2 ≡ success (s ∷ m ∷ r ∷ []) → Rating t p1 p2 s m r
rating-by t p1 p2 s m r o =
    let k = reliability-made t p1 p2 in
    let c = k.0 in
    let a : call.rate_result c ≡ rate_answer t p1 p2 = rw (k.1, k.2, k.3) at c.kept in
    record { made = c; tally-is = k.1; chance1-is = k.2; chance2-is = k.3; success-is = a ∙ o }

-- ---- a slice just long enough
just-fits : (ts : List (ℕ × Bool)) (b : List ℕ) → None ts → fill_answer ts b (length b) ≡ success (length b ∷ [])
just-fits ts b n = (none_is (fill_tests ts b (length b)) (length b ∷ []) (length b ∷ [])).1 ((none-append ts ((15, ltb (length b) (length b)) ∷ [])).1 (n, ((fits (length b) (length b)).1 (omega arith), tt)), refl)

pub round-made : (f : List ℕ) (r : ℕ) → None (round_tests f r) → Searched f r (search_bytes f r)
round-made f r n = let b = search_bytes f r in searched-by f r b (length b) (just-fits (round_tests f r) b n)

pub study-made : (g : Given) → None (given_tests g) → Wrote g (study_bytes g)
study-made g n = let b = study_bytes g in wrote_by g b (length b) (just-fits (given_tests g) b n)

pub old-made : (f : List ℕ) → None (convert_tests f) → Converted f (convert_bytes f)
old-made f n = let b = convert_bytes f in converted-by f b (length b) (just-fits (convert_tests f) b n)

-- ---- plans
-- records of plans of the same sizes pass tests 12 and 13
joinable : (p q : Plan) (n1 n2 : ℕ) (x y : List ℕ) → PlanSized p n1 n2 → PlanSized q n1 n2 → Built p x → Built q y → None (record_tests x y)
joinable p q n1 n2 x y sp sq bp bq =
    let i = one_size p (record_size1 x) (record_size2 x) n1 n2 (sound p x bp).sized sp in
    let j = one_size q (record_size1 y) (record_size2 y) n1 n2 (sound q y bq).sized sq in
    let e1 = subst (λ m. T (eqb (record_size1 x) m)) (i.0 ∙ sym j.0) (eqb_refl (record_size1 x)) in
    let e2 = subst (λ m. T (eqb (record_size2 x) m)) (i.1 ∙ sym j.1) (eqb_refl (record_size2 x)) in (
      (λ t. (T_not (is_record x && is_record y)).0 t ((T_and (is_record x) (is_record y)).1 ((sound p x bp).is, (sound q y bq).is))),
      ((λ t. (T_not (same_sizes x y)).0 t ((T_and (eqb (record_size1 x) (record_size1 y)) (eqb (record_size2 x) (record_size2 y))).1 (e1, e2))), tt),
    )

pub plan-made : (p : Plan) (n1 n2 : ℕ) → PlanSized p n1 n2 → PlanPasses p → (x : List ℕ) × Built p x
plan-made (searched f r) n1 n2 s h = (search_bytes f r, round-made f r h)
plan-made (series p q) n1 n2 s h =
    let i = plan-made p n1 n2 s.0 h.0 in
    let j = plan-made q n1 n2 s.1 h.1 in
    let b = series_bytes i.0 j.0 in
    (b, (i.0, j.0, i.1, j.1, row_by i.0 j.0 b (length b) (just-fits (record_tests i.0 j.0) b (joinable p q n1 n2 i.0 j.0 s.0 s.1 i.1 j.1))))
plan-made (parallel p q) n1 n2 s h =
    let i = plan-made p n1 n2 s.0 h.0 in
    let j = plan-made q n1 n2 s.1 h.1 in
    let b = parallel_bytes i.0 j.0 in
    (b, (i.0, j.0, i.1, j.1, side-by i.0 j.0 b (length b) (just-fits (record_tests i.0 j.0) b (joinable p q n1 n2 i.0 j.0 s.0 s.1 i.1 j.1))))

-- ---- tallies
abbrev pub blank : ℕ → ℕ → List ℕ
blank n1 n2 = replicate (words n1 n2) 0

pub new-answer : (n1 n2 : ℕ) → n1 ≤ max_class → n2 ≤ max_class → new_answer n1 n2 (length (blank n1 n2)) ≡ success (0 ∷ [])
new-answer n1 n2 h k =
    go (ltb max_class n1) (ltb max_class n2) (ltb (length (blank n1 n2)) (words n1 n2)) (le-ltb max_class n1 h) (le-ltb max_class n2 k)
    (le-ltb (length (blank n1 n2)) (words n1 n2) (omega (arith, length-replicate {A = ℕ} (words n1 n2) 0)))
  where
    go : (a b c : Bool) → a ≡ false → b ≡ false → c ≡ false → outcome ((6, a || b) ∷ (21, c) ∷ []) (0 ∷ []) ≡ success (0 ∷ [])
    go a b c ha hb hc = rw (ha, hb, hc)

-- of records that fit, up to the largest M
pub adds-made : (n1 n2 : ℕ) (xs : List (List ℕ)) → n1 ≤ max_class → n2 ≤ max_class → length xs ≤ max_rounds → ((x : List ℕ) → x ∈ xs → Fits n1 n2 x) → (t : List ℕ) × Tallied n1 n2 xs t
adds-made n1 n2 [] a b c h = (new_out n1 n2 (blank n1 n2), begun-by n1 n2 (blank n1 n2) (new-answer n1 n2 a b))
adds-made n1 n2 (x ∷ xs) a b c h =
    let k = adds-made n1 n2 xs a b (omega arith) (λ y m. h y (there m)) in
    (add_out x k.0, (k.0, k.1, added-by x k.0 (add-succeeds (run n1 n2 xs k.0 k.1).tallies x (h x here) (omega arith))))

abbrev Good : ℕ → ℕ → List ℕ × ℕ → Type 0
Good n1 n2 q = None (round_tests q.0 q.1) × (study_size1 (study_of q.0) ≡ n1) × (study_size2 (study_of q.0) ≡ n2)

-- of rounds: their records fit
rounds-made : (n1 n2 : ℕ) (qs : List (List ℕ × ℕ)) → ((q : List ℕ × ℕ) → q ∈ qs → Good n1 n2 q) → (xs : List (List ℕ)) × AllSearched qs xs × ((x : List ℕ) → x ∈ xs → Fits n1 n2 x)
rounds-made n1 n2 [] h = ([], tt, λ x m. elim m [ ])
rounds-made n1 n2 (q ∷ qs) h =
    let k = rounds-made n1 n2 qs (λ i m. h i (there m)) in
    let g = h q here in
    let x = search_bytes q.0 q.1 in
    let s : Searched q.0 q.1 x = round-made q.0 q.1 g.0 in
    (x ∷ k.0, (s, k.1), each x k.0 ((sound (searched q.0 q.1) x s).is, g.1, g.2) k.2)
  where
    each : (x : List ℕ) (xs : List (List ℕ)) → Fits n1 n2 x → ((y : List ℕ) → y ∈ xs → Fits n1 n2 y) → (y : List ℕ) → y ∈ x ∷ xs → Fits n1 n2 y
    each x xs f g y (Memᴰ.head e) = rw e f
    each x xs f g y (Memᴰ.tail m) = g y m

pub tally-made : (n1 n2 : ℕ) (qs : List (List ℕ × ℕ)) → n1 ≤ max_class → n2 ≤ max_class → length qs ≤ max_rounds → ((q : List ℕ × ℕ) → q ∈ qs → Good n1 n2 q)
    → (xs : List (List ℕ)) × (t : List ℕ) × Tallied n1 n2 xs t × AllSearched qs xs
tally-made n1 n2 qs a b c h =
    let k = rounds-made n1 n2 qs h in
    let w = adds-made n1 n2 k.0 a b (omega (arith, as_many qs k.0 k.1)) k.2 in
    (k.0, w.0, w.1, k.1)
