-- S-4, PIPES THAT FAIL: what arcs, members and places are, a round joined by working nodes and arcs, and the converter's studies.
use mathlib.Core.Path.{◌≡◌, refl, sym, ap, subst, ◌∙◌}
use mathlib.Core.Logic.{◌↔◌, ◌⊎◌, inl, inr, ⊎_elim}
use mathlib.Core.Bool.{Bool, true, false, not, cond}
use mathlib.Core.List.Memᴰ
use mathlib.Core.List.{List, [], ◌∷◌, ◌++◌, map}
use Prim.Native.Nat.{ℕ, zero, suc, ◌+◌, ◌%◌, ◌≤◌, ◌<◌}
use native.Mathlib.Omega.{arith}
use borrow.Author.Tests.{ltb-true, leb-false}
use lib.Dec.{T, eqb, eqb→eq, ltb, lt→ltb}
use lib.ListN.{length, get_or, take}
use lib.Seq.{get_or-append-add}
use Rattle.limits.specs.Limits.{arc_count, arc_size}
use Rattle.laws.specs.Members.{◌∈◌, here, there}
use Rattle.laws.specs.Tests.{T-or, T_not, T_true}
use Rattle.answer.specs.Outcome.{success, refused}
use Rattle.answer.proofs.Outcomes.{outcome-values}
use Rattle.answer.proofs.Fills.{fill-wrote}
use Rattle.front.specs.declared.Pair.{Pair}
use Rattle.record.specs.Record.{record_holds}
use Rattle.slices.specs.Bytes.{word_at}
use Rattle.orders.specs.Order.{count, members, members_from}
use Rattle.orders.proofs.Scans.{count-append}
use Rattle.parts.specs.Study.{Entry, Arc, Study, entry_class, ways, arcs_from, study_arcs, entries_from, study_elements, arc_element}
use Rattle.parts.specs.Tests.{bad_counts}
use Rattle.sections.specs.File.{trailer, arcs_of, study_of}
use Rattle.study.specs.Calls.{bad_number, bad_orders, opened_rounds, open_tests, open_values, round_tests}
use Rattle.writer.specs.Writer.{study_bytes, given_tests}
use Rattle.writer.specs.ReadBack.{given_values}
use Rattle.network.specs.Walk.{visits}
use Rattle.network.specs.Round.{round_at, element_works, RoundHolds}
use Rattle.search.specs.Search.{search_bytes}
use Rattle.convert.specs.Old.{old_search_bytes}
use Rattle.convert.specs.Convert.{converted, convert_tests, convert_bytes, convert_answer, convert_out}
use Rattle.convert.specs.Claims.{ConvertClaims}
use Rattle.convert.proofs.Converts.{converts}
use Rattle.split.proofs.Members.{member-names}
use Rattle.plan.specs.Plan.{searched}
use Rattle.plan.specs.Calls.{Searched}
use Rattle.plan.proofs.Told.{handed-part, search-wrote, search-passed}
use Rattle.samples.specs.Table.{ten, ring_file, old_ring_file}
use Rattle.kinds.specs.Kinds as call
use Rattle.demands.specs.Terms.{None, route_elements, PairOf, Wrote, Converted}
use Rattle.demands.specs.Requests.{AtMostNode, EntryAt, Forward, Back, WorkingChain, Request4, bridge, either, FailingPipe}
use Rattle.demands.proofs.Numbers.{none_is, none_in}
use Rattle.demands.proofs.Plenty.{searched-by, round-made, study-made, wrote_by, converted-by, old-made}
use Rattle.demands.proofs.One.{demand1}
use Rattle.demands.proofs.Two.{demand2, round-passes}
use Rattle.demands.proofs.Three.{demand3}

-- ---- the arcs of entries
abbrev no_entry : Entry
no_entry = record { from = 0; to = 0; kind = 0 }

abbrev Leads : Arc → Entry → Type 0
Leads k x = Forward k x ⊎ ((2 < x.kind) × Back k x)

same-arc : {k : Arc} {u v i : ℕ} → k.from ≡ u → k.to ≡ v → k.place ≡ i → k ≡ record { from = u; to = v; place = i }
same-arc a b c = λ j. record { from = a j; to = b j; place = c j }

ways-out : (i : ℕ) (x : Entry) (k : Arc) → k ∈ ways i x → (k.place ≡ i) × Leads k x
ways-out i x k m = ⊎_elim (λ e. (ap (λ (a : Arc). a.place) e, inl (ap (λ (a : Arc). a.from) e, ap (λ (a : Arc). a.to) e))) (go (ltb 2 x.kind) refl) (Memᴰ.cases_cons m)
  where
    go : (b : Bool) → ltb 2 x.kind ≡ b → k ∈ cond b (record { from = x.to; to = x.from; place = i } ∷ []) [] → (k.place ≡ i) × Leads k x
    go true q n =
        ⊎_elim (λ e. (ap (λ (a : Arc). a.place) e, inr (ltb-true 2 x.kind q, (ap (λ (a : Arc). a.from) e, ap (λ (a : Arc). a.to) e)))) (λ (z : k ∈ []). elim z [ ])
        (Memᴰ.cases_cons n)
    go false q n = elim n [ ]

ways-in : (i : ℕ) (x : Entry) (k : Arc) → k.place ≡ i → Leads k x → k ∈ ways i x
ways-in i x k e (inl f) = subst (λ (a : Arc). a ∈ ways i x) (sym (same-arc f.0 f.1 e)) here
ways-in i x k e (inr f) = go (ltb 2 x.kind) ((T_true (ltb 2 x.kind)).0 (lt→ltb 2 x.kind f.0))
  where
    go : (b : Bool) → b ≡ true → k ∈ record { from = x.from; to = x.to; place = i } ∷ cond b (record { from = x.to; to = x.from; place = i } ∷ []) []
    go b q = rw q (there (subst (λ (a : Arc). a ∈ record { from = x.to; to = x.from; place = i } ∷ []) (sym (same-arc f.1.0 f.1.1 e)) here))

arcs-out : (l : List Entry) (i : ℕ) (k : Arc) → k ∈ arcs_from i l → (j : ℕ) × (k.place ≡ i + j) × (j < length l) × Leads k (get_or l j no_entry)
arcs-out [] i k m = elim m [ ]
arcs-out (x ∷ l) i k m =
    ⊎_elim (λ q. let w = ways-out i x k q in (0, omega (arith, w.0), omega arith, w.1)) (λ q. let r = arcs-out l (suc i) k q in (suc r.0, omega (arith, r.1), omega (arith, r.2), r.3))
    (Memᴰ.append_cases (ways i x) m)

arcs-in : (l : List Entry) (i : ℕ) (k : Arc) (j : ℕ) → k.place ≡ i + j → j < length l → Leads k (get_or l j no_entry) → k ∈ arcs_from i l
arcs-in [] i k j e h w = absurd (omega arith)
arcs-in (x ∷ l) i k zero e h w = Memᴰ.append_left (arcs_from (suc i) l) (ways-in i x k (omega arith) w)
arcs-in (x ∷ l) i k (suc j) e h w = Memᴰ.append_right (ways i x) (arcs-in l (suc i) k j (omega arith) (omega arith) w)

arcs : (st : Study) (k : Arc) → (k ∈ study_arcs st) ↔ ((x : Entry) × EntryAt st k.place x × Leads k x)
arcs st k = (
  λ m.
      let r = arcs-out st.entries 0 k m in
      let e : r.0 ≡ k.place = omega (arith, r.1) in
      (get_or st.entries k.place no_entry, (omega (arith, r.2), refl), subst (λ j. Leads k (get_or st.entries j no_entry)) e r.3),
  λ h. arcs-in st.entries 0 k k.place (omega arith) h.1.0 (subst (Leads k) (sym h.1.1) h.2),
)

class-at : (l : List Entry) (i : ℕ) → i < length l → get_or (map entry_class l) i 0 ≡ entry_class (get_or l i no_entry)
class-at [] i h = absurd (omega arith)
class-at (x ∷ l) zero h = refl
class-at (x ∷ l) (suc i) h = class-at l i (omega arith)

-- ---- the members of two lists of classes
members-append : (c i : ℕ) (l m : List ℕ) → members_from c i (l ++ m) ≡ members_from c i l ++ members_from c (i + length l) m
members-append c i [] m = let e : i ≡ i + 0 = omega arith in ap (λ j. members_from c j m) e
members-append c i (x ∷ l) m =
    let e : suc i + length l ≡ i + suc (length l) = omega arith in
    go (eqb x c) (members-append c (suc i) l m ∙ ap (λ j. members_from c (suc i) l ++ members_from c j m) e)
  where
    go : (b : Bool) → members_from c (suc i) (l ++ m) ≡ members_from c (suc i) l ++ members_from c (i + suc (length l)) m
        → cond b (i ∷ members_from c (suc i) (l ++ m)) (members_from c (suc i) (l ++ m))
        ≡ cond b (i ∷ members_from c (suc i) l) (members_from c (suc i) l) ++ members_from c (i + suc (length l)) m
    go true rest = ap (λ r. i ∷ r) rest
    go false rest = rest

-- ---- a round joined
joined : (st : Study) (r a b : ℕ) → RoundHolds st r a b ↔ ((ks : List Arc) × WorkingChain st r a b ks)
joined st r a b = (
  λ h. (h.0, record { walk = h.1; work = λ e m. either-sort h e (Memᴰ.append_cases (visits st.source h.0) m) }),
  λ h. (
    h.0,
    h.1.walk,
    (λ v m. h.1.work v (Memᴰ.append_left (map (arc_element st) h.0) m)),
    λ k m. h.1.work (arc_element st k) (Memᴰ.append_right (visits st.source h.0) (Memᴰ.map (arc_element st) m)),
  ),
)
  where
    either-sort : (h : RoundHolds st r a b) (e : ℕ) → (e ∈ visits st.source h.0) ⊎ (e ∈ map (arc_element st) h.0) → T (element_works (study_elements st) (round_at st r) a b e)
    either-sort h e (inl m) = h.2 e m
    either-sort h e (inr m) =
        let q = Memᴰ.of_map (arc_element st) h.0 m in
        subst (λ x. T (element_works (study_elements st) (round_at st r) a b x)) q.2 (h.3 q.0 q.1)

counted : (st : Study) (r : ℕ) (ks : List Arc) (p : Pair) → PairOf st r ks p → (k : Arc) → k ∈ ks → AtMostNode st r p (arc_element st k)
counted st r ks p h k m =
    let i : arc_element st k ∈ route_elements st ks = Memᴰ.append_right (visits st.source ks) (Memᴰ.map (arc_element st) m) in
    (h.0.under (arc_element st k) i, h.1.under (arc_element st k) i)

-- ---- arc bytes that are no multiple of three
writer-2 : (c : call.WriteCall) → (length (call.write_given c).arcs % 3 ≡ 0 → ⊥) → call.write_result c ≡ refused 2
writer-2 c h =
    let g = call.write_given c in
    let odd = eqb (length g.arcs % arc_size) 0 in
    ((demand1.writer c).number 2).1
    (inl (inl ((T-or (bad_counts (length g.nodes) (arc_count g.arcs) g.total) (not odd)).1 (inr ((T_not odd).1 (λ t. h (eqb→eq (length g.arcs % arc_size) 0 t)))), refl)))

-- ---- a converted study
module _ (old f : List ℕ) (w : Converted old f) where
  answer : convert_answer old (length (call.convert_lent w.made)) ≡ success (w.handed.size ∷ [])
  answer = rw (← w.old-is) (sym w.made.kept.0 ∙ w.handed.success-is)

  file-is : f ≡ convert_bytes old
  file-is =
      let s = call.convert_lent w.made in
      let l : call.convert_left w.made ≡ convert_out old s = rw (← w.old-is) w.made.kept.1 in
      handed-part w.handed ∙ ap (take w.handed.size) l ∙ fill-wrote (convert_tests old) (convert_bytes old) s w.handed.size answer

  told : ConvertClaims old
  told = converts old (call.convert_lent w.made) (w.handed.size ∷ []) answer

  written_as : (f ≡ study_bytes (converted old)) × Wrote (converted old) f
  written_as = (file-is, subst (Wrote (converted old)) (sym file-is) (study-made (converted old) (none_in (given_tests (converted old)) told.writable)))

  rounds-are : (trailer (convert_bytes old)).rounds ≡ (trailer old).rounds
  rounds-are = ap opened_rounds (outcome-values (open_tests (convert_bytes old)) (open_values (convert_bytes old)) (given_values (converted old)) told.reads-back.opens)

  passes : (r : ℕ) → r < (trailer old).rounds → None (round_tests f r)
  passes r h = round-passes (converted old) f written_as.1 r h

  fronts : (r : ℕ) (x : List ℕ) → Searched f r x → x ≡ old_search_bytes old r
  fronts r x s =
      let h : r < (trailer f).rounds = leb-false (trailer f).rounds r (search-passed f r x s (10, bad_number f r) (Memᴰ.append_left ((11, bad_orders f r) ∷ []) (Memᴰ.append_right (open_tests f) (here {l = []})))) in
      let e : (trailer f).rounds ≡ (trailer old).rounds = ap (λ i. (trailer i).rounds) file-is ∙ rounds-are in
      search-wrote f r x s ∙ ap (λ i. search_bytes i r) file-is ∙ told.fronts r (omega arith)

-- THE THEOREM
pub request4 : Request4
request4 =
    record {
      arcs = arcs;
      classes = λ st k x h. get_or-append-add st.classes (map entry_class st.entries) k.place 0 ∙ class-at st.entries k.place h.0 ∙ ap entry_class h.1;
      once = λ st k l e. ap (λ i. length st.classes + i) e;
      members-are = λ st c.
          let kinds = map entry_class st.entries in
          let e : 0 + length st.classes ≡ length st.classes = omega arith in
          members-append c 0 st.classes kinds ∙ ap (λ i. members c st.classes ++ members_from c i kinds) e;
      named = λ st c m h.
          let n = member-names c (study_elements st) m h in
          (n.class, ap (λ k. count k (take (get_or (members c (study_elements st)) m 0) (study_elements st))) n.class ∙ n.place);
      sizes = λ st. (count-append 1 st.classes (map entry_class st.entries), count-append 2 st.classes (map entry_class st.entries));
      tests = λ f. refl;
      writer-2 = writer-2;
      joined = λ f r x s a b h k.
          let d = demand2.removal f r x s a b h k in
          let j = joined (study_of f) r a b in
          (λ t. j.0 (d.0 t), λ c. d.1 (j.1 c));
      counted = counted;
      converts = old-made;
      written_as = written_as;
      kinds-0 = λ old f w x m. (told old f w).kinds x (subst (λ i. x ∈ entries_from (arcs_of i)) (file-is old f w) m);
      searches-all = λ old f w r h. (search_bytes f r, round-made f r (passes old f w r h));
      fronts = fronts;
    }

-- ---- the bridge
abbrev file : List ℕ
file = study_bytes bridge

abbrev front : List ℕ
front = 1 ∷ 2 ∷ 2 ∷ 2 ∷ 2 ∷ 1 ∷ 3 ∷ []

found-bytes : search_bytes file 0 ≡ front
unfolding word_at
found-bytes = refl

found : Searched file 0 front
unfolding word_at
found = subst (Searched file 0) found-bytes (searched-by file 0 ten 7 refl)

-- where the round holds, by its record
holds-told : (a b : ℕ) → a ≤ 1 → b ≤ 2 → T (record_holds front a b) ↔ RoundHolds (study_of file) 0 a b
holds-told = demand3.holds (searched file 0) front 1 2 found (demand3.agree (searched file 0) front found).1

old-ring : convert_bytes old_ring_file ≡ ring_file
unfolding word_at
old-ring = refl

new-either : search_bytes either 0 ≡ 1 ∷ 0 ∷ 1 ∷ 1 ∷ 1 ∷ []
unfolding word_at
new-either = refl

pub failing-pipe : FailingPipe
unfolding word_at
failing-pipe =
    record {
      wrote = wrote_by bridge file 54 refl;
      found = found;
      used-back = (holds-told 0 2 (omega arith) (omega arith)).0 tt;
      failed = (holds-told 1 2 (omega arith) (omega arith)).1;
      ring = subst (Converted old_ring_file) old-ring (converted-by old_ring_file ring_file 63 refl);
      as-old = (((none_is (convert_tests either) [] []).0 refl).0, refl);
      as-new = subst (Searched either 0) new-either (searched-by either 0 ten 5 refl);
    }
