-- WHAT IS CONVERTED: an old file that passes the converter's tests gives a study that the writer would write, with the old fronts.
use mathlib.Core.Path.{◌≡◌, refl, sym, ap, ap₂, ◌∙◌, subst}
use mathlib.Core.Logic.{⊎_elim}
use mathlib.Core.Bool.{Bool, false, not, ◌||◌}
use mathlib.Core.List.Memᴰ
use mathlib.Core.List.{List, [], ◌∷◌, ◌++◌, map}
use Prim.Native.Nat.{ℕ, zero, suc, ◌+◌, ◌-◌, ◌*◌, ◌/◌, ◌%◌, ◌≤◌, ◌<◌}
use native.Mathlib.Nat.{suc-mul}
use native.Mathlib.Omega.{arith}
use borrow.Author.Tests.{ltb-false, eq-eqb, not-false}
use lib.Dec.{T}
use lib.ListN.{length, get_or, take, drop, length-take, length-drop, length-map, take-append-drop, get_or-map, get_or-eq_default}
use Rattle.limits.specs.Limits.{arc_size}
use Rattle.laws.specs.Members.{◌∈◌, here, there, all, all_are, at_in, in-length}
use Rattle.laws.specs.Tests.{T_true, T_and, order}
use Rattle.answer.proofs.Fills.{fill-tests}
use Rattle.answer.proofs.Outcomes.{outcome-tests, outcome-first, outcome-success}
use Rattle.answer.specs.Outcome.{success, outcome}
use Rattle.record.specs.Record.{record_bytes}
use Rattle.orders.specs.Order.{count, place_in_class, order1, order2, is_round, is_order_of}
use Rattle.parts.proofs.Limits.{pieces-length}
use Rattle.parts.specs.Study.{Study, study_arcs, pieces, round_size}
use Rattle.parts.specs.Tests.{bad_counts, bad_ends, bad_classes, bad_arcs, bad_sizes}
use Rattle.sections.specs.File.{trailer_at, trailer, nodes_of}
use Rattle.sections.specs.declared.Trailer.{Trailer}
use Rattle.study.proofs.Trailers.{Fits}
use Rattle.writer.proofs.Answers.{bytes-length}
use Rattle.writer.proofs.Reading.{reads-back}
use Rattle.writer.specs.ReadBack.{ReadsBack}
use Rattle.writer.specs.Writer.{Given, bad_given, bad_round_bytes, bad_given_orders, given_tests}
use Rattle.network.specs.Walk.{route_pairs}
use Rattle.network.specs.Round.{network_in, study_size1, study_size2, round_front}
use Rattle.front.specs.Front.{front}
use Rattle.search.specs.Search.{search_bytes}
use Rattle.convert.specs.Old.{old_arc_size, old_arcs, old_rounds, old_study_of, old_bad_arcs, old_bad_rounds, old_is_round, old_round_front, old_search_bytes}
use Rattle.convert.specs.Convert.{with_kinds, by_places, converted, bad_old_orders, convert_tests, convert_bytes, convert_answer}
use Rattle.convert.specs.Claims.{ConvertClaims}
use Rattle.convert.specs.Steps.{NodesBelow}
use Rattle.convert.proofs.Entries.{new_entries, new_classes, arcs-same, kinds-are, kinds-length, arcs-as-bad, kinds-good, sizes-same}
use Rattle.convert.proofs.Orders.{listed}
use Rattle.convert.proofs.Fronts.{take-map, drop-map, round-good, front_same}
use Rattle.convert.proofs.Stages.{first_tests, next_tests, first_fits, nodes-length}

-- ---- pieces
pieces-map : (f : ℕ → ℕ) (m n : ℕ) (b : List ℕ) → pieces m n (map f b) ≡ map (map f) (pieces m n b)
pieces-map f zero n b = refl
pieces-map f (suc m) n b = ap₂ ◌∷◌ (take-map f n b) (ap (pieces m n) (drop-map f n b) ∙ pieces-map f m n (drop n b))

-- a byte stands in a piece
in-piece : (m n : ℕ) (b : List ℕ) (v : ℕ) → length b ≤ m * n → v ∈ b → (p : List ℕ) × (p ∈ pieces m n b) × (v ∈ p)
in-piece zero n b v h i = absurd (omega (arith, in-length i))
in-piece (suc m) n b v h i =
    ⊎_elim (λ k. (take n b, here, k)) (λ k. let r = in-piece m n (drop n b) v (omega (arith, suc-mul m n, length-drop n b)) k in (r.0, there r.1, r.2))
    (Memᴰ.append_cases (take n b) (subst (λ l. v ∈ l) (sym (take-append-drop n b)) i))

module _ (f : List ℕ) (e : outcome (convert_tests f) (0 ∷ []) ≡ success (0 ∷ [])) where
  abbrev h : Trailer
  h = trailer f

  abbrev nodes : List ℕ
  nodes = nodes_of f

  abbrev arcs : List ℕ
  arcs = old_arcs f

  abbrev rounds : List ℕ
  rounds = old_rounds f

  abbrev size : ℕ
  size = round_size nodes

  abbrev g : Given
  g = converted f

  -- ---- what the tests leave
  tests : (u : ℕ × Bool) → u ∈ convert_tests f → u.1 ≡ false
  tests = outcome-tests (convert_tests f) (0 ∷ []) e

  first : outcome (first_tests f) (0 ∷ []) ≡ success (0 ∷ [])
  first = outcome-first (first_tests f) (next_tests f ++ (9, old_bad_rounds f) ∷ (11, bad_old_orders f) ∷ []) (0 ∷ []) (0 ∷ []) e

  pub fits : Fits old_arc_size (length f) h
  fits = first_fits f first

  pub nodes-long : length nodes ≡ h.nodes
  nodes-long = nodes-length f first

  pub arcs-long : length arcs ≡ old_arc_size * h.arcs
  arcs-long =
      let at = trailer_at f - h.da in
      omega (arith, length-take (old_arc_size * h.arcs) (drop at f), length-drop at f, fits.long, fits.da-dn, fits.dn-at, fits.arcs-room)

  pub rounds-long : length rounds ≡ h.rounds * size
  rounds-long =
      let at = trailer_at f - h.dm in
      let n = h.rounds * size in
      let enough = ltb-false h.dm n (tests (9, old_bad_rounds f) (there (there (there (there (there (there (there here)))))))) in
      omega (arith, length-take n (drop at f), length-drop at f, fits.long, fits.dm-da, fits.da-dn, fits.dn-at, enough)

  rounds-good : T (all (old_is_round nodes) (pieces h.rounds size rounds))
  rounds-good =
      let t = all (old_is_round nodes) (pieces h.rounds size rounds) in
      (T_true t).1 (not-false t (tests (11, bad_old_orders f) (there (there (there (there (there (there (there (there here))))))))))

  round-old : (p : List ℕ) → p ∈ pieces h.rounds size rounds → T (old_is_round nodes p)
  round-old = (all_are (old_is_round nodes) (pieces h.rounds size rounds)).0 rounds-good

  -- a round names nodes
  pub rounds-below : NodesBelow (length nodes) rounds
  rounds-below v i =
      let r = in-piece h.rounds size rounds v (omega (arith, rounds-long)) i in
      let p = r.0 in
      let both = (T_and (is_order_of 1 nodes (order1 nodes p)) (is_order_of 2 nodes (order2 nodes p))).0 (round-old p r.1) in
      ⊎_elim (λ k. (listed 0 nodes (order1 nodes p) both.0 v k).0) (λ k. (listed 1 nodes (order2 nodes p) both.1 v k).0)
      (Memᴰ.append_cases (order1 nodes p) (subst (λ l. v ∈ l) (sym (take-append-drop (count 1 nodes) p)) r.2))

  -- ---- what is written
  pub entries-long : length (with_kinds arcs) ≡ arc_size * h.arcs
  entries-long = omega (arith, kinds-length arcs, arcs-long)

  pub places-long : length (by_places nodes rounds) ≡ h.rounds * size
  places-long = length-map rounds (place_in_class nodes) ∙ rounds-long

  size_same : round_size (new_classes nodes arcs) ≡ size
  size_same = ap₂ ◌+◌ (sizes-same nodes arcs 0) (sizes-same nodes arcs 1)

  two : bad_given g ≡ false
  two =
      let n : length (with_kinds arcs) / arc_size ≡ h.arcs = omega (arith, entries-long) in
      ap₂ ◌||◌ (ap₂ (λ x y. bad_counts x y h.rounds) nodes-long n ∙ tests (2, bad_counts h.nodes h.arcs h.rounds) (there here))
      (ap not (eq-eqb (length (with_kinds arcs) % arc_size) 0 (omega (arith, entries-long))))

  three : bad_ends (length nodes) h.source h.target ≡ false
  three = ap (λ n. bad_ends n h.source h.target) nodes-long ∙ tests (3, bad_ends h.nodes h.source h.target) (there (there here))

  five : bad_classes nodes ≡ false
  five = tests (5, bad_classes nodes) (there (there (there (there here))))

  eight : bad_arcs (length nodes) (new_entries arcs) ≡ false
  eight = ap (λ n. bad_arcs n (new_entries arcs)) nodes-long ∙ arcs-as-bad h.nodes arcs ∙ tests (8, old_bad_arcs h.nodes arcs) (there (there (there (there (there (there here))))))

  six : bad_sizes (new_classes nodes arcs) ≡ false
  six = rw (sizes-same nodes arcs 0, sizes-same nodes arcs 1) (tests (6, bad_sizes nodes) (there (there (there (there (there here))))))

  nine : bad_round_bytes g ≡ false
  nine =
      ap not (eq-eqb (length (by_places nodes rounds)) (h.rounds * round_size (new_classes nodes arcs)) (places-long ∙ ap (λ n. h.rounds * n) (sym size_same)))

  -- the rounds, each by places
  abbrev new_rounds : List (List ℕ)
  new_rounds = pieces h.rounds (round_size (new_classes nodes arcs)) (by_places nodes rounds)

  rounds-are : new_rounds ≡ map (by_places nodes) (pieces h.rounds size rounds)
  rounds-are = ap (λ n. pieces h.rounds n (by_places nodes rounds)) size_same ∙ pieces-map (place_in_class nodes) h.rounds size rounds

  eleven : bad_given_orders g ≡ false
  eleven =
      let good = is_round (new_classes nodes arcs) in
      let old = pieces h.rounds size rounds in
      ap (λ l. not (all good l)) rounds-are
      ∙ ap not ((T_true (all good (map (by_places nodes) old))).0 ((all_are good (map (by_places nodes) old)).1
      (λ x m. let r = Memᴰ.of_map (by_places nodes) old m in subst (λ y. T (good y)) r.2 (round-good nodes arcs r.0 (round-old r.0 r.1)))))

  pub writer-passes : outcome (given_tests g) (0 ∷ []) ≡ success (0 ∷ [])
  writer-passes = rw (two, three, five, eight, kinds-good arcs, six, nine, eleven)

  back : ReadsBack g (convert_bytes f)
  back = reads-back g writer-passes

  -- ---- the fronts
  classes : (v : ℕ) → get_or nodes v 0 ≤ 2
  classes v =
      ⊎_elim (λ (k : length nodes ≤ v). omega (arith, get_or-eq_default nodes 0 {n = v} k)) (λ k. back.within.classes-most (get_or nodes v 0) (at_in nodes v 0 k)) (order (length nodes) v)

  module _ (r : ℕ) (below : r < h.rounds) where
    abbrev old : List ℕ
    old = get_or (pieces h.rounds size rounds) r []

    round_is : get_or new_rounds r [] ≡ by_places nodes old
    round_is = ap (λ l. get_or l r []) rounds-are ∙ get_or-map (by_places nodes) (pieces h.rounds size rounds) r []

    good : T (old_is_round nodes old)
    good = round-old old (at_in (pieces h.rounds size rounds) r [] (omega (arith, pieces-length h.rounds size rounds)))

    front-is : search_bytes (convert_bytes f) r ≡ old_search_bytes f r
    front-is =
        let all = new_classes nodes arcs in
        ap (λ (st : Study). record_bytes (study_size1 st) (study_size2 st) (round_front st r)) back.study
        ∙ ap (λ o. record_bytes (count 1 all) (count 2 all) (front (count 1 all) (count 2 all) (route_pairs (network_in nodes (new_entries arcs) o h.source h.target)))) round_is
        ∙ ap (record_bytes (count 1 all) (count 2 all)) (front_same nodes arcs old good classes h.source h.target)
        ∙ ap₂ (λ m n. record_bytes m n (old_round_front (old_study_of f) r)) (sizes-same nodes arcs 0) (sizes-same nodes arcs 1)

  claims : ConvertClaims f
  claims =
      record {
        writable = outcome-tests (given_tests g) (0 ∷ []) writer-passes;
        reads-back = back;
        long = bytes-length g ∙ omega (arith, nodes-long, entries-long, places-long);
        arcs = ap study_arcs back.study ∙ arcs-same 0 arcs;
        kinds = λ x m. kinds-are arcs x (subst (λ (st : Study). x ∈ st.entries) back.study m);
        fronts = front-is;
      }

-- ---- THE THEOREM: what holds of each old file that the converter rewrites
pub converts : (f out v : List ℕ) → convert_answer f (length out) ≡ success v → ConvertClaims f
converts f out v o = claims f (outcome-success (convert_tests f) (0 ∷ []) (fill-tests (convert_tests f) (convert_bytes f) out v o))
