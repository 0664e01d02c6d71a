-- A round's split network is that of its two orders by element: the search is given these, and the front that it finds is the round's.
use mathlib.Core.Path.{◌≡◌, refl, sym, ap, ap₂, ◌∙◌, subst}
use mathlib.Core.Logic.{⊎_elim}
use mathlib.Core.List.Memᴰ
use mathlib.Core.List.{List}
use Prim.Native.Nat.{ℕ, zero, suc, ◌+◌, ◌≤◌, ◌<◌}
use native.Mathlib.Omega.{arith}
use lib.Dec.{T}
use lib.ListN.{length, get_or, take, get_or-eq_default}
use Rattle.laws.specs.Tests.{T_and, equal, order}
use Rattle.laws.specs.Members.{◌∈◌, at_in}
use Rattle.front.specs.declared.Pair.{Pair}
use Rattle.front.specs.Pair.{pair_of}
use Rattle.front.specs.Front.{front}
use Rattle.orders.specs.Order.{count, order1, order2, is_order, is_round, position}
use Rattle.orders.proofs.Orders.{order-length}
use Rattle.parts.specs.Study.{Arc, Study, WithinLimits, entry_class, study_arcs, study_elements}
use Rattle.network.specs.Walk.{Network, route_pairs}
use Rattle.network.specs.Round.{study_size1, study_size2, round_at, capacity, element_capacity, round_network, round_front}
use Rattle.split.specs.Steps.{Piece, whole, enters, leaves, may_fail, split_arcs, split_round, member_at, element_order, round_order1, round_order2, order_network, Ordered}
use Rattle.split.proofs.Arcs.{elements-long, arc-place}
use Rattle.split.proofs.Members.{member-names, class-in, order_below, order-once, map_at, order-long, element-position, other-position}
use Rattle.split.proofs.Rounds.{arc-ends, round-front}
use Rattle.split.proofs.Splits.{arcs-pieces}

-- ---- the positions of two good orders are the capacities
module _ (classes round : List ℕ) (good : T (is_round classes round)) (small : (e : ℕ) → get_or classes e 0 ≤ 2) where
  abbrev o1 : List ℕ
  o1 = order1 classes round

  abbrev o2 : List ℕ
  o2 = order2 classes round

  abbrev both : T (is_order (count 1 classes) (order1 classes round)) × T (is_order (count 2 classes) (order2 classes round))
  both = (T_and (is_order (count 1 classes) (order1 classes round)) (is_order (count 2 classes) (order2 classes round))).0 good

  long1 : length o1 ≡ count 1 classes
  long1 = order-length (count 1 classes) o1 both.0

  long2 : length o2 ≡ count 2 classes
  long2 = order-length (count 2 classes) o2 both.1

  below1 : (m : ℕ) → m ∈ o1 → m < count 1 classes
  below1 = order_below (count 1 classes) o1 both.0

  below2 : (m : ℕ) → m ∈ o2 → m < count 2 classes
  below2 = order_below (count 2 classes) o2 both.1

  at1 : (e : ℕ) → get_or classes e 0 ≡ 1 → position e (element_order 1 classes o1) ≡ position (count 1 (take e classes)) o1
  at1 e q = element-position 1 classes o1 below1 e (class-in classes e 0 q) q

  at2 : (e : ℕ) → get_or classes e 0 ≡ 2 → position e (element_order 2 classes o2) ≡ position (count 2 (take e classes)) o2
  at2 e q = element-position 2 classes o2 below2 e (class-in classes e 1 q) q

  not1 : (e : ℕ) → (get_or classes e 0 ≡ 1 → ⊥) → position e (element_order 1 classes o1) ≡ count 1 classes + 1
  not1 e n = other-position 1 classes o1 below1 e n ∙ ap (λ k. k + 1) long1

  not2 : (e : ℕ) → (get_or classes e 0 ≡ 2 → ⊥) → position e (element_order 2 classes o2) ≡ count 2 classes + 1
  not2 e n = other-position 2 classes o2 below2 e n ∙ ap (λ k. k + 1) long2

  capacity-is : (e : ℕ) → pair_of (position e (element_order 1 classes o1)) (position e (element_order 2 classes o2)) ≡ element_capacity classes round e
  capacity-is e = go (get_or classes e 0) refl
    where
      go : (c : ℕ) → get_or classes e 0 ≡ c
          → pair_of (position e (element_order 1 classes o1)) (position e (element_order 2 classes o2)) ≡ capacity (count 1 classes) (count 2 classes) c o1 o2 (count c (take e classes))
      go zero q = ap₂ pair_of (not1 e (λ z. omega arith)) (not2 e (λ z. omega arith))
      go (suc zero) q = ap₂ pair_of (at1 e q) (not2 e (λ z. omega arith))
      go (suc (suc zero)) q = ap₂ pair_of (not1 e (λ z. omega arith)) (at2 e q)
      go (suc (suc (suc c))) q = absurd (omega (arith, small e))

  -- ---- what the search asks for
  elements1 : (k : ℕ) → k < length (element_order 1 classes o1) → get_or (element_order 1 classes o1) k 0 < length classes
  elements1 k h =
      let i : k < length o1 = omega (arith, order-long 1 classes o1) in
      subst (λ e. e < length classes) (sym (map_at (member_at 1 classes) o1 k i)) (member-names 1 classes (get_or o1 k 0) (below1 (get_or o1 k 0) (at_in o1 k 0 i))).inside

  elements2 : (k : ℕ) → k < length (element_order 2 classes o2) → get_or (element_order 2 classes o2) k 0 < length classes
  elements2 k h =
      let i : k < length o2 = omega (arith, order-long 2 classes o2) in
      subst (λ e. e < length classes) (sym (map_at (member_at 2 classes) o2 k i)) (member-names 2 classes (get_or o2 k 0) (below2 (get_or o2 k 0) (at_in o2 k 0 i))).inside

  once : (k : ℕ) → k < length (element_order 1 classes o1) → position (get_or (element_order 1 classes o1) k 0) (element_order 1 classes o1) ≡ suc k
  once k h =
      let i : k < length o1 = omega (arith, order-long 1 classes o1) in
      let m = get_or o1 k 0 in
      let n = member-names 1 classes m (below1 m (at_in o1 k 0 i)) in
      ap (λ e. position e (element_order 1 classes o1)) (map_at (member_at 1 classes) o1 k i)
      ∙ at1 (member_at 1 classes m) n.class ∙ ap (λ v. position v o1) n.place ∙ order-once (count 1 classes) o1 both.0 k i

  apart : (v : ℕ) → position v (element_order 2 classes o2) ≤ length (element_order 2 classes o2) → length (element_order 1 classes o1) < position v (element_order 1 classes o1)
  apart v h =
      ⊎_elim (λ q. omega (arith, order-long 1 classes o1, long1, not1 v (λ z. omega arith)))
      (λ n. absurd (omega (arith, order-long 2 classes o2, long2, not2 v n))) (equal (get_or classes v 0) 2)

-- ---- a round
module _ (st : Study) (w : WithinLimits st) where
  -- a class is 0, 1 or 2
  pub classes-small : (e : ℕ) → get_or (study_elements st) e 0 ≤ 2
  classes-small e =
      ⊎_elim (λ h. omega (arith, get_or-eq_default (study_elements st) 0 {n = e} h)) (λ h. among (get_or (study_elements st) e 0) (at_in (study_elements st) e 0 h))
      (order (length (study_elements st)) e)
    where
      among : (c : ℕ) → c ∈ study_elements st → c ≤ 2
      among c m =
          ⊎_elim (w.classes-most c) (λ k. let r = Memᴰ.of_map entry_class st.entries k in omega (arith, r.2)) (Memᴰ.append_cases st.classes m)

  module _ (r : ℕ) (good : T (is_round (study_elements st) (round_at st r))) where
    long-order1 : length (round_order1 st r) ≡ study_size1 st
    long-order1 = order-long 1 (study_elements st) (order1 (study_elements st) (round_at st r)) ∙ long1 (study_elements st) (round_at st r) good classes-small

    long-order2 : length (round_order2 st r) ≡ study_size2 st
    long-order2 = order-long 2 (study_elements st) (order2 (study_elements st) (round_at st r)) ∙ long2 (study_elements st) (round_at st r) good classes-small

    abbrev found : Network
    found = order_network (split_arcs (length st.classes) st.entries) (round_order1 st r) (round_order2 st r) st.source st.target

    pairs-are : route_pairs found ≡ route_pairs (split_round st r)
    pairs-are =
        let o1 = round_order1 st r in
        let o2 = round_order2 st r in
        let with-these : (ℕ → Pair) → (ℕ → Pair) → List Pair = λ g h. route_pairs (record { arcs = found.arcs; node = g; arc = h; source = st.source; target = st.target }) in
        let nodes : ◌≡◌ {A = ℕ → Pair} found.node (split_round st r).node = λ i e. capacity-is (study_elements st) (round_at st r) good classes-small e i in
        let arcs : ◌≡◌ {A = ℕ → Pair} found.arc (split_round st r).arc = λ i e. pair_of (long-order1 i + 1) (long-order2 i + 1) in
        ap₂ with-these nodes arcs

    -- THE FRONT that the search finds with these orders is the round's
    pub search-front : front (length (round_order1 st r)) (length (round_order2 st r))
        (route_pairs (order_network (split_arcs (length st.classes) st.entries) (round_order1 st r) (round_order2 st r) st.source st.target))
        ≡ round_front st r
    search-front = ap₂ (λ m n. front m n (route_pairs found)) long-order1 long-order2 ∙ ap (front (study_size1 st) (study_size2 st)) pairs-are ∙ sym (round-front st w r)

    -- ---- the split arcs lead between elements
    node_in : (v : ℕ) → v < length st.classes → v < length (study_elements st)
    node_in v h = omega (arith, elements-long st.classes st.entries)

    arc-in : (k : Arc) → k ∈ study_arcs st → length st.classes + k.place < length (study_elements st)
    arc-in k m = omega (arith, elements-long st.classes st.entries, (arc-place st.entries 0 k m).1)

    split-ends : (j : Arc) → j ∈ found.arcs → (j.from < length (study_elements st)) × (j.to < length (study_elements st))
    split-ends j m = go (arcs-pieces (round_network st r) (length st.classes) (may_fail st.entries) j m)
      where
        go : Piece (round_network st r) (may_fail st.entries) (λ i. length st.classes + i) j → (j.from < length (study_elements st)) × (j.to < length (study_elements st))
        go (whole k m n e g) = (omega (arith, node_in k.from (arc-ends st w k m).0), omega (arith, node_in k.to (arc-ends st w k m).1))
        go (enters k m f e g) = (omega (arith, node_in k.from (arc-ends st w k m).0), omega (arith, arc-in k m))
        go (leaves k m f e g) = (omega (arith, arc-in k m), omega (arith, node_in k.to (arc-ends st w k m).1))

    -- what the search asks of them
    pub ordered : Ordered (split_arcs (length st.classes) st.entries) (round_order1 st r) (round_order2 st r) st.source st.target (length (study_elements st))
    ordered =
        let classes = study_elements st in
        let round = round_at st r in
        record {
          from_in = λ k m. (split-ends k m).0;
          to_in = λ k m. (split-ends k m).1;
          source_in = node_in st.source w.source_in;
          target-in = node_in st.target w.target-in;
          nodes1 = elements1 classes round good classes-small;
          nodes2 = elements2 classes round good classes-small;
          once = once classes round good classes-small;
          apart = apart classes round good classes-small;
        }
