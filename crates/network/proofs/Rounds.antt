-- A round's front: exactly the undominated pairs of its routes, and it holds where direct removal finds the round joined.
use mathlib.Core.Path.{◌≡◌, sym, subst}
use mathlib.Core.Logic.{◌↔◌, ⊎_elim}
use mathlib.Core.Bool.{Bool, true, false, cond}
use mathlib.Core.List.Memᴰ
use mathlib.Core.List.{List, [], ◌∷◌}
use Prim.Native.Nat.{ℕ, zero, suc, ◌+◌, ◌≤◌}
use native.Mathlib.Omega.{arith}
use lib.Dec.{T, eqb, ltb→lt, lt→ltb}
use lib.ListN.{length, get_or, length-take, length-drop}
use Rattle.laws.specs.Members.{◌∈◌, here, any_out, any-in}
use Rattle.front.specs.declared.Pair.{Pair}
use Rattle.front.specs.Pair.{pair_of, dominates, holds_at}
use Rattle.front.specs.Front.{holds, Within, AllWithin, AtMost}
use Rattle.front.proofs.Pairs.{holds-is}
use Rattle.front.proofs.Fronts.{front-are, front-holds, under-front}
use Rattle.orders.specs.Order.{count, place_in_class, order1, order2, position}
use Rattle.orders.proofs.Places.{position_first}
use Rattle.parts.specs.Study.{Arc, Study, study_arcs, study_elements, arc_element}
use Rattle.network.specs.Walk.{Network, Walk, RouteFrom, visits, pair_on, routes, route_pairs}
use Rattle.network.specs.Round.{study_size1, study_size2, round_at, works, element_works, RoundHolds, capacity, element_capacity, round_network, round_front}
use Rattle.network.proofs.Routes.{routes-are, straighten}

-- ---- the pairs of routes, and where they hold
pub pairs-in : (net : Network) (ks : List Arc) → RouteFrom net.arcs net.source net.target ks → pair_on net net.source ks ∈ route_pairs net
pairs-in net ks h = Memᴰ.map (pair_on net net.source) ((routes-are net ks).1 h)

pub pairs-out : (net : Network) (p : Pair) → p ∈ route_pairs net → (ks : List Arc) × RouteFrom net.arcs net.source net.target ks × (pair_on net net.source ks ≡ p)
pairs-out net p h = let m = Memᴰ.of_map (pair_on net net.source) (routes net) h in (m.0, (routes-are net m.0).0 m.1, m.2)

-- some walk from source to target holds at (a, b)
abbrev pub Joined : Network → ℕ → ℕ → Type 0
Joined net a b = (ks : List Arc) × Walk net.arcs net.source net.target ks × T (holds_at (pair_on net net.source ks) a b)

pub pairs-hold : (net : Network) (a b : ℕ) → T (holds (route_pairs net) a b) ↔ Joined net a b
pairs-hold net a b = (
  λ t.
      let m = any_out (λ p. holds_at p a b) (route_pairs net) t in
      let r = pairs-out net m.0 m.1 in
      (r.0, r.1.0, subst (λ (p : Pair). T (holds_at p a b)) (sym r.2) m.2),
  λ j.
      let r = straighten net net.source j.0 j.1 in
      let h = (holds-is (pair_on net net.source j.0) a b).0 j.2 in
      any-in (λ p. holds_at p a b) (pairs-in net r.0 r.1) ((holds-is (pair_on net net.source r.0) a b).1 (omega arith, omega arith)),
)

-- the least capacity on a walk holds where every capacity on it does
walk-holds : (net : Network) (u : ℕ) (ks : List Arc) (a b : ℕ)
    → T (holds_at (pair_on net u ks) a b) ↔ (((v : ℕ) → v ∈ visits u ks → T (holds_at (net.node v) a b)) × ((k : Arc) → k ∈ ks → T (holds_at (net.arc k.place) a b)))
walk-holds net u [] a b = (λ t. (λ v m. ⊎_elim (λ e. subst (λ x. T (holds_at (net.node x) a b)) (sym e) t) (λ q. elim q [ ]) (Memᴰ.cases_cons m), λ k m. elim m [ ]), λ h. h.0 u here)
walk-holds net u (k ∷ ks) a b = (
  λ t.
      let h = (holds-is (pair_on net u (k ∷ ks)) a b).0 t in
      let r = (walk-holds net k.to ks a b).0 ((holds-is (pair_on net k.to ks) a b).1 (omega arith, omega arith)) in (
        λ v m. ⊎_elim (λ e. subst (λ x. T (holds_at (net.node x) a b)) (sym e) ((holds-is (net.node u) a b).1 (omega arith, omega arith))) (r.0 v) (Memᴰ.cases_cons m),
        λ j m. ⊎_elim (λ e. subst (λ (x : Arc). T (holds_at (net.arc x.place) a b)) (sym e) ((holds-is (net.arc k.place) a b).1 (omega arith, omega arith))) (r.1 j) (Memᴰ.cases_cons m),
      ),
  λ h.
      let i = (holds-is (net.node u) a b).0 (h.0 u here) in
      let j = (holds-is (net.arc k.place) a b).0 (h.1 k here) in
      let r = (holds-is (pair_on net k.to ks) a b).0 ((walk-holds net k.to ks a b).1 (λ v m. h.0 v (Memᴰ.tail m), λ l m. h.1 l (Memᴰ.tail m))) in
      (holds-is (pair_on net u (k ∷ ks)) a b).1 (omega arith, omega arith),
)

-- ---- capacities
pub position-most : (v : ℕ) (l : List ℕ) → position v l ≤ suc (length l)
position-most v [] = omega arith
position-most v (x ∷ l) = go (eqb x v) (position-most v l)
  where
    go : (b : Bool) → position v l ≤ suc (length l) → cond b 1 (suc (position v l)) ≤ suc (suc (length l))
    go true h = omega arith
    go false h = omega arith

capacity-within : (n1 n2 c : ℕ) (o1 o2 : List ℕ) (v : ℕ) → length o1 ≤ n1 → length o2 ≤ n2 → Within n1 n2 (capacity n1 n2 c o1 o2 v)
capacity-within n1 n2 zero o1 o2 v h k = omega arith
capacity-within n1 n2 (suc zero) o1 o2 v h k = omega (arith, position_first v o1, position-most v o1)
capacity-within n1 n2 (suc (suc c)) o1 o2 v h k = omega (arith, position_first v o2, position-most v o2)

-- a node's capacity holds exactly where the node works
capacity-holds : (n1 n2 c : ℕ) (o1 o2 : List ℕ) (v a b : ℕ) → a ≤ n1 → b ≤ n2 → T (holds_at (capacity n1 n2 c o1 o2 v) a b) ↔ T (works c o1 o2 a b v)
capacity-holds n1 n2 zero o1 o2 v a b h k = (λ t. tt, λ t. (holds-is (pair_of (n1 + 1) (n2 + 1)) a b).1 (omega arith, omega arith))
capacity-holds n1 n2 (suc zero) o1 o2 v a b h k =
    let e = holds-is (pair_of (position v o1) (n2 + 1)) a b in
    (λ t. lt→ltb a (position v o1) (e.0 t).0, λ t. e.1 (ltb→lt a (position v o1) t, omega arith))
capacity-holds n1 n2 (suc (suc c)) o1 o2 v a b h k =
    let e = holds-is (pair_of (n1 + 1) (position v o2)) a b in
    (λ t. lt→ltb b (position v o2) (e.0 t).1, λ t. e.1 (omega arith, ltb→lt b (position v o2) t))

-- capacities in range make pairs in range
module _ (net : Network) (n1 n2 : ℕ) (Node-in : (v : ℕ) → Within n1 n2 (net.node v)) (arc-in : (i : ℕ) → Within n1 n2 (net.arc i)) where
  walk-within : (u : ℕ) (ks : List Arc) → Within n1 n2 (pair_on net u ks)
  walk-within u [] = Node-in u
  walk-within u (k ∷ ks) = omega (arith, Node-in u, arc-in k.place, walk-within k.to ks)

  pub pairs-within : AllWithin n1 n2 (route_pairs net)
  pairs-within p m = let x = pairs-out net p m in subst (Within n1 n2) x.2 (walk-within net.source x.0)

-- ---- an element's capacity is in range, and holds where the element works
pub element-within : (classes round : List ℕ) → length round ≤ count 1 classes + count 2 classes
    → (e : ℕ) → Within (count 1 classes) (count 2 classes) (element_capacity classes round e)
element-within classes round long e =
    capacity-within (count 1 classes) (count 2 classes) (get_or classes e 0) (order1 classes round) (order2 classes round) (place_in_class classes e)
    (omega (arith, length-take (count 1 classes) round)) (omega (arith, length-drop (count 1 classes) round))

pub element-holds : (classes round : List ℕ) (e a b : ℕ) → a ≤ count 1 classes → b ≤ count 2 classes
    → T (holds_at (element_capacity classes round e) a b) ↔ T (element_works classes round a b e)
element-holds classes round e a b h k =
    capacity-holds (count 1 classes) (count 2 classes) (get_or classes e 0) (order1 classes round) (order2 classes round) (place_in_class classes e) a b h k

-- ---- a round
module _ (st : Study) (r : ℕ) (long : length (round_at st r) ≤ study_size1 st + study_size2 st) where
  pub inside : AllWithin (study_size1 st) (study_size2 st) (route_pairs (round_network st r))
  inside =
      let within = element-within (study_elements st) (round_at st r) long in
      pairs-within (round_network st r) (study_size1 st) (study_size2 st) within (λ i. within _)

  -- THE FRONT is exactly the pairs of routes that no route's pair dominates
  pub front-routes : (p : Pair)
      → (p ∈ round_front st r)
      ↔ (((ks : List Arc) × RouteFrom (study_arcs st) st.source st.target ks × (pair_on (round_network st r) st.source ks ≡ p))
      × ((ks : List Arc) → RouteFrom (study_arcs st) st.source st.target ks → T (dominates (pair_on (round_network st r) st.source ks) p) → ⊥))
  front-routes p =
      let n = round_network st r in
      let f = front-are (study_size1 st) (study_size2 st) (route_pairs n) inside p in (
        λ h. (pairs-out n p (f.0 h).0, λ ks o. (f.0 h).1 (pair_on n st.source ks) (pairs-in n ks o)),
        λ h. f.1 (Memᴰ.cast (sym h.0.2) (pairs-in n h.0.0 h.0.1), λ q m d. let x = pairs-out n q m in h.1 x.0 x.1 (subst (λ (v : Pair). T (dominates v p)) (sym x.2) d)),
      )

  -- every route has a pair in the front at least as large in both numbers
  pub route-under : (ks : List Arc) → RouteFrom (study_arcs st) st.source st.target ks → (q : Pair) × (q ∈ round_front st r) × AtMost (pair_on (round_network st r) st.source ks) q
  route-under ks h = under-front (study_size1 st) (study_size2 st) (route_pairs (round_network st r)) inside (pair_on (round_network st r) st.source ks) (pairs-in (round_network st r) ks h)

  -- the front holds exactly where direct removal, of nodes and arcs, finds the round joined
  pub front-removal : (a b : ℕ) → a ≤ study_size1 st → b ≤ study_size2 st → T (holds (round_front st r) a b) ↔ RoundHolds st r a b
  front-removal a b h k = (
    λ t.
        let n = round_network st r in
        let j = (pairs-hold n a b).0 (subst T (front-holds (study_size1 st) (study_size2 st) (route_pairs n) inside a b) t) in
        let w = (walk-holds n st.source j.0 a b).0 j.2 in
        (j.0, j.1, λ v m. (at v).0 (w.0 v m), λ l m. (at (arc_element st l)).0 (w.1 l m)),
    λ j.
        let n = round_network st r in
        subst T (sym (front-holds (study_size1 st) (study_size2 st) (route_pairs n) inside a b))
        ((pairs-hold n a b).1 (j.0, j.1, (walk-holds n st.source j.0 a b).1 (λ v m. (at v).1 (j.2 v m), λ l m. (at (arc_element st l)).1 (j.3 l m)))),
  )
    where
      at : (e : ℕ) → T (holds_at (element_capacity (study_elements st) (round_at st r) e) a b) ↔ T (element_works (study_elements st) (round_at st r) a b e)
      at e = element-holds (study_elements st) (round_at st r) e a b h k
