-- A converted round has the old front: its network is the old one.
use mathlib.Core.Path.{◌≡◌, refl, ap, ap₂, sym, ◌∙◌, subst}
use mathlib.Core.List.{List, [], ◌∷◌, map}
use Prim.Native.Nat.{ℕ, zero, suc, ◌+◌, ◌≤◌}
use native.Mathlib.Omega.{arith}
use lib.Dec.{T}
use lib.ListN.{length, get_or, take, drop}
use lib.Seq.{take-append-le}
use Rattle.laws.specs.Tests.{T_and}
use Rattle.front.specs.declared.Pair.{Pair}
use Rattle.front.specs.Pair.{pair_of}
use Rattle.front.specs.Front.{front}
use Rattle.orders.specs.Order.{count, place_in_class, order1, order2, is_order, is_round, is_order_of, position}
use Rattle.parts.specs.Study.{Arc, entry_class}
use Rattle.network.specs.Walk.{route_pairs}
use Rattle.network.specs.Round.{capacity, element_capacity, network_in}
use Rattle.split.proofs.Members.{class-in}
use Rattle.convert.specs.Old.{old_arcs_from, old_is_round, old_network_in}
use Rattle.convert.specs.Convert.{by_places}
use Rattle.convert.proofs.Entries.{new_entries, new_classes, arcs-same, sizes-same, arc-class, class_same}
use Rattle.convert.proofs.Orders.{places-position, places-good}

pub take-map : (f : ℕ → ℕ) (n : ℕ) (l : List ℕ) → take n (map f l) ≡ map f (take n l)
take-map f zero l = refl
take-map f (suc n) [] = refl
take-map f (suc n) (x ∷ l) = ap (λ r. f x ∷ r) (take-map f n l)

pub drop-map : (f : ℕ → ℕ) (n : ℕ) (l : List ℕ) → drop n (map f l) ≡ map f (drop n l)
drop-map f zero l = refl
drop-map f (suc n) [] = refl
drop-map f (suc n) (x ∷ l) = drop-map f n l

module _ (nodes b round : List ℕ) (good : T (old_is_round nodes round)) where
  abbrev all : List ℕ
  all = new_classes nodes b

  both : T (is_order_of 1 nodes (order1 nodes round)) × T (is_order_of 2 nodes (order2 nodes round))
  both = (T_and (is_order_of 1 nodes (order1 nodes round)) (is_order_of 2 nodes (order2 nodes round))).0 good

  first : order1 all (by_places nodes round) ≡ by_places nodes (order1 nodes round)
  first = ap (λ n. take n (by_places nodes round)) (sizes-same nodes b 0) ∙ take-map (place_in_class nodes) (count 1 nodes) round

  second : order2 all (by_places nodes round) ≡ by_places nodes (order2 nodes round)
  second = ap (λ n. drop n (by_places nodes round)) (sizes-same nodes b 0) ∙ drop-map (place_in_class nodes) (count 1 nodes) round

  -- its orders are good
  pub round-good : T (is_round all (by_places nodes round))
  round-good =
      let p = by_places nodes round in
      (T_and (is_order (count 1 all) (order1 all p)) (is_order (count 2 all) (order2 all p))).1 (
        subst T (sym (ap₂ is_order (sizes-same nodes b 0) first)) (places-good 0 nodes (order1 nodes round) both.0),
        subst T (sym (ap₂ is_order (sizes-same nodes b 1) second)) (places-good 1 nodes (order2 nodes round) both.1),
      )

  -- ---- capacities
  -- a node's place among the elements is its place among the nodes
  place_same : (v c : ℕ) → get_or nodes v 0 ≡ suc c → place_in_class all v ≡ place_in_class nodes v
  place_same v c e = let h = class-in nodes v c e in ap₂ count (class_same nodes b v) (take-append-le v nodes (map entry_class (new_entries b)) (omega arith))

  abbrev n1 : ℕ
  n1 = count 1 nodes

  abbrev n2 : ℕ
  n2 = count 2 nodes

  module _ (classes : (v : ℕ) → get_or nodes v 0 ≤ 2) where
    node-same : (v : ℕ) → element_capacity all (by_places nodes round) v ≡ capacity n1 n2 (get_or nodes v 0) (order1 nodes round) (order2 nodes round) v
    node-same v =
        ap₂ (λ m n. capacity m n (get_or all v 0) (order1 all (by_places nodes round)) (order2 all (by_places nodes round)) (place_in_class all v)) (sizes-same nodes b 0) (sizes-same nodes b 1)
        ∙ ap₂ (λ o p. capacity n1 n2 (get_or all v 0) o p (place_in_class all v)) first second
        ∙ ap (λ c. capacity n1 n2 c (by_places nodes (order1 nodes round)) (by_places nodes (order2 nodes round)) (place_in_class all v)) (class_same nodes b v) ∙ go (get_or nodes v 0) refl
      where
        go : (c : ℕ) → get_or nodes v 0 ≡ c
            → capacity n1 n2 c (by_places nodes (order1 nodes round)) (by_places nodes (order2 nodes round)) (place_in_class all v) ≡ capacity n1 n2 c (order1 nodes round) (order2 nodes round) v
        go zero e = refl
        go (suc zero) e =
            ap (λ p. pair_of p (n2 + 1)) (ap (λ k. position k (by_places nodes (order1 nodes round))) (place_same v 0 e) ∙ places-position 0 nodes (order1 nodes round) both.0 v e)
        go (suc (suc zero)) e =
            ap (λ p. pair_of (n1 + 1) p) (ap (λ k. position k (by_places nodes (order2 nodes round))) (place_same v 1 e) ∙ places-position 1 nodes (order2 nodes round) both.1 v e)
        go (suc (suc (suc c))) e = absurd (omega (arith, classes v))

    arc-same : (i : ℕ) → element_capacity all (by_places nodes round) (length nodes + i) ≡ pair_of (n1 + 1) (n2 + 1)
    arc-same i =
        ap (λ c. capacity (count 1 all) (count 2 all) c (order1 all (by_places nodes round)) (order2 all (by_places nodes round)) (place_in_class all (length nodes + i))) (arc-class nodes b i)
        ∙ ap₂ (λ m n. pair_of (m + 1) (n + 1)) (sizes-same nodes b 0) (sizes-same nodes b 1)

    -- THE CONVERTED ROUND has the old pairs, and the old front
    pub pairs-same : (s t : ℕ) → route_pairs (network_in nodes (new_entries b) (by_places nodes round) s t) ≡ route_pairs (old_network_in nodes (old_arcs_from 0 b) round s t)
    pairs-same s t =
        let at : List Arc → (ℕ → Pair) → (ℕ → Pair) → List Pair = λ ks g h. route_pairs (record { arcs = ks; node = g; arc = h; source = s; target = t }) in
        let g : ℕ → Pair = λ v. element_capacity all (by_places nodes round) v in
        let h : ℕ → Pair = λ i. element_capacity all (by_places nodes round) (length nodes + i) in
        let old-g : ℕ → Pair = λ v. capacity n1 n2 (get_or nodes v 0) (order1 nodes round) (order2 nodes round) v in
        let old-h : ℕ → Pair = λ i. pair_of (n1 + 1) (n2 + 1) in
        let same-g : g ≡ old-g = λ i v. node-same v i in
        let same-h : h ≡ old-h = λ i v. arc-same v i in
        ap (λ ks. at ks g h) (arcs-same 0 b) ∙ ap₂ (at (old_arcs_from 0 b)) same-g same-h

    pub front_same : (s t : ℕ)
        → front (count 1 all) (count 2 all) (route_pairs (network_in nodes (new_entries b) (by_places nodes round) s t))
        ≡ front n1 n2 (route_pairs (old_network_in nodes (old_arcs_from 0 b) round s t))
    front_same s t =
        ap₂ (λ m n. front m n (route_pairs (network_in nodes (new_entries b) (by_places nodes round) s t))) (sizes-same nodes b 0) (sizes-same nodes b 1) ∙ ap (front n1 n2) (pairs-same s t)
