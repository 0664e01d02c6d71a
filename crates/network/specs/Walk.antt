-- HOW THE SEARCH COMES TO A ROUND'S FRONT: from the study to what the code walks, and the lemma that makes each step
--   the study, round r        where it holds, told by direct removal: `RoundHolds` (Round.antt)
--     | `front-removal`, `front-routes`   the network's front holds there, and is the undominated pairs of its routes (proofs/Rounds.antt)
--   `round_network`            a capacity for each node, and for the arc at each place (Round.antt)
--     | `round-front`         an arc that may fail has become a node in its middle: the same front (split/proofs/Rounds.antt)
--   `split_round`              a capacity for each element; arcs never fail (split/specs/Steps.antt)
--     | `search-front`        the same pairs by the orders of elements alone (split/proofs/Orders.antt)
--   `order_network`            an element that stands in neither order is past the last of both (split/specs/Steps.antt)
--     | `pairs-are`           the same pairs from arrays of positions (search/proofs/Rounds.antt)
--   `graph_network`            of the `Graph` that the search walks: arcs in chains and an array of capacities (relax/specs/Steps.antt)
--     | `settled-hold`, `all-collected`   labels say where it holds, the sweep collects its front (labels, sweep/proofs)
--   the record                `search_bytes` (search/specs/Search.antt)
-- Walks and routes (document 01, "Positions, routes and the search"): chains of arcs, the pair of a route, and all routes by enumeration.
use Rattle.std.specs.Prelude.{◌≡◌, ◌&&◌, cond, List, [], ◌∷◌, ◌++◌, map, ℕ, zero, suc, eqb, length}
use Rattle.laws.specs.Members.{◌∈◌, keep, concat_map, member, without}
use Rattle.laws.specs.Pairwise.{Pairwise}
use Rattle.front.specs.declared.Pair.{Pair}
use Rattle.front.specs.Pair.{min_pair}
use Rattle.parts.specs.Study.{Arc}

-- a network in which every node, and the arc at every place, has a capacity: the pair of what holds it back
pub record Network : Type 0 where
  pub arcs : List Arc
  pub node : ℕ → Pair
  pub arc : ℕ → Pair
  pub source : ℕ
  pub target : ℕ

-- a walk (01: chain) of arcs from u to v; it may visit a node twice
abbrev pub Walk : List Arc → ℕ → ℕ → List Arc → Type 0
Walk arcs u v [] = u ≡ v
Walk arcs u v (k ∷ ks) = (k ∈ arcs) × (k.from ≡ u) × Walk arcs k.to v ks

-- the nodes that arcs lead to, and the nodes of a walk that starts at u
abbrev pub ends : List Arc → List ℕ
ends ks = map (λ (k : Arc). k.to) ks

abbrev pub visits : ℕ → List Arc → List ℕ
visits u ks = u ∷ ends ks

abbrev pub Differ : ℕ → ℕ → Type 0
Differ x y = x ≡ y → ⊥

-- a route from u to v: a walk that visits no node twice
abbrev pub RouteFrom : List Arc → ℕ → ℕ → List Arc → Type 0
RouteFrom arcs u v ks = Walk arcs u v ks × Pairwise Differ (visits u ks)

-- the pair of a walk that starts at u: the least capacity on it, both ends included
abbrev pub pair_on : Network → ℕ → List Arc → Pair
pair_on net u [] = net.node u
pair_on net u (k ∷ ks) = min_pair (net.node u) (min_pair (net.arc k.place) (pair_on net k.to ks))

-- ---- all routes: from u follow every arc to a node that is still free
abbrev pub onward : List Arc → List ℕ → ℕ → List Arc
onward arcs free u = keep (λ k. eqb k.from u && member k.to free) arcs

-- the walk that stays at u, where u is the target
abbrev pub arrived : ℕ → ℕ → List (List Arc)
arrived t u = cond (eqb u t) ([] ∷ []) []

abbrev pub routes_from : List Arc → ℕ → ℕ → List ℕ → ℕ → List (List Arc)
routes_from arcs t zero free u = arrived t u
routes_from arcs t (suc n) free u = arrived t u ++ concat_map (λ k. map (λ ks. k ∷ ks) (routes_from arcs t n (without k.to free) k.to)) (onward arcs free u)

-- all routes from source to target
abbrev pub routes : Network → List (List Arc)
routes net = routes_from net.arcs net.target (length net.arcs) (without net.source (ends net.arcs)) net.source

-- and their pairs
abbrev pub route_pairs : Network → List Pair
route_pairs net = map (pair_on net net.source) (routes net)
