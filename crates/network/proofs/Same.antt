-- Networks of the same arcs and ends whose capacities agree at the nodes have the same pairs.
use mathlib.Core.Path.{◌≡◌, ap₂}
use mathlib.Core.List.{List, [], ◌∷◌}
use Prim.Native.Nat.{ℕ, ◌<◌}
use Rattle.laws.specs.Members.{◌∈◌, map_same}
use Rattle.front.specs.declared.Pair.{Pair}
use Rattle.front.specs.Pair.{min_pair}
use Rattle.parts.specs.Study.{Arc}
use Rattle.network.specs.Walk.{Network, Walk, pair_on, routes, route_pairs}
use Rattle.network.proofs.Routes.{routes-are}

module _ (arcs : List Arc) (s t : ℕ) (c : ℕ → Pair) where
  abbrev with-node : (ℕ → Pair) → Network
  with-node g = record { arcs = arcs; node = g; arc = c; source = s; target = t }

  module _ (size : ℕ) (g h : ℕ → Pair) (same : (v : ℕ) → v < size → g v ≡ h v) (into : (k : Arc) → k ∈ arcs → k.to < size) where
    walk_same : (u v : ℕ) (ks : List Arc) → u < size → Walk arcs u v ks → pair_on (with-node g) u ks ≡ pair_on (with-node h) u ks
    walk_same u v [] b w = same u b
    walk_same u v (k ∷ ks) b w = ap₂ (λ p q. min_pair p (min_pair (c k.place) q)) (same u b) (walk_same k.to v ks (into k w.0) w.2)

    pub pairs-same : s < size → route_pairs (with-node g) ≡ route_pairs (with-node h)
    pairs-same b = map_same (pair_on (with-node g) s) (pair_on (with-node h) s) (routes (with-node g)) (λ ks m. walk_same s t ks b ((routes-are (with-node g) ks).0 m).0)
