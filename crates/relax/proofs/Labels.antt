-- Labels: a number at each node says where the network holds.
use mathlib.Core.Path.{◌≡◌, refl, sym, subst}
use mathlib.Core.Logic.{◌↔◌, ⊎_elim}
use mathlib.Core.List.{List, [], ◌∷◌}
use Prim.Native.Nat.{ℕ, suc, ◌≤◌, ◌<◌, min, max}
use native.Mathlib.Omega.{arith}
use lib.Dec.{T}
use Rattle.laws.specs.Tests.{equal}
use Rattle.laws.specs.Members.{◌∈◌}
use Rattle.front.specs.Front.{holds}
use Rattle.front.proofs.Pairs.{holds-is}
use Rattle.parts.specs.Study.{Arc}
use Rattle.network.specs.Walk.{Network, Walk, pair_on, route_pairs}
use Rattle.network.proofs.Rounds.{pairs-hold}
use Rattle.relax.specs.Steps.{Good, Walked, In, AllRelaxed}

-- a walk is worth at most its first node
pub pair-first : (net : Network) (v : ℕ) (ks : List Arc) → (pair_on net v ks).p2.0 ≤ (net.node v).p2.0
pair-first net v [] = omega arith
pair-first net v (k ∷ ks) = omega arith

module _ (net : Network) (a : ℕ) where
  walk-in : (v : ℕ) (ks : List Arc) → Walk net.arcs v net.target ks → a < (pair_on net v ks).p1.0 → (a < (net.node v).p1.0) × (a < (net.node net.target).p1.0)
  walk-in v [] w h = (h, subst (λ u. a < (net.node u).p1.0) w h)
  walk-in v (k ∷ ks) w h = (omega arith, (walk-in k.to ks w.2 (omega arith)).1)

  module _ (d : ℕ → ℕ) (so : Walked net a d) (c : AllRelaxed net a d) where
    relaxed-high : In net a → (v : ℕ) (ks : List Arc) → Walk net.arcs v net.target ks → a < (pair_on net v ks).p1.0 → (pair_on net v ks).p2.0 ≤ max (d v) (d net.source)
    relaxed-high i v [] w h = omega (arith, subst (λ u. (net.node u).p2.0 ≤ d u) (sym w) (c.at-t i))
    relaxed-high i v (k ∷ ks) w h =
        let by : min (net.node v).p2.0 (min (net.arc k.place).p2.0 (d k.to)) ≤ max (d v) (d net.source) =
        rw (← w.1) (c.by-arc i k w.0 (walk-in k.to ks w.2 (omega arith)).0) in
        omega (arith, by, relaxed-high i k.to ks w.2 (omega arith))

    pub relaxed-hold : (b : ℕ) → T (holds (route_pairs net) a b) ↔ (b < d net.source)
    relaxed-hold b = (
      λ t.
          let j = (pairs-hold net a b).0 t in
          let h = (holds-is (pair_on net net.source j.0) a b).0 j.2 in
          omega (arith, relaxed-high (walk-in net.source j.0 j.1 (omega arith)) net.source j.0 j.1 (omega arith)),
      λ h.
          let j = so net.source (omega arith) in
          (pairs-hold net a b).1 (j.0, j.1, (holds-is (pair_on net net.source j.0) a b).1 (omega (arith, c.s-in (omega arith)), omega arith)),
    )

  module _ (d e : ℕ → ℕ) (so : Walked net a d) where
    held_at : (u : ℕ) → ((v : ℕ) → (v ≡ u → ⊥) → e v ≡ d v) → Good net a u (e u) → Walked net a e
    held_at u other w v h =
        ⊎_elim (λ i. subst (λ x. Good net a x (e x)) (sym i) w) (λ n. let q = other v n in let r = so v (omega arith) in (r.0, r.1, r.2, omega arith)) (equal v u)

    pub held-t : ((v : ℕ) → (v ≡ net.target → ⊥) → e v ≡ d v) → e net.target ≤ (net.node net.target).p2.0 → Walked net a e
    held-t other k = held_at net.target other ([], refl, omega arith, k)

    pub held-raise : (k : Arc) → k ∈ net.arcs → ((v : ℕ) → (v ≡ k.from → ⊥) → e v ≡ d v) → a < (net.node k.to).p1.0 → a < (net.arc k.place).p1.0
        → 0 < d k.to → e k.from ≤ min (net.node k.from).p2.0 (min (net.arc k.place).p2.0 (d k.to)) → Walked net a e
    held-raise k m other h i p y = let r = so k.to p in held_at k.from other (k ∷ r.0, (m, refl, r.1), omega arith, omega arith)

-- one failure fewer
pub held-lower : (net : Network) (a : ℕ) (d : ℕ → ℕ) → Walked net (suc a) d → Walked net a d
held-lower net a d so v h = let r = so v h in (r.0, r.1, omega arith, r.3)
