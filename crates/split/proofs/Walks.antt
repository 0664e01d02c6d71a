-- THE SPLIT THEOREM: a network holds where the larger one does, in which its failing arcs have become nodes.
use mathlib.Core.Path.{◌≡◌, refl, sym, ◌∙◌, subst}
use mathlib.Core.Logic.{◌↔◌, ⊎_elim}
use mathlib.Core.Bool.{Bool}
use mathlib.Core.List.{List, [], ◌∷◌}
use Prim.Native.Nat.{ℕ, ◌≤◌, ◌<◌}
use native.Mathlib.Omega.{arith}
use lib.Dec.{T}
use Rattle.laws.specs.Tests.{T-ext, decide}
use Rattle.laws.specs.Members.{◌∈◌}
use Rattle.front.specs.declared.Pair.{Pair}
use Rattle.front.specs.Front.{holds, front, AllWithin}
use Rattle.front.proofs.Pairs.{numbers, holds-is}
use Rattle.front.proofs.Fronts.{front_same}
use Rattle.parts.specs.Study.{Arc}
use Rattle.network.specs.Walk.{Network, Walk, pair_on, route_pairs}
use Rattle.network.proofs.Rounds.{pairs-hold}
use Rattle.split.specs.Steps.{Top, Piece, whole, enters, leaves, Splits}

-- a pair holds at (a, b)
abbrev Holds : ℕ → ℕ → Pair → Type 0
Holds a b p = (a < p.p1.0) × (b < p.p2.0)

-- a walk from u to the target that holds at (a, b)
abbrev From : Network → ℕ → ℕ → ℕ → Type 0
From n a b u = (ks : List Arc) × Walk n.arcs u n.target ks × Holds a b (pair_on n u ks)

-- the walks that hold in a network are those of its pairs
from_is : (n : Network) (a b : ℕ) → T (holds (route_pairs n) a b) ↔ From n a b n.source
from_is n a b = (
  λ t. let j = (pairs-hold n a b).0 t in (j.0, j.1, (holds-is (pair_on n n.source j.0) a b).0 j.2),
  λ j. (pairs-hold n a b).1 (j.0, j.1, (holds-is (pair_on n n.source j.0) a b).1 j.2),
)

-- one arc in front
step : (n : Network) (a b u : ℕ) (k : Arc) → k ∈ n.arcs → k.from ≡ u → Holds a b (n.node u) → Holds a b (n.arc k.place) → From n a b k.to → From n a b u
step n a b u k m e x y r = (k ∷ r.0, (m, e, r.1), (omega (arith, r.2), omega (arith, r.2)))

top-holds : (n1 n2 a b : ℕ) (p : Pair) → a ≤ n1 → b ≤ n2 → Top n1 n2 p → Holds a b p
top-holds n1 n2 a b p h k t = omega arith

module _ {net big : Network} {size n1 n2 : ℕ} {fails : ℕ → Bool} {mid : ℕ → ℕ} (s : Splits net big size n1 n2 fails mid) (a b : ℕ) (h1 : a ≤ n1) (h2 : b ≤ n2) where
  -- an old node holds in both networks, or in neither
  node-big : (u : ℕ) → u < size → Holds a b (net.node u) → Holds a b (big.node u)
  node-big u i h = omega (arith, numbers (s.node u i))

  node-net : (u : ℕ) → u < size → Holds a b (big.node u) → Holds a b (net.node u)
  node-net u i h = omega (arith, numbers (s.node u i))

  -- ---- from the network to the larger one: a failing arc is two steps
  half : (u v : ℕ) (j : Arc) → j ∈ big.arcs → j.from ≡ u → j.to ≡ v → Holds a b (big.node u) → From big a b v → From big a b u
  half u v j m e f x r = step big a b u j m e x (top-holds n1 n2 a b (big.arc j.place) h1 h2 (s.top j m)) (subst (From big a b) (sym f) r)

  outward : (u : ℕ) (ks : List Arc) → u < size → Walk net.arcs u net.target ks → Holds a b (pair_on net u ks) → From big a b u
  outward u [] i w h = ([], w ∙ sym s.target, node-big u i h)
  outward u (k ∷ ks) i w h =
      let rest = outward k.to ks (s.to_in k w.0) w.2 (omega arith) in
      let at-u : Holds a b (big.node u) = node-big u i (omega arith) in
      ⊎_elim
      (λ f.
      let p = s.entered k w.0 f in
      let q = s.left k w.0 f in
      let at-m : Holds a b (big.node (mid k.place)) = omega (arith, numbers (s.middle k w.0 f).1) in
      half u (mid k.place) p.0 p.1 (p.2 ∙ w.1) p.3 at-u (half (mid k.place) k.to q.0 q.1 q.2 q.3 at-m rest))
      (λ n. let p = s.kept k w.0 n in half u k.to p.0 p.1 (p.2 ∙ w.1) p.3 at-u rest)
      (decide (fails k.place))

  -- ---- and back: from an old node, a walk; from a new one, a walk from where any arc through it begins
  abbrev Back : ℕ → Type 0
  Back x = (x < size → From net a b x) × ((k : Arc) → k ∈ net.arcs → T (fails k.place) → mid k.place ≡ x → Holds a b (net.node k.from) → From net a b k.from)

  module _ (x : ℕ) (j : Arc) (at : j.from ≡ x) (at_x : Holds a b (big.node x)) (rest : Back j.to) where
    near : x < size → Piece net fails mid j → From net a b x
    near i (whole k m n e g) =
        step net a b x k m (sym e ∙ at) (node-net x i at_x) (top-holds n1 n2 a b (net.arc k.place) h1 h2 (s.firm k m n))
        (subst (From net a b) g (rest.0 (omega (arith, s.to_in k m))))
    near i (enters k m f e g) =
        let q : x ≡ k.from = sym at ∙ e in
        subst (From net a b) (sym q) (rest.1 k m f (sym g) (subst (λ v. Holds a b (net.node v)) q (node-net x i at_x)))
    near i (leaves k m f e g) = absurd (omega (arith, (s.middle k m f).0))

    far : (k : Arc) → k ∈ net.arcs → T (fails k.place) → mid k.place ≡ x → Holds a b (net.node k.from) → Piece net fails mid j → From net a b k.from
    far k m f e n (whole l p d g z) = absurd (omega (arith, (s.middle k m f).0, s.from_in l p))
    far k m f e n (enters l p d g z) = absurd (omega (arith, (s.middle k m f).0, s.from_in l p))
    far k m f e n (leaves l p d g z) =
        let same : mid k.place ≡ mid l.place = e ∙ sym at ∙ g in
        let on : From net a b j.to = rest.0 (omega (arith, s.to_in l p)) in
        let at-m : Holds a b (big.node (mid k.place)) = subst (λ v. Holds a b (big.node v)) (sym e) at_x in
        ⊎_elim
        (λ t. step net a b k.from k m refl n (omega (arith, numbers (s.middle k m f).1)) (subst (From net a b) (z ∙ t) on))
        (λ t. subst (From net a b) (z ∙ t) on)
        (s.twins k l m p f d same)

  inward : (x : ℕ) (js : List Arc) → Walk big.arcs x big.target js → Holds a b (pair_on big x js) → Back x
  inward x [] w h = (
    λ i. ([], w ∙ s.target, node-net x i h),
    λ k m f e n. absurd (omega (arith, (s.middle k m f).0, s.target-in, s.target)),
  )
  inward x (j ∷ js) w h =
      let rest = inward j.to js w.2 (omega arith) in
      let at_x : Holds a b (big.node x) = omega arith in
      (λ i. near x j w.1 at_x rest i (s.pieces j w.0), λ k m f e n. far x j w.1 at_x rest k m f e n (s.pieces j w.0))

  -- the two hold together
  pub split-holds : T (holds (route_pairs net) a b) ↔ T (holds (route_pairs big) a b)
  split-holds = (
    λ t.
        let j = (from_is net a b).0 t in
        (from_is big a b).1 (subst (From big a b) (sym s.source) (outward net.source j.0 s.source_in j.1 j.2)),
    λ t.
        let j = (from_is big a b).0 t in
        (from_is net a b).1 (subst (From net a b) s.source ((inward big.source j.0 j.1 j.2).0 (omega (arith, s.source, s.source_in)))),
  )

module _ {net big : Network} {size n1 n2 : ℕ} {fails : ℕ → Bool} {mid : ℕ → ℕ} (s : Splits net big size n1 n2 fails mid) where
  pub split-counts : (a b : ℕ) → a ≤ n1 → b ≤ n2 → holds (route_pairs net) a b ≡ holds (route_pairs big) a b
  split-counts a b h k = T-ext (holds (route_pairs net) a b) (holds (route_pairs big) a b) (split-holds s a b h k)

  -- and have one front
  pub split-front : AllWithin n1 n2 (route_pairs net) → AllWithin n1 n2 (route_pairs big) → front n1 n2 (route_pairs net) ≡ front n1 n2 (route_pairs big)
  split-front v w = (front_same n1 n2 (route_pairs net) (route_pairs big) v w).1 split-counts
