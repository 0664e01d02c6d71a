-- Pairs of positions (document 01, "Positions, routes and the search"): the least class 1 and the least class 2 position on a route.
use Rattle.std.specs.Prelude.{Bool, not, ◌&&◌, ℕ, min, leb, ltb, eqb}
use Rattle.front.specs.declared.Pair.{Pair}

-- the pair (p1, p2)
abbrev pub pair_of : ℕ → ℕ → Pair
pair_of x y = record { p1 = record { 0 = x }; p2 = record { 0 = y } }

-- the smaller position of each class
abbrev pub min_pair : Pair → Pair → Pair
min_pair p q = pair_of (min p.p1.0 q.p1.0) (min p.p2.0 q.p2.0)

-- p is at least as large as q in both numbers
abbrev pub covers : Pair → Pair → Bool
covers p q = leb q.p1.0 p.p1.0 && leb q.p2.0 p.p2.0

-- both numbers are equal
abbrev pub same : Pair → Pair → Bool
same p q = eqb p.p1.0 q.p1.0 && eqb p.p2.0 q.p2.0

-- p dominates q (01: beats): it is at least as large in both numbers, and differs
abbrev pub dominates : Pair → Pair → Bool
dominates p q = covers p q && not (same p q)

-- p holds at (a, b), after a failures of class 1 and b of class 2
abbrev pub holds_at : Pair → ℕ → ℕ → Bool
holds_at p a b = ltb a p.p1.0 && ltb b p.p2.0
