-- The front of a list of pairs, and how two fronts are joined (document 01, "Positions, routes and the search" and "Row and side").
use Rattle.std.specs.Prelude.{Bool, not, ◌&&◌, List, [], ◌∷◌, ◌++◌, map, ℕ, zero, suc, ◌≤◌, ◌<◌}
use Rattle.laws.specs.Members.{◌∈◌, any, keep}
use Rattle.front.specs.declared.Pair.{Pair}
use Rattle.front.specs.Pair.{pair_of, min_pair, same, dominates, holds_at}

-- a list of pairs holds where one of its pairs does
abbrev pub holds : List Pair → ℕ → ℕ → Bool
holds l a b = any (λ p. holds_at p a b) l

-- p is among the pairs of l, and none of them dominates it
abbrev pub undominated : List Pair → Pair → Bool
undominated l p = any (same p) l && not (any (λ q. dominates q p) l)

-- every pair (x, y) with y from 1 up to m; and those for each x from n down to 1
abbrev pub grid_line : ℕ → ℕ → List Pair
grid_line x zero = []
grid_line x (suc y) = grid_line x y ++ (pair_of x (suc y) ∷ [])

abbrev pub grid : ℕ → ℕ → List Pair
grid zero m = []
grid (suc x) m = grid_line (suc x) m ++ grid x m

-- THE FRONT of a list of pairs: its undominated pairs, each once, p1 falling. p1 is at most n1 + 1 and p2 at most n2 + 1
abbrev pub front : ℕ → ℕ → List Pair → List Pair
front n1 n2 l = keep (undominated l) (grid (suc n1) (suc n2))

-- all pairwise minima
abbrev pub minima : List Pair → List Pair → List Pair
minima [] m = []
minima (p ∷ l) m = map (min_pair p) m ++ minima l m

-- SERIES (01: row): the undominated pairs among all pairwise minima
abbrev pub series_front : ℕ → ℕ → List Pair → List Pair → List Pair
series_front n1 n2 l m = front n1 n2 (minima l m)

-- PARALLEL (01: side): the undominated pairs of both lists together
abbrev pub parallel_front : ℕ → ℕ → List Pair → List Pair → List Pair
parallel_front n1 n2 l m = front n1 n2 (l ++ m)

-- ---- the form in which a record lists pairs
-- p1 lies in 1 to n1 + 1, and p2 in 1 to n2 + 1
pub record Within (n1 n2 : ℕ) (p : Pair) : Type 0 where
  pub low1 : 0 < p.p1.0
  pub high1 : p.p1.0 ≤ suc n1
  pub low2 : 0 < p.p2.0
  pub high2 : p.p2.0 ≤ suc n2

abbrev pub AllWithin : ℕ → ℕ → List Pair → Type 0
AllWithin n1 n2 l = (p : Pair) → p ∈ l → Within n1 n2 p

-- q may follow p: p1 strictly falls and p2 strictly rises
abbrev pub Falls : Pair → Pair → Type 0
Falls p q = (q.p1.0 < p.p1.0) × (p.p2.0 < q.p2.0)

-- p is at most q, in both numbers
abbrev pub AtMost : Pair → Pair → Type 0
AtMost p q = (p.p1.0 ≤ q.p1.0) × (p.p2.0 ≤ q.p2.0)
