-- STEPS: what proofs and the contracts between our crates speak of. Nobody has to believe these: no promise to a caller cites them.
-- The arcs of entries as the search keeps them, all in one slice: the head of each node's chain, then where each arc begins and what follows it in its chain.
use Rattle.std.specs.Prelude.{◌≡◌, not, cond, List, [], ◌∷◌, ◌++◌, map, ℕ, suc, ◌+◌, ◌*◌, ◌≤◌, ◌<◌, eqb, ltb, length, get_or, set}
use Rattle.limits.specs.Limits.{max_nodes, max_arcs, max_class}
use Rattle.parts.specs.Study.{Entry, Arc, entry_class}
use Rattle.network.specs.Walk.{ends as ends_of}
use Rattle.split.specs.Steps.{halves}

-- the arcs of one way of an entry of a class, m its middle
abbrev pub way_arcs : ℕ → ℕ → ℕ → ℕ → ℕ → List Arc
way_arcs class m u v i = halves (not (eqb class 0)) m (record { from = u; to = v; place = i })

-- how many they are
abbrev pub way_count : ℕ → ℕ
way_count class = cond (eqb class 0) 1 2

-- and of a whole entry
abbrev pub entry_arcs : ℕ → ℕ → Entry → List Arc
entry_arcs m i x = way_arcs (entry_class x) m x.from x.to i ++ cond (ltb 2 x.kind) (way_arcs (entry_class x) m x.to x.from i) []

-- all arcs of entries, the first at place i; the middle of place i is node size + i
abbrev pub split_entries : ℕ → ℕ → List Entry → List Arc
split_entries size i [] = []
split_entries size i (x ∷ l) = entry_arcs (size + i) i x ++ split_entries size (suc i) l

-- the most nodes with middles, the most arcs (two for each entry, two more for each that may fail), and the places of a slice with both
abbrev pub max_elements : ℕ
max_elements = max_nodes + max_arcs

abbrev pub max_split_arcs : ℕ
max_split_arcs = 2 * (max_arcs + 2 * max_class)

abbrev pub max_links : ℕ
max_links = max_elements + 2 * max_split_arcs

-- the ends of the arc numbered j
abbrev pub from_at : List Arc → ℕ → ℕ
from_at ds j = get_or (map (λ (k : Arc). k.from) ds) j 0

abbrev pub to_at : List Arc → ℕ → ℕ
to_at ds j = get_or (ends_of ds) j 0

-- the slice: as many heads as there are nodes, and two places for each arc behind them; an arc is kept as its number plus one, and 0 ends a chain
abbrev pub head_at : List ℕ → ℕ → ℕ
head_at links v = get_or links v 0

abbrev pub start_at : ℕ → List ℕ → ℕ → ℕ
start_at size links j = get_or links (size + 2 * j) 0

abbrev pub more_at : ℕ → List ℕ → ℕ → ℕ
more_at size links j = get_or links (size + 2 * j + 1) 0

-- one arc more, numbered d, from u to v, at the head of v's chain
abbrev pub arc_added : ℕ → List ℕ → ℕ → ℕ → ℕ → List ℕ
arc_added size links u v d = set (set (set links (size + 2 * d) u) (size + 2 * d + 1) (head_at links v)) v (d + 1)

-- what the search keeps of arcs: each in the chain of the node that it leads to, the later first
pub record Linked (size : ℕ) (ds : List Arc) (links : List ℕ) : Type 0 where
  -- room for all
  pub long : size + 2 * length ds ≤ length links
  pub short : length links ≤ max_links
  -- arcs lead to nodes
  pub inside : (j : ℕ) → j < length ds → to_at ds j < size
  -- where each begins
  pub starts : (j : ℕ) → j < length ds → start_at size links j ≡ from_at ds j
  -- every arc is in reach of the head of its node's chain
  pub head : (j : ℕ) → j < length ds → j < head_at links (to_at ds j)
  -- the head of a node's chain is an arc into it
  pub head-is : (v p : ℕ) → v < size → head_at links v ≡ suc p → (p < length ds) × (to_at ds p ≡ v)
  -- from an arc on, no earlier arc into the same node is jumped over
  pub gap : (j p : ℕ) → j < p → p < length ds → to_at ds j ≡ to_at ds p → j < more_at size links p
  -- the next in a chain is earlier and into the same node
  pub back : (p q : ℕ) → p < length ds → more_at size links p ≡ suc q → (q < p) × (to_at ds q ≡ to_at ds p)
