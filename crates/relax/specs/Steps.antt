-- STEPS: what proofs and the contracts between our crates speak of. Nobody has to believe these: no promise to a caller cites them.
use Rattle.std.specs.Prelude.{◌≡◌, cond, ◌&&◌, List, [], ◌∷◌, ℕ, suc, ◌+◌, ◌-◌, ◌*◌, ◌/◌, ◌≤◌, ◌<◌, min, max, leb, length, get_or}
use Rattle.limits.specs.Limits.{max_class, max_position}
use Rattle.laws.specs.Members.{◌∈◌}
use Rattle.front.specs.Pair.{pair_of}
use Rattle.parts.specs.Study.{Arc}
use Rattle.network.specs.Walk.{Network, Walk, pair_on}
use Rattle.chains.specs.Steps.{from_at, to_at, head_at, Linked, max_elements, max_split_arcs}
use Rattle.relax.specs.declared.Net.{Net}
use Rattle.relax.specs.declared.Step.{Step}

-- ---- LABELS: what a number at each node says of the walks from it to the target, while the first a class 1 positions are shut
module _ (net : Network) (a : ℕ) where
  -- a walk from v to t that is worth y; v itself may still wait to enter
  abbrev pub Good : ℕ → ℕ → Type 0
  Good v y = (ks : List Arc) × Walk net.arcs v net.target ks × (min (suc a) (net.node v).p1.0 ≤ (pair_on net v ks).p1.0) × (y ≤ (pair_on net v ks).p2.0)

  -- each label above 0 has a walk
  abbrev pub Walked : (ℕ → ℕ) → Type 0
  Walked d = (v : ℕ) → 0 < d v → Good v (d v)

  -- what is needed of an end, while both ends are in
  abbrev pub In : Type 0
  In = (a < (net.node net.source).p1.0) × (a < (net.node net.target).p1.0)

  -- t has its capacity, and every arc into a node that is in is relaxed: it raises no label above that of s
  pub record AllRelaxed (d : ℕ → ℕ) : Type 0 where
    -- a source that has a label is in
    pub s-in : 0 < d net.source → a < (net.node net.source).p1.0
    -- the target has its capacity
    pub at-t : In → (net.node net.target).p2.0 ≤ d net.target
    -- no arc raises a label above that of the source
    pub by-arc : In → (k : Arc) → k ∈ net.arcs → a < (net.node k.to).p1.0
        → min (net.node k.from).p2.0 (min (net.arc k.place).p2.0 (d k.to)) ≤ max (d k.from) (d net.source)

-- ---- THE SEARCH'S STATE: what it is given, and the labels while they spread
-- all that stays as it is during a search: arcs, each node's class 1 and class 2 capacity, the ends, the class sizes
pub record Graph : Type 0 where
  -- a way of an entry is one, or the two through its middle
  pub arcs : List Arc
  -- class 1 capacities
  pub entry : List ℕ
  -- class 2 capacities
  pub cap : List ℕ
  -- 01: s
  pub source : ℕ
  -- 01: t
  pub target : ℕ
  -- members of class 1
  pub n1 : ℕ
  -- members of class 2
  pub n2 : ℕ

-- the network that it is
abbrev pub graph_network : Graph → Network
graph_network f =
    record {
      arcs = f.arcs;
      node = λ v. pair_of (get_or f.entry v 0) (get_or f.cap v 0);
      arc = λ i. pair_of (f.n1 + 1) (f.n2 + 1);
      source = f.source;
      target = f.target;
    }

-- what the search is given: ends of arcs are nodes, capacities are in range, and no two nodes share a class 2 position
pub record Laid (f : Graph) : Type 0 where
  -- a capacity of both classes for every node
  pub same : length f.cap ≡ length f.entry
  -- 01: N, and a middle for each of A
  pub few : length f.entry ≤ max_elements
  -- two for each entry, four where it may fail
  pub many : length f.arcs ≤ max_split_arcs
  -- arcs lead between nodes
  pub ends : (j : ℕ) → j < length f.arcs → (from_at f.arcs j < length f.entry) × (to_at f.arcs j < length f.entry)
  -- the source is a node
  pub s-in : f.source < length f.entry
  -- the target is a node
  pub t-in : f.target < length f.entry
  -- the target's label is a label
  pub t-pos : 0 < get_or f.cap f.target 0
  -- 01: n1
  pub small1 : f.n1 ≤ max_class
  -- 01: n2
  pub small2 : f.n2 ≤ max_class
  -- no class 2 capacity is above n2 + 1
  pub high : (v : ℕ) → v < length f.entry → get_or f.cap v 0 ≤ suc f.n2
  -- each class 2 position has one node
  pub only : (u v : ℕ) → u < length f.entry → v < length f.entry → get_or f.cap u 0 ≡ get_or f.cap v 0 → get_or f.cap u 0 ≤ f.n2 → u ≡ v
  -- no node is of both classes
  pub apart : (v : ℕ) → v < length f.entry → get_or f.cap v 0 ≤ f.n2 → f.n1 < get_or f.entry v 0

-- how many labels are below l
abbrev pub low : ℕ → List ℕ → ℕ
low l [] = 0
low l (x ∷ d) = min 1 (l - x) + low l d

-- the arc numbered j is relaxed: it raises no label above that of s
abbrev pub Relaxed : Graph → List ℕ → ℕ → Type 0
Relaxed f d j = min (get_or f.cap (from_at f.arcs j) 0) (get_or d (to_at f.arcs j) 0) ≤ max (get_or d (from_at f.arcs j) 0) (get_or d f.source 0)

-- w is in, and its label is l
pub record Ripe (f : Graph) (a l : ℕ) (d : List ℕ) (w : ℕ) : Type 0 where
  -- a node of the network
  pub node : w < length f.entry
  -- labelled with the level
  pub at : get_or d w 0 ≡ l
  -- its class 1 position is above a
  pub in-it : a < get_or f.entry w 0

-- w's label is its capacity, below l, and that level waits
pub record Waits (f : Graph) (l : ℕ) (d wait : List ℕ) (w : ℕ) : Type 0 where
  -- under the level that spreads
  pub below : get_or d w 0 < l
  -- no more than its own capacity
  pub full : get_or f.cap w 0 ≡ get_or d w 0
  -- its level is marked
  pub flag : get_or wait (get_or d w 0) 0 ≡ 0 → ⊥

-- why the arc numbered j needs no look now: it is relaxed, or the node it leads to is on the stack, or waits, or is at work and the arc is left in its chain
pub data Why (f : Graph) (l : ℕ) (d stack wait : List ℕ) (top v i j : ℕ) : Type 0 where
  relaxed : Relaxed f d j → Why f l d stack wait top v i j
  piled : (k : ℕ) → k < top → get_or stack k 0 ≡ to_at f.arcs j → Why f l d stack wait top v i j
  waits : Waits f l d wait (to_at f.arcs j) → Why f l d stack wait top v i j
  left : to_at f.arcs j ≡ v → j < i → Why f l d stack wait top v i j

-- what a raise to c does while level l spreads: where it leaves its mark, and by how much the stack grows. A raise to l waits for nothing: nothing reads mark 0
abbrev pub mark_at : ℕ → ℕ → ℕ
mark_at l c = cond (leb l c) 0 c

abbrev pub growth : ℕ → ℕ → ℕ → ℕ → ℕ
growth l c x e = cond (leb l c && leb x e) 1 0

-- the levels that wait: each names, as one more, the class 2 node of that position, which has its label
pub record Named (f : Graph) (d : List ℕ) (c w : ℕ) : Type 0 where
  -- a level is above 0
  pub some : 0 < c
  -- and of class 2
  pub below : c ≤ f.n2
  -- what waits is a node
  pub node : w < length f.entry
  -- with the level for a label
  pub label : get_or d w 0 ≡ c
  -- which is its capacity
  pub full : get_or f.cap w 0 ≡ c

abbrev pub Marked : Graph → List ℕ → List ℕ → Type 0
Marked f d wait = (c w : ℕ) → 0 < c → get_or wait c 0 ≡ suc w → Named f d c w

-- the labels while level l spreads after a failures, with v at work at arc i - 1 of its chain (i = 0: none)
pub record Work (f : Graph) (a l : ℕ) (d stack wait : List ℕ) (top v i : ℕ) : Type 0 where
  -- what the search is given
  pub laid : Laid f
  -- every node has a label
  pub long : length f.entry ≤ length d
  -- no more labels than nodes can be
  pub short : length d ≤ max_elements
  -- every level has a mark
  pub long-wait : max_position + 1 ≤ length wait
  -- each label has a walk to the target
  pub held : Walked (graph_network f) a (λ v. get_or d v 0)
  -- no more failures than class 1 has
  pub early : a ≤ f.n1
  -- the level is above 0
  pub some : 0 < l
  -- and at most n2 + 1
  pub high : l ≤ suc f.n2
  -- the target has its capacity
  pub at-t : get_or f.cap f.target 0 ≤ get_or d f.target 0
  -- the stack has room for every node below the level
  pub fits : top + low l d ≤ length d
  -- on the stack: nodes that are in, at this level
  pub pile : (k : ℕ) → k < top → Ripe f a l d (get_or stack k 0)
  -- the node at work is one of them, and arc i - 1 is in its chain
  pub going : 0 < i → Ripe f a l d v × (i ≤ length f.arcs) × (to_at f.arcs (i - 1) ≡ v)
  -- what waits is named
  pub marked : Marked f d wait
  -- every arc into a node that is in is seen to
  pub why : (j : ℕ) → j < length f.arcs → a < get_or f.entry (to_at f.arcs j) 0 → Why f l d stack wait top v i j

-- no level between floor and l waits
abbrev pub NoneWaits : List ℕ → ℕ → ℕ → Type 0
NoneWaits wait l floor = (c : ℕ) → floor < c → c < l → get_or wait c 0 ≡ 0

-- the largest level that waits, between floor and l
pub record NextLevel (wait : List ℕ) (l floor m : ℕ) : Type 0 where
  pub above : floor < m
  pub below : m < l
  pub waiting : get_or wait m 0 ≡ 0 → ⊥
  pub last : NoneWaits wait l m

-- where the sweep begins: s and t are in below it
abbrev pub start : Graph → ℕ
start f = min (suc f.n1) (min (get_or f.entry f.source 0) (get_or f.entry f.target 0))

-- the labels after a failures, settled: nothing is left to relax
pub record Settled (f : Graph) (a : ℕ) (d wait : List ℕ) : Type 0 where
  -- what the search is given
  pub laid : Laid f
  -- every node has a label
  pub long : length f.entry ≤ length d
  -- no more labels than nodes can be
  pub short : length d ≤ max_elements
  -- every level has a mark
  pub long-wait : max_position + 1 ≤ length wait
  -- each label has a walk to the target
  pub held : Walked (graph_network f) a (λ v. get_or d v 0)
  -- once both ends are in, the target has its capacity
  pub at-t : a < start f → get_or f.cap f.target 0 ≤ get_or d f.target 0
  -- before that there is no label
  pub clear : start f ≤ a → (v : ℕ) → get_or d v 0 ≡ 0
  -- what waits is named
  pub marked : Marked f d wait
  -- every arc into a node that is in
  pub relaxed : (j : ℕ) → j < length f.arcs → a < get_or f.entry (to_at f.arcs j) 0 → Relaxed f d j

-- a spread keeps the lengths, and each push lowers the count of low labels
pub record Kept (l : ℕ) (d₀ stack₀ wait₀ : List ℕ) (top₀ : ℕ) (d stack wait : List ℕ) (top : ℕ) : Type 0 where
  -- as many labels
  pub long : length d ≡ length d₀
  -- the stack as long
  pub long-stack : length stack ≡ length stack₀
  -- as many marks
  pub long-wait : length wait ≡ length wait₀
  -- what a level has left to do has not grown
  pub less : top + 2 * low l d ≤ top₀ + 2 * low l d₀

-- what the two slices hold of it: the capacities, class 1 in the first half and class 2 in the second, and the chains of arcs behind as many heads
pub record Lent (f : Graph) (capacities links : List ℕ) : Type 0 where
  -- room for every node
  pub long : length f.entry ≤ length capacities / 2
  pub short : length capacities ≤ 2 * max_elements
  -- class 1 capacities
  pub entries : (v : ℕ) → v < length f.entry → get_or capacities v 0 ≡ get_or f.entry v 0
  -- class 2 capacities
  pub caps : (v : ℕ) → v < length f.entry → get_or capacities (length capacities / 2 + v) 0 ≡ get_or f.cap v 0
  -- the chains
  pub chains : Linked (length capacities / 2) f.arcs links

-- what `spread` is given: a node at work at the head of its chain
pub record Ready (f : Graph) (net : Net) (at : Step) (d stack wait : List ℕ) : Type 0 where
  -- what the search is given
  pub lent : Lent f net.capacities.now net.links.now
  -- the labels
  pub work : Work f (at.x.0 - 1) at.level.0 d stack wait at.top at.node (head_at net.links.now at.node)
  -- x is a position
  pub some : 0 < at.x.0
  -- the node at work is one
  pub node : at.node < length f.entry
  -- the stack holds every node
  pub room : length d ≤ length stack

-- what `drain` and `flood` are given: a node with the level for a label
pub record Floodable (f : Graph) (net : Net) (at : Step) (d stack wait : List ℕ) : Type 0 where
  -- what the search is given
  pub lent : Lent f net.capacities.now net.links.now
  -- its source
  pub source : at.source ≡ f.source
  -- the labels, with the node alone on the stack
  pub work : Work f (at.x.0 - 1) at.level.0 d (at.node ∷ []) wait 1 0 0
  -- x is a position
  pub some : 0 < at.x.0
  -- both ends are in
  pub begun : at.x.0 ≤ start f
  -- the stack holds every node
  pub room : length d ≤ length stack

pub record Lengths (d₀ stack₀ wait₀ d stack wait : List ℕ) : Type 0 where
  -- as many labels
  pub labels : length d ≡ length d₀
  -- the stack as long
  pub pile : length stack ≡ length stack₀
  -- as many marks
  pub levels : length wait ≡ length wait₀
