-- STEPS: what proofs and the contracts between our crates speak of. Nobody has to believe these: no promise to a caller cites them.
use Rattle.std.specs.Prelude.{◌≡◌, Bool, ◌&&◌, List, ℕ, suc, ◌-◌, ◌/◌, ◌≤◌, ◌<◌, ltb, length, get_or}
use Rattle.front.specs.Front.{holds, AllWithin}
use Rattle.network.specs.Walk.{route_pairs}
use Rattle.chains.specs.Steps.{max_elements}
use Rattle.relax.specs.declared.Net.{Net}
use Rattle.relax.specs.declared.Step.{Step}
use Rattle.relax.specs.Steps.{Graph, graph_network, Laid, Lent, start}

-- where the network holds, and what of it lies below x failures of class 1
abbrev pub whole : Graph → ℕ → ℕ → Bool
whole f a b = holds (route_pairs (graph_network f)) a b

abbrev pub held_below : Graph → ℕ → ℕ → ℕ → Bool
held_below f x a b = ltb a x && whole f a b

-- the class 1 order: at each place the one node of that position
pub record ByOrder (f : Graph) (order : List ℕ) : Type 0 where
  -- a place for every position
  pub long : f.n1 ≤ length order
  -- a node at each
  pub node : (k : ℕ) → k < f.n1 → get_or order k 0 < length f.entry
  -- whose position it is
  pub place : (k : ℕ) → k < f.n1 → get_or f.entry (get_or order k 0) 0 ≡ suc k
  -- and no other node's
  pub alone : (k v : ℕ) → k < f.n1 → v < length f.entry → get_or f.entry v 0 ≡ suc k → get_or order k 0 ≡ v

-- what the sweep is given: a network as the slices hold it, the class 1 order, and the first step
pub record Sweepable (f : Graph) (net : Net) (order : List ℕ) (n2 : ℕ) (begin : Step) : Type 0 where
  -- nodes, arcs and capacities
  pub laid : Laid f
  -- as the slices hold them
  pub lent : Lent f net.capacities.now net.links.now
  -- the class 1 order
  pub by_order : ByOrder f order
  -- the class sizes
  pub sizes : (length order ≡ f.n1) × (n2 ≡ f.n2)
  -- no route's pair is out of range
  pub within : AllWithin f.n1 f.n2 (route_pairs (graph_network f))
  -- both ends are in at x, and at no larger one
  pub begins : begin.x.0 ≡ start f
  -- which is a position
  pub some : 0 < begin.x.0
  -- its source
  pub source : begin.source ≡ f.source
  -- the target enters first
  pub enters : f.target ≡ begin.node

-- the labels and the stack that it is lent: no label yet, and room for every node
pub record Blank (capacities label stack : List ℕ) : Type 0 where
  -- a label for every node
  pub long : length capacities / 2 ≤ length label
  -- no more labels than nodes can be
  pub short : length label ≤ max_elements
  -- the stack holds every node
  pub room : length label ≤ length stack
  -- no node has a label
  pub none : (v : ℕ) → get_or label v 0 ≡ 0

-- no node of a place up to z has a label above `last`
abbrev pub NoneIn : List ℕ → List ℕ → ℕ → ℕ → Type 0
NoneIn order label z last = (k : ℕ) → k < z → get_or label (get_or order k 0) 0 ≤ last

-- the next node to enter: the largest place up to z whose node has a label above `last`
pub record NextIn (order label : List ℕ) (z last r : ℕ) : Type 0 where
  -- places are counted from 1
  pub some : 0 < r
  -- at most z
  pub most : r ≤ z
  -- no node of a later place has such a label
  pub none : (k : ℕ) → r ≤ k → k < z → get_or label (get_or order k 0) 0 ≤ last
  -- its own node has
  pub found : last < get_or label (get_or order (r - 1) 0) 0
