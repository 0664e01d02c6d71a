-- STEPS: what proofs and the contracts between our crates speak of. Nobody has to believe these: no promise to a caller cites them.
use Rattle.std.specs.Prelude.{◌≡◌, List, ℕ, ◌+◌, ◌*◌, ◌/◌, ◌≤◌, ◌<◌, min, T, length, get_or}
use Rattle.limits.specs.Limits.{max_nodes, max_arcs, arc_size, arc_count, max_class}
use Rattle.laws.specs.Members.{◌∈◌}
use Rattle.record.specs.Record.{front_bytes}
use Rattle.orders.specs.Order.{order1, order2, is_round, position}
use Rattle.parts.specs.Study.{Entry, Arc, Study, study_elements, entries_from, WithinLimits}
use Rattle.network.specs.Walk.{route_pairs}
use Rattle.network.specs.Round.{round_at}
use Rattle.split.specs.Steps.{Ordered, order_network}
use Rattle.chains.specs.Steps.{max_elements, split_entries}
use Rattle.relax.specs.declared.Step.{Step}
use Rattle.search.specs.declared.Task.{Task}

-- the arcs of a task
abbrev pub task_arcs : Task → List Arc
task_arcs q = split_entries q.nodes 0 (entries_from q.arcs.now)

-- and the record of its front
abbrev pub task_front : Task → List ℕ
task_front q = front_bytes (length q.order1.now) (length q.order2.now)
    (route_pairs (order_network (task_arcs q) q.order1.now q.order2.now q.source q.target))

-- arc bytes between nodes, and two orders of elements: each element stands at one place of one order
pub record Searchable (q : Task) : Type 0 where
  -- 01: A
  pub few : length q.arcs.now ≤ arc_size * max_arcs
  -- 01: N
  pub small : q.nodes ≤ max_nodes
  -- entries lead between nodes
  pub ends : (x : Entry) → x ∈ entries_from q.arcs.now → (x.from < q.nodes) × (x.to < q.nodes)
  -- two arcs for each entry, and two more where it may fail
  pub many : length (task_arcs q) ≤ 2 * (arc_count q.arcs.now + length q.order1.now + length q.order2.now)
  -- 01: n1, n2
  pub small1 : length q.order1.now ≤ max_class
  pub small2 : length q.order2.now ≤ max_class
  -- arcs and orders are of elements
  pub ordered : Ordered (task_arcs q) q.order1.now q.order2.now q.source q.target (q.nodes + arc_count q.arcs.now)

-- what the slice of capacities, of a length, is filled from: orders of elements that have a place in each half
pub record Placeable (long : ℕ) (q : Task) : Type 0 where
  -- no more than elements can be
  pub most : long ≤ 2 * max_elements
  -- 01: n1, n2
  pub small1 : length q.order1.now ≤ max_class
  pub small2 : length q.order2.now ≤ max_class
  -- elements in the orders
  pub nodes1 : (k : ℕ) → k < length q.order1.now → get_or q.order1.now k 0 < long / 2
  pub nodes2 : (k : ℕ) → k < length q.order2.now → get_or q.order2.now k 0 < long / 2
  -- the ends
  pub ends : (q.source < long / 2) × (q.target < long / 2)

-- and what it is then, with the first step of the search
pub record Begins (long : ℕ) (q : Task) (capacities : List ℕ) (begin : Step) : Type 0 where
  -- as long as before
  pub same : length capacities ≡ long
  -- class 1 positions
  pub class1 : (v : ℕ) → v < long / 2 → get_or capacities v 0 ≡ position v q.order1.now
  -- class 2 positions
  pub class2 : (v : ℕ) → v < long / 2 → get_or capacities (long / 2 + v) 0 ≡ position v q.order2.now
  -- from the source
  pub source : begin.source ≡ q.source
  -- the target enters first
  pub target : begin.node ≡ q.target
  -- once both ends are in
  pub first : begin.x.0 ≡ min (get_or capacities q.source 0) (get_or capacities q.target 0)

-- a round of a study, as the code has it
pub record RoundGiven (st : Study) (r : ℕ) (nodes arcs o1 o2 : List ℕ) (s t : ℕ) : Type 0 where
  pub within : WithinLimits st
  pub good : T (is_round (study_elements st) (round_at st r))
  pub nodes-are : st.classes ≡ nodes
  pub entries-are : st.entries ≡ entries_from arcs
  pub long : length arcs ≤ arc_size * max_arcs
  pub order1-is : order1 (study_elements st) (round_at st r) ≡ o1
  pub order2-is : order2 (study_elements st) (round_at st r) ≡ o2
  pub source_is : st.source ≡ s
  pub target_is : st.target ≡ t
