-- STEPS: what proofs and the contracts between our crates speak of. Nobody has to believe these: no promise to a caller cites them.
-- Tables of the members of a class, and what a round's orders by element are made of.
use Rattle.std.specs.Prelude.{◌≡◌, List, ℕ, ◌+◌, ◌≤◌, ◌<◌, length, get_or, take}
use Rattle.limits.specs.Limits.{max_class}
use Rattle.laws.specs.Members.{◌∈◌}
use Rattle.orders.specs.Order.{count}
use Rattle.parts.specs.Study.{entries_from, elements}
use Rattle.split.specs.Steps.{member_at}

-- the classes of all elements, from node bytes and arc bytes: nodes by number, then arcs by place
abbrev pub elements_in : List ℕ → List ℕ → List ℕ
elements_in nodes arcs = elements nodes (entries_from arcs)

-- a place for each member, and one more, which is written and not counted
abbrev pub table_size : ℕ
table_size = max_class + 1

-- a table with the members of class c among the first e elements, n of them
pub record Tabled (c : ℕ) (classes table : List ℕ) (n e : ℕ) : Type 0 where
  pub upto : e ≤ length classes
  pub is-n : n ≡ count c (take e classes)
  pub room : count c classes < length table
  pub short : length table ≤ table_size
  pub at : (m : ℕ) → m < n → get_or table m 0 ≡ member_at c classes m

-- a table with all of them
abbrev pub Lists : ℕ → List ℕ → List ℕ → Type 0
Lists c classes table = (m : ℕ) → m < count c classes → get_or table m 0 ≡ member_at c classes m

-- an order of class c as the tables take it: as many places as members, and each names one
pub record ByPlace (c : ℕ) (classes order : List ℕ) : Type 0 where
  pub long : length order ≡ count c classes
  pub few : length order ≤ max_class
  pub small : (m : ℕ) → m ∈ order → m < length order

-- room for an order
abbrev pub Roomy : List ℕ → List ℕ → Type 0
Roomy order out = (length order ≤ length out) × (length out ≤ max_class)
