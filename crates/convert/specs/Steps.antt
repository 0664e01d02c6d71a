-- STEPS: what proofs and the contracts between our crates speak of. Nobody has to believe these: no promise to a caller cites them.
use Rattle.std.specs.Prelude.{◌≡◌, List, ℕ, ◌<◌, length, get_or}
use Rattle.laws.specs.Members.{◌∈◌}
use Rattle.orders.specs.Order.{place_in_class}

-- every node that is named is one of n
abbrev pub NodesBelow : ℕ → List ℕ → Type 0
NodesBelow n rounds = (v : ℕ) → v ∈ rounds → v < n

-- a table of the nodes' places in their classes
abbrev pub PlaceTable : List ℕ → List ℕ → Type 0
PlaceTable nodes table = (v : ℕ) → v < length nodes → get_or table v 0 ≡ place_in_class nodes v
