-- STEPS: what proofs and the contracts between our crates speak of. Nobody has to believe these: no promise to a caller cites them.
use Rattle.std.specs.Prelude.{◌≡◌, List, ℕ, ◌≤◌}
use Rattle.laws.specs.Members.{◌∈◌}
use Rattle.laws.specs.Pairwise.{Pairwise}
use Rattle.front.specs.declared.Pair.{Pair}
use Rattle.front.specs.Front.{holds, AllWithin, Falls, AtMost}

-- the pairs of a record: in range, and in order
pub record RecordForm (n1 n2 : ℕ) (l : List Pair) : Type 0 where
  pub within : AllWithin n1 n2 l
  pub falls : Pairwise Falls l

-- two lists hold at the same counts: a from 0 to n1, b from 0 to n2
abbrev pub SameCounts : ℕ → ℕ → List Pair → List Pair → Type 0
SameCounts n1 n2 l m = (a b : ℕ) → a ≤ n1 → b ≤ n2 → holds l a b ≡ holds m a b

-- each pair of l is at most some pair of m
abbrev pub Under : List Pair → List Pair → Type 0
Under l m = (p : Pair) → p ∈ l → (q : Pair) × (q ∈ m) × AtMost p q
