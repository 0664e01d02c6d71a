-- STEPS: what proofs and the contracts between our crates speak of. Nobody has to believe these: no promise to a caller cites them.
use Rattle.std.specs.Prelude.{◌≡◌, List, [], ◌∷◌, ℕ, ◌+◌, ◌*◌, ◌≤◌, ◌<◌, get_or}
use Rattle.laws.specs.Sums.{sum_to}
use Rattle.answer.specs.Outcome.{success}
use Rattle.soundness.specs.Tally.{rounds, width, state_answer}

-- a tally that can be rated
pub record Ratable (t : List ℕ) (p1 p2 : ℕ) : Type 0 where
  -- neither 21 nor 22
  pub fine : state_answer t ≡ success (0 ∷ [])
  -- both are chances
  pub ok1 : p1 ≤ 1000000
  pub ok2 : p2 ≤ 1000000
  -- some rounds
  pub some : 0 < rounds t

-- ---- as the code has it: a row of cells against weights
abbrev pub row_sum : List ℕ → ℕ → List ℕ → ℕ → ℕ
row_sum cells at v n = sum_to n (λ i. get_or v i 0 * get_or cells (at + i) 0)

abbrev pub rows_sum : List ℕ → List ℕ → List ℕ → ℕ → ℕ → ℕ
rows_sum cells u v n2 n = sum_to n (λ l1. get_or u l1 0 * row_sum cells (l1 * width n2) v (width n2))
