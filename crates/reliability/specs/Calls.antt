-- What reliability answers (document 01, "Chances and reliability").
use Rattle.std.specs.Prelude.{Bool, ◌||◌, List, [], ◌∷◌, ◌++◌, ℕ, eqb, ltb}
use Rattle.answer.specs.Outcome.{Outcome, outcome}
use Rattle.chance.specs.Chance.{sum_s, rate_r}
use Rattle.soundness.specs.Tally.{tally_size1, tally_size2, rounds, cell, state_tests}

-- S of a tally at the chances p1 and p2
abbrev pub tally_s : List ℕ → ℕ → ℕ → ℕ
tally_s t p1 p2 = sum_s (tally_size1 t) (tally_size2 t) p1 p2 (cell t)

-- RELIABILITY (14, 21, 22, 25): S, M and R
abbrev pub rate_tests : List ℕ → ℕ → ℕ → List (ℕ × Bool)
rate_tests t p1 p2 = (14, ltb 1000000 p1 || ltb 1000000 p2) ∷ state_tests t ++ ((25, eqb (rounds t) 0) ∷ [])

abbrev pub rate_answer : List ℕ → ℕ → ℕ → Outcome
rate_answer t p1 p2 = outcome (rate_tests t p1 p2) (tally_s t p1 p2 ∷ rounds t ∷ rate_r (tally_s t p1 p2) (rounds t) ∷ [])
