-- What weights and ageing answer and leave (document 01, "Chances and reliability").
use Rattle.std.specs.Prelude.{Bool, List, [], ◌∷◌, ℕ, ◌+◌, ◌-◌, ◌*◌, ltb, length}
use Rattle.limits.specs.Limits.{max_class}
use Rattle.answer.specs.Outcome.{Outcome, outcome, filled}
use Rattle.chance.specs.Chance.{weights}

-- WEIGHTS for n nodes of chance p (6, 14, 15)
abbrev pub weights_tests : ℕ → ℕ → ℕ → List (ℕ × Bool)
weights_tests n p room = (6, ltb max_class n) ∷ (14, ltb 1000000 p) ∷ (15, ltb room (n + 1)) ∷ []

abbrev pub weights_answer : ℕ → ℕ → ℕ → Outcome
weights_answer n p room = outcome (weights_tests n p room) (0 ∷ [])

abbrev pub weights_out : ℕ → ℕ → List ℕ → List ℕ
weights_out n p out = filled (weights_answer n p (length out)) (weights p n) out

-- AGEING (14): "for age y in years, 0 to 30, 1,000,000 − 1,000 × y²"
abbrev pub ageing_answer : ℕ → Outcome
ageing_answer y = outcome ((14, ltb 30 y) ∷ []) ((1000000 - 1000 * (y * y)) ∷ [])
