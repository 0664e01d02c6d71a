-- What an answer means in document 01 ("Numbers from the input", "Numbers from the state"): the values of a success, or the number of a refusal.
use Rattle.std.specs.Prelude.{Bool, true, false, List, [], ◌∷◌, ◌++◌, ℕ, Result, Ok, Err, ltb, length, drop}
use Rattle.laws.specs.First.{first_true}
use Rattle.answer.specs.declared.Refusal.{Refusal}
use Rattle.answer.specs.declared.Header.{Header}
use Rattle.answer.specs.declared.Rate.{Rate}
use Rattle.answer.specs.declared.Refusal.TheVariants as refusal

-- a success and its values, or a refusal and its number
pub data Outcome : Type 0 where
  success : List ℕ → Outcome
  refused : ℕ → Outcome

-- whether it is a success
abbrev pub succeeds : Outcome → Bool
succeeds (success values) = true
succeeds (refused n) = false

-- THE ANSWER OF A CALL, from its tests in document 01's order, each with its number, and the values of its success:
-- the first test that is true refuses
abbrev pub outcome : List (ℕ × Bool) → List ℕ → Outcome
outcome tests values = first_true refused (success values) tests

-- the slice that a call fills, afterwards: the bytes and then the rest as it was; on a refusal everything as it was
abbrev pub filled : Outcome → List ℕ → List ℕ → List ℕ
filled (success values) bytes old = bytes ++ drop (length bytes) old
filled (refused n) bytes old = old

-- A CALL THAT FILLS A SLICE OF BYTES: its tests, then 15, where the slice is shorter than the bytes; the length is its value
abbrev pub fill_tests : List (ℕ × Bool) → List ℕ → ℕ → List (ℕ × Bool)
fill_tests tests bytes room = tests ++ (15, ltb room (length bytes)) ∷ []

abbrev pub fill_answer : List (ℕ × Bool) → List ℕ → ℕ → Outcome
fill_answer tests bytes room = outcome (fill_tests tests bytes room) (length bytes ∷ [])

abbrev pub fill_out : List (ℕ × Bool) → List ℕ → List ℕ → List ℕ
fill_out tests bytes out = filled (fill_answer tests bytes (length out)) bytes out

-- ---- the enums of the code
-- the number of each refusal: document 01's, and from 31 on 02's
abbrev pub number_of : Refusal → ℕ
number_of refusal.FileLength = 1
number_of refusal.Counts = 2
number_of refusal.Ends = 3
number_of refusal.Sections = 4
number_of refusal.NodeClass = 5
number_of refusal.ClassSize = 6
number_of refusal.Arc = 8
number_of refusal.RoundsLength = 9
number_of refusal.RoundNumber = 10
number_of refusal.Order = 11
number_of refusal.NotRecord = 12
number_of refusal.SizesDiffer = 13
number_of refusal.Probability = 14
number_of refusal.OutputShort = 15
number_of refusal.TallyShort = 21
number_of refusal.TallyUnsound = 22
number_of refusal.TallySizes = 23
number_of refusal.TallyFull = 24
number_of refusal.NoRounds = 25
number_of refusal.NotRemovable = 31
number_of refusal.Kind = 32

-- what a call answers: the values of its success, or the number of its refusal
abbrev pub told : {A : Type 0} → (A → List ℕ) → Result A Refusal → Outcome
told values (Ok x) = success (values x)
told values (Err r) = refused (number_of r)

-- "search, row, side and writer the length written"
abbrev pub written : Result ℕ Refusal → Outcome
written = told (λ n. n ∷ [])

-- "fresh, add and weights 0"; so does remove (02: take)
abbrev pub done : Result Unit Refusal → Outcome
done = told (λ x. 0 ∷ [])

-- "opening N, A, M, s, t, n1, n2"
abbrev pub header_values : Header → List ℕ
header_values h = h.nodes ∷ h.arcs ∷ h.rounds ∷ h.source ∷ h.target ∷ h.n1 ∷ h.n2 ∷ []

abbrev pub opened : Result Header Refusal → Outcome
opened = told header_values

-- "ageing the chance"
abbrev pub aged : Result ℕ Refusal → Outcome
aged = told (λ p. p ∷ [])

-- score: a tally's fourth word (02, S-5)
abbrev pub scored : Result ℕ Refusal → Outcome
scored = told (λ n. n ∷ [])

-- reliability: S, M and R
abbrev pub rate_values : Rate → List ℕ
rate_values k = k.sum ∷ k.rounds ∷ k.rate ∷ []

abbrev pub rated : Result Rate Refusal → Outcome
rated = told rate_values
