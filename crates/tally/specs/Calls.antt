-- What new (01: fresh), add and remove (02: take) answer and leave, and what score answers.
use Rattle.std.specs.Prelude.{Bool, not, ◌&&◌, ◌||◌, List, [], ◌∷◌, ◌++◌, ℕ, ◌+◌, ◌-◌, eqb, leb, ltb, length}
use Rattle.limits.specs.Limits.{max_rounds, max_class}
use Rattle.laws.specs.Every.{every}
use Rattle.answer.specs.Outcome.{Outcome, outcome, filled}
use Rattle.record.specs.Record.{is_record, record_size1, record_size2}
use Rattle.soundness.specs.Tally.{head_words, tally_size1, tally_size2, rounds, tally_score, words, cell, lacks_room, is_sound}
use Rattle.cells.specs.Cells.{held}
use Rattle.tally.specs.Words.{tally_of}

-- ---- NEW (6, 21)
abbrev pub new_tests : ℕ → ℕ → ℕ → List (ℕ × Bool)
new_tests n1 n2 room = (6, ltb max_class n1 || ltb max_class n2) ∷ (21, ltb room (words n1 n2)) ∷ []

abbrev pub new_answer : ℕ → ℕ → ℕ → Outcome
new_answer n1 n2 room = outcome (new_tests n1 n2 room) (0 ∷ [])

-- no front was added: M, the score and every cell are 0
abbrev pub new_out : ℕ → ℕ → List ℕ → List ℕ
new_out n1 n2 t = filled (new_answer n1 n2 (length t)) (tally_of n1 n2 0 (λ l1 l2. 0)) t

-- ---- what add and remove test first (12, 21, 22, 23)
abbrev pub fits_tally : List ℕ → List ℕ → Bool
fits_tally r t = eqb (record_size1 r) (tally_size1 t) && eqb (record_size2 r) (tally_size2 t)

abbrev pub ready_tests : List ℕ → List ℕ → List (ℕ × Bool)
ready_tests r t = (12, not (is_record r)) ∷ (21, lacks_room t) ∷ (22, not (is_sound t)) ∷ (23, not (fits_tally r t)) ∷ []

-- ---- ADD (12, 21, 22, 23, 24)
abbrev pub add_tests : List ℕ → List ℕ → List (ℕ × Bool)
add_tests r t = ready_tests r t ++ (24, eqb (rounds t) max_rounds) ∷ []

abbrev pub add_answer : List ℕ → List ℕ → Outcome
add_answer r t = outcome (add_tests r t) (0 ∷ [])

-- M and each cell where the record holds raised by 1; the score is told by the cells (`tally_of`)
abbrev pub added : List ℕ → List ℕ → List ℕ
added r t = tally_of (tally_size1 t) (tally_size2 t) (rounds t + 1) (λ l1 l2. cell t l1 l2 + held r (tally_size1 t) (tally_size2 t) l1 l2)

abbrev pub add_out : List ℕ → List ℕ → List ℕ
add_out r t = filled (add_answer r t) (added r t) t

-- ---- REMOVE (12, 21, 22, 23, 31)
-- M and each cell where the record holds lowered by 1
abbrev pub removed : List ℕ → List ℕ → List ℕ
removed r t = tally_of (tally_size1 t) (tally_size2 t) (rounds t - 1) (λ l1 l2. cell t l1 l2 - held r (tally_size1 t) (tally_size2 t) l1 l2)

-- M is at least 1, and each cell at least what would be taken from it: no difference in `removed` stops at 0
abbrev pub lowerable : List ℕ → List ℕ → Bool
lowerable r t =
    ltb 0 (rounds t)
    && every (tally_size1 t + 1) (λ l1. every (tally_size2 t + 1) (λ l2. leb (held r (tally_size1 t) (tally_size2 t) l1 l2) (cell t l1 l2)))

-- not 31, "if M or a cell to be lowered is 0, or the outcome isn't sound"
abbrev pub removable : List ℕ → List ℕ → Bool
removable r t = lowerable r t && is_sound (removed r t)

abbrev pub remove_tests : List ℕ → List ℕ → List (ℕ × Bool)
remove_tests r t = ready_tests r t ++ (31, not (removable r t)) ∷ []

abbrev pub remove_answer : List ℕ → List ℕ → Outcome
remove_answer r t = outcome (remove_tests r t) (0 ∷ [])

abbrev pub remove_out : List ℕ → List ℕ → List ℕ
remove_out r t = filled (remove_answer r t) (removed r t) t

-- ---- SCORE (21): the fourth word, whatever the cells are
abbrev pub score_tests : List ℕ → List (ℕ × Bool)
score_tests t = (21, ltb (length t) head_words) ∷ []

abbrev pub score_answer : List ℕ → Outcome
score_answer t = outcome (score_tests t) (tally_score t ∷ [])
