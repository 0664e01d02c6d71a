-- A tally (document 01, "Tally"; 02, S-5): words n1, n2, M, the score, and then the cells by l1, and within it l2.
use Rattle.std.specs.Prelude.{◌≡◌, Bool, not, ◌&&◌, ◌||◌, List, [], ◌∷◌, ℕ, ◌+◌, ◌*◌, ◌≤◌, eqb, leb, ltb, length, get_or}
use Rattle.limits.specs.Limits.{max_rounds, max_class}
use Rattle.laws.specs.Every.{every}
use Rattle.laws.specs.Sums.{sum_to}
use Rattle.answer.specs.Outcome.{Outcome, outcome}
use Rattle.chance.specs.Chance.{Grows}

-- how many words stand in front of the cells, and the places of M and of the score
abbrev pub head_words : ℕ
head_words = 4

abbrev pub rounds_place : ℕ
rounds_place = 2

abbrev pub score_place : ℕ
score_place = 3

-- n1, n2, M and the score
abbrev pub tally_size1 : List ℕ → ℕ
tally_size1 t = get_or t 0 0

abbrev pub tally_size2 : List ℕ → ℕ
tally_size2 t = get_or t 1 0

abbrev pub rounds : List ℕ → ℕ
rounds t = get_or t rounds_place 0

abbrev pub tally_score : List ℕ → ℕ
tally_score t = get_or t score_place 0

-- the words of a row of cells, and of a whole tally
abbrev pub width : ℕ → ℕ
width n2 = n2 + 1

abbrev pub words : ℕ → ℕ → ℕ
words n1 n2 = head_words + (n1 + 1) * width n2

-- the words of the largest tally
abbrev pub largest : ℕ
largest = words max_class max_class

abbrev pub cell : List ℕ → ℕ → ℕ → ℕ
cell t l1 l2 = get_or t (head_words + (l1 * width (tally_size2 t) + l2)) 0

-- "the sum of all cells"
abbrev pub cell_sum : ℕ → ℕ → (ℕ → ℕ → ℕ) → ℕ
cell_sum n1 n2 c = sum_to (n1 + 1) (λ l1. sum_to (width n2) (c l1))

-- ---- NUMBERS 21 AND 22
-- "tally slice under 3 words, or sizes at most 64 and cells don't fit"; 02: "the length tests count four words"
abbrev pub lacks_room : List ℕ → Bool
lacks_room t =
    ltb (length t) head_words
    || (leb (tally_size1 t) max_class && leb (tally_size2 t) max_class && ltb (length t) (words (tally_size1 t) (tally_size2 t)))

-- a cell is not above M, and not above the next in l1 and in l2
abbrev pub fair : List ℕ → ℕ → ℕ → Bool
fair t l1 l2 =
    leb (cell t l1 l2) (rounds t)
    && (leb (tally_size1 t) l1 || leb (cell t l1 l2) (cell t (l1 + 1) l2))
    && (leb (tally_size2 t) l2 || leb (cell t l1 l2) (cell t l1 (l2 + 1)))

-- "sound when n1 and n2 are at most 64, M at most 100,000, no cell is above M, and no cell falls as l1 or l2 grows";
-- 02: "Sound now includes that the word equals the sum"
abbrev pub is_sound : List ℕ → Bool
is_sound t =
    leb (tally_size1 t) max_class && leb (tally_size2 t) max_class && leb (rounds t) max_rounds
    && every (tally_size1 t + 1) (λ l1. every (tally_size2 t + 1) (λ l2. fair t l1 l2))
    && eqb (tally_score t) (cell_sum (tally_size1 t) (tally_size2 t) (cell t))

-- what the test says
pub record Sound (t : List ℕ) : Type 0 where
  -- n1 and n2 are at most 64, M at most 100,000
  pub small1 : tally_size1 t ≤ max_class
  pub small2 : tally_size2 t ≤ max_class
  pub few : rounds t ≤ max_rounds
  -- no cell is above M, and none falls as l1 or l2 grows
  pub grows : Grows (tally_size1 t) (tally_size2 t) (rounds t) (cell t)
  -- the score is the sum of the cells
  pub total : tally_score t ≡ cell_sum (tally_size1 t) (tally_size2 t) (cell t)

-- ---- A TALLY'S STATE (21, 22)
abbrev pub state_tests : List ℕ → List (ℕ × Bool)
state_tests t = (21, lacks_room t) ∷ (22, not (is_sound t)) ∷ []

abbrev pub state_answer : List ℕ → Outcome
state_answer t = outcome (state_tests t) (0 ∷ [])
