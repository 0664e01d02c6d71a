-- STEPS: what proofs and the contracts between our crates speak of. Nobody has to believe these: no promise to a caller cites them.
use Rattle.std.specs.Prelude.{◌≡◌, List, [], ◌∷◌, ◌++◌, ℕ, ◌+◌, ◌-◌, ◌*◌, ◌≤◌, T, length, drop}
use Rattle.laws.specs.Tests.{flag}
use Rattle.answer.specs.Outcome.{Outcome, outcome}
use Rattle.record.specs.Record.{is_record, record_holds, record_size1, record_size2}
use Rattle.soundness.specs.Tally.{head_words, tally_size1, tally_size2, rounds, tally_score, words, cell, cell_sum, Sound}
use Rattle.cells.specs.Steps.{changed_word, CanChange, Fitting, CellsCanChange, changed_cell, held_cells}
use Rattle.tally.specs.Words.{tally_of}
use Rattle.tally.specs.Calls.{ready_tests}

abbrev pub ready_answer : List ℕ → List ℕ → Outcome
ready_answer r t = outcome (ready_tests r t) (0 ∷ [])

-- ---- add and remove as the code has them: `up` more and then `down` fewer in M and in each cell where the record holds; the score follows
pub record Changing (up down : ℕ) (r t : List ℕ) : Type 0 where
  -- the tally has its head, and the record fits
  pub long : head_words ≤ length t
  pub fits : Fitting (drop head_words t) r (tally_size1 t) (tally_size2 t)
  -- M and the cells where the record holds can be changed
  pub many : CanChange up down (rounds t)
  pub each : CellsCanChange up down r (tally_size1 t) (tally_size2 t) (drop head_words t)
  -- the score is the cells' sum, and can be changed by as many cells
  pub total : tally_score t ≡ cell_sum (tally_size1 t) (tally_size2 t) (cell t)
  pub sum : let n = held_cells r (tally_size1 t) (tally_size2 t) in CanChange (n * up) (n * down) (tally_score t)

abbrev pub changed_tally : ℕ → ℕ → List ℕ → List ℕ → List ℕ
changed_tally up down r t =
    let n1 = tally_size1 t in
    let n2 = tally_size2 t in
    tally_of n1 n2 (changed_word up down (rounds t)) (λ l1 l2. changed_cell up down r n1 n2 l1 l2 (cell t l1 l2)) ++ drop (words n1 n2) t

-- ---- the tally of a list of records, in whatever order
-- how many of them hold at (a, b)
abbrev pub holding : List (List ℕ) → ℕ → ℕ → ℕ
holding [] a b = 0
holding (r ∷ rs) a b = flag (record_holds r a b) + holding rs a b

-- at the front of a slice that was t₀
pub record Tallies (t₀ t : List ℕ) (n1 n2 : ℕ) (rs : List (List ℕ)) : Type 0 where
  -- of these class sizes
  pub one : tally_size1 t ≡ n1
  pub two : tally_size2 t ≡ n2
  -- M is the number of records
  pub many : rounds t ≡ length rs
  -- a cell is the number of records that hold there
  pub cells : (l1 l2 : ℕ) → l1 ≤ n1 → l2 ≤ n2 → cell t l1 l2 ≡ holding rs (n1 - l1) (n2 - l2)
  -- it is sound
  pub sound : Sound t
  -- words past the cells are as they were
  pub past : drop (words n1 n2) t ≡ drop (words n1 n2) t₀
  -- the slice is as long, and has room
  pub long : length t ≡ length t₀
  pub room : words n1 n2 ≤ length t₀

-- a record that fits the tally
abbrev pub Fits : ℕ → ℕ → List ℕ → Type 0
Fits n1 n2 r = T (is_record r) × (record_size1 r ≡ n1) × (record_size2 r ≡ n2)
