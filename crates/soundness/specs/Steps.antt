-- STEPS: what proofs and the contracts between our crates speak of. Nobody has to believe these: no promise to a caller cites them.
use Rattle.std.specs.Prelude.{Bool, ◌&&◌, List, ℕ, ◌+◌, ◌*◌, ◌%◌, eqb, leb, get_or}
use Rattle.laws.specs.Every.{every}
use Rattle.laws.specs.Sums.{sum_to}
use Rattle.soundness.specs.Tally.{width}

-- ---- the test as the code has it, over the cells alone
-- each of `count` cells from `at` on is at most the one `step` places later
abbrev pub rises_by : List ℕ → ℕ → ℕ → ℕ → Bool
rises_by cells at step count = every count (λ i. leb (get_or cells (at + i) 0) (get_or cells (at + i + step) 0))

-- a number cut to a word, and the sum of `count` cells from `at` on
abbrev pub cut : ℕ → ℕ
cut n = n % 4294967296

abbrev pub sum_from : List ℕ → ℕ → ℕ → ℕ
sum_from cells at count = sum_to count (λ i. get_or cells (at + i) 0)

-- in each of n rows a cell is at most the next
abbrev pub rows_rise : List ℕ → ℕ → ℕ → Bool
rows_rise cells n2 n = every n (λ l1. rises_by cells (l1 * width n2) 1 n2)

-- the last cell is at most m, and no cell falls from row to row or within its row; and s is the cells' sum, cut to a word
abbrev pub cells_fair : List ℕ → ℕ → ℕ → ℕ → Bool
cells_fair cells n1 n2 m = leb (get_or cells (n1 * width n2 + n2) 0) m && (rises_by cells 0 (width n2) (n1 * width n2) && rows_rise cells n2 (n1 + 1))

abbrev pub is_fair : List ℕ → ℕ → ℕ → ℕ → ℕ → Bool
is_fair cells n1 n2 m s = cells_fair cells n1 n2 m && eqb s (cut (sum_from cells 0 ((n1 + 1) * width n2)))
