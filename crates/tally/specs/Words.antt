-- The words of a tally written out.
use Rattle.std.specs.Prelude.{List, [], ◌∷◌, ◌++◌, ℕ, ◌+◌}
use Rattle.soundness.specs.Tally.{width, cell_sum}
use Rattle.cells.specs.Cells.{cell_rows}

-- the words in front of the cells c
abbrev pub heading : ℕ → ℕ → ℕ → (ℕ → ℕ → ℕ) → List ℕ
heading n1 n2 m c = n1 ∷ n2 ∷ m ∷ cell_sum n1 n2 c ∷ []

abbrev pub tally_of : ℕ → ℕ → ℕ → (ℕ → ℕ → ℕ) → List ℕ
tally_of n1 n2 m c = heading n1 n2 m c ++ cell_rows (n1 + 1) (width n2) c
