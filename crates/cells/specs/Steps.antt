-- STEPS: what proofs and the contracts between our crates speak of. Nobody has to believe these: no promise to a caller cites them.
use Rattle.std.specs.Prelude.{◌≡◌, Bool, cond, ◌&&◌, ◌||◌, List, [], ◌∷◌, ◌++◌, map, ℕ, ◌+◌, ◌-◌, ◌*◌, ◌≤◌, ◌<◌, max, T, eqb, leb, ltb, length, get_or, drop}
use Rattle.limits.specs.Limits.{max_position}
use Rattle.laws.specs.Members.{◌∈◌}
use Rattle.laws.specs.Every.{every}
use Rattle.front.specs.declared.Pair.{Pair}
use Rattle.front.specs.Pair.{pair_of}
use Rattle.record.specs.Record.{is_record, listed, record_holds, record_size1, record_size2}
use Rattle.soundness.specs.Tally.{width, cell_sum}
use Rattle.cells.specs.declared.Along.{Along}
use Rattle.cells.specs.declared.Along.TheVariants.{Rows, Columns}
use Rattle.cells.specs.Cells.{cell_rows, held}

-- ---- pairs as they are, for rows, or with their positions exchanged, for columns
abbrev pub exchange : Pair → Pair
exchange p = pair_of p.p2.0 p.p1.0

abbrev pub exchange_all : List Pair → List Pair
exchange_all l = map exchange l

abbrev pub turn : Along → Pair → Pair
turn Rows p = p
turn Columns p = exchange p

abbrev pub turn_all : Along → List Pair → List Pair
turn_all Rows l = l
turn_all Columns l = exchange_all l

-- ---- heights of a list of pairs, as the code has them
-- the largest p2 of the pairs with p1 above a, and of those with p1 = x; 0 where there is none
abbrev pub peak : List Pair → ℕ → ℕ
peak [] a = 0
peak (p ∷ l) a = max (cond (ltb a p.p1.0) p.p2.0 0) (peak l a)

abbrev pub peak_at : List Pair → ℕ → ℕ
peak_at [] x = 0
peak_at (p ∷ l) x = max (cond (eqb p.p1.0 x) p.p2.0 0) (peak_at l x)

-- ---- add and remove as the code has them: `up` more and then `down` fewer in each cell where the record holds
abbrev pub changed_word : ℕ → ℕ → ℕ → ℕ
changed_word up down x = x + up - down

-- it stays a word, and does not fall below 0
abbrev pub CanChange : ℕ → ℕ → ℕ → Type 0
CanChange up down x = (x + up < 4294967296) × (down ≤ x + up)

-- a record of these class sizes, and room for the cells
pub record Fitting (cells r : List ℕ) (n1 n2 : ℕ) : Type 0 where
  pub is : T (is_record r)
  pub one : record_size1 r ≡ n1
  pub two : record_size2 r ≡ n2
  pub room : (n1 + 1) * width n2 ≤ length cells

abbrev pub CellsCanChange : ℕ → ℕ → List ℕ → ℕ → ℕ → List ℕ → Type 0
CellsCanChange up down r n1 n2 cells =
    (l1 l2 : ℕ) → l1 ≤ n1 → l2 ≤ n2 → T (record_holds r (n1 - l1) (n2 - l2)) → CanChange up down (get_or cells (l1 * width n2 + l2) 0)

abbrev pub changed_cell : ℕ → ℕ → List ℕ → ℕ → ℕ → ℕ → ℕ → ℕ → ℕ
changed_cell up down r n1 n2 l1 l2 x = cond (record_holds r (n1 - l1) (n2 - l2)) (changed_word up down x) x

abbrev pub changed_cells : ℕ → ℕ → List ℕ → ℕ → ℕ → List ℕ → List ℕ
changed_cells up down r n1 n2 cells =
    cell_rows (n1 + 1) (width n2) (λ l1 l2. changed_cell up down r n1 n2 l1 l2 (get_or cells (l1 * width n2 + l2) 0)) ++ drop ((n1 + 1) * width n2) cells

-- how many cells the record holds in
abbrev pub held_cells : List ℕ → ℕ → ℕ → ℕ
held_cells r n1 n2 = cell_sum n1 n2 (held r n1 n2)

-- ---- the test of 31 as the code makes it: only where the record begins to hold, in a row or in a column, can the outcome fall
-- of n cells from `at` on, `step` apart: the first of the last z is above the one in front of it, or above 0 where there is none
abbrev pub starts_line : List ℕ → ℕ → ℕ → ℕ → ℕ → Bool
starts_line cells at n z step =
    leb z 0
    || cond (eqb z n) (ltb 0 (get_or cells (at + (n - z) * step) 0)) (ltb (get_or cells (at + (n - z) * step - step) 0) (get_or cells (at + (n - z) * step) 0))

-- in line k of `lines`, whose cells are where the pairs hold after lines − 1 − k failures
abbrev pub line_test : List Pair → ℕ → List ℕ → ℕ → ℕ → ℕ → ℕ → Bool
line_test l lines cells n stride step k = starts_line cells (k * stride) n (peak l (lines - 1 - k)) step

-- every row, and every column
abbrev pub edges_test : List ℕ → ℕ → ℕ → List ℕ → Bool
edges_test r n1 n2 cells =
    every (n1 + 1) (line_test (listed r) (n1 + 1) cells (width n2) (width n2) 1)
    && every (width n2) (line_test (exchange_all (listed r)) (width n2) cells (n1 + 1) 1 (width n2))

-- lines of cells, and a record whose pairs are within them
pub record Lines (cells r : List ℕ) (along : Along) (lines n stride step : ℕ) : Type 0 where
  pub is : T (is_record r)
  pub few : (lines ≤ max_position) × (0 < n) × (stride ≤ max_position)
  pub within : (p : Pair) → p ∈ turn_all along (listed r) → (p.p1.0 ≤ lines) × (p.p2.0 ≤ n)
  pub room : (k i : ℕ) → k < lines → i < n → k * stride + i * step < length cells
