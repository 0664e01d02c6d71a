-- Series and parallel of two records (document 01, "Row and side"): what the two calls write, answer and leave.
use Rattle.std.specs.Prelude.{Bool, not, ◌&&◌, List, [], ◌∷◌, ℕ, eqb}
use Rattle.answer.specs.Outcome.{Outcome, fill_answer, fill_out}
use Rattle.front.specs.Front.{series_front, parallel_front}
use Rattle.record.specs.Record.{record_size1, record_size2, listed, record_bytes, is_record}

-- the record of the series (01: row) of two records, and of their parallel (01: side)
abbrev pub series_bytes : List ℕ → List ℕ → List ℕ
series_bytes x y = record_bytes (record_size1 x) (record_size2 x) (series_front (record_size1 x) (record_size2 x) (listed x) (listed y))

abbrev pub parallel_bytes : List ℕ → List ℕ → List ℕ
parallel_bytes x y = record_bytes (record_size1 x) (record_size2 x) (parallel_front (record_size1 x) (record_size2 x) (listed x) (listed y))

-- they agree in both class sizes
abbrev pub same_sizes : List ℕ → List ℕ → Bool
same_sizes x y = eqb (record_size1 x) (record_size1 y) && eqb (record_size2 x) (record_size2 y)

-- the tests of the two records
abbrev pub record_tests : List ℕ → List ℕ → List (ℕ × Bool)
record_tests x y = (12, not (is_record x && is_record y)) ∷ (13, not (same_sizes x y)) ∷ []

-- THE CALLS, "row and side (12, 13, 15)": series
abbrev pub series_answer : List ℕ → List ℕ → ℕ → Outcome
series_answer x y room = fill_answer (record_tests x y) (series_bytes x y) room

abbrev pub series_out : List ℕ → List ℕ → List ℕ → List ℕ
series_out x y out = fill_out (record_tests x y) (series_bytes x y) out

-- and parallel
abbrev pub parallel_answer : List ℕ → List ℕ → ℕ → Outcome
parallel_answer x y room = fill_answer (record_tests x y) (parallel_bytes x y) room

abbrev pub parallel_out : List ℕ → List ℕ → List ℕ → List ℕ
parallel_out x y out = fill_out (record_tests x y) (parallel_bytes x y) out
