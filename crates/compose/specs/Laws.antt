-- The laws of series and parallel, byte for byte (document 01, "Row and side": free of order and grouping, a front joined with itself
-- gives it back, each spreads over the other).
use Rattle.std.specs.Prelude.{◌≡◌, ◌↔◌, ◌&&◌, ◌||◌, List, ℕ, ◌+◌, ◌≤◌, min, T}
use Rattle.record.specs.Record.{record_size1, record_size2, pair_count, is_record, record_holds}
use Rattle.compose.specs.Compose.{series_bytes, parallel_bytes}

-- x is a record of the class sizes n1 and n2
pub record Sized (n1 n2 : ℕ) (x : List ℕ) : Type 0 where
  pub is : T (is_record x)
  pub one : record_size1 x ≡ n1
  pub two : record_size2 x ≡ n2

-- what holds of any three records of the same class sizes
pub record Laws (n1 n2 : ℕ) (x y z : List ℕ) : Type 0 where
  -- the outcome is a record of those sizes again
  pub series-sized : Sized n1 n2 (series_bytes x y)
  pub parallel-sized : Sized n1 n2 (parallel_bytes x y)
  -- series holds exactly where both records do, parallel exactly where one does
  pub series-holds : (a b : ℕ) → record_holds (series_bytes x y) a b ≡ (record_holds x a b && record_holds y a b)
  pub parallel-holds : (a b : ℕ) → record_holds (parallel_bytes x y) a b ≡ (record_holds x a b || record_holds y a b)
  -- free of order
  pub series-comm : series_bytes x y ≡ series_bytes y x
  pub parallel-comm : parallel_bytes x y ≡ parallel_bytes y x
  -- free of grouping
  pub series-assoc : series_bytes (series_bytes x y) z ≡ series_bytes x (series_bytes y z)
  pub parallel-assoc : parallel_bytes (parallel_bytes x y) z ≡ parallel_bytes x (parallel_bytes y z)
  -- joined with itself
  pub series-self : series_bytes x x ≡ x
  pub parallel-self : parallel_bytes x x ≡ x
  -- each spreads over the other
  pub series-over-parallel : series_bytes x (parallel_bytes y z) ≡ parallel_bytes (series_bytes x y) (series_bytes x z)
  pub parallel-over-series : parallel_bytes x (series_bytes y z) ≡ series_bytes (parallel_bytes x y) (parallel_bytes x z)
  -- records are equal exactly when they hold at the same counts
  pub equal : (x ≡ y) ↔ ((a b : ℕ) → a ≤ n1 → b ≤ n2 → record_holds x a b ≡ record_holds y a b)
  -- k is at most the smaller class size, plus one
  pub short : pair_count x ≤ min n1 n2 + 1
