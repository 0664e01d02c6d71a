-- STEPS: what proofs and the contracts between our crates speak of. Nobody has to believe these: no promise to a caller cites them.
use Rattle.std.specs.Prelude.{List, ℕ, T}
use Rattle.record.specs.Record.{is_record}
use Rattle.compose.specs.Compose.{same_sizes}

-- two records that may be joined: neither 12 nor 13
pub record Joinable (x y : List ℕ) : Type 0 where
  pub left_is : T (is_record x)
  pub right_is : T (is_record y)
  pub same : T (same_sizes x y)
