-- STEPS: what proofs and the contracts between our crates speak of. Nobody has to believe these: no promise to a caller cites them.
use Rattle.std.specs.Prelude.{List, ℕ, ◌+◌, ◌*◌, ◌≤◌, T, set, take}
use Rattle.laws.specs.Members.{◌∈◌}
use Rattle.front.specs.declared.Pair.{Pair}
use Rattle.front.specs.Front.{Within}
use Rattle.record.specs.Record.{record_size1, record_size2, pair_count, listed, is_record}

-- the record that some bytes begin with
abbrev pub record_in : List ℕ → List ℕ
record_in b = take (3 + 2 * pair_count b) b

-- the bytes with p stored at a place, as the last pair then
abbrev pub stored : List ℕ → ℕ → Pair → List ℕ
stored b at p = set (set (set b 2 (at + 1)) (3 + 2 * at) p.p1.0) (3 + 2 * at + 1) p.p2.0

-- what `put` asks: r is a record, and p is in range and has the least p1
pub record Puttable (r : List ℕ) (p : Pair) : Type 0 where
  pub good : T (is_record r)
  pub inside : Within (record_size1 r) (record_size2 r) p
  pub least : (q : Pair) → q ∈ listed r → p.p1.0 ≤ q.p1.0
