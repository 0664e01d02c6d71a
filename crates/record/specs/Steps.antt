-- STEPS: what proofs and the contracts between our crates speak of. Nobody has to believe these: no promise to a caller cites them.
use Rattle.std.specs.Prelude.{List, ℕ, ◌+◌, ◌*◌, get_or}
use Rattle.front.specs.declared.Pair.{Pair}
use Rattle.front.specs.Pair.{pair_of}

-- the pair at a place of a record; (0, 0), which holds nowhere, past its bytes
abbrev pub pair_at : List ℕ → ℕ → Pair
pair_at b i = pair_of (get_or b (3 + 2 * i) 0) (get_or b (4 + 2 * i) 0)
