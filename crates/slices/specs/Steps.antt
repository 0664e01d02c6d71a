-- STEPS: what proofs and the contracts between our crates speak of. Nobody has to believe these: no promise to a caller cites them.
use Rattle.std.specs.Prelude.{List, ◌++◌, ℕ, ◌+◌, length, take, drop}

-- b with other bytes written over it from a place on
abbrev pub placed : ℕ → List ℕ → List ℕ → List ℕ
placed at bytes b = take at b ++ bytes ++ drop (at + length bytes) b
