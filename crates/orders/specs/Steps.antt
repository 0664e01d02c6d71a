-- STEPS: what proofs and the contracts between our crates speak of. Nobody has to believe these: no promise to a caller cites them.
use Rattle.std.specs.Prelude.{Bool, ◌&&◌, List, ℕ, eqb, ltb, length, get_or}

-- the places that a step of the order test's inner scan looks at
abbrev pub scan_part : ℕ
scan_part = 32

-- e is an element of class c
abbrev pub is_member : ℕ → List ℕ → ℕ → Bool
is_member c classes e = ltb e (length classes) && eqb (get_or classes e 0) c
