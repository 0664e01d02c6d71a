-- Lists of bytes, by a test that computes: what a machine can hold, for instances.
use mathlib.Core.Bool.{Bool, true, ◌&&◌}
use mathlib.Core.List.{List, [], ◌∷◌}
use Prim.Native.Nat.{ℕ}
use borrow.Author.Tests.{ltb-true}
use lib.Dec.{T, ltb}
use Rattle.laws.specs.Tests.{T_true, T_and}
use Rattle.runs.specs.Arguments.{Small, u8, All}

unfoldable pub all_bytes : List ℕ → Bool
all_bytes [] = true
all_bytes (x ∷ l) = ltb x 256 && all_bytes l

pub bytes-by : (l : List ℕ) → T (all_bytes l) → All (Small u8) l
unfolding all_bytes
bytes-by [] t = tt
bytes-by (x ∷ l) t = let k = (T_and (ltb x 256) (all_bytes l)).0 t in (ltb-true x 256 ((T_true (ltb x 256)).0 k.0), bytes-by l k.1)
