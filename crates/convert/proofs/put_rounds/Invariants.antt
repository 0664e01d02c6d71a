-- `convert::put_rounds`: i bytes are written.
use mathlib.Core.Path.{◌≡◌}
use mathlib.Core.List.{List, map}
use Prim.Native.Nat.{ℕ}
use lib.ListN.{get_or}
use lib.Seq.{paste}
use Rattle.convert.proofs.put_rounds.Given as goal

-- what the table says
abbrev pub said : List ℕ → ℕ → ℕ
said place v = get_or place v 0

abbrev pub invariant-loop-i : goal.invariant-loop-i
invariant-loop-i l = l.out ≡ paste l.initial.out l.at (map (said l.place) l.rounds) l.i
