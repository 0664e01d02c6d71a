-- `parts::bad_orders`: the rounds before r are good, so those from r on decide.
use mathlib.Core.Path.{◌≡◌}
use mathlib.Core.Bool.{Bool, ◌&&◌}
use mathlib.Core.List.{List}
use Prim.Native.Nat.{ℕ}
use lib.ListN.{take, drop}
use Rattle.laws.specs.Members.{all}
use Rattle.orders.specs.Order.{is_order_of}
use Rattle.parts.specs.Study.{pieces}
use Rattle.parts.proofs.Rounds.{good_from}
use Rattle.parts.proofs.bad_orders.Given as goal

-- the test of a round
abbrev pub good : List ℕ → List ℕ → ℕ → List ℕ → Bool
good classes1 classes2 n1 x = is_order_of 1 classes1 (take n1 x) && is_order_of 2 classes2 (drop n1 x)

abbrev pub invariant-loop-r : goal.invariant-loop-r
invariant-loop-r l = all (good l.classes1 l.classes2 l.n1) (pieces l.rounds l.n l.bytes) ≡ good_from (good l.classes1 l.classes2 l.n1) l.rounds l.n l.bytes l.r
