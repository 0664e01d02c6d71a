-- `sweep::next_in` goes down from x: no node of a place from r on has a label above `last`.
use Prim.Native.Nat.{ℕ, ◌+◌, ◌-◌, ◌≤◌, ◌<◌}
use lib.ListN.{get_or}
use Rattle.sweep.proofs.next_in.Given as goal

abbrev pub invariant-loop-r : goal.invariant-loop-r
invariant-loop-r l = (k : ℕ) → l.r ≤ k + 1 → k < l.fn.x.0 - 1 → get_or l.label (get_or l.order k 0) 0 ≤ l.fn.last.0
