-- `labels::next_level` goes down from the level: no level from m on waits.
use mathlib.Core.Path.{◌≡◌}
use Prim.Native.Nat.{ℕ, ◌≤◌, ◌<◌}
use lib.ListN.{get_or}
use Rattle.labels.proofs.next_level.Given as goal

abbrev pub invariant-loop-m : goal.invariant-loop-m
invariant-loop-m l = (c : ℕ) → l.m ≤ c → c < l.fn.level.0 → get_or l.wait c 0 ≡ 0
