-- When a tally written out is sound, and when two are the same: by the cells.
use mathlib.Core.Path.{◌≡◌, sym}
use mathlib.Core.Logic.{◌↔◌}
use mathlib.Core.List.{List, ◌++◌}
use Prim.Native.Nat.{ℕ, suc, ◌≤◌}
use native.Mathlib.Omega.{arith}
use Rattle.limits.specs.Limits.{max_rounds, max_class}
use Rattle.chance.specs.Chance.{Grows}
use Rattle.soundness.specs.Tally.{cell, Sound}
use Rattle.soundness.proofs.Totals.{total-same}
use Rattle.tally.specs.Words.{tally_of}
use Rattle.tally.proofs.Headings.{tally-cell}

pub grows_same : {n1 n2 m : ℕ} {c d : ℕ → ℕ → ℕ} → ((l1 l2 : ℕ) → l1 ≤ n1 → l2 ≤ n2 → c l1 l2 ≡ d l1 l2) → Grows n1 n2 m c → Grows n1 n2 m d
grows_same e g =
    record {
      below = λ l1 l2 h k. rw (← e l1 l2 h k) (g.below l1 l2 h k);
      first = λ l1 l2 h k. rw (← e l1 l2 (omega arith) k, ← e (suc l1) l2 (omega arith) k) (g.first l1 l2 h k);
      second = λ l1 l2 h k. rw (← e l1 l2 h (omega arith), ← e l1 (suc l2) h (omega arith)) (g.second l1 l2 h k);
    }

-- whatever stands behind it
pub tally-sound : (n1 n2 m : ℕ) (c : ℕ → ℕ → ℕ) (l : List ℕ) → Sound (tally_of n1 n2 m c ++ l) ↔ ((n1 ≤ max_class) × (n2 ≤ max_class) × (m ≤ max_rounds) × Grows n1 n2 m c)
tally-sound n1 n2 m c l = (
  λ s. (s.small1, s.small2, s.few, grows_same (tally-cell n1 n2 m c l) s.grows),
  λ k.
      let same : (l1 l2 : ℕ) → l1 ≤ n1 → l2 ≤ n2 → c l1 l2 ≡ cell (tally_of n1 n2 m c ++ l) l1 l2 = λ l1 l2 p q. sym (tally-cell n1 n2 m c l l1 l2 p q) in
      record { small1 = k.0; small2 = k.1; few = k.2; grows = grows_same same k.3; total = total-same n1 n2 c (cell (tally_of n1 n2 m c ++ l)) same },
)
