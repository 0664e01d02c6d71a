-- `labels::next_level` goes down from the level: no level from m on waits.
use mathlib.Core.Path.{◌≡◌, ap, ◌∙◌}
use mathlib.Core.Logic.{⊎_elim}
use Prim.Native.Nat.{◌-◌, ◌≤◌}
use native.Mathlib.Omega.{arith}
use lib.ListN.{get_or}
use Rattle.laws.specs.Tests.{order}
use Rattle.labels.proofs.next_level.Goals as goal

pub loop-m-preserved : goal.loop-m-preserved
loop-m-preserved c = λ k h i.
    let l = c.loop-m in
    ⊎_elim (λ (le : l.m ≤ k). l.invariant k le i)
    (λ lt. let e : k ≡ l.m - 1 = omega arith in ap (λ n. get_or c.args.wait.now n 0) e ∙ c.if-wait-m-ne0.false) (order l.m k)

pub returns-then-wait-m-ne0 : goal.returns-then-wait-m-ne0
returns-then-wait-m-ne0 c =
    record { above = omega arith; below = omega (arith, c.loop-m.auto.m); waiting = c.if-wait-m-ne0.true; last = λ k h i. c.loop-m.invariant k (omega arith) i }
