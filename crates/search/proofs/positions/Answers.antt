-- `search::positions` fills in the places of an order from the last to the first.
use Rattle.search.proofs.Places.{place_none, inside, place-again, placed}
use mathlib.Core.Path.{refl, ◌∙◌}
use Prim.Native.Nat.{◌-◌}
use native.Mathlib.Omega.{arith}
use Rattle.search.proofs.positions.Goals as goal

pub loop-k-init : goal.loop-k-init
loop-k-init c = place_none c.requires.few.0 (rw c.fill.ensures.long c.requires.few.1) (rw c.fill.ensures.long c.requires.half.0) refl (rw c.fill.ensures.long c.fill.ensures.filled) (λ i b. refl)

pub bounds-capacities-at : goal.bounds-capacities-at
bounds-capacities-at c = (inside c.loop-k.invariant (c.loop-k.k - 1) (omega arith) _ refl).1

pub loop-k-preserved : goal.loop-k-preserved
loop-k-preserved c = place-again c.loop-k.invariant (c.loop-k.k - 1) (omega arith) _ refl _ (omega arith)

pub returns : goal.returns
returns c = let l = c.loop-k.invariant in record { long = l.size ∙ c.fill.ensures.long; placed = λ v b. placed l (omega arith) v (rw c.fill.ensures.long b); kept = λ i b. l.kept i b ∙ c.fill.ensures.kept i b }
