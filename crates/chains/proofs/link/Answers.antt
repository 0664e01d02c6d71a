-- `chains::link`: goes from entry to entry; what is in, and what is to come, are all arcs of the entries.
use Rattle.chains.proofs.Entries.{begun, nodes-in, room1, one_again, room2, two-again, all-linked}
use mathlib.Core.Path.{refl, sym, ◌∙◌}
use native.Mathlib.Omega.{arith}
use Rattle.chains.proofs.link.Goals as goal

pub loop-i-init : goal.loop-i-init
loop-i-init c = let a = c.args in (begun a.arcs.now a.nodes a.size a.links.now c.requires.few c.requires.room c.requires.ends c.requires.clear, refl)

pub way-d-requires : goal.way-d-requires
way-d-requires c = let k = c.loop-i.invariant.0 in record { nodes = nodes-in k (omega arith) _ _ 0 refl refl (sym c.if-kind-eq0.true); room = room1 k (omega arith) _ _ 0 refl refl (sym c.if-kind-eq0.true) }

pub loop-i-preserved-then-kind-eq0 : goal.loop-i-preserved-then-kind-eq0
loop-i-preserved-then-kind-eq0 c = let k = c.loop-i.invariant.0 in (one_again k (omega arith) _ _ 0 refl refl (sym c.if-kind-eq0.true) _ _ c.way-d.ensures.count c.way-d.ensures.long c.way-d.ensures.linked (omega arith), c.way-d.ensures.long ∙ c.loop-i.invariant.1)

pub way-d-requires-in-loop-i : goal.way-d-requires-in-loop-i
way-d-requires-in-loop-i c = let k = c.loop-i.invariant.0 in record { nodes = nodes-in k (omega arith) _ _ _ refl refl refl; room = room1 k (omega arith) _ _ _ refl refl refl }

pub loop-i-preserved-then-kind-lt3 : goal.loop-i-preserved-then-kind-lt3
loop-i-preserved-then-kind-lt3 c = let k = c.loop-i.invariant.0 in (one_again k (omega arith) _ _ _ refl refl refl _ _ c.way-d-in-loop-i.ensures.count c.way-d-in-loop-i.ensures.long c.way-d-in-loop-i.ensures.linked c.if-kind-lt3.true, c.way-d-in-loop-i.ensures.long ∙ c.loop-i.invariant.1)

pub way-d-requires-in-loop-i-2 : goal.way-d-requires-in-loop-i-2
way-d-requires-in-loop-i-2 c = let k = c.loop-i.invariant.0 in let n = nodes-in k (omega arith) _ _ _ refl refl refl in record { nodes = (n.1, n.0, n.2); room = room2 k (omega arith) _ _ _ refl refl refl _ _ c.way-d-in-loop-i.ensures.count c.way-d-in-loop-i.ensures.long c.way-d-in-loop-i.ensures.linked (omega (arith, c.if-kind-lt3.false)) }

pub loop-i-preserved : goal.loop-i-preserved
loop-i-preserved c = let k = c.loop-i.invariant.0 in (two-again k (omega arith) _ _ _ refl refl refl _ _ c.way-d-in-loop-i.ensures.count c.way-d-in-loop-i.ensures.long c.way-d-in-loop-i.ensures.linked _ _ c.way-d-in-loop-i-2.ensures.count c.way-d-in-loop-i-2.ensures.long c.way-d-in-loop-i-2.ensures.linked (omega (arith, c.if-kind-lt3.false)), c.way-d-in-loop-i-2.ensures.long ∙ c.way-d-in-loop-i.ensures.long ∙ c.loop-i.invariant.1)

pub returns : goal.returns
returns c = all-linked c.loop-i.invariant.0 (omega arith)
