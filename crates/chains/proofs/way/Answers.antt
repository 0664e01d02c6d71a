-- `chains::way`: adds one arc, or two halves.
use Rattle.chains.proofs.Links.{one-done, two-done}
use Rattle.chains.proofs.way.Goals as goal

pub returns-then-class-eq0 : goal.returns-then-class-eq0
returns-then-class-eq0 c = let a = c.args in let both = one-done a.class a.m a.u a.v a.d a.size c.requires.nodes c.requires.room c.if-class-eq0.true c.add.ensures in record { count = both.0; long = both.1.0; linked = both.1.1 }

pub returns : goal.returns
returns c = let a = c.args in let both = two-done a.class a.m a.u a.v a.d a.size c.requires.nodes c.requires.room c.if-class-eq0.false c.add-2.ensures c.add-3.ensures in record { count = both.0; long = both.1.0; linked = both.1.1 }
