-- `record::pairs_fit`: the pairs before i fit, so those from i on decide.
use mathlib.Core.Path.{◌≡◌}
use mathlib.Core.Bool.{◌&&◌}
use Rattle.laws.specs.Members.{all}
use Rattle.record.specs.Record.{listed, in_range, falling}
use Rattle.record.proofs.Scans.{fit_from}
use Rattle.record.proofs.valid.pairs_fit.Given as goal

abbrev pub invariant-loop-i : goal.invariant-loop-i
invariant-loop-i l = (all (in_range l.n1 l.n2) (listed l.bytes) && falling (listed l.bytes)) ≡ fit_from l.n1 l.n2 (listed l.bytes) l.last l.i
