-- `convert::put_arcs`: i entries are written.
use mathlib.Core.Path.{◌≡◌}
use Prim.Native.Nat.{◌*◌}
use lib.ListN.{take}
use Rattle.slices.specs.Steps.{placed}
use Rattle.convert.specs.Old.{old_arc_size}
use Rattle.convert.specs.Convert.{with_kinds}
use Rattle.convert.proofs.put_arcs.Given as goal

abbrev pub invariant-loop-i : goal.invariant-loop-i
invariant-loop-i l = l.out ≡ placed l.at (with_kinds (take (old_arc_size * l.i) l.arcs)) l.initial.out
