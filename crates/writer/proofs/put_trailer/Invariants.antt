-- `writer::put_trailer`: k numbers are written.
use mathlib.Core.Path.{◌≡◌}
use lib.ListN.{take}
use Rattle.slices.specs.Bytes.{words_bytes}
use Rattle.slices.specs.Steps.{placed}
use Rattle.writer.proofs.put_trailer.Given as goal

abbrev pub invariant-loop-k : goal.invariant-loop-k
invariant-loop-k l = l.out ≡ placed l.at (words_bytes (take l.k l.n-items)) l.initial.out
