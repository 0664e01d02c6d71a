-- `writer::put_trailer`: k numbers are written.
use mathlib.Core.Path.{ap, ◌∙◌}
use Prim.Native.Nat.{◌+◌, ◌*◌}
use native.Mathlib.Omega.{arith}
use lib.ListN.{get_or}
use Rattle.slices.proofs.Placing.{words-next}
use Rattle.slices.specs.Bytes.{word_bytes}
use Rattle.slices.specs.Steps.{placed}
use Rattle.writer.proofs.put_trailer.Goals as goal

pub loop-k-preserved : goal.loop-k-preserved
loop-k-preserved c = let a = c.args in
    let l = c.loop-k in
    c.put_word.ensures ∙ ap (placed (a.at + 4 * l.k) (word_bytes (get_or a.words l.k 0))) l.invariant ∙ words-next a.at a.words l.k a.out.now (omega arith) (omega arith)
