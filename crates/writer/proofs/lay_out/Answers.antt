-- `writer::lay_out` writes each part behind those before it.
use mathlib.Core.Path.{refl}
use mathlib.Core.List.{◌++◌}
use Prim.Native.Nat.{◌+◌}
use native.Mathlib.Omega.{arith}
use lib.ListN.{length, length-append}
use Rattle.slices.proofs.Placing.{placed-then}
use Rattle.slices.specs.Bytes.{words_bytes}
use Rattle.writer.proofs.lay_out.Goals as goal

pub returns : goal.returns
returns c =
    let a = c.args in
    let d = a.out.now in
    let x = a.nodes.now in
    let y = a.arcs.now in
    let z = a.rounds.now in
    let m = length-append x y in
    let n = length-append (x ++ y) z in
    let two = placed-then x y d (length x) refl (omega arith) c.put.ensures c.put-2.ensures in
    let three = placed-then (x ++ y) z d (length x + length y) m (omega arith) two c.put-3.ensures in
    placed-then (x ++ y ++ z) (words_bytes a.words) d (length x + length y + length z) (omega arith) (omega arith) three c.put_trailer.ensures
