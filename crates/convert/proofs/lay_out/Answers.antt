-- `convert::lay_out` writes each part behind those before it.
use mathlib.Core.Path.{refl, ap, ◌∙◌}
use mathlib.Core.List.{◌++◌, map}
use Prim.Native.Nat.{ℕ, ◌+◌, ◌*◌, ◌/◌}
use native.Mathlib.Omega.{arith}
use lib.ListN.{length, get_or, length-append, length-map}
use Rattle.limits.specs.Limits.{arc_size}
use Rattle.laws.specs.Members.{map_same}
use Rattle.orders.specs.Order.{place_in_class}
use Rattle.slices.proofs.Placing.{placed-then}
use Rattle.slices.specs.Bytes.{words_bytes}
use Rattle.slices.specs.Steps.{placed}
use Rattle.convert.specs.Old.{old_arc_size}
use Rattle.convert.specs.Convert.{with_kinds}
use Rattle.convert.proofs.Entries.{kinds-length}
use Rattle.convert.proofs.lay_out.Goals as goal

pub returns : goal.returns
returns c = let a = c.args in
    let d = a.out.now in
    let x = a.nodes.now in
    let y = with_kinds a.arcs.now in
    let said : ℕ → ℕ = λ v. get_or c.places.result v 0 in
    let z = map said a.rounds.now in
    let n = arc_size * (length a.arcs.now / old_arc_size) in
    let l = length-append x y in
    let m = length-append (x ++ y) z in
    let k = kinds-length a.arcs.now in
    let r = length-map a.rounds.now said in
    let table = map_same said (place_in_class x) a.rounds.now (λ v i. c.places.ensures v (c.requires.nodes.1 v i)) in
    let two = placed-then x y d (length x) refl (omega arith) c.put.ensures c.put_arcs.ensures in
    let three = placed-then (x ++ y) z d (length x + n) (omega arith) (omega arith) two c.put_rounds.ensures in
    placed-then (x ++ y ++ z) (words_bytes a.words) d (length x + n + length a.rounds.now) (omega arith) (omega arith) three c.put_trailer.ensures
    ∙ ap (λ b. placed 0 (x ++ y ++ b ++ words_bytes a.words) d) table
