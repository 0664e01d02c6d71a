-- `parts::look`: no byte before j is bad where none was found, and those of classes 1 and 2 before j are counted.
use mathlib.Core.Path.{◌≡◌, refl, ap, ◌∙◌}
use mathlib.Core.Bool.{Bool, true, false, ◌||◌, ◌&&◌}
use Prim.Native.Nat.{◌+◌, ◌*◌}
use native.Mathlib.Omega.{arith}
use mir.Val.{bool_byte}
use lib.Dec.{leb, eqb}
use lib.ListN.{get_or}
use Rattle.limits.specs.Limits.{arc_size}
use Rattle.laws.specs.Sums.{sum_to, sum_more}
use Rattle.laws.specs.Tests.{flag, flag-le}
use Rattle.parts.specs.Steps.{block_bytes, from_field}
use Rattle.parts.proofs.Blocks.{is_class1, is_class2, class1_at, class2_at, none-next, block-added}
use Rattle.parts.proofs.look.Goals as goal

-- a test as a number
as_flag : (b : Bool) → bool_byte b ≡ flag b
as_flag true = refl
as_flag false = refl

pub loop-j-preserved : goal.loop-j-preserved
loop-j-preserved c = let a = c.args in
    let l = c.loop-j in
    let at = arc_size * a.i in
    let field = get_or a.fields.now l.j 0 in
    let x = get_or a.arcs.now (at + l.j) 0 in
    let b = eqb field from_field && eqb x (get_or a.arcs.now (at + l.j + 1) 0) in
    let one = as_flag (is_class1 field x) in
    let two = as_flag (is_class2 field x) in (
      omega (arith, one, flag-le (is_class1 field x)),
      omega (arith, two, flag-le (is_class2 field x)),
      none-next a.n a.fields.now a.arcs.now at l.j l.bad (leb c.limit.result x || b) l.invariant.2 (ap (λ m. leb m x || b) c.limit.ensures),
      sum_more l.j l.n1 _ (class1_at a.fields.now a.arcs.now at) l.invariant.3 one,
      sum_more l.j l.n2 _ (class2_at a.fields.now a.arcs.now at) l.invariant.4 two,
    )

pub returns-else-bad : goal.returns-else-bad
returns-else-bad c = let a = c.args in
    let l = c.loop-j in
    let at = arc_size * a.i in
    let e : l.j ≡ block_bytes = omega arith in (
      omega arith,
      omega arith,
      block-added a.n a.fields.now a.arcs.now a.i l.n1 l.n2 c.requires.fields c.requires.room (λ k h. l.invariant.2 c.if-bad.false k (omega arith))
          (l.invariant.3 ∙ ap (λ j. sum_to j (class1_at a.fields.now a.arcs.now at)) e)
          (l.invariant.4 ∙ ap (λ j. sum_to j (class2_at a.fields.now a.arcs.now at)) e),
    )
