-- `reliability::rate_of` fills both rows of weights and adds up.
use mathlib.Core.Path.{◌≡◌, refl, ap, ◌∙◌}
use mathlib.Core.List.{◌++◌}
use Prim.Native.Nat.{◌+◌}
use native.Mathlib.Omega.{arith}
use lib.ListN.{drop, replicate, length-drop}
use Rattle.limits.specs.Limits.{max_class}
use Rattle.laws.specs.Parts.{tail-part}
use Rattle.chance.specs.Chance.{weights, rate_r}
use Rattle.soundness.specs.Tally.{head_words, tally_size1, tally_size2, rounds}
use Rattle.soundness.proofs.States.{state-sound, state-room}
use Rattle.reliability.proofs.Rates.{filled-long, row_fits, rows_fit, rows-sum}
use Rattle.reliability.proofs.rate_of.Goals as goal

pub total-sum-requires : goal.total-sum-requires
total-sum-requires c =
    let u-filled : let a = c.args in c.fill.new.out ≡ weights a.p1 (tally_size1 a.tally.now) ++ drop (tally_size1 a.tally.now + 1) (replicate (max_class + 1) 0) = c.fill.ensures in
    let v-filled : let a = c.args in c.fill-2.new.out ≡ weights a.p2 (tally_size2 a.tally.now) ++ drop (tally_size2 a.tally.now + 1) (replicate (max_class + 1) 0) = c.fill-2.ensures in
    let t = c.args.tally.now in
    let g = state-sound t c.requires.fine in
    rw (tail-part t head_words) (
      g.small1,
      g.small2,
      omega (arith, state-room t c.requires.fine, length-drop head_words t),
      filled-long c.args.p1 (tally_size1 t) (drop (tally_size1 t + 1) (replicate (max_class + 1) 0)) c.fill.new.out (u-filled),
      filled-long c.args.p2 (tally_size2 t) (drop (tally_size2 t + 1) (replicate (max_class + 1) 0)) c.fill-2.new.out (v-filled),
      row_fits c.args.tally.now c.requires.fine c.args.p1 c.args.p2 c.requires.ok1 c.requires.ok2
          (drop (tally_size1 t + 1) (replicate (max_class + 1) 0)) c.fill.new.out (u-filled) (drop (tally_size2 t + 1) (replicate (max_class + 1) 0)) c.fill-2.new.out (v-filled),
      rows_fit c.args.tally.now c.requires.fine c.args.p1 c.args.p2 c.requires.ok1 c.requires.ok2
          (drop (tally_size1 t + 1) (replicate (max_class + 1) 0)) c.fill.new.out (u-filled) (drop (tally_size2 t + 1) (replicate (max_class + 1) 0)) c.fill-2.new.out (v-filled),
    )

pub returns : goal.returns
returns c =
    let u-filled : let a = c.args in c.fill.new.out ≡ weights a.p1 (tally_size1 a.tally.now) ++ drop (tally_size1 a.tally.now + 1) (replicate (max_class + 1) 0) = c.fill.ensures in
    let v-filled : let a = c.args in c.fill-2.new.out ≡ weights a.p2 (tally_size2 a.tally.now) ++ drop (tally_size2 a.tally.now + 1) (replicate (max_class + 1) 0) = c.fill-2.ensures in
    let t = c.args.tally.now in
    let e = (rw (tail-part t head_words) at c.total-sum.ensures) ∙ rows-sum c.args.tally.now c.requires.fine c.args.p1 c.args.p2 c.requires.ok1 c.requires.ok2
    (drop (tally_size1 t + 1) (replicate (max_class + 1) 0)) c.fill.new.out (u-filled) (drop (tally_size2 t + 1) (replicate (max_class + 1) 0)) c.fill-2.new.out (v-filled) in
    (e, refl, ap (λ x. rate_r x (rounds t)) e)
