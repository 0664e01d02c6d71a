-- `tally::add` passes on what the record or the tally is refused for, refuses a full tally, and raises the others.
use mathlib.Core.Path.{sym, ap, ◌∙◌}
use Rattle.answer.specs.Outcome.{done}
use Rattle.limits.specs.Limits.{max_rounds}
use Rattle.soundness.specs.Tally.{rounds}
use Rattle.tally.proofs.Changes.{can-change, add_is}
use Rattle.tally.specs.Calls.{added}
use borrow.Author.Tests.{eq-eqb, ne_eqb}
use lib.Dec.{eqb}
use native.Mathlib.Omega.{arith}
use Rattle.tally.proofs.Readies.{call-refused, ready-long, call-last, call-done}
use Rattle.tally.proofs.add.Goals as goal

pub returns-in-Err : goal.returns-in-Err
returns-in-Err c =
    let r = c.args.«record».now in
    let t = c.args.tally.now in
    let both = call-refused r t 24 (eqb (rounds t) max_rounds) (added r t) _ (sym c.ready.ensures ∙ ap done c.in-Err.is) in
    record { answer = both.0; slice = both.1 }

pub bounds-tally-2 : goal.bounds-tally-2
bounds-tally-2 c =
    let ok = sym c.ready.ensures ∙ ap done c.in_default.is in
    omega (arith, ready-long c.args.«record».now c.args.tally.now ok)

pub returns-then-tally-eq-FULL : goal.returns-then-tally-eq-FULL
returns-then-tally-eq-FULL c =
    let ok = sym c.ready.ensures ∙ ap done c.in_default.is in
    let r = c.args.«record».now in
    let t = c.args.tally.now in
    let both = call-last r t 24 (eqb (rounds t) max_rounds) (added r t) ok (eq-eqb (rounds t) max_rounds c.if-tally-eq-FULL.true) in
    record { answer = both.0; slice = both.1 }

pub change-requires : goal.change-requires
change-requires c =
    let ok = sym c.ready.ensures ∙ ap done c.in_default.is in
    can-change _ _ c.args.«record».now c.args.tally.now ok (omega arith) (omega arith) (λ l1 l2 h k y. omega arith)

pub returns : goal.returns
returns c =
    let ok = sym c.ready.ensures ∙ ap done c.in_default.is in
    let r = c.args.«record».now in
    let t = c.args.tally.now in
    let e = call-done r t 24 (eqb (rounds t) max_rounds) (added r t) ok (ne_eqb (rounds t) max_rounds c.if-tally-eq-FULL.false) in
    record { answer = e.0; slice = c.change.ensures ∙ add_is r t ∙ e.1 }
