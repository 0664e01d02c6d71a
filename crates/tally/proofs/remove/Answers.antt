-- `tally::remove` passes on what the record or the tally is refused for, refuses what cannot be removed, and lowers the others.
use mathlib.Core.Path.{◌≡◌, sym, ap, ◌∙◌}
use mathlib.Core.Bool.{true, not}
use Prim.Native.Nat.{◌-◌}
use Rattle.answer.specs.Outcome.{done}
use Rattle.laws.specs.Tests.{flag_true}
use Rattle.record.specs.Record.{record_holds}
use Rattle.soundness.specs.Tally.{tally_size1, tally_size2}
use Rattle.tally.proofs.Changes.{can-change, remove-is}
use native.Mathlib.Omega.{arith}
use Rattle.tally.specs.Calls.{removed, removable}
use Rattle.tally.proofs.Readies.{call-refused, call-last, call-done, removable-means}
use Rattle.tally.proofs.remove.Goals as goal

pub returns-in-Err : goal.returns-in-Err
returns-in-Err c =
    let r = c.args.«record».now in
    let t = c.args.tally.now in
    let both = call-refused r t 31 (not (removable r t)) (removed r t) _ (sym c.ready.ensures ∙ ap done c.in-Err.is) in
    record { answer = both.0; slice = both.1 }

pub returns-then-not-can_remove : goal.returns-then-not-can_remove
returns-then-not-can_remove c =
    let ok = sym c.ready.ensures ∙ ap done c.in_default.is in
    let r = c.args.«record».now in
    let t = c.args.tally.now in
    let both = call-last r t 31 (not (removable r t)) (removed r t) ok (ap not (sym c.can_remove.ensures) ∙ (ap not c.if-not-can_remove.true)) in
    record { answer = both.0; slice = both.1 }

pub change-requires : goal.change-requires
change-requires c =
    let ok = sym c.ready.ensures ∙ ap done c.in_default.is in
    let can : let a = c.args in removable a.«record».now a.tally.now ≡ true = sym c.can_remove.ensures ∙ c.if-not-can_remove.false in
    let r = c.args.«record».now in
    let t = c.args.tally.now in
    let low = ((removable-means r t).0 (can)).0 in
    can-change _ _ r t ok (omega arith) (omega (arith, low.0)) (λ l1 l2 h k y. omega (arith, low.1 l1 l2 h k, flag_true (record_holds r (tally_size1 t - l1) (tally_size2 t - l2)) y))

pub returns : goal.returns
returns c =
    let ok = sym c.ready.ensures ∙ ap done c.in_default.is in
    let can : let a = c.args in removable a.«record».now a.tally.now ≡ true = sym c.can_remove.ensures ∙ c.if-not-can_remove.false in
    let r = c.args.«record».now in
    let t = c.args.tally.now in
    let e = call-done r t 31 (not (removable r t)) (removed r t) ok (ap not (can)) in
    record { answer = e.0; slice = c.change.ensures ∙ remove-is r t ∙ e.1 }
