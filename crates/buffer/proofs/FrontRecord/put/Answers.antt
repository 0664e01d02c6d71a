-- `put` has four cases: the first pair, a pair that the last one covers, one that dominates it, and one behind it.
use mathlib.Core.Path.{◌≡◌, refl, sym, ap, ◌∙◌}
use Prim.Native.Nat.{◌-◌}
use native.Mathlib.Omega.{arith}
use lib.ListN.{length}
use Rattle.record.specs.Record.{longest}
use Rattle.buffer.proofs.Builds.{stored-long, room, wrote-first, wrote_nothing, wrote-over, wrote-behind}
use Rattle.buffer.proofs.FrontRecord.put.Goals as goal

pub returns-then-k-eq0 : goal.returns-then-k-eq0
returns-then-k-eq0 c =
    let old = c.args.self.now.bytes in
    let long : length old ≡ longest = omega arith in
    record { long = ap length c.place.ensures ∙ stored-long old 0 c.args.p ∙ long; front = wrote-first c.requires old refl long c.if-k-eq0.true c.place.ensures }

pub returns-then-covers : goal.returns-then-covers
returns-then-covers c =
    let old = c.args.self.now.bytes in
    let long : length old ≡ longest = omega arith in
    record { long = long; front = wrote_nothing c.requires old refl long (omega arith) c.pair_at-last.ensures (sym c.covers.ensures ∙ c.if-covers.true) }

pub returns-then-dominates : goal.returns-then-dominates
returns-then-dominates c =
    let old = c.args.self.now.bytes in
    let long : length old ≡ longest = omega arith in
    record {
      long = ap length c.place-then-dominates.ensures ∙ stored-long old _ c.args.p ∙ long;
      front = wrote-over c.requires old refl long (omega arith) c.pair_at-last.ensures (sym c.dominates.ensures ∙ c.if-dominates.true) c.place-then-dominates.ensures;
    }

pub place-requires-2 : goal.place-requires-2
place-requires-2 c =
    room c.requires c.args.self.now.bytes refl (omega arith) (omega arith) c.pair_at-last.ensures (sym c.covers.ensures ∙ c.if-covers.false) (sym c.dominates.ensures ∙ c.if-dominates.false)

pub returns : goal.returns
returns c =
    let old = c.args.self.now.bytes in
    let long : length old ≡ longest = omega arith in
    record {
      long = ap length c.place-2.ensures ∙ stored-long old _ c.args.p ∙ long;
      front = wrote-behind c.requires old refl long (omega arith) c.pair_at-last.ensures (sym c.covers.ensures ∙ c.if-covers.false) (sym c.dominates.ensures ∙ c.if-dominates.false) c.place-2.ensures;
    }
