-- `sweep::sweep` goes down from x to x: what is collected, and what lies below x, hold where the network does.
use mathlib.Core.Path.{refl, ap, ap₂, ◌∙◌}
use mathlib.Core.List.{[]}
use Prim.Native.Nat.{◌+◌, ◌/◌}
use native.Mathlib.Omega.{arith}
use lib.ListN.{length, get_or}
use Rattle.record.specs.Record.{record_bytes}
use Rattle.buffer.specs.Steps.{record_in}
use Rattle.sweep.proofs.Turns.{begins-at, floodable, puttable, collected, ended, onward}
use Rattle.sweep.proofs.sweep.Goals as goal

pub loop-next-init : goal.loop-next-init
loop-next-init c =
    let b = c.args.begin in
    let caps = c.args.net.capacities.now in (
      λ f p.
          begins-at p.laid p.lent p.by_order p.within (ap record_in c.empty-found.ensures ∙ ap₂ (λ a b. record_bytes a b []) p.sizes.0 p.sizes.1) c.requires.blank
          b.x.0 p.begins p.some b.node (get_or caps (length caps / 2 + b.node) 0) p.enters refl,
      refl,
    )

pub bounds-label-node : goal.bounds-label-node
bounds-label-node c = let w = (c.loop-next.invariant.0 c.requires.network.0 c.requires.network.1).work in omega (arith, (w.pile 0 (omega arith)).node, w.long)

pub collect-requires : goal.collect-requires
collect-requires c =
    let f = c.requires.network.0 in
    let p = c.requires.network.1 in
    let l = c.loop-next.invariant.0 f p in
    λ h. puttable l (c.flood.ensures.settled f (floodable c.args.begin l refl p.source)) _ (ap (λ i. get_or c.flood.new.label i 0) p.source) h

pub returns-in_default : goal.returns-in_default
returns-in_default c = λ f p.
    let l = c.loop-next.invariant.0 f p in
    let settled = c.flood.ensures.settled f (floodable c.args.begin l refl p.source) in
    let is = ap (λ i. get_or c.flood.new.label i 0) p.source in
    let n = c.collect.ensures in
    ended l settled _ is (collected l settled _ is (λ h. ap (λ r. record_in r.bytes) (n.same h)) n.more) c.in_default.ensures

pub loop-next-preserved : goal.loop-next-preserved
loop-next-preserved c = (
  λ f p.
      let l = c.loop-next.invariant.0 f p in
      let settled = c.flood.ensures.settled f (floodable c.args.begin l refl p.source) in
      let is = ap (λ i. get_or c.flood.new.label i 0) p.source in
      let n = c.collect.ensures in
      onward l settled _ is (collected l settled _ is (λ h. ap (λ r. record_in r.bytes) (n.same h)) n.more) c.in-Some.ensures c.flood.ensures.long,
  omega (arith, c.loop-next.invariant.1, c.flood.ensures.long.levels),
)
