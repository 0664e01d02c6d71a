-- `orders::is_order`: the members before v stand once, so those from v on decide; of the scan for v, what was hit, and what stands from part k on, make the whole.
use mathlib.Core.Path.{◌≡◌, sym, ap, ◌∙◌}
use Prim.Native.Nat.{◌+◌, ◌*◌, ◌≤◌}
use native.Mathlib.Omega.{arith}
use lib.ListN.{length, drop}
use borrow.Author.Tests.{eq-eqb, ne_eqb}
use Rattle.slices.specs.Bytes.{part_at}
use Rattle.orders.specs.Order.{count}
use Rattle.orders.proofs.Scans.{count-next-part, count_room, count-room-end, stands-not, stands-once}
use Rattle.orders.proofs.is_order.Goals as goal
use Rattle.orders.proofs.is_order.Goals.{then-n-eq0, else-n-eq0}

pub loop-k-init : goal.loop-k-init
loop-k-init c = let a = c.args in
    let v = c.members.v in
    record {
      fits = c.members.invariant.0;
      at_most_once = omega arith;
      scan = record {
        misfit = λ h. sym (stands-not a.class a.order.now a.nodes.now v (omega arith) c.if-c-class.false c.members.invariant.1 (ne_eqb (count v a.order.now) 1 h));
        counted = omega (arith, ap (count v) c.put.ensures, count_room v 255 160 a.order.now (λ e. omega arith), count-next-part v c.put.new.out 32 0);
        behind = λ at h. ap (λ r. count v (drop at r)) c.put.ensures ∙ count-room-end v 255 160 a.order.now at (λ e. omega arith) h;
      };
    }

pub loop-k-preserved : goal.loop-k-preserved
loop-k-preserved c = let s = c.loop-k.invariant.scan in record {
  fits = c.loop-k.invariant.fits;
  at_most_once = grind arith;
  scan = record {
    misfit = s.misfit;
    counted = omega (arith, s.counted, c.hits_in-hits.ensures.0, count-next-part c.members.v c.put.new.out 32 (c.loop-k.k + 1));
    behind = s.behind;
  };
}

-- behind the last part nothing of the order stands
pub members-preserved : goal.members-preserved
members-preserved c = let a = c.args in
    let v = c.members.v in
    let k = c.loop-k.k in
    let s = c.loop-k.invariant.scan in
    let end : k ≡ c.if-n-eq0.last = omega arith in
    let covered : length a.order.now ≤ 32 * (k + 1) = elim c.if-n-eq0.branch [
      | then-n-eq0 w ↦ omega arith
      | else-n-eq0 w ↦ omega (arith, w.last-is, end)
    ] in
    let part = ap (λ j. count v (part_at (32 * j) 32 c.put.new.out)) end in
    let whole : count v a.order.now ≡ 1 = omega (arith, s.counted, s.behind (32 * (k + 1)) covered, part, c.hits_in-hits-in-members.ensures.0) in
    (c.loop-k.invariant.fits, stands-once a.class a.order.now a.nodes.now v (omega arith) c.if-c-class.false c.members.invariant.1 (eq-eqb (count v a.order.now) 1 whole))

pub returns-then-hits-ne-HIT : goal.returns-then-hits-ne-HIT
returns-then-hits-ne-HIT c = let a = c.args in
    let v = c.members.v in
    let k = c.loop-k.k in
    let s = c.loop-k.invariant.scan in
    let end : k ≡ c.if-n-eq0.last = omega arith in
    let covered : length a.order.now ≤ 32 * (k + 1) = elim c.if-n-eq0.branch [
      | then-n-eq0 w ↦ omega arith
      | else-n-eq0 w ↦ omega (arith, w.last-is, end)
    ] in
    let part = ap (λ j. count v (part_at (32 * j) 32 c.put.new.out)) end in
    s.misfit (λ e. omega (arith, e, s.counted, s.behind (32 * (k + 1)) covered, part, c.hits_in-hits-in-members.ensures.0, c.if-hits-ne-HIT.true))
