-- `search::search_within`: positions and chains are what the sweep asks for, and its front is that of the orders.
use Prim.Native.Nat.{ℕ}
use native.Mathlib.Omega.{arith}
use lib.ListN.{length-replicate}
use Rattle.buffer.specs.Steps.{record_in}
use Rattle.search.proofs.Rounds.{may-sweep, is_front}
use Rattle.search.proofs.search_within.Goals as goal

pub sweep-requires-clause-network : goal.sweep-requires-clause-network
sweep-requires-clause-network g c =
    let q = c.requires in
    may-sweep q.given g.row.SIZE q.elements.0 q.elements.1 _ (omega (arith, length-replicate {A = ℕ} g.row.PLACES 0, q.places)) _ c.begin_at-begin.ensures.placed c.link.ensures

pub returns : goal.returns
returns g c =
    let q = c.requires in
    is_front q.given g.row.SIZE q.elements.0 q.elements.1 _ (omega (arith, length-replicate {A = ℕ} g.row.PLACES 0, q.places)) _ c.begin_at-begin.ensures.placed c.link.ensures (record_in c.sweep.result.bytes) c.sweep.ensures
