-- `search::search_round`: its orders by element may be searched, and what is found is the record of its front.
use mathlib.Core.Path.{refl, ap, ◌∙◌}
use native.Mathlib.Omega.{arith}
use Prim.Native.Nat.{ℕ}
use lib.ListN.{length, take}
use Rattle.search.specs.declared.Task.{Task}
use Rattle.search.proofs.Studies.{placed1, placed2, by-element1, by-element2, may-search, found}
use Rattle.search.proofs.search_round.Goals as goal

pub element_orders-requires : goal.element_orders-requires
element_orders-requires c = let g = c.requires.2 in
    record { few = (omega (arith, ap length g.nodes-are, g.within.nodes-most), g.long); orders = (placed1 g, placed2 g); room = ((omega (arith, (placed1 g).few), omega arith), (omega (arith, (placed2 g).few), omega arith)) }

pub search_orders-requires : goal.search_orders-requires
search_orders-requires c = let g = c.requires.2 in
    may-search _ g refl (c.element_orders.ensures.one ∙ by-element1 g) (c.element_orders.ensures.two ∙ by-element2 g)

pub returns : goal.returns
returns c = λ st r g.
    let n = c.element_orders in
    let at : ℕ × ℕ = (0, 0) in
    let task : Task =
    record {
      arcs = c.args.arcs;
      nodes = length c.args.nodes.now;
      order1 = record { ref_ptr = at; now = take (length c.args.order1.now) n.new.out1 };
      order2 = record { ref_ptr = at; now = take (length c.args.order2.now) n.new.out2 };
      source = c.args.source;
      target = c.args.target;
    } in
    c.search_orders.ensures ∙ found task g refl (n.ensures.one ∙ by-element1 g) (n.ensures.two ∙ by-element2 g)
