-- The turns of the sweep: from one x to the next that matters.
use mathlib.Core.Path.{◌≡◌, refl, sym, ◌∙◌, subst}
use mathlib.Core.Logic.{⊎_elim}
use mathlib.Core.List.{List, [], ◌∷◌, ◌++◌}
use Prim.Native.Nat.{ℕ, zero, suc, ◌+◌, ◌-◌, ◌/◌, ◌≤◌, ◌<◌}
use native.Mathlib.Omega.{arith}
use lib.ListN.{length, get_or, set, replicate, length-set}
use lib.Seq.{get_or-set_same}
use Rattle.limits.specs.Limits.{max_position}
use Rattle.laws.specs.Tests.{T-ext, order as sides}
use Rattle.laws.specs.Members.{any_out}
use Rattle.laws.specs.Parts.{get_or-same}
use Rattle.front.specs.declared.pos.Pos.{Pos}
use Rattle.front.specs.Pair.{pair_of, holds_at}
use Rattle.front.specs.Front.{Within, AllWithin}
use Rattle.front.proofs.Pairs.{holds-is}
use Rattle.front.proofs.Fronts.{holds-fewer}
use Rattle.record.specs.Record.{record_size1, record_size2, listed, record_bytes, front_bytes}
use Rattle.buffer.specs.Steps.{Puttable}
use Rattle.buffer.proofs.Collects.{Collects, collects-none}
use Rattle.network.specs.Walk.{route_pairs}
use Rattle.relax.specs.declared.Net.{Net}
use Rattle.relax.specs.declared.Step.{Step}
use Rattle.relax.specs.Steps.{Graph, Laid, Work, Settled, Lent, Floodable, Lengths, graph_network, start}
use Rattle.labels.proofs.Drains.{skipped, entered, first-in}
use Rattle.labels.proofs.Settles.{settled-hold, at_first}
use Rattle.sweep.specs.Steps.{whole, held_below, ByOrder, NoneIn, NextIn, Blank}
use Rattle.sweep.proofs.Sweeps.{Height, held-below-is, same-height, rise-puttable, rise-height, all-collected}

-- the sweep at x, where `node` enters; `last` is the height after x failures
pub record Sweeping (f : Graph) (capacities links order label stack wait found : List ℕ) (x node last : ℕ) : Type 0 where
  -- the labels, with `node` about to spread its own
  pub work : Work f (x - 1) (get_or label node 0) label (node ∷ []) wait 1 0 0
  -- x is a position
  pub some : 0 < x
  -- both ends are in
  pub begun : x ≤ start f
  -- what the slices hold
  pub lent : Lent f capacities links
  -- the stack holds every node
  pub room : length label ≤ length stack
  -- the class 1 order
  pub by_order : ByOrder f order
  -- the height that was collected last
  pub height : Height f x last
  -- what is collected, and that the rest lies below x
  pub done : Collects f.n1 f.n2 (whole f) (held_below f x) x found
  -- no route's pair is out of range
  pub within : AllWithin f.n1 f.n2 (route_pairs (graph_network f))

-- past nodes whose label is not above that of the source nothing changes
module _ {f : Graph} {order : List ℕ} (o : ByOrder f order) {d wait buf : List ℕ} where
  down : (a r : ℕ) → r ≤ a → a < start f → Settled f a d wait → Collects f.n1 f.n2 (whole f) (held_below f a) a buf
      → ((k : ℕ) → r ≤ k → k < a → get_or d (get_or order k 0) 0 ≤ get_or d f.source 0) → Settled f r d wait × Collects f.n1 f.n2 (whole f) (held_below f r) r buf
  down zero r h b s c none = let e : 0 ≡ r = omega arith in subst (λ n. Settled f n d wait × Collects f.n1 f.n2 (whole f) (held_below f n) n buf) e (s, c)
  down (suc a) r h b s c none =
      ⊎_elim
      (λ (le : suc a ≤ r). let e : suc a ≡ r = omega arith in subst (λ n. Settled f n d wait × Collects f.n1 f.n2 (whole f) (held_below f n) n buf) e (s, c))
      (λ lt.
      let s' = skipped s b (get_or order a 0) (o.node a (omega arith)) (o.place a (omega arith)) (λ v. o.alone a v (omega arith)) (none a (omega arith) (omega arith)) in
      let y = get_or d f.source 0 in
      down a r (omega arith) (omega arith) s' (same-height f c a y y refl (settled-hold s' (omega arith)) (settled-hold s (omega arith)) (omega arith)) (λ k i j. none k i (omega arith)))
      (sides (suc a) r)

-- no height is above n2 + 1
height-most : (f : Graph) (a y : ℕ) → AllWithin f.n1 f.n2 (route_pairs (graph_network f)) → Height f a y → y ≤ suc f.n2
height-most f a y w h =
    ⊎_elim (λ le. le)
    (λ lt.
    let r = any_out (λ p. holds_at p a (suc f.n2)) (route_pairs (graph_network f)) ((h (suc f.n2)).1 lt) in
    absurd (omega (arith, w r.0 r.1, (holds-is r.0 a (suc f.n2)).0 r.2)))
    (sides y (suc f.n2))

-- the turn after a flood: the labels are settled, and y is the label of the source
module _ {f : Graph} {capacities links order label stack wait found : List ℕ} {x node last : ℕ} (w : Sweeping f capacities links order label stack wait found x node last)
    {label₁ wait₁ : List ℕ} (s : Settled f (x - 1) label₁ wait₁) (y : ℕ) (is : y ≡ get_or label₁ f.source 0) where
  early : x - 1 ≤ f.n1
  early = omega (arith, w.some, w.begun)

  now : Height f (x - 1) y
  now = rw is (settled-hold s early)

  up : x ≡ suc (x - 1)
  up = omega (arith, w.some)

  -- the pair (x, y), where it rises
  inside : last < y → Within f.n1 f.n2 (pair_of x y)
  inside h = omega (arith, w.some, w.begun, height-most f (x - 1) y w.within now)

  pub puttable : last < y → Puttable found (pair_of x y)
  puttable h = rise-puttable f w.done (x - 1) y last up now w.height h (inside h)

  -- what is collected then
  pub collected : {found₁ : List ℕ} → (y ≤ last → found₁ ≡ found) → (last < y → found₁ ≡ front_bytes (record_size1 found) (record_size2 found) (listed found ++ (pair_of x y ∷ [])))
      → Collects f.n1 f.n2 (whole f) (held_below f (x - 1)) (x - 1) found₁
  collected {found₁} same more =
      ⊎_elim
      (λ le. subst (λ b. Collects f.n1 f.n2 (whole f) (held_below f (x - 1)) (x - 1) b) (sym (same le)) (same-height f w.done (x - 1) y last up now w.height le))
      (λ lt. rise-height f w.done (x - 1) y last up now w.height lt (inside lt) (more lt)) (sides y last)

  module _ {found₁ : List ℕ} (c : Collects f.n1 f.n2 (whole f) (held_below f (x - 1)) (x - 1) found₁) where
    low : (r : ℕ) → r ≤ x - 1 → ((k : ℕ) → r ≤ k → k < x - 1 → get_or label₁ (get_or order k 0) 0 ≤ y) → Settled f r label₁ wait₁ × Collects f.n1 f.n2 (whole f) (held_below f r) r found₁
    low r most none = down w.by_order (x - 1) r most (omega (arith, w.some, w.begun)) s c (λ k i j. omega (arith, none k i j, is))

    -- no node is left that could raise the source's label
    pub ended : NoneIn order label₁ (x - 1) y → found₁ ≡ front_bytes f.n1 f.n2 (route_pairs (graph_network f))
    ended none = all-collected f (low 0 (omega arith) (λ k _ j. none k j)).1 w.within

    -- the next node enters
    pub onward : {stack₁ : List ℕ} {r : ℕ} → NextIn order label₁ (x - 1) y r → Lengths label stack wait label₁ stack₁ wait₁ → Sweeping f capacities links order label₁ stack₁ wait₁ found₁ r (get_or order (r - 1) 0) y
    onward {stack₁} {r} n k =
        let o = w.by_order in
        let v = get_or order (r - 1) 0 in
        let e : suc (r - 1) ≡ r = omega (arith, n.some) in
        let low = low r n.most n.none in
        let b : r - 1 < f.n1 = omega (arith, n.some, n.most, early) in
        let st : Settled f (suc (r - 1)) label₁ wait₁ = subst (λ i. Settled f i label₁ wait₁) (sym e) low.0 in
        record {
          work = entered st (omega (arith, n.some, n.most, w.some, w.begun)) v (o.node (r - 1) b) (o.place (r - 1) b) (λ u. o.alone (r - 1) u b) (omega arith) (omega (arith, n.found, is));
          some = n.some;
          begun = omega (arith, n.most, w.begun);
          lent = w.lent;
          room = omega (arith, w.room, k.labels, k.pile);
          by_order = o;
          height = rw is (settled-hold low.0 (omega (arith, n.most, early)));
          done = low.1;
          within = w.within;
        }

-- ---- the first turn: only the target has a label
module _ {f : Graph} {capacities links order found : List ℕ} (l : Laid f) (lent : Lent f capacities links) (o : ByOrder f order)
    (within : AllWithin f.n1 f.n2 (route_pairs (graph_network f)))
    (empty : found ≡ record_bytes f.n1 f.n2 []) {d pile : List ℕ} (blank : Blank capacities d pile) (x : ℕ) (is_x : x ≡ start f) (some : 0 < x) where
  settled : Settled f (start f) d (replicate (max_position + 1) 0)
  settled = at_first l (omega arith) (omega (arith, lent.long, blank.long)) blank.short (omega arith) blank.none (λ c. get_or-same (max_position + 1) c 0)

  -- an end is shut
  shut : Height f x 0
  shut b = (
    λ t.
        let r = any_out (λ p. holds_at p x b) (route_pairs (graph_network f)) t in
        let h = (holds-is r.0 x b).0 r.2 in
        let k : x ≤ f.n1 = omega (arith, within r.0 r.1) in
        omega (arith, (settled-hold (subst (λ i. Settled f i d (replicate (max_position + 1) 0)) (sym is_x) settled) k b).0 t, blank.none f.source),
    λ h. absurd (omega arith),
  )

  begins : (t y : ℕ) → f.target ≡ t → get_or f.cap t 0 ≡ y → Sweeping f capacities links order (set d t y) pile (replicate (max_position + 1) 0) found x t 0
  begins t y is-t is_y =
      let e : suc (x - 1) ≡ start f = omega arith in
      let in-d : t < length d = omega (arith, is-t, l.t-in, lent.long, blank.long) in
      let now : get_or (set d t y) t 0 ≡ y = get_or-set_same d t y 0 in-d in
      let st : Settled f (suc (x - 1)) d (replicate (max_position + 1) 0) = subst (λ i. Settled f i d (replicate (max_position + 1) 0)) (sym e) settled in
      record {
        work = rw now (first-in st t y is-t is_y (sym e) (omega arith));
        some = some;
        begun = omega arith;
        lent = lent;
        room = omega (arith, length-set d t y, blank.room);
        by_order = o;
        height = shut;
        done = collecting;
        within = within;
      }
    where
      collecting : Collects f.n1 f.n2 (whole f) (held_below f x) x found
      collecting =
          let c : Collects f.n1 f.n2 (held_below f x) (held_below f x) x found = collects-none l.small1 l.small2 empty in
          record {
            small1 = c.small1;
            small2 = c.small2;
            done = c.done;
            is = c.is;
            form = c.form;
            holding = λ u v. T-ext (whole f u v) (held_below f x u v) (
              λ t. ⊎_elim (λ (le : x ≤ u). absurd (omega (arith, (shut v).0 (holds-fewer (route_pairs (graph_network f)) x u v v le (omega arith) t)))) (λ lt. (held-below-is f x u v).1 (lt, t)) (sides x u),
              λ t. ((held-below-is f x u v).0 t).1,
            ) ∙ c.holding u v;
            above = c.above;
          }

  -- with the target's capacity as the code has it
  pub begins-at : (t y : ℕ) → f.target ≡ t → get_or capacities (length capacities / 2 + t) 0 ≡ y → Sweeping f capacities links order (set d t y) pile (replicate (max_position + 1) 0) found x t 0
  begins-at t y i z = begins t y i (sym (lent.caps t (omega (arith, i, l.t-in))) ∙ z)

-- `flood` may go on from the node that enters
pub floodable : (begin : Step) {f : Graph} {net : Net} {order label stack wait found : List ℕ} {x : Pos 1} {level : Pos 2} {node last : ℕ}
    → Sweeping f net.capacities.now net.links.now order label stack wait found x.0 node last → level.0 ≡ get_or label node 0 → begin.source ≡ f.source
    → Floodable f net (record begin { x = x; level = level; node = node; top = 0 }) label stack wait
floodable begin w e s = record { lent = w.lent; source = s; work = rw e w.work; some = w.some; begun = w.begun; room = w.room }
