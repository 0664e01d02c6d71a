-- The steps of `spread`'s loop, over lists: an arc that is relaxed, and the three kinds of raise.
use mathlib.Core.Path.{◌≡◌, refl, sym, ap, ◌∙◌, subst}
use mathlib.Core.Logic.{⊎_elim}
use mathlib.Core.Bool.{Bool, true, false, cond, ◌&&◌}
use mathlib.Core.List.{List, [], ◌∷◌}
use Prim.Native.Nat.{ℕ, zero, suc, ◌+◌, ◌-◌, ◌*◌, ◌/◌, ◌≤◌, ◌<◌, min}
use native.Mathlib.Omega.{arith}
use lib.Dec.{leb}
use lib.ListN.{length, get_or, set, length-set}
use lib.Seq.{get_or-set_same, get_or-set_other}
use borrow.Author.Tests.{le-leb, lt-leb}
use Rattle.limits.specs.Limits.{max_position}
use Rattle.laws.specs.Tests.{order, equal}
use Rattle.chains.specs.Steps.{from_at, to_at, start_at, more_at, Linked, max_elements, max_links}
use Rattle.relax.specs.Steps.{Walked, Graph, graph_network, low, Relaxed, Ripe, Why, relaxed, piled, waits, left, Marked, mark_at, growth, Work, Kept, Lent}
use Rattle.relax.proofs.Labels.{held-raise}
use Rattle.relax.proofs.Arcs.{arcs-in}

-- ---- the count of low labels
low-set : (l u y : ℕ) (d : List ℕ) → u < length d → get_or d u 0 < l → l ≤ y → low l (set d u y) + 1 ≡ low l d
low-set l u y [] h k i = absurd (omega arith)
low-set l zero y (x ∷ d) h k i = omega arith
low-set l (suc u) y (x ∷ d) h k i = omega (arith, low-set l u y d (omega arith) k i)

low-grow : (l u y : ℕ) (d : List ℕ) → u < length d → get_or d u 0 ≤ y → low l (set d u y) ≤ low l d
low-grow l u y [] h k = absurd (omega arith)
low-grow l zero y (x ∷ d) h k = omega arith
low-grow l (suc u) y (x ∷ d) h k = omega (arith, low-grow l u y d (omega arith) k)

low-some : (l u : ℕ) (d : List ℕ) → u < length d → get_or d u 0 < l → 1 ≤ low l d
low-some l u [] h k = absurd (omega arith)
low-some l zero (x ∷ d) h k = omega arith
low-some l (suc u) (x ∷ d) h k = omega (arith, low-some l u d (omega arith) k)

low-short : (l : ℕ) (d : List ℕ) → low l d ≤ length d
low-short l [] = omega arith
low-short l (x ∷ d) = omega (arith, low-short l d)

pub low-less : (l u : ℕ) (d : List ℕ) → u < length d → l ≤ get_or d u 0 → low l d < length d
low-less l u [] h k = absurd (omega arith)
low-less l zero (x ∷ d) h k = omega (arith, low-short l d)
low-less l (suc u) (x ∷ d) h k = omega (arith, low-less l u d (omega arith) k)

pub grown-one : (l c x e : ℕ) → growth l c x e ≤ 1
grown-one l c x e = go (leb l c && leb x e)
  where
    go : (b : Bool) → cond b 1 0 ≤ 1
    go true = omega arith
    go false = omega arith

-- ---- an arc that raises nothing is relaxed, and passed
module _ {f : Graph} {size : ℕ} {links : List ℕ} (ch : Linked size f.arcs links)
    {a l : ℕ} {d stack wait : List ℕ} {top v i : ℕ} (w : Work f a l d stack wait top v i) (p : ℕ) (is : i ≡ suc p) where
  arrives : to_at f.arcs p ≡ v
  arrives = let e : p ≡ i - 1 = omega arith in ap (to_at f.arcs) e ∙ (w.going (omega arith)).2

  down : more_at size links p < i
  down = ⊎_elim (λ le. omega arith) (λ lt. omega (arith, ch.back p (more_at size links p - 1) (omega (arith, (w.going (omega arith)).1)) (omega arith))) (order (more_at size links p) 0)

  pass : min l (get_or f.cap (from_at f.arcs p) 0) ≤ get_or d (from_at f.arcs p) 0 → Work f a l d stack wait top v (more_at size links p)
  pass q =
      record {
        laid = w.laid;
        long = w.long;
        short = w.short;
        long-wait = w.long-wait;
        held = w.held;
        early = w.early;
        some = w.some;
        high = w.high;
        at-t = w.at-t;
        fits = w.fits;
        pile = w.pile;
        going = λ h. let r = ch.back p (more_at size links p - 1) (omega (arith, (w.going (omega arith)).1)) (omega arith) in ((w.going (omega arith)).0, omega (arith, (w.going (omega arith)).1), r.1 ∙ arrives);
        marked = w.marked;
        why = λ j h e. go j (w.why j h e);
      }
    where
      here : Relaxed f d p
      here = omega (arith, q, ap (λ x. get_or d x 0) arrives, (w.going (omega arith)).0.at)

      go : (j : ℕ) → Why f l d stack wait top v i j → Why f l d stack wait top v (more_at size links p) j
      go j (relaxed x) = relaxed x
      go j (piled k h e) = piled k h e
      go j (waits x) = waits x
      go j (left e h) =
          ⊎_elim (λ le. let s : p ≡ j = omega arith in relaxed (subst (Relaxed f d) s here))
          (λ lt. left e (ch.gap j p lt (omega (arith, (w.going (omega arith)).1)) (e ∙ sym arrives))) (order p j)

-- ---- the start u of the arc numbered p is raised to c
module _ {f : Graph} {a l : ℕ} {d stack wait : List ℕ} {top v i : ℕ} (w : Work f a l d stack wait top v i) (p : ℕ) (is : i ≡ suc p)
    (u : ℕ) (is-u : u ≡ from_at f.arcs p) (c : ℕ) (is_c : c ≡ min l (get_or f.cap u 0)) (rise : get_or d u 0 < c) where
  in-arcs : p < length f.arcs
  in-arcs = omega (arith, (w.going (omega arith)).1)

  node : u < length f.entry
  node = rw is-u (w.laid.ends p in-arcs).0

  in-d : u < length d
  in-d = omega (arith, node, w.long)

  at-u : get_or (set d u c) u 0 ≡ c
  at-u = get_or-set_same d u c 0 in-d

  other : (x : ℕ) → (x ≡ u → ⊥) → get_or (set d u c) x 0 ≡ get_or d x 0
  other x = get_or-set_other d u x c 0

  grow : (x : ℕ) → get_or d x 0 ≤ get_or (set d u c) x 0
  grow x = ⊎_elim (λ e. omega (arith, at-u, rise, ap (λ k. get_or d k 0) e, ap (λ k. get_or (set d u c) k 0) e)) (λ n. omega (arith, other x n)) (equal x u)

  ripe : (x : ℕ) → Ripe f a l d x → Ripe f a l (set d u c) x
  ripe x r = record { node = r.node; at = other x (λ e. omega (arith, ap (λ k. get_or d k 0) e, r.at, rise, is_c)) ∙ r.at; in-it = r.in-it }

  -- a level that waits is the label of its node, which is full
  mark : Marked f (set d u c) wait
  mark x y pos h =
      let m = w.marked x y pos h in
      record {
        some = m.some;
        below = m.below;
        node = m.node;
        label = other y (λ e. omega (arith, m.label, m.full, rise, is_c, ap (λ k. get_or d k 0) e, ap (λ k. get_or f.cap k 0) e)) ∙ m.label;
        full = m.full;
      }

  held : Walked (graph_network f) a (λ v. get_or (set d u c) v 0)
  held =
      let g = w.going (omega arith) in
      let e : to_at f.arcs p ≡ v = let e : p ≡ i - 1 = omega arith in ap (to_at f.arcs) e ∙ g.2 in
      let k = arcs-in f.arcs p in-arcs in
      let ku : k.0.from ≡ u = k.2 ∙ sym is-u in
      let kv : k.0.to ≡ v = k.3 ∙ e in
      let at-v : get_or d k.0.to 0 ≡ l = ap (λ x. get_or d x 0) kv ∙ g.0.at in
      held-raise (graph_network f) a (λ v. get_or d v 0) (λ v. get_or (set d u c) v 0) w.held k.0 k.1 (λ x n. other x (λ q. n (q ∙ sym ku)))
      (subst (λ x. a < get_or f.entry x 0) (sym kv) g.0.in-it) (omega (arith, w.early, w.laid.small1)) (omega (arith, w.some))
      (omega (arith, at-u, is_c, w.high, w.laid.small2, ap (λ x. get_or (set d u c) x 0) ku, ap (λ x. get_or f.cap x 0) ku))

  module _ (stack' wait' : List ℕ) (top' : ℕ)
      (long : max_position + 1 ≤ length wait')
      (fits : top' + low l (set d u c) ≤ length d)
      (same : (k : ℕ) → k < top → get_or stack' k 0 ≡ get_or stack k 0)
      (more-top : top ≤ top')
      (fresh : (k : ℕ) → top ≤ k → k < top' → Ripe f a l (set d u c) (get_or stack' k 0))
      (flags : (x : ℕ) → (get_or wait x 0 ≡ 0 → ⊥) → get_or wait' x 0 ≡ 0 → ⊥)
      (mark' : Marked f (set d u c) wait')
      (new : (j : ℕ) → a < get_or f.entry (to_at f.arcs j) 0 → to_at f.arcs j ≡ u → Why f l (set d u c) stack' wait' top' v i j) where
    raised : Work f a l (set d u c) stack' wait' top' v i
    raised =
        record {
          laid = w.laid;
          long = rw length-set w.long;
          short = rw length-set w.short;
          long-wait = long;
          held = held;
          early = w.early;
          some = w.some;
          high = w.high;
          at-t = omega (arith, grow f.target, w.at-t);
          fits = rw length-set fits;
          pile = λ k h. ⊎_elim (λ le. fresh k le h) (λ lt. rw (same k lt) (ripe (get_or stack k 0) (w.pile k lt))) (order top k);
          going = λ h. let g = w.going h in (ripe v g.0, g.1, g.2);
          marked = mark';
          why = λ j h e. ⊎_elim (new j e) (λ n. go j n (w.why j h e)) (equal (to_at f.arcs j) u);
        }
      where
        go : (j : ℕ) → (to_at f.arcs j ≡ u → ⊥) → Why f l d stack wait top v i j → Why f l (set d u c) stack' wait' top' v i j
        go j n (relaxed x) = relaxed (omega (arith, x, other (to_at f.arcs j) n, grow (from_at f.arcs j), grow f.source))
        go j n (piled k h e) = piled k (omega arith) (same k h ∙ e)
        go j n (waits x) =
            let q = other (to_at f.arcs j) n in
            waits (record { below = omega (arith, x.below, q); full = x.full ∙ sym q; flag = λ z. flags (get_or d (to_at f.arcs j) 0) x.flag (ap (λ k. get_or wait' k 0) (sym q) ∙ z) })
        go j n (left e h) = left e h

  -- there is room on the stack, whether or not it grows
  room : top < length d
  room = omega (arith, w.fits, low-some l u d in-d (omega arith))

  -- u is put on top of it
  abbrev stack₁ : List ℕ
  stack₁ = set stack top u

  kept : (k : ℕ) → k < top → get_or stack₁ k 0 ≡ get_or stack k 0
  kept k h = get_or-set_other stack top k u 0 (omega arith)

  -- a mark at a place is one
  flagged : (n x : ℕ) → n < length wait → (get_or wait x 0 ≡ 0 → ⊥) → get_or (set wait n (u + 1)) x 0 ≡ 0 → ⊥
  flagged n x b old z =
      ⊎_elim (λ e. omega (arith, z, get_or-set_same wait n (u + 1) 0 b, ap (λ k. get_or (set wait n (u + 1)) k 0) e)) (λ ne. old (sym (get_or-set_other wait n x (u + 1) 0 ne) ∙ z)) (equal x n)

  in-wait : (c < length wait) × (0 < length wait)
  in-wait = omega (arith, w.long-wait, w.high, w.laid.small2)

  -- nothing reads the mark at 0
  spare : Marked f (set d u c) (set wait 0 (u + 1))
  spare x y pos h = mark x y pos (sym (get_or-set_other wait 0 x (u + 1) 0 (omega arith)) ∙ h)

  -- not in yet: the label is kept
  kept_back : l ≤ c → get_or f.entry u 0 ≤ a → Work f a l (set d u c) stack₁ (set wait 0 (u + 1)) top v i
  kept_back g h =
      raised stack₁ (set wait 0 (u + 1)) top (rw length-set w.long-wait) (omega (arith, w.fits, low-grow l u c d in-d (omega arith))) kept (omega arith) (λ k h m. absurd (omega arith))
      (λ x. flagged 0 x in-wait.1) spare
      (λ j e q. absurd (omega (arith, ap (λ k. get_or f.entry k 0) q)))

  -- a class 2 node of a lower position: its level waits
  deferred : c < l → Work f a l (set d u c) stack₁ (set wait c (u + 1)) top v i
  deferred h =
      let wait' = set wait c (u + 1) in
      let now : get_or wait' c 0 ≡ u + 1 = get_or-set_same wait c (u + 1) 0 in-wait.0 in
      let old : (x : ℕ) → (x ≡ c → ⊥) → get_or wait' x 0 ≡ get_or wait x 0 = λ x. get_or-set_other wait c x (u + 1) 0 in
      raised stack₁ wait' top (rw length-set w.long-wait) (omega (arith, w.fits, low-grow l u c d in-d (omega arith))) kept (omega arith) (λ k h m. absurd (omega arith))
      (λ x. flagged c x in-wait.0)
      (λ x y pos n. ⊎_elim
      (λ e.
      let is_y : y ≡ u = omega (arith, n, now, ap (λ k. get_or wait' k 0) e) in
      record { some = omega arith; below = omega (arith, w.high); node = rw is_y node; label = ap (λ k. get_or (set d u c) k 0) is_y ∙ at-u ∙ sym e; full = ap (λ k. get_or f.cap k 0) is_y ∙ omega arith })
      (λ ne. mark x y pos (sym (old x ne) ∙ n)) (equal x c))
      (λ j e q. let r : get_or (set d u c) (to_at f.arcs j) 0 ≡ c = ap (λ k. get_or (set d u c) k 0) q ∙ at-u in
      waits (record { below = omega arith; full = ap (λ k. get_or f.cap k 0) q ∙ omega arith ∙ sym r; flag = λ z. omega (arith, now, ap (λ k. get_or wait' k 0) r) }))

  -- in, at this level: pushed
  pushed : l ≤ c → a < get_or f.entry u 0 → length d ≤ length stack → Work f a l (set d u c) stack₁ (set wait 0 (u + 1)) (top + 1) v i
  pushed h e r =
      let now : get_or stack₁ top 0 ≡ u = get_or-set_same stack top u 0 (omega (arith, room)) in
      raised stack₁ (set wait 0 (u + 1)) (top + 1) (rw length-set w.long-wait) (omega (arith, w.fits, low-set l u c d in-d (omega arith) h)) kept (omega arith)
      (λ k lo hi. let q : k ≡ top = omega arith in subst (Ripe f a l (set d u c)) (sym (ap (λ k. get_or stack₁ k 0) q ∙ now)) (record { node = node; at = omega (arith, at-u); in-it = e }))
      (λ x. flagged 0 x in-wait.1) spare (λ j e q. piled top (omega arith) (now ∙ sym q))

  -- A RAISE, whichever it is: x is a + 1
  raise : (x : ℕ) → x ≡ suc a → length d ≤ length stack → Work f a l (set d u c) stack₁ (set wait (mark_at l c) (u + 1)) (top + growth l c x (get_or f.entry u 0)) v i
  raise x is_x r =
      ⊎_elim
      (λ le.
      ⊎_elim (λ in-it. subst₂ at (sym (mark-none le)) (sym (grows le (omega arith))) (pushed le (omega arith) r))
      (λ out. subst₂ at (sym (mark-none le)) (sym (stays x le out)) (subst (λ n. Work f a l (set d u c) stack₁ (set wait 0 (u + 1)) n v i) zero_more (kept_back le (omega arith)))) (order x (get_or f.entry u 0)))
      (λ lt. subst₂ at (sym (mark-some lt)) (sym (waits-on lt)) (subst (λ n. Work f a l (set d u c) stack₁ (set wait c (u + 1)) n v i) zero_more (deferred lt))) (order l c)
    where
      at : ℕ → ℕ → Type 0
      at k g = Work f a l (set d u c) stack₁ (set wait k (u + 1)) (top + g) v i

      subst₂ : (P : ℕ → ℕ → Type 0) {p q r s : ℕ} → p ≡ q → r ≡ s → P p r → P q s
      subst₂ P {p} {q} {r} {s} e g h = subst (λ k. P q k) g (subst (λ k. P k r) e h)

      zero_more : top ≡ top + 0
      zero_more = omega arith

      mark-none : l ≤ c → mark_at l c ≡ 0
      mark-none h = rw (le-leb l c h)

      mark-some : c < l → mark_at l c ≡ c
      mark-some h = rw (lt-leb l c h)

      grows : l ≤ c → x ≤ get_or f.entry u 0 → growth l c x (get_or f.entry u 0) ≡ 1
      grows h k = rw (le-leb l c h, le-leb x (get_or f.entry u 0) k)

      stays : (y : ℕ) → l ≤ c → get_or f.entry u 0 < y → growth l c y (get_or f.entry u 0) ≡ 0
      stays y h k = rw (le-leb l c h, lt-leb y (get_or f.entry u 0) k)

      waits-on : c < l → growth l c x (get_or f.entry u 0) ≡ 0
      waits-on h = rw (lt-leb l c h)

-- ---- the loop
pub record Spreading (f : Graph) (capacities links : List ℕ) (a l : ℕ) (d₀ stack₀ wait₀ : List ℕ) (top₀ : ℕ) (d stack wait : List ℕ) (top v i : ℕ) : Type 0 where
  -- the labels while the chain is followed
  pub work : Work f a l d stack wait top v i
  -- what they are to those at the start
  pub kept : Kept l d₀ stack₀ wait₀ top₀ d stack wait top
  -- what the slices hold
  pub lent : Lent f capacities links
  -- the stack holds every node
  pub room : length d ≤ length stack

module _ {f : Graph} {capacities links : List ℕ} {a l : ℕ} {d₀ stack₀ wait₀ : List ℕ} {top₀ : ℕ} {d stack wait : List ℕ} {top v i : ℕ}
    (s : Spreading f capacities links a l d₀ stack₀ wait₀ top₀ d stack wait top v i) (p : ℕ) (is : i ≡ suc p) where
  pub place : (p < length f.arcs) × (length capacities / 2 + 2 * p + 1 < length links) × (length links ≤ max_links)
  place = omega (arith, (s.work.going (omega arith)).1, s.lent.chains.long, s.lent.chains.short)

  pub at-node : (u : ℕ) → u ≡ from_at f.arcs p → (u < length f.entry) × (length capacities / 2 + u < length capacities) × (u < length d) × (u < max_elements)
  at-node u is-u = let h : u < length f.entry = rw is-u (s.work.laid.ends p place.0).0 in omega (arith, h, s.work.long, s.lent.long, s.work.laid.few)

  -- what the code reads there
  pub start_is : start_at (length capacities / 2) links p ≡ from_at f.arcs p
  start_is = s.lent.chains.starts p place.0

-- a turn: the arc numbered p, what follows it in its chain, its start u, and what the level gives u
pub record Turn (f : Graph) (capacities links : List ℕ) (a l : ℕ) (d₀ stack₀ wait₀ : List ℕ) (top₀ : ℕ) (d stack wait : List ℕ) (top v i p m u c : ℕ) : Type 0 where
  -- the labels before the arc
  pub state : Spreading f capacities links a l d₀ stack₀ wait₀ top₀ d stack wait top v i
  -- p is the arc's number
  pub is-p : i ≡ suc p
  -- m is the next in the chain
  pub is_m : m ≡ more_at (length capacities / 2) links p
  -- u is where the arc comes from
  pub is-u : u ≡ from_at f.arcs p
  -- c is what u would be raised to
  pub is-raise : c ≡ min l (get_or capacities (length capacities / 2 + u) 0)

module _ {f : Graph} {capacities links : List ℕ} {a l : ℕ} {d₀ stack₀ wait₀ : List ℕ} {top₀ : ℕ} {d stack wait : List ℕ} {top v i p m u c : ℕ}
    (t : Turn f capacities links a l d₀ stack₀ wait₀ top₀ d stack wait top v i p m u c) where
  pub falls : m < i
  falls = omega (arith, t.is_m, down t.state.lent.chains t.state.work p t.is-p)

  pub node_in : (u < length f.entry) × (length capacities / 2 + u < length capacities) × (u < length d) × (u < max_elements)
  node_in = at-node t.state p t.is-p u t.is-u

  is_c : c ≡ min l (get_or f.cap u 0)
  is_c = t.is-raise ∙ ap (min l) (t.state.lent.caps u node_in.0)

  on : {d₁ stack₁ wait₁ : List ℕ} {top₁ : ℕ} → Work f a l d₁ stack₁ wait₁ top₁ v i → c ≤ get_or d₁ u 0 → Work f a l d₁ stack₁ wait₁ top₁ v m
  on {d₁} {stack₁} {wait₁} {top₁} w h =
      rw t.is_m (pass t.state.lent.chains w p t.is-p (subst (λ x. min l (get_or f.cap x 0) ≤ get_or d₁ x 0) t.is-u (omega (arith, h, is_c))))

  pub passed : c ≤ get_or d u 0 → Spreading f capacities links a l d₀ stack₀ wait₀ top₀ d stack wait top v m
  passed h = record { work = on t.state.work h; kept = t.state.kept; lent = t.state.lent; room = t.state.room }

  module _ (rise : get_or d u 0 < c) where
    it : get_or (set d u c) u 0 ≡ c
    it = get_or-set_same d u c 0 node_in.2

    grown : low l (set d u c) ≤ low l d
    grown = low-grow l u c d node_in.2 (omega arith)

    level_in : (c < length wait) × (c < max_position + 1)
    level_in = omega (arith, is_c, t.state.work.high, t.state.work.laid.small2, t.state.work.long-wait)

    pub mark-in : (mark_at l c < length wait) × (mark_at l c < max_position + 1)
    mark-in = go (leb l c)
      where
        go : (b : Bool) → (cond b 0 c < length wait) × (cond b 0 c < max_position + 1)
        go true = omega (arith, t.state.work.long-wait)
        go false = level_in

    pub space : (top < length stack) × (top < max_elements)
    space = omega (arith, room t.state.work p t.is-p u t.is-u c is_c rise, t.state.room, t.state.work.short)

    less : (x : ℕ) → top + growth l c x (get_or capacities u 0) + 2 * low l (set d u c) ≤ top + 2 * low l d
    less x =
        ⊎_elim (λ le. let e = grown-one l c x (get_or capacities u 0) in omega (arith, low-set l u c d node_in.2 (omega (arith, is_c)) le))
        (λ lt. let e : growth l c x (get_or capacities u 0) ≡ 0 = rw (lt-leb l c lt) in omega (arith, grown)) (order l c)

    -- the label is raised
    pub again : (k g x : ℕ) → k ≡ mark_at l c → g ≡ growth l c x (get_or capacities u 0) → x ≡ suc a
        → Spreading f capacities links a l d₀ stack₀ wait₀ top₀ (set d u c) (set stack top (start_at (length capacities / 2) links p)) (set wait k (start_at (length capacities / 2) links p + 1)) (top + g) v m
    again k g x is-k is-g is_x =
        let q = t.state in
        let e = q.lent.entries u node_in.0 in
        record {
          work = rw (is-k, is-g, e, start_is q p t.is-p, ← t.is-u) (on (raise q.work p t.is-p u t.is-u c is_c rise x is_x q.room) (omega (arith, it)));
          kept = record { long = length-set d u c ∙ q.kept.long; long-stack = length-set stack top (start_at (length capacities / 2) links p) ∙ q.kept.long-stack; long-wait = length-set wait k (start_at (length capacities / 2) links p + 1) ∙ q.kept.long-wait; less = omega (arith, q.kept.less, less x) };
          lent = q.lent;
          room = omega (arith, q.room, length-set d u c, length-set stack top (start_at (length capacities / 2) links p));
        }

-- the turn at the arc that the chain is at
pub turn-at : {f : Graph} {capacities links : List ℕ} {a l : ℕ} {d₀ stack₀ wait₀ : List ℕ} {top₀ : ℕ} {d stack wait : List ℕ} {top v i c : ℕ}
    → Spreading f capacities links a l d₀ stack₀ wait₀ top₀ d stack wait top v i → 0 < i → c ≡ min l (get_or capacities (length capacities / 2 + start_at (length capacities / 2) links (i - 1)) 0)
    → Turn f capacities links a l d₀ stack₀ wait₀ top₀ d stack wait top v i (i - 1) (more_at (length capacities / 2) links (i - 1)) (start_at (length capacities / 2) links (i - 1)) c
turn-at {i = i} s h e = record { state = s; is-p = omega arith; is_m = refl; is-u = start_is s (i - 1) (omega arith); is-raise = e }

-- the chain has ended
pub idle : {f : Graph} {a l : ℕ} {d stack wait : List ℕ} {top v i : ℕ} → Work f a l d stack wait top v i → i ≡ 0 → Work f a l d stack wait top v 0
idle {f} {a} {l} {d} {stack} {wait} {top} {v} w e = subst (Work f a l d stack wait top v) e w
