-- The steps of `drain` and `flood`, over lists, and of a node that enters.
use mathlib.Core.Path.{◌≡◌, refl, sym, ap, ◌∙◌, subst}
use mathlib.Core.Logic.{◌⊎◌, inl, inr, ⊎_elim}
use mathlib.Core.List.{List, [], ◌∷◌}
use Prim.Native.Nat.{ℕ, zero, suc, ◌+◌, ◌-◌, ◌≤◌, ◌<◌}
use native.Mathlib.Omega.{arith}
use lib.ListN.{length, get_or, set, length-set}
use lib.Seq.{get_or-set_same, get_or-set_other}
use Rattle.laws.specs.Tests.{order, equal}
use Rattle.front.specs.declared.pos.Pos.{Pos}
use Rattle.chains.specs.Steps.{to_at, head_at, Linked}
use Rattle.relax.specs.declared.Net.{Net}
use Rattle.relax.specs.declared.Step.{Step}
use Rattle.relax.specs.Steps.{Walked, Graph, graph_network, low, Relaxed, Ripe, Why, relaxed, piled, waits, left, Named, Work, Kept, NoneWaits, NextLevel, Settled, Lent, Ready, Floodable, Lengths, start}
use Rattle.relax.proofs.Labels.{held-lower, held-t, pair-first}
use Rattle.relax.proofs.Spreads.{low-less}

-- ---- the same labels with another stack
module _ {f : Graph} {a l : ℕ} {d stack wait : List ℕ} {top v i : ℕ} (w : Work f a l d stack wait top v i) where
  refit : (stack' : List ℕ) (top' v' i' : ℕ) → top' + low l d ≤ length d
      → ((k : ℕ) → k < top' → Ripe f a l d (get_or stack' k 0))
      → (0 < i' → Ripe f a l d v' × (i' ≤ length f.arcs) × (to_at f.arcs (i' - 1) ≡ v'))
      → ((j : ℕ) → j < length f.arcs → Why f l d stack wait top v i j → Why f l d stack' wait top' v' i' j)
      → Work f a l d stack' wait top' v' i'
  refit stack' top' v' i' fits pile going go =
      record {
        laid = w.laid;
        long = w.long;
        short = w.short;
        long-wait = w.long-wait;
        held = w.held;
        early = w.early;
        some = w.some;
        high = w.high;
        at-t = w.at-t;
        fits = fits;
        pile = pile;
        going = going;
        marked = w.marked;
        why = λ j h e. go j h (w.why j h e);
      }

-- the first node goes on the stack
pub begin : {f : Graph} {a l : ℕ} {d wait : List ℕ} {v : ℕ} (stack : List ℕ) → 0 < length stack → Work f a l d (v ∷ []) wait 1 0 0 → Work f a l d (set stack 0 v) wait 1 0 0
begin {f} {a} {l} {d} {wait} {v} stack h w = refit w (set stack 0 v) 1 0 0 w.fits (λ k b. subst (Ripe f a l d) (same k b) (w.pile k b)) w.going go
  where
    same : (k : ℕ) → k < 1 → get_or (v ∷ []) k 0 ≡ get_or (set stack 0 v) k 0
    same zero b = sym (get_or-set_same stack 0 v 0 h)
    same (suc k) b = absurd (omega arith)

    go : (j : ℕ) → j < length f.arcs → Why f l d (v ∷ []) wait 1 0 0 j → Why f l d (set stack 0 v) wait 1 0 0 j
    go j n (relaxed x) = relaxed x
    go j n (piled k h e) = piled k h (sym (same k h) ∙ e)
    go j n (waits x) = waits x
    go j n (left e h) = left e h

-- a node is popped, and its chain begins
pop : {f : Graph} {size : ℕ} {links : List ℕ} → Linked size f.arcs links → length f.entry ≤ size → {a l : ℕ} {d stack wait : List ℕ} {top : ℕ} → Work f a l d stack wait top 0 0
    → (k : ℕ) → top ≡ suc k → (u : ℕ) → u ≡ get_or stack k 0 → (u < length f.entry) × Work f a l d stack wait k u (head_at links u)
pop {f} {links = links} ch in_size {a} {l} {d} {stack} {wait} {top} w k is u is-u =
    (ripe.node, refit w stack k u (head_at links u) (omega (arith, w.fits)) (λ n h. w.pile n (omega arith)) (λ h. let r = ch.head-is u (head_at links u - 1) (omega (arith, ripe.node, in_size)) (omega arith) in (ripe, omega arith, r.1)) go)
  where
    ripe : Ripe f a l d u
    ripe = rw is-u (w.pile k (omega arith))

    go : (j : ℕ) → j < length f.arcs → Why f l d stack wait top 0 0 j → Why f l d stack wait k u (head_at links u) j
    go j h (relaxed x) = relaxed x
    go j h (piled n b e) =
        ⊎_elim (λ le. let q : n ≡ k = omega arith in let r : to_at f.arcs j ≡ u = sym e ∙ ap (λ m. get_or stack m 0) q ∙ sym is-u in left r (subst (λ x. j < head_at links x) r (ch.head j h))) (λ lt. piled n lt e) (order k n)
    go j h (waits x) = waits x
    go j h (left e b) = absurd (omega arith)

-- no chain is at work
anew : {f : Graph} {a l : ℕ} {d stack wait : List ℕ} {top v : ℕ} → Work f a l d stack wait top v 0 → Work f a l d stack wait top 0 0
anew {f} {a} {l} {d} {stack} {wait} {top} {v} w = refit w stack top 0 0 w.fits w.pile (λ h. absurd (omega arith)) go
  where
    go : (j : ℕ) → j < length f.arcs → Why f l d stack wait top v 0 j → Why f l d stack wait top 0 0 j
    go j h (relaxed x) = relaxed x
    go j h (piled n b e) = piled n b e
    go j h (waits x) = waits x
    go j h (left e b) = absurd (omega arith)

-- once s has the level, every arc into a node on the stack is relaxed
pub emptied : {f : Graph} {a l : ℕ} {d stack wait : List ℕ} {top : ℕ} → Work f a l d stack wait top 0 0 → (0 < top → l ≤ get_or d f.source 0) → Work f a l d [] wait 0 0 0
emptied {f} {a} {l} {d} {stack} {wait} {top} w enough = refit w [] 0 0 0 (omega (arith, w.fits)) (λ k h. absurd (omega arith)) (λ h. absurd (omega arith)) go
  where
    go : (j : ℕ) → j < length f.arcs → Why f l d stack wait top 0 0 j → Why f l d [] wait 0 0 0 j
    go j h (relaxed x) = relaxed x
    go j h (piled n b e) = relaxed (omega (arith, enough (omega arith), (w.pile n b).at, ap (λ x. get_or d x 0) e))
    go j h (waits x) = waits x
    go j h (left e b) = absurd (omega arith)

pub record Draining (f : Graph) (capacities links : List ℕ) (a l : ℕ) (d₀ stack₀ wait₀ d stack wait : List ℕ) (top : ℕ) : Type 0 where
  -- the labels, no chain at work
  pub work : Work f a l d stack wait top 0 0
  -- as long as at the start
  pub lengths : Lengths d₀ stack₀ wait₀ d stack wait
  -- what the slices hold
  pub lent : Lent f capacities links
  -- the stack holds every node
  pub room : length d ≤ length stack

pub drained : {f : Graph} {capacities links : List ℕ} {a l : ℕ} {d₀ stack₀ wait₀ d stack wait : List ℕ} {top : ℕ} → Draining f capacities links a l d₀ stack₀ wait₀ d stack wait top
    → {top₁ : ℕ} {d₁ stack₁ wait₁ : List ℕ} {top₂ v : ℕ} → Work f a l d₁ stack₁ wait₁ top₂ v 0 → Kept l d stack wait top₁ d₁ stack₁ wait₁ top₂ → Draining f capacities links a l d₀ stack₀ wait₀ d₁ stack₁ wait₁ top₂
drained n w k =
    record {
      work = anew w;
      lengths = record { labels = k.long ∙ n.lengths.labels; pile = k.long-stack ∙ n.lengths.pile; levels = k.long-wait ∙ n.lengths.levels };
      lent = n.lent;
      room = omega (arith, n.room, k.long, k.long-stack);
    }

module _ {f : Graph} {a l : ℕ} {d wait : List ℕ} (w : Work f a l d [] wait 0 0 0) where
  pub settle : NoneWaits wait l (get_or d f.source 0) → a < start f → Settled f a d wait
  settle n b =
      record {
        laid = w.laid;
        long = w.long;
        short = w.short;
        long-wait = w.long-wait;
        held = w.held;
        at-t = λ _. w.at-t;
        clear = λ h. absurd (omega arith);
        marked = w.marked;
        relaxed = λ j h e. go j (w.why j h e);
      }
    where
      go : (j : ℕ) → Why f l d [] wait 0 0 0 j → Relaxed f d j
      go j (relaxed x) = x
      go j (piled k h e) = absurd (omega arith)
      go j (waits x) =
          ⊎_elim (λ le. omega arith) (λ lt. absurd (x.flag (n (get_or d (to_at f.arcs j) 0) lt x.below))) (order (get_or d (to_at f.arcs j) 0) (get_or d f.source 0))
      go j (left e h) = absurd (omega arith)

  module _ {m : ℕ} (n : NextLevel wait l (get_or d f.source 0) m) (y : ℕ) (is_y : get_or wait m 0 ≡ suc y) where
    named : Named f d m y
    named = w.marked m y (omega (arith, n.above)) is_y

    descend : Work f a m d (y ∷ []) (set wait m 0) 1 0 0
    descend =
        record {
          laid = w.laid;
          long = w.long;
          short = w.short;
          long-wait = rw length-set w.long-wait;
          held = w.held;
          early = w.early;
          some = omega (arith, n.above);
          high = omega (arith, named.below);
          at-t = w.at-t;
          fits = omega (arith, low-less m y d (omega (arith, named.node, w.long)) (omega (arith, named.label)));
          pile = pile;
          going = λ z. absurd (omega arith);
          marked = λ c x pos z. w.marked c x pos (kept c x z);
          why = λ j b e. go j b (w.why j b e);
        }
      where
        kept : (c x : ℕ) → get_or (set wait m 0) c 0 ≡ suc x → get_or wait c 0 ≡ suc x
        kept c x z =
            ⊎_elim (λ e. absurd (omega (arith, z, ap (λ k. get_or (set wait m 0) k 0) e, get_or-set_same wait m 0 0 (omega (arith, named.below, w.laid.small2, w.long-wait)))))
            (λ ne. sym (get_or-set_other wait m c 0 0 ne) ∙ z) (equal c m)

        pile : (k : ℕ) → k < 1 → Ripe f a m d (get_or (y ∷ []) k 0)
        pile zero b = record { node = named.node; at = named.label; in-it = omega (arith, w.early, w.laid.apart y named.node (omega (arith, named.full, named.below))) }
        pile (suc k) b = absurd (omega arith)

        go : (j : ℕ) → j < length f.arcs → Why f l d [] wait 0 0 0 j → Why f m d (y ∷ []) (set wait m 0) 1 0 0 j
        go j b (relaxed x) = relaxed x
        go j b (piled k h e) = absurd (omega arith)
        go j b (left e h) = absurd (omega arith)
        go j b (waits x) =
            let z = get_or d (to_at f.arcs j) 0 in
            ⊎_elim
            (λ le.
            ⊎_elim
            (λ e. piled 0 (omega arith) (w.laid.only y (to_at f.arcs j) named.node (w.laid.ends j (omega arith)).1 (named.full ∙ sym (x.full ∙ e)) (omega (arith, named.full, named.below))))
            (λ ne. waits (record { below = omega arith; full = x.full; flag = λ q. x.flag (sym (get_or-set_other wait m z 0 0 ne) ∙ q) })) (equal z m))
            (λ lt. absurd (x.flag (n.last z lt x.below))) (order z m)

-- no label is above n2 + 1
pub label-most : {f : Graph} {a l : ℕ} {d stack wait : List ℕ} {top v i : ℕ} → Work f a l d stack wait top v i → (u : ℕ) → u < length f.entry → get_or d u 0 ≤ suc f.n2
label-most {f} {d = d} w u h =
    ⊎_elim (λ (le : get_or d u 0 ≤ 0). omega arith)
    (λ lt. let g = w.held u lt in omega (arith, g.3, pair-first (graph_network f) u g.0, w.laid.high u h)) (order (get_or d u 0) 0)

pub record Flooding (f : Graph) (capacities links : List ℕ) (a : ℕ) (d₀ stack₀ wait₀ d stack wait : List ℕ) (l v : ℕ) : Type 0 where
  -- the labels, with v alone on the stack
  pub work : Work f a l d (v ∷ []) wait 1 0 0
  -- as long as at the start
  pub lengths : Lengths d₀ stack₀ wait₀ d stack wait
  -- what the slices hold
  pub lent : Lent f capacities links
  -- the stack holds every node
  pub room : length d ≤ length stack
  -- both ends are in
  pub begun : a < start f

pub joined : {a b c d e g h i j : List ℕ} → Lengths a b c d e g → Lengths d e g h i j → Lengths a b c h i j
joined x y = record { labels = y.labels ∙ x.labels; pile = y.pile ∙ x.pile; levels = y.levels ∙ x.levels }

pub flooded : {f : Graph} {capacities links : List ℕ} {a : ℕ} {d₀ stack₀ wait₀ d stack wait : List ℕ} {l v : ℕ} → Flooding f capacities links a d₀ stack₀ wait₀ d stack wait l v
    → {d₁ stack₁ wait₁ : List ℕ} → Work f a l d₁ [] wait₁ 0 0 0 → Lengths d stack wait d₁ stack₁ wait₁ → {m : ℕ} → NextLevel wait₁ l (get_or d₁ f.source 0) m → (y : ℕ) → get_or wait₁ m 0 ≡ suc y
    → Flooding f capacities links a d₀ stack₀ wait₀ d₁ stack₁ (set wait₁ m 0) m y
flooded n {d₁} {stack₁} {wait₁} w k {m} x y is_y =
    record {
      work = descend w x y is_y;
      lengths = joined n.lengths (record { labels = k.labels; pile = k.pile; levels = length-set wait₁ m 0 ∙ k.levels });
      lent = n.lent;
      room = omega (arith, n.room, k.labels, k.pile);
      begun = n.begun;
    }

-- ---- one failure fewer
module _ {f : Graph} {a : ℕ} {d wait : List ℕ} (s : Settled f (suc a) d wait) where
  lower : Walked (graph_network f) a (λ v. get_or d v 0)
  lower = held-lower (graph_network f) a (λ v. get_or d v 0) s.held

  -- both are in: t has its capacity
  module _ (t y : ℕ) (is-t : f.target ≡ t) (is_y : get_or f.cap t 0 ≡ y) (e : start f ≡ suc a) (h : a ≤ f.n1) where
    t-in : t < length d
    t-in = omega (arith, is-t, s.laid.t-in, s.long)

    now : get_or (set d t y) t 0 ≡ y
    now = get_or-set_same d t y 0 t-in

    other : (v : ℕ) → (v ≡ t → ⊥) → get_or (set d t y) v 0 ≡ get_or d v 0
    other v = get_or-set_other d t v y 0

    zero-at : (v : ℕ) → get_or d v 0 ≡ 0
    zero-at = s.clear (omega arith)

    pos : 0 < y
    pos = omega (arith, s.laid.t-pos, is_y, ap (λ x. get_or f.cap x 0) is-t)

    pile-t : (k : ℕ) → k < 1 → Ripe f a y (set d t y) (get_or (t ∷ []) k 0)
    pile-t zero b = record { node = omega (arith, is-t, s.laid.t-in); at = now; in-it = omega (arith, e, ap (λ x. get_or f.entry x 0) is-t) }
    pile-t (suc k) b = absurd (omega arith)

    pub first-in : Work f a y (set d t y) (t ∷ []) wait 1 0 0
    first-in =
        record {
          laid = s.laid;
          long = rw length-set s.long;
          short = rw length-set s.short;
          long-wait = s.long-wait;
          held = held-t (graph_network f) a (λ v. get_or d v 0) (λ v. get_or (set d t y) v 0) lower (λ v n. other v (λ q. n (q ∙ sym is-t))) (omega (arith, now, is_y, ap (λ x. get_or f.cap x 0) is-t, ap (λ x. get_or (set d t y) x 0) is-t));
          early = h;
          some = pos;
          high = omega (arith, is_y, s.laid.high t (omega (arith, is-t, s.laid.t-in)));
          at-t = omega (arith, now, is_y, ap (λ x. get_or f.cap x 0) is-t, ap (λ x. get_or (set d t y) x 0) is-t);
          fits = omega (arith, low-less y t (set d t y) (omega (arith, t-in, length-set d t y)) (omega (arith, now)));
          pile = pile-t;
          going = λ z. absurd (omega arith);
          marked = λ c x pos z. let m = s.marked c x pos z in absurd (omega (arith, m.some, m.label, zero-at x));
          why = λ j b q. ⊎_elim (λ i. piled 0 (omega arith) (sym i)) (λ ne. relaxed (omega (arith, other (to_at f.arcs j) ne, zero-at (to_at f.arcs j)))) (equal (to_at f.arcs j) t);
        }

  -- the node w that enters, the only one of its class 1 position
  module _ (h : suc a < start f) (w : ℕ) (node : w < length f.entry) (at : get_or f.entry w 0 ≡ suc a) (alone : (v : ℕ) → v < length f.entry → get_or f.entry v 0 ≡ suc a → w ≡ v) where
    enters : w < length d
    enters = omega (arith, node, s.long)

    by : (j : ℕ) → j < length f.arcs → a < get_or f.entry (to_at f.arcs j) 0 → Relaxed f d j ⊎ (w ≡ to_at f.arcs j)
    by j b e =
        ⊎_elim (λ le. inr (alone (to_at f.arcs j) (s.laid.ends j (omega arith)).1 (omega arith))) (λ lt. inl (s.relaxed j b lt)) (order (get_or f.entry (to_at f.arcs j) 0) (suc a))

    -- its label is not above that of s
    pub skipped : get_or d w 0 ≤ get_or d f.source 0 → Settled f a d wait
    skipped k =
        record {
          laid = s.laid;
          long = s.long;
          short = s.short;
          long-wait = s.long-wait;
          held = lower;
          at-t = λ _. s.at-t h;
          clear = λ b. absurd (omega arith);
          marked = s.marked;
          relaxed = λ j b e. ⊎_elim (λ q. q) (λ i. omega (arith, ap (λ x. get_or d x 0) i)) (by j b e);
        }

    pile-w : (k : ℕ) → k < 1 → Ripe f a (get_or d w 0) d (get_or (w ∷ []) k 0)
    pile-w zero b = record { node = node; at = refl; in-it = omega (arith, at) }
    pile-w (suc k) b = absurd (omega arith)

    pub entered : a ≤ f.n1 → get_or d f.source 0 < get_or d w 0 → Work f a (get_or d w 0) d (w ∷ []) wait 1 0 0
    entered b k =
        let g = s.held w (omega arith) in
        record {
          laid = s.laid;
          long = s.long;
          short = s.short;
          long-wait = s.long-wait;
          held = lower;
          early = b;
          some = omega arith;
          high = omega (arith, g.3, pair-first (graph_network f) w g.0, s.laid.high w node);
          at-t = s.at-t h;
          fits = omega (arith, low-less (get_or d w 0) w d (omega (arith, enters)) (omega arith));
          pile = pile-w;
          going = λ z. absurd (omega arith);
          marked = s.marked;
          why = λ j b e. ⊎_elim (λ q. relaxed q) (λ i. piled 0 (omega arith) i) (by j b e);
        }

-- a node is popped: `spread` may go on from it
pub popped : {f : Graph} {net : Net} {at : Step} {d₀ stack₀ wait₀ : List ℕ} → Floodable f net at d₀ stack₀ wait₀
    → {e stack₁ wait₁ d stack wait : List ℕ} {top : ℕ} → Draining f net.capacities.now net.links.now (at.x.0 - 1) at.level.0 e stack₁ wait₁ d stack wait top → 0 < top
    → Ready f net (record at { node = get_or stack (top - 1) 0; top = top - 1 }) d stack wait
popped b {stack = stack} {top = top} n h =
    let p = pop n.lent.chains n.lent.long n.work (top - 1) (omega arith) (get_or stack (top - 1) 0) refl in
    record { lent = n.lent; work = p.1; some = b.some; node = p.0; room = n.room }

-- a level is next: `drain` may go on from its node
pub leveled : {f : Graph} {net : Net} {begin : Step} {d₀ stack₀ wait₀ : List ℕ} → Floodable f net begin d₀ stack₀ wait₀
    → {e stack₁ wait₁ d stack wait : List ℕ} {level : Pos 2} {v : ℕ} → Flooding f net.capacities.now net.links.now (begin.x.0 - 1) e stack₁ wait₁ d stack wait level.0 v
    → Floodable f net (record begin { level = level; node = v; top = 0 }) d stack wait
leveled b n = record { lent = n.lent; source = b.source; work = n.work; some = b.some; begun = b.begun; room = n.room }
