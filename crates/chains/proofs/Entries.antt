-- The steps of `link`'s loop, over lists: one entry more, one way or both; and that the arcs of entries are those of the split.
use mathlib.Core.Path.{◌≡◌, refl, sym, ap, ap₂, ◌∙◌, subst}
use mathlib.Core.Bool.{Bool, true, false, not, cond}
use mathlib.Core.List.{List, [], ◌∷◌, ◌++◌, map, append_assoc, append-nil}
use Prim.Native.Nat.{ℕ, zero, suc, ◌+◌, ◌*◌, ◌%◌, ◌≤◌, ◌<◌}
use native.Mathlib.Omega.{arith}
use lib.Dec.{eqb, ltb}
use lib.ListN.{length, get_or, length-append}
use borrow.Author.Tests.{lt-ltb, le-ltb}
use Rattle.limits.specs.Limits.{max_arcs, arc_size, arc_count}
use Rattle.laws.specs.Members.{◌∈◌, here, there, concat_map}
use Rattle.laws.specs.Tests.{flag}
use Rattle.orders.specs.Order.{count}
use Rattle.parts.specs.Study.{Entry, Arc, entry_class, ways, arcs_from, entries_from}
use Rattle.parts.proofs.Scans.{entry_at, entries_at, entries_next, entries-end}
use Rattle.split.specs.Steps.{halves, split_arc, may_fail, split_arcs}
use Rattle.chains.specs.Steps.{max_links, way_arcs, way_count, entry_arcs, split_entries, Linked}
use Rattle.chains.proofs.Links.{unlinked}

way_long : (class m u v i : ℕ) → length (way_arcs class m u v i) ≡ way_count class
way_long class m u v i = go (eqb class 0)
  where
    go : (o : Bool) → length (halves (not o) m (record { from = u; to = v; place = i })) ≡ cond o 1 2
    go true = refl
    go false = refl

-- the entry at a place is one of them
entry_in : (l : List ℕ) (i : ℕ) → arc_size * i + 2 < length l → entry_at l i ∈ entries_from l
entry_in [] i h = absurd (omega arith)
entry_in (x ∷ []) i h = absurd (omega arith)
entry_in (x ∷ y ∷ []) i h = absurd (omega arith)
entry_in (x ∷ y ∷ z ∷ l) zero h = here
entry_in (x ∷ y ∷ z ∷ l) (suc i) h =
    let e : arc_size * suc i ≡ suc (suc (suc (arc_size * i))) = omega arith in
    let f : arc_size * suc i + 1 ≡ suc (suc (suc (arc_size * i + 1))) = omega arith in
    let g : arc_size * suc i + 2 ≡ suc (suc (suc (arc_size * i + 2))) = omega arith in
    rw (g, f, e) (there (entry_in l i (omega arith)))

-- ---- the loop
pub record Linking (arcs : List ℕ) (nodes size : ℕ) (links : List ℕ) (n i d : ℕ) : Type 0 where
  -- as many as there are entries
  pub count : n ≡ arc_count arcs
  -- i of them done
  pub upto : i ≤ n
  -- few entries, few nodes, few arcs
  pub few : length arcs ≤ arc_size * max_arcs
  pub small : nodes + arc_count arcs ≤ size
  pub many : size + 2 * length (split_entries nodes 0 (entries_from arcs)) ≤ length links
  pub short : length links ≤ max_links
  -- entries join nodes
  pub ends : (x : Entry) → x ∈ entries_from arcs → (x.from < nodes) × (x.to < nodes)
  -- the arcs that are in
  pub done : List Arc
  pub is-d : length done ≡ d
  pub whole : split_entries nodes 0 (entries_from arcs) ≡ done ++ split_entries nodes i (entries_at arcs i)
  pub linked : Linked size done links

pub begun : (arcs : List ℕ) (nodes size : ℕ) (links : List ℕ) → (length arcs ≤ arc_size * max_arcs) × (nodes + arc_count arcs ≤ size)
    → (size + 2 * length (split_entries nodes 0 (entries_from arcs)) ≤ length links) × (length links ≤ max_links)
    → ((x : Entry) → x ∈ entries_from arcs → (x.from < nodes) × (x.to < nodes)) → ((v : ℕ) → v < size → get_or links v 0 ≡ 0)
    → Linking arcs nodes size links (arc_count arcs) 0 0
begun arcs nodes size links few room ends clear =
    record {
      count = refl;
      upto = omega arith;
      few = few.0;
      small = few.1;
      many = room.0;
      short = room.1;
      ends = ends;
      done = [];
      is-d = refl;
      whole = refl;
      linked = unlinked size links (omega (arith, room.0)) room.1 clear;
    }

module _ {arcs : List ℕ} {nodes size : ℕ} {links : List ℕ} {n i d : ℕ} (k : Linking arcs nodes size links n i d) (h : i < n) (u v kind : ℕ)
    (is-u : u ≡ get_or arcs (arc_size * i) 0) (is-v : v ≡ get_or arcs (arc_size * i + 1) 0) (is-k : kind ≡ get_or arcs (arc_size * i + 2) 0) where
  inside : arc_size * i + 2 < length arcs
  inside = omega (arith, k.count)

  pub nodes-in : (u < size) × (v < size) × (nodes + i < size)
  nodes-in = let e = k.ends (entry_at arcs i) (entry_in arcs i inside) in omega (arith, k.small, k.count)

  -- what is to come
  abbrev rest : List Arc
  rest = split_entries nodes (i + 1) (entries_at arcs (i + 1))

  to-come : split_entries nodes 0 (entries_from arcs) ≡ k.done ++ (entry_arcs (nodes + i) i (record { from = u; to = v; kind = kind }) ++ rest)
  to-come =
      let f : suc i ≡ i + 1 = omega arith in
      k.whole
      ∙ ap (λ r. k.done ++ r)
      (ap (split_entries nodes i) (entries_next arcs i inside)
      ∙ ap (λ j. entry_arcs (nodes + i) i (entry_at arcs i) ++ split_entries nodes j (entries_at arcs (i + 1))) f ∙ rw (is-u, is-v, is-k))

  long : length (split_entries nodes 0 (entries_from arcs)) ≡ d + (way_count (kind % 3) + length (cond (ltb 2 kind) (way_arcs (kind % 3) (nodes + i) v u i) []) + length rest)
  long =
      let c = kind % 3 in
      let m = nodes + i in
      let one = way_arcs c m u v i in
      let two = cond (ltb 2 kind) (way_arcs c m v u i) [] in
      ap length to-come ∙ omega (arith, length-append k.done ((one ++ two) ++ rest), length-append (one ++ two) rest, length-append one two, way_long c m u v i, k.is-d)

  pub room1 : (size + 2 * (d + way_count (kind % 3)) ≤ length links) × (length links ≤ max_links)
  room1 = (omega (arith, long, k.many), k.short)

  module _ (links1 : List ℕ) (d1 : ℕ) (is-d1 : d1 ≡ d + way_count (kind % 3)) (long-is1 : length links1 ≡ length links)
      (on1 : (ds : List Arc) (j : ℕ) → length ds ≡ d → Linked size ds links → Linked size (ds ++ way_arcs (kind % 3) (nodes + i) u v j) links1) where
    abbrev one : List Arc
    one = way_arcs (kind % 3) (nodes + i) u v i

    long1 : length (k.done ++ one) ≡ d1
    long1 = length-append k.done one ∙ omega (arith, k.is-d, way_long (kind % 3) (nodes + i) u v i)

    pub one_again : kind < 3 → Linking arcs nodes size links1 n (i + 1) d1
    one_again l =
        record {
          count = k.count;
          upto = omega arith;
          few = k.few;
          small = k.small;
          many = omega (arith, k.many, long-is1);
          short = omega (arith, k.short, long-is1);
          ends = k.ends;
          done = k.done ++ one;
          is-d = long1;
          whole =
              to-come
              ∙ ap (λ o. k.done ++ ((one ++ cond o (way_arcs (kind % 3) (nodes + i) v u i) []) ++ rest)) (le-ltb 2 kind (omega arith))
              ∙ ap (λ r. k.done ++ (r ++ rest)) (append-nil one) ∙ sym (append_assoc k.done one rest);
          linked = on1 k.done i k.is-d k.linked;
        }

    pub room2 : 3 ≤ kind → (size + 2 * (d1 + way_count (kind % 3)) ≤ length links1) × (length links1 ≤ max_links)
    room2 l =
        let e : length (cond (ltb 2 kind) (way_arcs (kind % 3) (nodes + i) v u i) []) ≡ way_count (kind % 3) = ap (λ o. length (cond o (way_arcs (kind % 3) (nodes + i) v u i) [])) (lt-ltb 2 kind l) ∙ way_long (kind % 3) (nodes + i) v u i in
        (omega (arith, long, k.many, long-is1), omega (arith, k.short, long-is1))

    module _ (links2 : List ℕ) (d2 : ℕ) (is-d2 : d2 ≡ d1 + way_count (kind % 3)) (long-is2 : length links2 ≡ length links1)
        (on2 : (ds : List Arc) (j : ℕ) → length ds ≡ d1 → Linked size ds links1 → Linked size (ds ++ way_arcs (kind % 3) (nodes + i) v u j) links2) where
      pub two-again : 3 ≤ kind → Linking arcs nodes size links2 n (i + 1) d2
      two-again l =
          let two = way_arcs (kind % 3) (nodes + i) v u i in
          record {
            count = k.count;
            upto = omega arith;
            few = k.few;
            small = k.small;
            many = omega (arith, k.many, long-is1, long-is2);
            short = omega (arith, k.short, long-is1, long-is2);
            ends = k.ends;
            done = (k.done ++ one) ++ two;
            is-d = length-append (k.done ++ one) two ∙ omega (arith, long1, way_long (kind % 3) (nodes + i) v u i);
            whole = to-come ∙ ap (λ o. k.done ++ ((one ++ cond o two []) ++ rest)) (lt-ltb 2 kind l) ∙ simp append_assoc;
            linked = on2 (k.done ++ one) i long1 (on1 k.done i k.is-d k.linked);
          }

-- the loop is through
module _ {arcs : List ℕ} {nodes size : ℕ} {links : List ℕ} {n i d : ℕ} (k : Linking arcs nodes size links n i d) (h : n ≤ i) where
  all_done : split_entries nodes 0 (entries_from arcs) ≡ k.done
  all_done = k.whole ∙ ap (λ l. k.done ++ split_entries nodes i l) (entries-end arcs i (omega (arith, k.count, k.upto))) ∙ append-nil k.done

  pub all-linked : Linked size (split_entries nodes 0 (entries_from arcs)) links
  all-linked = subst (λ ds. Linked size ds links) (sym all_done) k.linked

-- ---- the arcs of entries are those of the split
concat_map-append : (f : Arc → List Arc) (l m : List Arc) → concat_map f (l ++ m) ≡ concat_map f l ++ concat_map f m
concat_map-append f [] m = refl
concat_map-append f (k ∷ l) m = ap (λ r. f k ++ r) (concat_map-append f l m) ∙ sym (append_assoc (f k) (concat_map f l) (concat_map f m))

ways-split : (size i : ℕ) (x : Entry) (fails : ℕ → Bool) → fails i ≡ not (eqb (entry_class x) 0) → concat_map (split_arc size fails) (ways i x) ≡ entry_arcs (size + i) i x
ways-split size i x fails e = go (ltb 2 x.kind)
  where
    go : (o : Bool)
        → concat_map (split_arc size fails) (record { from = x.from; to = x.to; place = i } ∷ cond o (record { from = x.to; to = x.from; place = i } ∷ []) [])
        ≡ way_arcs (entry_class x) (size + i) x.from x.to i ++ cond o (way_arcs (entry_class x) (size + i) x.to x.from i) []
    go true = rw e (ap (λ r. way_arcs (entry_class x) (size + i) x.from x.to i ++ r) (append-nil (way_arcs (entry_class x) (size + i) x.to x.from i)))
    go false = rw e

from-split : (size i : ℕ) (l : List Entry) (fails : ℕ → Bool) → ((j : ℕ) → fails (i + j) ≡ may_fail l j) → concat_map (split_arc size fails) (arcs_from i l) ≡ split_entries size i l
from-split size i [] fails e = refl
from-split size i (x ∷ l) fails e =
    let z : i ≡ i + 0 = omega arith in
    concat_map-append (split_arc size fails) (ways i x) (arcs_from (suc i) l)
    ∙ ap₂ ◌++◌ (ways-split size i x fails (ap fails z ∙ e 0)) (from-split size (suc i) l fails (λ j. let s : suc i + j ≡ i + suc j = omega arith in ap fails s ∙ e (suc j)))

pub entries-split : (size : ℕ) (entries : List Entry) → split_arcs size entries ≡ split_entries size 0 entries
entries-split size entries = from-split size 0 entries (may_fail entries) (λ j. let e : 0 + j ≡ j = omega arith in ap (may_fail entries) e)

-- ---- how many they are: two for an entry, and two more where it may fail
entry-few : (m i : ℕ) (x : Entry) → length (entry_arcs m i x) ≤ 2 + 2 * (flag (eqb (entry_class x) 1) + flag (eqb (entry_class x) 2))
entry-few m i x = go (entry_class x) (omega arith) (ltb 2 x.kind)
  where
    go : (c : ℕ) → c ≤ 2 → (o : Bool)
        → length (way_arcs c m x.from x.to i ++ cond o (way_arcs c m x.to x.from i) []) ≤ 2 + 2 * (flag (eqb c 1) + flag (eqb c 2))
    go zero h true = omega arith
    go zero h false = omega arith
    go (suc zero) h true = omega arith
    go (suc zero) h false = omega arith
    go (suc (suc zero)) h true = omega arith
    go (suc (suc zero)) h false = omega arith
    go (suc (suc (suc c))) h o = absurd (omega arith)

pub split-few : (size i : ℕ) (l : List Entry) → length (split_entries size i l) ≤ 2 * length l + 2 * (count 1 (map entry_class l) + count 2 (map entry_class l))
split-few size i [] = omega arith
split-few size i (x ∷ l) = omega (arith, length-append (entry_arcs (size + i) i x) (split_entries size (suc i) l), entry-few (size + i) i x, split-few size (suc i) l)
