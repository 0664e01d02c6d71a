-- The steps of `add`, `way` and `link`, over lists: one arc more at the head of its chain.
use mathlib.Core.Path.{◌≡◌, sym, ap, ◌∙◌, subst}
use mathlib.Core.Logic.{◌⊎◌, inl, inr, ⊎_elim}
use mathlib.Core.List.{List, [], ◌∷◌, ◌++◌, map, append_assoc, map-append}
use Prim.Native.Nat.{ℕ, ◌+◌, ◌*◌, ◌≤◌, ◌<◌}
use native.Mathlib.Omega.{arith}
use lib.ListN.{length, get_or, set, length-set, length-map, length-append, get_or-append}
use lib.Seq.{get_or-set_same, get_or-set_other, get_or_at}
use borrow.Author.Tests.{eq-eqb, ne_eqb}
use Rattle.laws.specs.Tests.{order, equal}
use Rattle.parts.specs.Study.{Arc}
use Rattle.chains.specs.Steps.{max_links, way_arcs, way_count, from_at, to_at, head_at, start_at, more_at, arc_added, Linked}

-- no arc yet
pub unlinked : (size : ℕ) (links : List ℕ) → size ≤ length links → length links ≤ max_links → ((v : ℕ) → v < size → get_or links v 0 ≡ 0) → Linked size [] links
unlinked size links l m z =
    record {
      long = omega arith;
      short = m;
      inside = λ j h. absurd (omega arith);
      starts = λ j h. absurd (omega arith);
      head = λ j h. absurd (omega arith);
      head-is = λ v p b e. absurd (omega (arith, z v b));
      gap = λ j p h k. absurd (omega arith);
      back = λ p q h. absurd (omega arith);
    }

-- ---- arcs by number, one more at the end
at_old : (f : Arc → ℕ) (ds : List Arc) (k : Arc) (j : ℕ) → j < length ds → get_or (map f (ds ++ k ∷ [])) j 0 ≡ get_or (map f ds) j 0
at_old f ds k j h = ap (λ ts. get_or ts j 0) (map-append f ds (k ∷ [])) ∙ get_or-append (map f ds) (f k ∷ []) 0 j (omega (arith, length-map ds f))

at_new : (f : Arc → ℕ) (ds : List Arc) (k : Arc) (d : ℕ) → length ds ≡ d → get_or (map f (ds ++ k ∷ [])) d 0 ≡ f k
at_new f ds k d e = ap (λ ts. get_or ts d 0) (map-append f ds (k ∷ [])) ∙ get_or_at (map f ds) (f k) [] 0 d (length-map ds f ∙ e)

-- ---- the slice with one arc more
module _ (size : ℕ) (links : List ℕ) (u v d : ℕ) (node : v < size) (room : size + 2 * (d + 1) ≤ length links) where
  abbrev one : List ℕ
  one = set links (size + 2 * d) u

  abbrev two : List ℕ
  two = set one (size + 2 * d + 1) (head_at links v)

  long1 : length one ≡ length links
  long1 = length-set links (size + 2 * d) u

  long2 : length two ≡ length links
  long2 = length-set one (size + 2 * d + 1) (head_at links v) ∙ long1

  pub added-long : length (arc_added size links u v d) ≡ length links
  added-long = length-set two v (d + 1) ∙ long2

  new-head : head_at (arc_added size links u v d) v ≡ d + 1
  new-head = get_or-set_same two v (d + 1) 0 (omega (arith, long2))

  old-head : (x : ℕ) → x < size → (x ≡ v → ⊥) → head_at (arc_added size links u v d) x ≡ head_at links x
  old-head x b n = get_or-set_other two v x (d + 1) 0 n ∙ get_or-set_other one (size + 2 * d + 1) x (head_at links v) 0 (omega arith) ∙ get_or-set_other links (size + 2 * d) x u 0 (omega arith)

  new-start : start_at size (arc_added size links u v d) d ≡ u
  new-start =
      get_or-set_other two v (size + 2 * d) (d + 1) 0 (omega arith) ∙ get_or-set_other one (size + 2 * d + 1) (size + 2 * d) (head_at links v) 0 (omega arith)
      ∙ get_or-set_same links (size + 2 * d) u 0 (omega arith)

  old-start : (j : ℕ) → j < d → start_at size (arc_added size links u v d) j ≡ start_at size links j
  old-start j h =
      get_or-set_other two v (size + 2 * j) (d + 1) 0 (omega arith) ∙ get_or-set_other one (size + 2 * d + 1) (size + 2 * j) (head_at links v) 0 (omega arith)
      ∙ get_or-set_other links (size + 2 * d) (size + 2 * j) u 0 (omega arith)

  new-more : more_at size (arc_added size links u v d) d ≡ head_at links v
  new-more = get_or-set_other two v (size + 2 * d + 1) (d + 1) 0 (omega arith) ∙ get_or-set_same one (size + 2 * d + 1) (head_at links v) 0 (omega (arith, long1))

  old-more : (j : ℕ) → j < d → more_at size (arc_added size links u v d) j ≡ more_at size links j
  old-more j h =
      get_or-set_other two v (size + 2 * j + 1) (d + 1) 0 (omega arith) ∙ get_or-set_other one (size + 2 * d + 1) (size + 2 * j + 1) (head_at links v) 0 (omega arith)
      ∙ get_or-set_other links (size + 2 * d) (size + 2 * j + 1) u 0 (omega arith)

-- one arc more
module _ (size : ℕ) (ds : List Arc) (links : List ℕ) (d : ℕ) (k : Arc) (e : length ds ≡ d) (room : size + 2 * (d + 1) ≤ length links) (node : k.to < size) (l : Linked size ds links) where
  abbrev links' : List ℕ
  links' = arc_added size links k.from k.to d

  abbrev new : ℕ → ℕ
  new j = to_at (ds ++ k ∷ []) j

  nhead : head_at links' k.to ≡ d + 1
  nhead = new-head size links k.from k.to d node room

  ohead : (x : ℕ) → x < size → (x ≡ k.to → ⊥) → head_at links' x ≡ head_at links x
  ohead = old-head size links k.from k.to d node room

  nstart : start_at size links' d ≡ k.from
  nstart = new-start size links k.from k.to d node room

  ostart : (j : ℕ) → j < d → start_at size links' j ≡ start_at size links j
  ostart = old-start size links k.from k.to d node room

  nmore : more_at size links' d ≡ head_at links k.to
  nmore = new-more size links k.from k.to d node room

  omore : (j : ℕ) → j < d → more_at size links' j ≡ more_at size links j
  omore = old-more size links k.from k.to d node room

  longer : length (ds ++ k ∷ []) ≡ d + 1
  longer = length-append ds (k ∷ []) ∙ ap (λ n. n + 1) e

  new-to : new d ≡ k.to
  new-to = at_new (λ (a : Arc). a.to) ds k d e

  old-to : (j : ℕ) → j < d → new j ≡ to_at ds j
  old-to j h = at_old (λ (a : Arc). a.to) ds k j (omega arith)

  split : (j : ℕ) → j < length (ds ++ k ∷ []) → (j ≡ d) ⊎ (j < d)
  split j h = ⊎_elim (λ (le : d ≤ j). inl (omega (arith, longer))) inr (order d j)

  pub add-arc : Linked size (ds ++ k ∷ []) (arc_added size links k.from k.to d)
  add-arc =
      record {
        long = omega (arith, longer, added-long size links k.from k.to d node room);
        short = omega (arith, l.short, added-long size links k.from k.to d node room);
        inside = λ j h. ⊎_elim (λ i. omega (arith, ap new i, new-to)) (λ lt. omega (arith, old-to j lt, l.inside j (omega arith))) (split j h);
        starts = λ j h.
            ⊎_elim (λ i. ap (start_at size links') i ∙ nstart ∙ sym (at_new (λ (a : Arc). a.from) ds k d e) ∙ ap (from_at (ds ++ k ∷ [])) (sym i))
            (λ lt. ostart j lt ∙ l.starts j (omega arith) ∙ sym (at_old (λ (a : Arc). a.from) ds k j (omega arith))) (split j h);
        head = λ j h.
            ⊎_elim (λ i. omega (arith, i, nhead, ap (λ x. head_at links' (new x)) i, ap (head_at links') new-to))
            (λ lt. ⊎_elim (λ (i : to_at ds j ≡ k.to). omega (arith, nhead, ap (head_at links') (old-to j lt ∙ i)))
            (λ ne. omega (arith, ap (head_at links') (old-to j lt), ohead (to_at ds j) (l.inside j (omega arith)) ne, l.head j (omega arith))) (equal (to_at ds j) k.to)) (split j h);
        head-is = λ x p b q.
            ⊎_elim (λ i. let z : p ≡ d = omega (arith, q, ap (head_at links') i, nhead) in (omega (arith, longer), ap new z ∙ new-to ∙ sym i))
            (λ ne. let r = l.head-is x p b (sym (ohead x b ne) ∙ q) in (omega (arith, longer, r.0), old-to p (omega (arith, r.0)) ∙ r.1)) (equal x k.to);
        gap = λ j p h b q.
            ⊎_elim
            (λ i. let z : to_at ds j ≡ k.to = sym (old-to j (omega arith)) ∙ q ∙ ap new i ∙ new-to in
            omega (arith, ap (more_at size links') i, nmore, l.head j (omega arith), ap (head_at links) z))
            (λ lt. omega (arith, omore p lt, l.gap j p h (omega arith) (sym (old-to j (omega arith)) ∙ q ∙ old-to p lt))) (split p b);
        back = λ p q b z.
            ⊎_elim
            (λ i. let r = l.head-is k.to q node (sym nmore ∙ ap (more_at size links') (sym i) ∙ z) in
            (omega (arith, r.0), old-to q (omega (arith, r.0)) ∙ r.1 ∙ sym new-to ∙ ap new (sym i)))
            (λ lt. let r = l.back p q (omega arith) (sym (omore p lt) ∙ z) in (r.0, old-to q (omega (arith, r.0)) ∙ r.1 ∙ sym (old-to p lt))) (split p b);
      }

-- ---- one way of an entry
pub one_way : (class : ℕ) → class ≡ 0 → way_count class ≡ 1
one_way class z = rw (eq-eqb class 0 z)

pub two-halves : (class : ℕ) → (class ≡ 0 → ⊥) → way_count class ≡ 2
two-halves class n = rw (ne_eqb class 0 n)

-- ---- what `way` ensures
module _ (class m u v d size : ℕ) {links : List ℕ} (nodes : (u < size) × (v < size) × (m < size)) (room : (size + 2 * (d + way_count class) ≤ length links) × (length links ≤ max_links)) where
  -- of class 0: one arc
  pub one-done : {links1 : List ℕ} → class ≡ 0 → links1 ≡ arc_added size links u v d
      → (d + 1 ≡ d + way_count class) × ((length links1 ≡ length links) × ((ds : List Arc) (i : ℕ) → length ds ≡ d → Linked size ds links → Linked size (ds ++ way_arcs class m u v i) links1))
  one-done z a =
      let q = one_way class z in
      let r : size + 2 * (d + 1) ≤ length links = omega (arith, room.0) in (
        omega arith,
        (
          ap length a ∙ added-long size links u v d nodes.1 r,
          λ ds i e l. rw (a, eq-eqb class 0 z) (add-arc size ds links d (record { from = u; to = v; place = i }) e r nodes.1 l),
        ),
      )

  -- of another: two halves
  pub two-done : {links1 links2 : List ℕ} → (class ≡ 0 → ⊥) → links1 ≡ arc_added size links u m d → links2 ≡ arc_added size links1 m v (d + 1)
      → (d + 2 ≡ d + way_count class) × ((length links2 ≡ length links) × ((ds : List Arc) (i : ℕ) → length ds ≡ d → Linked size ds links → Linked size (ds ++ way_arcs class m u v i) links2))
  two-done {links1} n a b =
      let q = two-halves class n in
      let r : size + 2 * (d + 1) ≤ length links = omega (arith, room.0) in
      let long1 : length links1 ≡ length links = ap length a ∙ added-long size links u m d nodes.2 r in
      let r1 : size + 2 * (d + 1 + 1) ≤ length links1 = omega (arith, room.0) in (
        omega arith,
        (
          ap length b ∙ added-long size links1 m v (d + 1) nodes.1 r1 ∙ long1,
          λ ds i e l.
              let j : Arc = record { from = u; to = m; place = i } in
              let k : Arc = record { from = m; to = v; place = i } in
              let one : Linked size (ds ++ j ∷ []) links1 = rw a (add-arc size ds links d j e r nodes.2 l) in
              let two = add-arc size (ds ++ j ∷ []) links1 (d + 1) k (length-append ds (j ∷ []) ∙ ap (λ x. x + 1) e) r1 nodes.1 one in
              rw (b, ne_eqb class 0 n) (subst (λ x. Linked size x (arc_added size links1 m v (d + 1))) (append_assoc ds (j ∷ []) (k ∷ [])) two),
        ),
      )
