-- The enumeration lists exactly the routes; a walk without its loops is a route that is worth at least as much.
use mathlib.Core.Path.{◌≡◌, refl, sym, subst}
use mathlib.Core.Logic.{◌↔◌, ⊎_elim}
use mathlib.Core.Bool.{Bool, true, false, not, ◌&&◌, cond}
use mathlib.Core.List.Memᴰ
use mathlib.Core.List.{List, [], ◌∷◌, map}
use Prim.Native.Nat.{ℕ, zero, suc, ◌≤◌}
use native.Mathlib.Omega.{arith}
use lib.Dec.{T, eqb, eqb→eq, eqb_refl}
use lib.ListN.{length, length-map}
use Rattle.laws.specs.Tests.{T_and, decide}
use Rattle.laws.specs.Members.{◌∈◌, here, there, keep_out, keep-in, keep-length, concat_map, concat_map-out, concat_map-in, member, member-out, member-in, without, without-out, without_in, without-length, in-length}
use Rattle.laws.specs.Pairwise.{Pairwise}
use Rattle.front.specs.declared.Pair.{Pair}
use Rattle.front.specs.Front.{AtMost}
use Rattle.parts.specs.Study.{Arc}
use Rattle.network.specs.Walk.{Network, Walk, RouteFrom, ends, visits, Differ, pair_on, onward, arrived, routes_from, routes}

-- ---- the enumeration lists exactly the routes
onward-out : (arcs : List Arc) (free : List ℕ) (u : ℕ) (k : Arc) → k ∈ onward arcs free u → (k ∈ arcs) × (k.from ≡ u) × (k.to ∈ free)
onward-out arcs free u k h =
    let r = keep_out (λ k. eqb k.from u && member k.to free) arcs h in
    let c = (T_and (eqb k.from u) (member k.to free)).0 r.1 in
    (r.0, eqb→eq k.from u c.0, member-out k.to free c.1)

onward-in : {arcs : List Arc} (free : List ℕ) (u : ℕ) (k : Arc) → k ∈ arcs → k.from ≡ u → k.to ∈ free → k ∈ onward arcs free u
onward-in free u k h e m =
    keep-in (λ k. eqb k.from u && member k.to free) h
    ((T_and (eqb k.from u) (member k.to free)).1 (subst (λ x. T (eqb k.from x)) e (eqb_refl k.from), member-in m))

arrived-out : (t u : ℕ) (r : List Arc) → r ∈ arrived t u → (r ≡ []) × (u ≡ t)
arrived-out t u r h = go (eqb u t) refl h
  where
    go : (b : Bool) → eqb u t ≡ b → r ∈ cond b ([] ∷ []) [] → (r ≡ []) × (u ≡ t)
    go true e (Memᴰ.head p) = (p, eqb→eq u t (subst T (sym e) tt))
    go true e (Memᴰ.tail q) = elim q [ ]
    go false e q = elim q [ ]

arrived-in : (t u : ℕ) → u ≡ t → [] ∈ arrived t u
arrived-in t u e = go (eqb u t) (subst (λ x. T (eqb u x)) e (eqb_refl u))
  where
    go : (b : Bool) → T b → [] ∈ cond {A = List (List Arc)} b ([] ∷ []) []
    go true h = here
    go false h = absurd h

module _ (arcs : List Arc) (t : ℕ) where
  -- r leads from u to t, through free nodes, none twice
  abbrev Free : List ℕ → ℕ → List Arc → Type 0
  Free free u r = Walk arcs u t r × Pairwise Differ (ends r) × ((v : ℕ) → v ∈ ends r → v ∈ free)

  home : (free : List ℕ) (u : ℕ) (r : List Arc) → r ∈ arrived t u → Free free u r
  home free u r h = let e = arrived-out t u r h in subst (Free free u) (sym e.0) (e.1, tt, λ v m. elim m [ ])

  further : (free : List ℕ) (u : ℕ) (k : Arc) (ks : List Arc) → k ∈ onward arcs free u → Free (without k.to free) k.to ks → Free free u (k ∷ ks)
  further free u k ks h f =
      let o = onward-out arcs free u k h in (
        (o.0, o.1, f.0),
        (λ v m. (without-out k.to free (f.2 v m)).1, f.1),
        λ v m. ⊎_elim (λ e. Memᴰ.cast e o.2) (λ q. (without-out k.to free (f.2 v q)).0) (Memᴰ.cases_cons m),
      )

  from_out : (n : ℕ) (free : List ℕ) (u : ℕ) (r : List Arc) → r ∈ routes_from arcs t n free u → Free free u r
  from_out zero free u r h = home free u r h
  from_out (suc n) free u r h =
      ⊎_elim (home free u r) (on (λ k ks. from_out n (without k.to free) k.to ks)) (Memᴰ.append_cases (arrived t u) h)
    where
      by : Arc → List (List Arc)
      by k = map (λ ks. k ∷ ks) (routes_from arcs t n (without k.to free) k.to)

      on : ((k : Arc) (ks : List Arc) → ks ∈ routes_from arcs t n (without k.to free) k.to → Free (without k.to free) k.to ks) → r ∈ concat_map by (onward arcs free u) → Free free u r
      on rec m =
          let a = concat_map-out by (onward arcs free u) m in
          let b = Memᴰ.of_map (λ ks. a.0 ∷ ks) (routes_from arcs t n (without a.0.to free) a.0.to) a.2 in
          subst (Free free u) b.2 (further free u a.0 b.0 a.1 (rec a.0 b.0 b.1))

  from_in : (n : ℕ) (free : List ℕ) (u : ℕ) (r : List Arc) → length free ≤ n → Free free u r → r ∈ routes_from arcs t n free u
  from_in zero free u [] h f = arrived-in t u f.0
  from_in zero free u (k ∷ ks) h f = absurd (omega (arith, in-length (f.2 k.to here)))
  from_in (suc n) free u [] h f = Memᴰ.append_left _ (arrived-in t u f.0)
  from_in (suc n) free u (k ∷ ks) h f =
      let rest = from_in n (without k.to free) k.to ks (omega (arith, without-length (f.2 k.to here))) (f.0.2, f.1.1, λ v m. without_in k.to (f.2 v (Memᴰ.tail m)) (f.1.0 v m)) in
      Memᴰ.append_right (arrived t u)
      (concat_map-in (λ k. map (λ ks. k ∷ ks) (routes_from arcs t n (without k.to free) k.to)) (onward-in free u k f.0.0 f.0.1 (f.2 k.to here)) (Memᴰ.map (λ ks. k ∷ ks) rest))

walk_ends : (arcs : List Arc) (u v : ℕ) (r : List Arc) → Walk arcs u v r → (x : ℕ) → x ∈ ends r → x ∈ ends arcs
walk_ends arcs u v [] w x m = elim m [ ]
walk_ends arcs u v (k ∷ ks) w x m = ⊎_elim (λ e. Memᴰ.cast e (Memᴰ.map (λ (k : Arc). k.to) w.0)) (walk_ends arcs k.to v ks w.2 x) (Memᴰ.cases_cons m)

-- a walk visits both its ends
pub walk-arrives : (arcs : List Arc) (u v : ℕ) (ks : List Arc) → Walk arcs u v ks → v ∈ visits u ks
walk-arrives arcs u v [] w = Memᴰ.head (sym w)
walk-arrives arcs u v (k ∷ ks) w = there (walk-arrives arcs k.to v ks w.2)

-- `routes` lists the routes from source to target, and nothing else
pub routes-are : (net : Network) (r : List Arc) → (r ∈ routes net) ↔ RouteFrom net.arcs net.source net.target r
routes-are net r =
    let free = without net.source (ends net.arcs) in (
      λ h. let f = from_out net.arcs net.target (length net.arcs) free net.source r h in (f.0, (λ v m. (without-out net.source (ends net.arcs) (f.2 v m)).1, f.1)),
      λ h.
          from_in net.arcs net.target (length net.arcs) free net.source r
          (omega (arith, keep-length (λ v. not (eqb net.source v)) (ends net.arcs), length-map net.arcs (λ (k : Arc). k.to)))
          (h.0, h.1.1, λ v m. without_in net.source (walk_ends net.arcs net.source net.target r h.0 v m) (h.1.0 v m)),
    )

-- ---- a walk without its loops is a route whose pair is at least as large
module _ (net : Network) where
  -- a route from u to the target with a pair of at least p
  abbrev Reaches : ℕ → Pair → Type 0
  Reaches u p = (r : List Arc) × RouteFrom net.arcs u net.target r × AtMost p (pair_on net u r)

  -- a route that passes x, from x on
  cut : (x u : ℕ) (ks : List Arc) → RouteFrom net.arcs u net.target ks → x ∈ visits u ks → Reaches x (pair_on net u ks)
  cut x u [] r m = ⊎_elim (λ e. subst (λ v. Reaches v (pair_on net u [])) (sym e) ([], r, omega arith)) (λ q. elim q [ ]) (Memᴰ.cases_cons m)
  cut x u (k ∷ ks) r m =
      ⊎_elim
      (λ e. subst (λ v. Reaches v (pair_on net u (k ∷ ks))) (sym e) (k ∷ ks, r, omega arith))
      (λ q. let c = cut x k.to ks (r.0.2, r.1.1) q in (c.0, c.1, omega arith))
      (Memᴰ.cases_cons m)

  pub straighten : (u : ℕ) (ks : List Arc) → Walk net.arcs u net.target ks → Reaches u (pair_on net u ks)
  straighten u [] w = ([], (w, (λ y m. elim m [ ], tt)), omega arith)
  straighten u (k ∷ ks) w =
      let r = straighten k.to ks w.2 in
      ⊎_elim
      (λ h. let c = cut u k.to r.0 r.1 (member-out u (visits k.to r.0) h) in (c.0, c.1, omega arith))
      (λ n. (k ∷ r.0, ((w.0, w.1, r.1.0), (λ y m e. n (member-in (Memᴰ.cast e m)), r.1.1)), omega arith))
      (decide (member u (visits k.to r.0)))
