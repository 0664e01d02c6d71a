-- DEMAND 3, by induction over plans.
use mathlib.Core.Path.{◌≡◌, refl, sym, ap, subst, ◌∙◌}
use mathlib.Core.Logic.{◌↔◌, ⊎_map}
use mathlib.Core.List.{List}
use Prim.Native.Nat.{ℕ, ◌+◌, ◌≤◌, min}
use native.Mathlib.Omega.{arith}
use lib.Dec.{T, eqb}
use lib.ListN.{length}
use borrow.Author.Tests.{eqb-true}
use Rattle.laws.specs.Members.{◌∈◌}
use Rattle.laws.specs.Tests.{T_true, T-ext, T_and, T-or}
use Rattle.front.specs.declared.Pair.{Pair}
use Rattle.front.specs.Front.{AtMost}
use Rattle.record.specs.Record.{record_size1, record_size2, listed, is_record, record_holds}
use Rattle.record.proofs.Bytes.{listed-length}
use Rattle.record.proofs.Records.{record_is, record-few}
use Rattle.compose.specs.Compose.{series_bytes, parallel_bytes}
use Rattle.compose.specs.Steps.{Joinable}
use Rattle.compose.specs.Laws.{Sized, Laws}
use Rattle.compose.proofs.Algebra.{laws}
use Rattle.parts.specs.Study.{Arc}
use Rattle.sections.specs.File.{study_of}
use Rattle.network.specs.Round.{Route, route_pair}
use Rattle.search.proofs.Claims.{claims}
use Rattle.plan.specs.Plan.{Plan, searched, series, parallel, PlanHolds, PlanSized}
use Rattle.plan.specs.Calls.{Searched, Built}
use Rattle.plan.proofs.Told.{search-wrote, search-passed, series-wrote, parallel-wrote}

-- what is known of a plan's record
pub record Sound (p : Plan) (x : List ℕ) : Type 0 where
  pub is : T (is_record x)
  pub sized : PlanSized p (record_size1 x) (record_size2 x)
  pub holds : (a b : ℕ) → a ≤ record_size1 x → b ≤ record_size2 x → T (record_holds x a b) ↔ PlanHolds p a b

-- ---- a searched round
round-sound : (f : List ℕ) (r : ℕ) (x : List ℕ) → Searched f r x → Sound (searched f r) x
round-sound f r x s =
    let c = claims f r (search-passed f r x s) in
    subst (Sound (searched f r)) (sym (search-wrote f r x s)) (record { is = c.is-record; sized = (refl, refl); holds = c.removal })

-- ---- two plans joined
module _ {p q : Plan} {y z : List ℕ} (sp : Sound p y) (sq : Sound q z) (j : Joinable y z) where
  same : (record_size1 y ≡ record_size1 z) × (record_size2 y ≡ record_size2 z)
  same =
      let t = (T_and (eqb (record_size1 y) (record_size1 z)) (eqb (record_size2 y) (record_size2 z))).0 j.same in
      (eqb-true (record_size1 y) (record_size1 z) ((T_true (eqb (record_size1 y) (record_size1 z))).0 t.0), eqb-true (record_size2 y) (record_size2 z) ((T_true (eqb (record_size2 y) (record_size2 z))).0 t.1))

  left : Sized (record_size1 y) (record_size2 y) y
  left = record { is = sp.is; one = refl; two = refl }

  right : Sized (record_size1 y) (record_size2 y) z
  right = record { is = sq.is; one = sym same.0; two = sym same.1 }

  all : Laws (record_size1 y) (record_size2 y) y z z
  all = laws left right right

  sized-right : PlanSized q (record_size1 y) (record_size2 y)
  sized-right = subst (λ m. PlanSized q m (record_size2 y)) (sym same.0) (subst (PlanSized q (record_size1 z)) (sym same.1) sq.sized)

  left-holds : (a b : ℕ) → a ≤ record_size1 y → b ≤ record_size2 y → T (record_holds y a b) ↔ PlanHolds p a b
  left-holds = sp.holds

  right-holds : (a b : ℕ) → a ≤ record_size1 y → b ≤ record_size2 y → T (record_holds z a b) ↔ PlanHolds q a b
  right-holds a b h k = sq.holds a b (omega (arith, same.0)) (omega (arith, same.1))

  series-sound : Sound (series p q) (series_bytes y z)
  series-sound =
      record {
        is = all.series-sized.is;
        sized = (sp.sized, sized-right);
        holds = λ a b h k.
            let i = left-holds a b h k in
            let o = right-holds a b h k in
            let c = T_and (record_holds y a b) (record_holds z a b) in
            (λ t. let u = c.0 (subst T (all.series-holds a b) t) in (i.0 u.0, o.0 u.1), λ u. subst T (sym (all.series-holds a b)) (c.1 (i.1 u.0, o.1 u.1)));
      }

  parallel-sound : Sound (parallel p q) (parallel_bytes y z)
  parallel-sound =
      record {
        is = all.parallel-sized.is;
        sized = (sp.sized, sized-right);
        holds = λ a b h k.
            let i = left-holds a b h k in
            let o = right-holds a b h k in
            let c = T-or (record_holds y a b) (record_holds z a b) in
            (λ t. ⊎_map i.0 o.0 (c.0 (subst T (all.parallel-holds a b) t)), λ u. subst T (sym (all.parallel-holds a b)) (c.1 (⊎_map i.1 o.1 u)));
      }

-- ---- every plan
pub sound : (p : Plan) (x : List ℕ) → Built p x → Sound p x
sound (searched f r) x s = round-sound f r x s
sound (series p q) x b =
    let e = series-wrote b.0 b.1 x b.4 in
    subst (Sound (series p q)) (sym e.0) (series-sound (sound p b.0 b.2) (sound q b.1 b.3) e.1)
sound (parallel p q) x b =
    let e = parallel-wrote b.0 b.1 x b.4 in
    subst (Sound (parallel p q)) (sym e.0) (parallel-sound (sound p b.0 b.2) (sound q b.1 b.3) e.1)

-- a plan has one pair of class sizes
pub one_size : (p : Plan) (m n i j : ℕ) → PlanSized p m n → PlanSized p i j → (m ≡ i) × (n ≡ j)
one_size (searched f r) m n i j s t = (sym s.0 ∙ t.0, sym s.1 ∙ t.1)
one_size (series p q) m n i j s t = one_size p m n i j s.0 t.0
one_size (parallel p q) m n i j s t = one_size p m n i j s.0 t.0

-- ---- DEMAND 3
module _ (p : Plan) (x : List ℕ) (n1 n2 : ℕ) (b : Built p x) (s : PlanSized p n1 n2) where
  pub sized : Sized n1 n2 x
  sized = let e = one_size p (record_size1 x) (record_size2 x) n1 n2 (sound p x b).sized s in record { is = (sound p x b).is; one = e.0; two = e.1 }

  pub holds : (i j : ℕ) → i ≤ n1 → j ≤ n2 → T (record_holds x i j) ↔ PlanHolds p i j
  holds i j h k = (sound p x b).holds i j (omega (arith, sized.one)) (omega (arith, sized.two))

  pub short : length (listed x) ≤ min n1 n2 + 1
  short = let r = (record_is x).0 sized.is in rw (← sized.one, ← sized.two) (omega (arith, record-few x r, listed-length x r.long))

pub equal : (p q : Plan) (x y : List ℕ) (n1 n2 : ℕ) → Built p x → Built q y → PlanSized p n1 n2 → PlanSized q n1 n2
    → (x ≡ y) ↔ ((a b : ℕ) → a ≤ n1 → b ≤ n2 → PlanHolds p a b ↔ PlanHolds q a b)
equal p q x y n1 n2 b c s t =
    let i = holds p x n1 n2 b s in
    let o = holds q y n1 n2 c t in
    let sy = sized q y n1 n2 c t in (
      λ e a b h k. let u = ap (λ v. record_holds v a b) e in (λ v. (o a b h k).0 (subst T u ((i a b h k).1 v)), λ v. (i a b h k).0 (subst T (sym u) ((o a b h k).1 v))),
      λ g. (laws (sized p x n1 n2 b s) sy sy).equal.1
          (λ a b h k. T-ext (record_holds x a b) (record_holds y a b) (λ v. (o a b h k).1 ((g a b h k).0 ((i a b h k).0 v)), λ v. (i a b h k).1 ((g a b h k).1 ((o a b h k).0 v)))),
    )

pub route : (f : List ℕ) (r : ℕ) (x : List ℕ) → Built (searched f r) x
    → (ks : List Arc) → Route (study_of f) ks → (q : Pair) × (q ∈ listed x) × AtMost (route_pair (study_of f) r ks) q
route f r x s = rw (search-wrote f r x s) (claims f r (search-passed f r x s)).route
