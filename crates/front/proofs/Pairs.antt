-- What the tests on pairs say.
use mathlib.Core.Path.{◌≡◌, refl, ap, subst}
use mathlib.Core.Logic.{◌↔◌, ⊎_elim}
use mathlib.Core.Bool.{not, ◌&&◌}
use mathlib.Core.List.Memᴰ
use mathlib.Core.List.{List}
use Prim.Native.Nat.{ℕ, ◌+◌, ◌≤◌, ◌<◌}
use native.Mathlib.Omega.{arith}
use lib.Dec.{T, T_not, not_T, leb, ltb, eqb, leb→le, le→leb, ltb→lt, lt→ltb, eqb→eq, eqb_refl}
use Rattle.laws.specs.Tests.{T-ext, T_and, order}
use Rattle.laws.specs.Members.{◌∈◌, any, any_out, any-in}
use Rattle.front.specs.declared.Pair.{Pair}
use Rattle.front.specs.Pair.{pair_of, min_pair, covers, same, dominates, holds_at}
use Rattle.front.specs.Front.{undominated, AtMost}

pub pair_eq : {p q : Pair} → p.p1.0 ≡ q.p1.0 → p.p2.0 ≡ q.p2.0 → p ≡ q
pair_eq e f = λ i. pair_of (e i) (f i)

-- the numbers of equal pairs, for omega
pub numbers : {p q : Pair} → p ≡ q → (p.p1.0 ≡ q.p1.0) × (p.p2.0 ≡ q.p2.0)
numbers e = (ap (λ (r : Pair). r.p1.0) e, ap (λ (r : Pair). r.p2.0) e)

pub covers-is : (p q : Pair) → T (covers p q) ↔ AtMost q p
covers-is p q =
    let e = T_and (leb q.p1.0 p.p1.0) (leb q.p2.0 p.p2.0) in (
      λ t. (leb→le q.p1.0 p.p1.0 (e.0 t).0, leb→le q.p2.0 p.p2.0 (e.0 t).1),
      λ h. e.1 (le→leb q.p1.0 p.p1.0 h.0, le→leb q.p2.0 p.p2.0 h.1),
    )

pub same-is : (p q : Pair) → T (same p q) ↔ (p ≡ q)
same-is p q =
    let e = T_and (eqb p.p1.0 q.p1.0) (eqb p.p2.0 q.p2.0) in (
      λ t. pair_eq (eqb→eq p.p1.0 q.p1.0 (e.0 t).0) (eqb→eq p.p2.0 q.p2.0 (e.0 t).1),
      λ i. subst (λ r. T (same p r)) i ((T_and (eqb p.p1.0 p.p1.0) (eqb p.p2.0 p.p2.0)).1 (eqb_refl p.p1.0, eqb_refl p.p2.0)),
    )

-- p dominates q: it covers q, and its numbers add up to more
abbrev pub Above : Pair → Pair → Type 0
Above p q = (q.p1.0 ≤ p.p1.0) × (q.p2.0 ≤ p.p2.0) × (q.p1.0 + q.p2.0 < p.p1.0 + p.p2.0)

pub dominates-is : (p q : Pair) → T (dominates p q) ↔ Above p q
dominates-is p q =
    let e = T_and (covers p q) (not (same p q)) in (
      λ t.
          let h = (covers-is p q).0 (e.0 t).0 in
          (h.0, h.1, ⊎_elim (λ le. absurd (T_not (same p q) (e.0 t).1 ((same-is p q).1 (pair_eq (omega arith) (omega arith))))) (λ lt. lt) (order (p.p1.0 + p.p2.0) (q.p1.0 + q.p2.0))),
      λ h. e.1 ((covers-is p q).1 (h.0, h.1), not_T (same p q) (λ t. omega (arith, numbers ((same-is p q).0 t)))),
    )

pub holds-is : (p : Pair) (a b : ℕ) → T (holds_at p a b) ↔ ((a < p.p1.0) × (b < p.p2.0))
holds-is p a b =
    let e = T_and (ltb a p.p1.0) (ltb b p.p2.0) in (
      λ t. (ltb→lt a p.p1.0 (e.0 t).0, ltb→lt b p.p2.0 (e.0 t).1),
      λ h. e.1 (lt→ltb a p.p1.0 h.0, lt→ltb b p.p2.0 h.1),
    )

-- a minimum holds where both pairs do
pub min-holds : (p q : Pair) (a b : ℕ) → holds_at (min_pair p q) a b ≡ (holds_at p a b && holds_at q a b)
min-holds p q a b =
    let e = T_and (holds_at p a b) (holds_at q a b) in
    T-ext (holds_at (min_pair p q) a b) (holds_at p a b && holds_at q a b) (
      λ t. let h = (holds-is (min_pair p q) a b).0 t in e.1 ((holds-is p a b).1 (omega arith), (holds-is q a b).1 (omega arith)),
      λ t. let h = (holds-is p a b).0 (e.0 t).0 in let k = (holds-is q a b).0 (e.0 t).1 in (holds-is (min_pair p q) a b).1 (omega arith),
    )

pub undominated-is : (l : List Pair) (p : Pair) → T (undominated l p) ↔ ((p ∈ l) × ((q : Pair) → q ∈ l → T (dominates q p) → ⊥))
undominated-is l p =
    let e = T_and (any (same p) l) (not (any (λ q. dominates q p) l)) in (
      λ t.
          let m = any_out (same p) l (e.0 t).0 in
          (Memᴰ.cast ((same-is p m.0).0 m.2) m.1, λ q k b. T_not (any (λ r. dominates r p) l) (e.0 t).1 (any-in (λ r. dominates r p) k b)),
      λ h.
          e.1 (
            any-in (same p) h.0 ((same-is p p).1 refl),
            not_T (any (λ q. dominates q p) l) (λ t. let r = any_out (λ q. dominates q p) l t in h.1 r.0 r.1 r.2),
          ),
    )
