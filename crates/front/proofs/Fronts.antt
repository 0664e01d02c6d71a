-- What the front of a list is: its undominated pairs in record form, which hold where the list does; and it is told by where it holds.
use mathlib.Core.Path.{◌≡◌, refl, sym, ap, ◌∙◌, subst}
use mathlib.Core.Logic.{◌↔◌, ⊎_elim}
use mathlib.Core.List.Memᴰ
use mathlib.Core.List.{List, [], ◌∷◌}
use Prim.Native.Nat.{ℕ, zero, suc, ◌+◌, ◌-◌, ◌≤◌, ◌<◌, min}
use native.Mathlib.Omega.{arith}
use lib.Dec.{T}
use lib.ListN.{length}
use Rattle.laws.specs.Tests.{T-ext, decide, order}
use Rattle.laws.specs.Members.{◌∈◌, here, there, any, any_out, any-in, keep_out, keep-in, keep_same}
use Rattle.laws.specs.Pairwise.{Pairwise, pairwise-keep, pairwise-to, pairwise-either, pairwise-same}
use Rattle.front.specs.declared.Pair.{Pair}
use Rattle.front.specs.Pair.{dominates, holds_at}
use Rattle.front.specs.Front.{holds, undominated, grid, front, Within, AllWithin, Falls, AtMost}
use Rattle.front.specs.Steps.{RecordForm, SameCounts, Under}
use Rattle.front.proofs.Pairs.{pair_eq, numbers, dominates-is, holds-is, undominated-is}
use Rattle.front.proofs.Grid.{grid-in, grid-out, Before, grid-ordered}

-- what holds after some failures holds after fewer
pub holds-fewer : (l : List Pair) (a c b d : ℕ) → a ≤ c → b ≤ d → T (holds l c d) → T (holds l a b)
holds-fewer l a c b d h k t =
    let r = any_out (λ p. holds_at p c d) l t in
    let x = (holds-is r.0 c d).0 r.2 in
    any-in (λ p. holds_at p a b) r.1 ((holds-is r.0 a b).1 (omega (arith, x), omega (arith, x)))

-- ---- what a front lists
front_out : (n1 n2 : ℕ) (l : List Pair) (p : Pair) → p ∈ front n1 n2 l → Within n1 n2 p × T (undominated l p)
front_out n1 n2 l p h = let k = keep_out (undominated l) (grid (suc n1) (suc n2)) h in (omega (arith, grid-out (suc n1) (suc n2) p k.0), k.1)

front-in : (n1 n2 : ℕ) (l : List Pair) (p : Pair) → Within n1 n2 p → T (undominated l p) → p ∈ front n1 n2 l
front-in n1 n2 l p w t = keep-in (undominated l) (grid-in p (suc n1) (suc n2) w.low1 w.high1 w.low2 w.high2) t

-- a front lists exactly the pairs of its list that none of them dominates
pub front-are : (n1 n2 : ℕ) (l : List Pair) → AllWithin n1 n2 l → (p : Pair) → (p ∈ front n1 n2 l) ↔ ((p ∈ l) × ((q : Pair) → q ∈ l → T (dominates q p) → ⊥))
front-are n1 n2 l w p = (λ h. (undominated-is l p).0 (front_out n1 n2 l p h).1, λ h. front-in n1 n2 l p (w p h.0) ((undominated-is l p).1 h))

pub front-within : (n1 n2 : ℕ) (l : List Pair) → AllWithin n1 n2 (front n1 n2 l)
front-within n1 n2 l p h = (front_out n1 n2 l p h).0

front-falls : (n1 n2 : ℕ) (l : List Pair) → Pairwise Falls (front n1 n2 l)
front-falls n1 n2 l =
    pairwise-to Before Falls (front n1 n2 l) (pairwise-keep Before (undominated l) (grid (suc n1) (suc n2)) (grid-ordered (suc n1) (suc n2))) step
  where
    step : (p q : Pair) → p ∈ front n1 n2 l → q ∈ front n1 n2 l → Before p q → Falls p q
    step p q h k x =
        let u = (undominated-is l p).0 (front_out n1 n2 l p h).1 in
        let v = (undominated-is l q).0 (front_out n1 n2 l q k).1 in
        ⊎_elim
        (λ lt. (lt, ⊎_elim (λ le. absurd (v.1 p u.0 ((dominates-is p q).1 (omega arith)))) (λ r. r) (order q.p2.0 p.p2.0)))
        (λ e. absurd (u.1 q v.0 ((dominates-is q p).1 (omega arith)))) x

pub front-form : (n1 n2 : ℕ) (l : List Pair) → RecordForm n1 n2 (front n1 n2 l)
front-form n1 n2 l = record { within = front-within n1 n2 l; falls = front-falls n1 n2 l }

-- ---- a front holds where its list does
under-holds : (l m : List Pair) → Under l m → (a b : ℕ) → T (holds l a b) → T (holds m a b)
under-holds l m u a b t =
    let r = any_out (λ p. holds_at p a b) l t in
    let s = u r.0 r.1 in
    let h = (holds-is r.0 a b).0 r.2 in
    any-in (λ p. holds_at p a b) s.1 ((holds-is s.0 a b).1 (omega arith))

front-under : (n1 n2 : ℕ) (l : List Pair) → Under (front n1 n2 l) l
front-under n1 n2 l p h = (p, ((undominated-is l p).0 (front_out n1 n2 l p h).1).0, omega arith)

-- a pair that is dominated is dominated by a larger one: k is what is left to climb
climb : (n1 n2 : ℕ) (l : List Pair) → AllWithin n1 n2 l → (k : ℕ) (p : Pair) → p ∈ l → n1 + n2 + 2 < p.p1.0 + p.p2.0 + k → (q : Pair) × (q ∈ front n1 n2 l) × AtMost p q
climb n1 n2 l w zero p m h = absurd (omega (arith, w p m))
climb n1 n2 l w (suc k) p m h =
    ⊎_elim
    (λ t.
    let r = any_out (λ q. dominates q p) l t in
    let b = (dominates-is r.0 p).0 r.2 in
    let s = climb n1 n2 l w k r.0 r.1 (omega arith) in
    (s.0, s.1, omega arith))
    (λ n. (p, front-in n1 n2 l p (w p m) ((undominated-is l p).1 (m, λ q j b. n (any-in (λ q. dominates q p) j b))), omega arith))
    (decide (any (λ q. dominates q p) l))

-- each pair of a list has a pair in its front that is at least as large
pub under-front : (n1 n2 : ℕ) (l : List Pair) → AllWithin n1 n2 l → Under l (front n1 n2 l)
under-front n1 n2 l w p m = climb n1 n2 l w (n1 + n2 + 3) p m (omega arith)

pub front-holds : (n1 n2 : ℕ) (l : List Pair) → AllWithin n1 n2 l → (a b : ℕ) → holds (front n1 n2 l) a b ≡ holds l a b
front-holds n1 n2 l w a b =
    T-ext (holds (front n1 n2 l) a b) (holds l a b)
    (under-holds (front n1 n2 l) l (front-under n1 n2 l) a b, under-holds l (front n1 n2 l) (under-front n1 n2 l w) a b)

-- ---- a front is told by where it holds
holds-under : (n1 n2 : ℕ) (l m : List Pair) → AllWithin n1 n2 l → SameCounts n1 n2 l m → Under l m
holds-under n1 n2 l m w e p h = go p.p1.0 p.p2.0 refl refl
  where
    go : (x y : ℕ) → p.p1.0 ≡ x → p.p2.0 ≡ y → (q : Pair) × (q ∈ m) × AtMost p q
    go zero y i j = absurd (omega (arith, w p h))
    go (suc a) zero i j = absurd (omega (arith, w p h))
    go (suc a) (suc b) i j =
        let t = any-in (λ q. holds_at q a b) h ((holds-is p a b).1 (omega arith)) in
        let r = any_out (λ q. holds_at q a b) m (subst T (e a b (omega (arith, w p h)) (omega (arith, w p h))) t) in
        (r.0, r.1, omega (arith, (holds-is r.0 a b).0 r.2))

under-undominated : (l m : List Pair) → Under l m → Under m l → (p : Pair) → T (undominated l p) → T (undominated m p)
under-undominated l m u v p t = (undominated-is m p).1 (Memᴰ.cast eq q.1, none)
  where
    h : (p ∈ l) × ((q : Pair) → q ∈ l → T (dominates q p) → ⊥)
    h = (undominated-is l p).0 t

    q : (q : Pair) × (q ∈ m) × AtMost p q
    q = u p h.0

    eq : p ≡ q.0
    eq =
        ⊎_elim (λ le. pair_eq (omega (arith, q.2)) (omega (arith, q.2)))
        (λ lt. let r = v q.0 q.1 in absurd (h.1 r.0 r.1 ((dominates-is r.0 p).1 (omega (arith, q.2)))))
        (order (q.0.p1.0 + q.0.p2.0) (p.p1.0 + p.p2.0))

    none : (x : Pair) → x ∈ m → T (dominates x p) → ⊥
    none x i b = let r = v x i in let c = (dominates-is x p).0 b in h.1 r.0 r.1 ((dominates-is r.0 p).1 (omega arith))

-- two lists that lie under each other have one front
pub under_same : (n1 n2 : ℕ) (l m : List Pair) → Under l m → Under m l → front n1 n2 l ≡ front n1 n2 m
under_same n1 n2 l m u v =
    keep_same (undominated l) (undominated m) (grid (suc n1) (suc n2))
    (λ p _. T-ext (undominated l p) (undominated m p) (under-undominated l m u v p, under-undominated m l v u p))

pub front_same : (n1 n2 : ℕ) (l m : List Pair) → AllWithin n1 n2 l → AllWithin n1 n2 m → (front n1 n2 l ≡ front n1 n2 m) ↔ SameCounts n1 n2 l m
front_same n1 n2 l m w v = (
  λ e a b _ _. sym (front-holds n1 n2 l w a b) ∙ ap (λ f. holds f a b) e ∙ front-holds n1 n2 m v a b,
  λ c. under_same n1 n2 l m (holds-under n1 n2 l m w c) (holds-under n1 n2 m l v (λ a b h k. sym (c a b h k))),
)

-- ---- lists in record form
-- a list in record form is its own front
pub form-front : (n1 n2 : ℕ) (l : List Pair) → RecordForm n1 n2 l → front n1 n2 l ≡ l
form-front n1 n2 l r =
    pairwise-same Falls (λ p q h k. omega arith) (front n1 n2 l) l (front-falls n1 n2 l) r.falls
    (λ p h. ((undominated-is l p).0 (front_out n1 n2 l p h).1).0)
    (λ p h. front-in n1 n2 l p (r.within p h) ((undominated-is l p).1 (h, λ q k b. let c = (dominates-is q p).0 b in ⊎_elim (λ e. omega (arith, numbers e)) (⊎_elim (λ f. omega arith) (λ f. omega arith)) (pairwise-either Falls l r.falls k h))))

-- a list in record form that lies under l, and l under it, is l's front: what a program that fills a record shows
pub form-is-front : (n1 n2 : ℕ) (m l : List Pair) → RecordForm n1 n2 m → Under m l → Under l m → m ≡ front n1 n2 l
form-is-front n1 n2 m l r u v = sym (form-front n1 n2 m r) ∙ under_same n1 n2 m l u v

-- two lists in record form are equal exactly when they hold at the same counts
pub form-same : (n1 n2 : ℕ) (l m : List Pair) → RecordForm n1 n2 l → RecordForm n1 n2 m → (l ≡ m) ↔ SameCounts n1 n2 l m
form-same n1 n2 l m r s = (
  λ e a b _ _. ap (λ f. holds f a b) e,
  λ c. sym (form-front n1 n2 l r) ∙ (front_same n1 n2 l m r.within s.within).1 c ∙ form-front n1 n2 m s,
)

falls-short : (k : ℕ) (l : List Pair) → Pairwise Falls l → ((p : Pair) → p ∈ l → (0 < p.p1.0) × (p.p1.0 ≤ k)) → length l ≤ k
falls-short k [] f w = omega arith
falls-short k (p ∷ l) f w = let h = w p here in omega (arith, falls-short (p.p1.0 - 1) l f.1 (λ q m. omega (arith, f.0 q m, w q (there m))))

rises-short : (j k : ℕ) (l : List Pair) → Pairwise Falls l → j ≤ k → ((p : Pair) → p ∈ l → (j < p.p2.0) × (p.p2.0 ≤ k)) → length l + j ≤ k
rises-short j k [] f h w = omega arith
rises-short j k (p ∷ l) f h w = let i = w p here in omega (arith, rises-short p.p2.0 k l f.1 (omega arith) (λ q m. omega (arith, f.0 q m, w q (there m))))

-- no list in record form has more pairs than the smaller class size plus one
pub form-short : (n1 n2 : ℕ) (l : List Pair) → RecordForm n1 n2 l → length l ≤ min n1 n2 + 1
form-short n1 n2 l r =
    omega (arith, falls-short (suc n1) l r.falls (λ p m. omega (arith, r.within p m)), rises-short 0 (suc n2) l r.falls (omega arith) (λ p m. omega (arith, r.within p m)))
