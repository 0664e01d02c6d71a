-- The members of a class by place: the element that a place names, and the place of an element; and positions in an order of elements.
use mathlib.Core.Path.{◌≡◌, refl, sym, ap, ◌∙◌, subst}
use mathlib.Core.Logic.{⊎_elim}
use mathlib.Core.Bool.{Bool, true, false, cond}
use mathlib.Core.List.Memᴰ
use mathlib.Core.List.{List, [], ◌∷◌, map}
use Prim.Native.Nat.{ℕ, zero, suc, ◌+◌, ◌<◌}
use native.Mathlib.Omega.{arith}
use lib.Dec.{T, eqb, ltb→lt}
use lib.ListN.{length, get_or, take, length-map, get_or-eq_default}
use borrow.Author.Tests.{eqb-true, eqb-false, eq-eqb, ne_eqb}
use Rattle.laws.specs.Tests.{order, flag, true-flag}
use Rattle.laws.specs.Members.{◌∈◌, here, there}
use Rattle.orders.specs.Order.{count, members_from, is_order, below, position}
use Rattle.orders.proofs.Counts.{in_count}
use Rattle.orders.proofs.Orders.{order_is, order-length}
use Rattle.orders.proofs.Places.{order-positions}
use Rattle.split.specs.Steps.{member_at, element_order}

-- ---- a member's place, and back
-- e is the member at place m of class c
pub record Names (c : ℕ) (l : List ℕ) (m e : ℕ) : Type 0 where
  pub inside : e < length l
  pub class : get_or l e 0 ≡ c
  pub place : count c (take e l) ≡ m

from_at : (c v : ℕ) (l : List ℕ) (e : ℕ) → e < length l → get_or l e 0 ≡ c → get_or (members_from c v l) (count c (take e l)) 0 ≡ v + e
from_at c v [] e h q = absurd (omega arith)
from_at c v (x ∷ l) zero h q = rw (eq-eqb x c q) (omega arith)
from_at c v (x ∷ l) (suc e) h q = go (eqb x c) (from_at c (suc v) l e (omega arith) q)
  where
    go : (o : Bool) → get_or (members_from c (suc v) l) (count c (take e l)) 0 ≡ suc v + e
        → get_or (cond o (v ∷ members_from c (suc v) l) (members_from c (suc v) l)) (flag o + count c (take e l)) 0 ≡ v + suc e
    go true r =
        let i : 1 + count c (take e l) ≡ suc (count c (take e l)) = omega arith in
        ap (λ k. get_or (v ∷ members_from c (suc v) l) k 0) i ∙ r ∙ omega arith
    go false r =
        let i : 0 + count c (take e l) ≡ count c (take e l) = omega arith in
        ap (λ k. get_or (members_from c (suc v) l) k 0) i ∙ r ∙ omega arith

from-of : (c v : ℕ) (l : List ℕ) (m : ℕ) → m < count c l → (e : ℕ) × Names c l m e × (get_or (members_from c v l) m 0 ≡ v + e)
from-of c v [] m h = absurd (omega arith)
from-of c v (x ∷ l) m h = go (eqb x c) refl m h (λ n k. from-of c (suc v) l n k)
  where
    go : (o : Bool) → eqb x c ≡ o → (m : ℕ) → m < flag o + count c l
        → ((n : ℕ) → n < count c l → (e : ℕ) × Names c l n e × (get_or (members_from c (suc v) l) n 0 ≡ suc v + e))
        → (e : ℕ) × Names c (x ∷ l) m e × (get_or (cond o (v ∷ members_from c (suc v) l) (members_from c (suc v) l)) m 0 ≡ v + e)
    go true q zero h rec = (0, record { inside = omega arith; class = eqb-true x c q; place = refl }, omega arith)
    go true q (suc n) h rec =
        let r = rec n (omega arith) in
        (suc r.0, record { inside = omega (arith, r.1.inside); class = r.1.class; place = rw q (omega (arith, r.1.place)) }, r.2 ∙ omega arith)
    go false q n h rec =
        let r = rec n (omega arith) in
        (suc r.0, record { inside = omega (arith, r.1.inside); class = r.1.class; place = rw q (omega (arith, r.1.place)) }, r.2 ∙ omega arith)

-- the member at a place has that place
pub member-names : (c : ℕ) (classes : List ℕ) (m : ℕ) → m < count c classes → Names c classes m (member_at c classes m)
member-names c classes m h = let r = from-of c 0 classes m h in subst (Names c classes m) (sym (r.2 ∙ omega arith)) r.1

-- and an element is the member at its place
pub member_back : (c : ℕ) (classes : List ℕ) (e : ℕ) → e < length classes → get_or classes e 0 ≡ c → member_at c classes (count c (take e classes)) ≡ e
member_back c classes e h q = from_at c 0 classes e h q ∙ omega arith

-- an element that may fail is there
pub class-in : (classes : List ℕ) (e c : ℕ) → get_or classes e 0 ≡ suc c → e < length classes
class-in classes e c q = ⊎_elim (λ h. absurd (omega (arith, get_or-eq_default classes 0 {n = e} h))) (λ h. h) (order (length classes) e)

-- ---- an order: every number in it is below n, and stands at one place
module _ (n : ℕ) (o : List ℕ) (good : T (is_order n o)) where
  pub order_below : (m : ℕ) → m ∈ o → m < n
  order_below m h = ltb→lt m n (true-flag (below n m) (omega (arith, (order_is n o).0 good m, in_count h)))

  pub order-once : (k : ℕ) → k < length o → position (get_or o k 0) o ≡ suc k
  order-once k h = (order-positions (below n) n o ((order_is n o).0 good) (order-length n o good)).place k (omega (arith, order-length n o good))

-- ---- positions in a mapped order
pub position-map : (f : ℕ → ℕ) (x : ℕ) (o : List ℕ) → ((y : ℕ) → y ∈ o → f y ≡ f x → y ≡ x) → position (f x) (map f o) ≡ position x o
position-map f x [] h = refl
position-map f x (y ∷ o) h = go (eqb y x) refl (position-map f x o (λ z m. h z (there m)))
  where
    go : (b : Bool) → eqb y x ≡ b → position (f x) (map f o) ≡ position x o → cond (eqb (f y) (f x)) 1 (suc (position (f x) (map f o))) ≡ cond b 1 (suc (position x o))
    go true e r = rw (eq-eqb (f y) (f x) (ap f (eqb-true y x e)))
    go false e r = rw (ne_eqb (f y) (f x) (λ q. eqb-false y x e (h y here q))) (ap suc r)

position-none : (v : ℕ) (o : List ℕ) → ((y : ℕ) → y ∈ o → y ≡ v → ⊥) → position v o ≡ suc (length o)
position-none v [] h = refl
position-none v (y ∷ o) h = rw (ne_eqb y v (h y here)) (ap suc (position-none v o (λ z m. h z (there m))))

pub map_at : (f : ℕ → ℕ) (o : List ℕ) (k : ℕ) → k < length o → get_or (map f o) k 0 ≡ f (get_or o k 0)
map_at f [] k h = absurd (omega arith)
map_at f (y ∷ o) zero h = refl
map_at f (y ∷ o) (suc k) h = map_at f o k (omega arith)

-- ---- an order by place, and the same order by element
pub order-long : (c : ℕ) (classes o : List ℕ) → length (element_order c classes o) ≡ length o
order-long c classes o = length-map o (member_at c classes)

module _ (c : ℕ) (classes o : List ℕ) (small : (m : ℕ) → m ∈ o → m < count c classes) where
  -- an element stands where its place does
  pub element-position : (e : ℕ) → e < length classes → get_or classes e 0 ≡ c → position e (element_order c classes o) ≡ position (count c (take e classes)) o
  element-position e h q =
      let m = count c (take e classes) in
      let back = member_back c classes e h q in
      subst (λ v. position v (element_order c classes o) ≡ position m o) back
      (position-map (member_at c classes) m o (λ y i z. sym (member-names c classes y (small y i)).place ∙ ap (λ v. count c (take v classes)) (z ∙ back)))

  -- and one of another class nowhere
  pub other-position : (e : ℕ) → (get_or classes e 0 ≡ c → ⊥) → position e (element_order c classes o) ≡ length o + 1
  other-position e n =
      position-none e (element_order c classes o)
      (λ y m i.
      let r = Memᴰ.of_map (member_at c classes) o m in
      n (ap (λ v. get_or classes v 0) (sym i ∙ sym r.2) ∙ (member-names c classes r.0 (small r.0 r.1)).class))
      ∙ omega (arith, order-long c classes o)
