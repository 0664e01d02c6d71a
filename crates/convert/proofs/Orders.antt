-- An order of nodes by their places in the class: it is good, and each node keeps its position.
use mathlib.Core.Path.{◌≡◌, refl, sym, ap, ◌∙◌}
use mathlib.Core.Bool.{Bool, true, false}
use mathlib.Core.List.{List, [], ◌∷◌, map}
use Prim.Native.Nat.{ℕ, suc, ◌<◌, ◌+◌}
use native.Mathlib.Omega.{arith}
use borrow.Author.Tests.{eqb-true, eqb-false, eq-eqb, ne_eqb}
use lib.Dec.{T, eqb, eqb→eq, ltb, ltb→lt, lt→ltb}
use lib.ListN.{length, get_or, take, length-map}
use Rattle.laws.specs.Every.{every, every-all}
use Rattle.laws.specs.Members.{◌∈◌, here, there}
use Rattle.laws.specs.Tests.{T_and, T_true, flag, flag_true, true-flag}
use Rattle.orders.specs.Order.{count, place_in_class, is_order, is_order_of, position}
use Rattle.orders.specs.Steps.{is_member}
use Rattle.orders.proofs.Counts.{in_count}
use Rattle.orders.proofs.Orders.{order-of-is, order-of-length}
use Rattle.split.specs.Steps.{member_at}
use Rattle.split.proofs.Members.{member-names, member_back, class-in, position-map}
use Rattle.convert.specs.Convert.{by_places}

-- how often it stands there under another name
count_map : (f : ℕ → ℕ) (x : ℕ) (o : List ℕ) → ((y : ℕ) → y ∈ o → f y ≡ f x → y ≡ x) → count (f x) (map f o) ≡ count x o
count_map f x [] h = refl
count_map f x (y ∷ o) h = go (eqb y x) refl (count_map f x o (λ z m. h z (there m)))
  where
    go : (b : Bool) → eqb y x ≡ b → count (f x) (map f o) ≡ count x o → flag (eqb (f y) (f x)) + count (f x) (map f o) ≡ flag b + count x o
    go true e r = rw (eq-eqb (f y) (f x) (ap f (eqb-true y x e)), r)
    go false e r = rw (ne_eqb (f y) (f x) (λ q. eqb-false y x e (h y here q)), r)

module _ (c : ℕ) (nodes o : List ℕ) (good : T (is_order_of (suc c) nodes o)) where
  -- a node of the order is one of the class
  pub listed : (y : ℕ) → y ∈ o → (y < length nodes) × (get_or nodes y 0 ≡ suc c)
  listed y m =
      let t = true-flag (is_member (suc c) nodes y) (omega (arith, (order-of-is (suc c) nodes o).0 good y, in_count m)) in
      let e = (T_and (ltb y (length nodes)) (eqb (get_or nodes y 0) (suc c))).0 t in
      (ltb→lt y (length nodes) e.0, eqb→eq (get_or nodes y 0) (suc c) e.1)

  place_is : (v : ℕ) → get_or nodes v 0 ≡ suc c → place_in_class nodes v ≡ count (suc c) (take v nodes)
  place_is v e = ap (λ k. count k (take v nodes)) e

  -- no two of the class have one place
  apart : (v : ℕ) → get_or nodes v 0 ≡ suc c → (y : ℕ) → y ∈ o → place_in_class nodes y ≡ place_in_class nodes v → y ≡ v
  apart v e y m q =
      let l = listed y m in
      let s : count (suc c) (take y nodes) ≡ count (suc c) (take v nodes) = sym (place_is y l.1) ∙ q ∙ place_is v e in
      sym (member_back (suc c) nodes y l.0 l.1) ∙ ap (λ k. member_at (suc c) nodes k) s ∙ member_back (suc c) nodes v (class-in nodes v c e) e

  pub places-position : (v : ℕ) → get_or nodes v 0 ≡ suc c → position (place_in_class nodes v) (by_places nodes o) ≡ position v o
  places-position v e = position-map (place_in_class nodes) v o (apart v e)

  abbrev n : ℕ
  n = count (suc c) nodes

  -- each place stands in it once, as its node stood
  place-once : (m : ℕ) → m < n → count m (by_places nodes o) ≡ 1
  place-once m h =
      let v = member_at (suc c) nodes m in
      let k = member-names (suc c) nodes m h in
      let is : place_in_class nodes v ≡ m = place_is v k.class ∙ k.place in
      let member = (T_and (ltb v (length nodes)) (eqb (get_or nodes v 0) (suc c))).1 (lt→ltb v (length nodes) k.inside, (T_true (eqb (get_or nodes v 0) (suc c))).1 (eq-eqb (get_or nodes v 0) (suc c) k.class)) in
      sym (ap (λ i. count i (by_places nodes o)) is) ∙ count_map (place_in_class nodes) v o (apart v k.class) ∙ (order-of-is (suc c) nodes o).0 good v
      ∙ flag_true (is_member (suc c) nodes v) member

  pub places-good : T (is_order n (by_places nodes o))
  places-good =
      let p = by_places nodes o in
      let long : length p ≡ n = length-map o (place_in_class nodes) ∙ order-of-length (suc c) nodes o good in
      let once : ℕ → Bool = λ m. eqb (count m p) 1 in
      (T_and (eqb (length p) n) (every n once)).1
      ((T_true (eqb (length p) n)).1 (eq-eqb (length p) n long), (T_true (every n once)).1 (every-all once n (λ m h. eq-eqb (count m p) 1 (place-once m h))))
