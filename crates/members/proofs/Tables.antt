-- The steps of `put_nodes`, `put_arcs` and `look_up`, over lists: one element more, one place of an order more.
use mathlib.Core.Path.{◌≡◌, refl, sym, ap, ◌∙◌, subst}
use mathlib.Core.Logic.{⊎_elim}
use mathlib.Core.List.{List, [], ◌∷◌, ◌++◌, map}
use Prim.Native.Nat.{ℕ, zero, suc, ◌+◌, ◌*◌, ◌%◌, ◌≤◌, ◌<◌}
use native.Mathlib.Numerals.{add-one}
use native.Mathlib.Omega.{arith}
use lib.Dec.{T, eqb}
use lib.ListN.{length, get_or, set, take, length-set, length-append, get_or-append}
use lib.Seq.{take-suc, take_all, take-length, take-append-le, take-append_seam, length-take-le, get_or-take, get_or-append-add, get_or-set_same, get_or-set_other, ext_get_or}
use borrow.Author.Tests.{ne_eqb}
use Rattle.limits.specs.Limits.{arc_size, arc_count, max_class}
use Rattle.laws.specs.Members.{at_in}
use Rattle.laws.specs.Tests.{equal, order, flag, flag-le}
use Rattle.orders.specs.Order.{count, is_order}
use Rattle.orders.proofs.Orders.{order-length}
use Rattle.orders.proofs.Scans.{count-append, count-part}
use Rattle.parts.specs.Study.{entry_class, entries_from}
use Rattle.parts.proofs.Scans.{entries-length}
use Rattle.split.specs.Steps.{member_at, element_order}
use Rattle.split.proofs.Arcs.{elements-long}
use Rattle.split.proofs.Members.{member-names, member_back, order_below, map_at, order-long}
use Rattle.members.specs.Steps.{elements_in, table_size, Tabled, Lists, ByPlace}

-- ---- one element more
take_next : (l : List ℕ) (e : ℕ) → e < length l → take (e + 1) l ≡ take e l ++ (get_or l e 0 ∷ [])
take_next l e h = ap (λ k. take k l) (add-one e) ∙ take-suc l e 0 h

pub none_yet : (c : ℕ) (classes table : List ℕ) → count c classes < length table → length table ≤ table_size → Tabled c classes table 0 0
none_yet c classes table h s = record { upto = omega arith; is-n = omega arith; room = h; short = s; at = λ m b. absurd (omega arith) }

module _ {c : ℕ} {classes table : List ℕ} {n e : ℕ} (t : Tabled c classes table n e) where
  pub most : n ≤ count c classes
  most = omega (arith, t.is-n, count-part c classes 0 e)

  pub fits : (n < length table) × (n < table_size)
  fits = omega (arith, most, t.room, t.short)

  -- it is written, and counted where it is a member
  pub stepped : e < length classes → (g : ℕ) → g ≡ flag (eqb (get_or classes e 0) c) → Tabled c classes (set table n e) (n + g) (e + 1)
  stepped h g is =
      record {
        upto = omega arith;
        is-n = sym (ap (count c) (take_next classes e h) ∙ count-append c (take e classes) (get_or classes e 0 ∷ []) ∙ omega (arith, t.is-n));
        room = rw length-set t.room;
        short = rw length-set t.short;
        at = λ m b.
            ⊎_elim
            (λ i.
            ⊎_elim (λ q. ap (λ k. get_or (set table n e) k 0) i ∙ get_or-set_same table n e 0 fits.0 ∙ sym (member_back c classes e h q) ∙ ap (member_at c classes) (sym t.is-n ∙ sym i))
            (λ ne. let z : flag (eqb (get_or classes e 0) c) ≡ 0 = rw (ne_eqb (get_or classes e 0) c ne) in absurd (omega arith)) (equal (get_or classes e 0) c))
            (λ ne. get_or-set_other table n m e 0 ne ∙ t.at m (old m b ne)) (equal m n);
      }
    where
      old : (m : ℕ) → m < n + g → (m ≡ n → ⊥) → m < n
      old m b ne = omega (arith, flag-le (eqb (get_or classes e 0) c))

-- all elements are through
pub through : {c : ℕ} {classes table : List ℕ} {n e : ℕ} → Tabled c classes table n e → length classes ≤ e → n ≡ count c classes
through {c} {classes} {table} {n} {e} t h = t.is-n ∙ ap (count c) (take_all e classes h)

-- ---- nodes, and arcs after them
pub nodes-done : {c : ℕ} {nodes table : List ℕ} {n v : ℕ} → Tabled c nodes table n v → length nodes ≤ v → Tabled c nodes table n (length nodes)
nodes-done {c} {nodes} {table} {n} t h = subst (Tabled c nodes table n) (omega (arith, t.upto)) t

-- a member among the nodes has the same place among all
member-more : (c : ℕ) (nodes kinds : List ℕ) (m : ℕ) → m < count c nodes → member_at c nodes m ≡ member_at c (nodes ++ kinds) m
member-more c nodes kinds m h =
    let e = member_at c nodes m in
    let n = member-names c nodes m h in
    let place : count c (take e (nodes ++ kinds)) ≡ m = ap (count c) (take-append-le e nodes kinds (omega (arith, n.inside))) ∙ n.place in
    let back = member_back c (nodes ++ kinds) e (omega (arith, n.inside, length-append nodes kinds)) (get_or-append nodes kinds 0 e n.inside ∙ n.class) in
    sym back ∙ ap (member_at c (nodes ++ kinds)) place

pub among-all : {c : ℕ} {nodes table : List ℕ} {n : ℕ} (kinds : List ℕ) → Tabled c nodes table n (length nodes) → count c (nodes ++ kinds) < length table → Tabled c (nodes ++ kinds) table n (length nodes)
among-all {c} {nodes} {table} {n} kinds t room =
    record {
      upto = omega (arith, length-append nodes kinds);
      is-n = is-n ∙ sym (ap (count c) (take-append_seam nodes kinds));
      room = room;
      short = t.short;
      at = λ m h. t.at m h ∙ member-more c nodes kinds m (omega (arith, is-n));
    }
  where
    is-n : n ≡ count c nodes
    is-n = t.is-n ∙ ap (count c) (take-length nodes)

-- ---- the arcs' classes
kind_at : (b : List ℕ) (i : ℕ) → arc_size * i + 2 < length b → get_or (map entry_class (entries_from b)) i 0 ≡ get_or b (arc_size * i + 2) 0 % 3
kind_at [] i h = absurd (omega arith)
kind_at (x ∷ []) i h = absurd (omega arith)
kind_at (x ∷ y ∷ []) i h = absurd (omega arith)
kind_at (x ∷ y ∷ z ∷ b) zero h = refl
kind_at (x ∷ y ∷ z ∷ b) (suc i) h =
    let e : arc_size * suc i + 2 ≡ suc (suc (suc (arc_size * i + 2))) = omega arith in
    kind_at b i (omega arith) ∙ ap (λ k. get_or (x ∷ y ∷ z ∷ b) k 0 % 3) (sym e)

-- after the nodes come the arcs
arc-class : (nodes arcs : List ℕ) (i : ℕ) → arc_size * i + 2 < length arcs → get_or (elements_in nodes arcs) (length nodes + i) 0 ≡ get_or arcs (arc_size * i + 2) 0 % 3
arc-class nodes arcs i h = get_or-append-add nodes (map entry_class (entries_from arcs)) i 0 ∙ kind_at arcs i h

all-long : (nodes arcs : List ℕ) → length (elements_in nodes arcs) ≡ length nodes + arc_count arcs
all-long nodes arcs = elements-long nodes (entries_from arcs) ∙ ap (λ k. length nodes + k) (entries-length arcs)

pub arcs-begin : {c : ℕ} {classes table : List ℕ} {n size : ℕ} → Tabled c classes table n size → Tabled c classes table n (size + 0)
arcs-begin {c} {classes} {table} {n} {size} t = let e : size ≡ size + 0 = omega arith in subst (Tabled c classes table n) e t

module _ (nodes arcs : List ℕ) {i : ℕ} where
  -- while members are missing, arcs are left
  pub arcs-left : {table1 table2 : List ℕ} {n1 n2 : ℕ} → Tabled 1 (elements_in nodes arcs) table1 n1 (length nodes + i) → Tabled 2 (elements_in nodes arcs) table2 n2 (length nodes + i)
      → n1 + n2 < count 1 (elements_in nodes arcs) + count 2 (elements_in nodes arcs) → i < arc_count arcs
  arcs-left s t h =
      let long = all-long nodes arcs in
      ⊎_elim (λ (le : arc_count arcs ≤ i). absurd (omega (arith, through s (omega (arith, long)), through t (omega (arith, long))))) (λ lt. lt) (order (arc_count arcs) i)

  -- one arc more
  pub arc-stepped : {c : ℕ} {table : List ℕ} {n : ℕ} → Tabled c (elements_in nodes arcs) table n (length nodes + i) → i < arc_count arcs
      → (g : ℕ) → g ≡ flag (eqb (get_or arcs (arc_size * i + 2) 0 % 3) c) → Tabled c (elements_in nodes arcs) (set table n (length nodes + i)) (n + g) (length nodes + (i + 1))
  arc-stepped {c} {table} {n} t h g is =
      let e : length nodes + i + 1 ≡ length nodes + (i + 1) = omega arith in
      let class = arc-class nodes arcs i (omega arith) in
      subst (Tabled c (elements_in nodes arcs) (set table n (length nodes + i)) (n + g)) e
      (stepped t (omega (arith, all-long nodes arcs)) g (is ∙ ap (λ x. flag (eqb x c)) (sym class)))

-- all members are in
pub all_in : {c : ℕ} {classes table : List ℕ} {n e : ℕ} → Tabled c classes table n e → count c classes ≤ n → Lists c classes table
all_in t h m b = t.at m (omega arith)

-- ---- an order, and the same order by element
-- a good order is one by place
pub good-places : (c : ℕ) (classes order : List ℕ) → T (is_order (count c classes) order) → count c classes ≤ max_class → ByPlace c classes order
good-places c classes order good few =
    let long = order-length (count c classes) order good in
    record { long = long; few = omega (arith, long); small = λ m h. omega (arith, order_below (count c classes) order good m h, long) }

-- the first k places are filled in
pub record Naming (table order out : List ℕ) (k : ℕ) : Type 0 where
  pub upto : k ≤ length order
  pub at : (j : ℕ) → j < k → get_or out j 0 ≡ get_or table (get_or order j 0) 0

pub named-on : {table order out : List ℕ} {k : ℕ} → Naming table order out k → k < length order → length order ≤ length out → (v : ℕ) → v ≡ get_or order k 0 → Naming table order (set out k (get_or table v 0)) (k + 1)
named-on {table} {order} {out} {k} n h s v e =
    record {
      upto = omega arith;
      at = λ j b.
          ⊎_elim (λ i. ap (λ x. get_or (set out k (get_or table v 0)) x 0) i ∙ get_or-set_same out k (get_or table v 0) 0 (omega arith) ∙ ap (λ x. get_or table x 0) (e ∙ ap (λ x. get_or order x 0) (sym i)))
          (λ ne. get_or-set_other out k j (get_or table v 0) 0 ne ∙ n.at j (omega arith)) (equal j k);
    }

-- an order's class has room in a table
module _ (nodes arcs : List ℕ) {c : ℕ} {order : List ℕ} (p : ByPlace c (elements_in nodes arcs) order) where
  pub nodes-room : count c nodes < table_size
  nodes-room = omega (arith, count-append c nodes (map entry_class (entries_from arcs)), p.long, p.few)

  -- what `put_nodes` leaves, for `put_arcs`
  pub arcs-next : {table : List ℕ} {n : ℕ} → length table ≡ table_size → Tabled c nodes table n (length nodes) → Tabled c (elements_in nodes arcs) table n (length nodes)
  arcs-next long t = among-all (map entry_class (entries_from arcs)) t (omega (arith, p.long, p.few))

pub order_is : {c : ℕ} {classes order : List ℕ} (table out : List ℕ) → ByPlace c classes order → length order ≤ length out → Lists c classes table
    → ((k : ℕ) → k < length order → get_or out k 0 ≡ get_or table (get_or order k 0) 0) → take (length order) out ≡ element_order c classes order
order_is {c} {classes} {order} table out p room lists at =
    ext_get_or 0 (take (length order) out) (element_order c classes order) (long ∙ sym (order-long c classes order)) same
  where
    long : length (take (length order) out) ≡ length order
    long = length-take-le (length order) out room

    same : (k : ℕ) → k < length (take (length order) out) → get_or (take (length order) out) k 0 ≡ get_or (element_order c classes order) k 0
    same k b =
        let h : k < length order = omega (arith, long) in
        get_or-take (length order) out k 0 h ∙ at k h ∙ lists (get_or order k 0) (omega (arith, p.small (get_or order k 0) (at_in order k 0 h), p.long)) ∙ sym (map_at (member_at c classes) order k h)
