-- Blocks of entries: what is found of their bytes, one by one, says it of the entries.
use mathlib.Core.Path.{◌≡◌, refl, sym, ap, ap₂, ◌∙◌}
use mathlib.Core.Logic.{⊎_elim}
use mathlib.Core.Bool.{Bool, false, ◌&&◌, ◌||◌}
use mathlib.Core.List.{List}
use Prim.Native.Nat.{ℕ, zero, suc, ◌+◌, ◌*◌, ◌%◌, ◌≤◌, ◌<◌}
use native.Mathlib.Omega.{arith}
use borrow.Author.Tests.{eqb-true, leb-false}
use lib.Dec.{eqb, leb}
use lib.ListN.{length, get_or}
use Rattle.limits.specs.Limits.{arc_size, max_kind}
use Rattle.laws.specs.Every.{every-at}
use Rattle.laws.specs.Sums.{sum_to}
use Rattle.laws.specs.Tests.{flag, or-none, equal}
use Rattle.parts.specs.Steps.{Looked, arc_test, from_field, to_field, kind_field, field_limit, fields_of, block_size, block_bytes, block_fields, GoodBlock}
use Rattle.parts.proofs.Scans.{entry_at}
use Rattle.parts.proofs.Arcs.{looked-next}

-- the fields of entry k of m
fields_at : (m k : ℕ) → k < m → (get_or (fields_of m) (3 * k) 0 ≡ from_field) × (get_or (fields_of m) (3 * k + 1) 0 ≡ to_field) × (get_or (fields_of m) (3 * k + 2) 0 ≡ kind_field)
fields_at zero k h = absurd (omega arith)
fields_at (suc m) zero h = (refl, refl, refl)
fields_at (suc m) (suc k) h =
    let e0 : 3 * suc k ≡ suc (suc (suc (3 * k))) = omega arith in
    let e1 : 3 * suc k + 1 ≡ suc (suc (suc (3 * k + 1))) = omega arith in
    let e2 : 3 * suc k + 2 ≡ suc (suc (suc (3 * k + 2))) = omega arith in
    let r = fields_at m k (omega arith) in
    (ap (λ j. get_or (fields_of (suc m)) j 0) e0 ∙ r.0, ap (λ j. get_or (fields_of (suc m)) j 0) e1 ∙ r.1, ap (λ j. get_or (fields_of (suc m)) j 0) e2 ∙ r.2)

-- the tests of a byte x, which y follows, as the code makes them
abbrev bad_byte : ℕ → ℕ → ℕ → ℕ → Bool
bad_byte n field x y = leb (field_limit n field) x || (eqb field from_field && eqb x y)

abbrev pub is_class1 : ℕ → ℕ → Bool
is_class1 field x = eqb field kind_field && (eqb x 1 || eqb x 4)

abbrev pub is_class2 : ℕ → ℕ → Bool
is_class2 field x = eqb field kind_field && (eqb x 2 || eqb x 5)

-- of byte k of the block from place at on
abbrev bad_at : ℕ → List ℕ → List ℕ → ℕ → ℕ → Bool
bad_at n fields l at k = bad_byte n (get_or fields k 0) (get_or l (at + k) 0) (get_or l (at + k + 1) 0)

abbrev pub class1_at : List ℕ → List ℕ → ℕ → ℕ → ℕ
class1_at fields l at k = flag (is_class1 (get_or fields k 0) (get_or l (at + k) 0))

abbrev pub class2_at : List ℕ → List ℕ → ℕ → ℕ → ℕ
class2_at fields l at k = flag (is_class2 (get_or fields k 0) (get_or l (at + k) 0))

-- no byte before j is bad
abbrev pub NoneBad : ℕ → List ℕ → List ℕ → ℕ → ℕ → Type 0
NoneBad n fields l at j = (k : ℕ) → k < j → bad_at n fields l at k ≡ false

pub none-next : (n : ℕ) (fields l : List ℕ) (at j : ℕ) (bad now : Bool) → (bad ≡ false → NoneBad n fields l at j) → now ≡ bad_at n fields l at j → (bad || now) ≡ false → NoneBad n fields l at (j + 1)
none-next n fields l at j bad now before e f k h =
    let g = or-none bad now f in
    ⊎_elim (λ (q : k ≡ j). ap (bad_at n fields l at) q ∙ sym e ∙ g.1) (λ q. before g.0 k (omega arith)) (equal k j)

-- kinds of a class
kind1 : (k : ℕ) → k ≤ max_kind → flag (is_class1 kind_field k) ≡ flag (eqb (k % 3) 1)
kind1 k h = eqb-true _ _ (every-at (λ j. eqb (flag (is_class1 kind_field j)) (flag (eqb (j % 3) 1))) (max_kind + 1) refl k (omega arith))

kind2 : (k : ℕ) → k ≤ max_kind → flag (is_class2 kind_field k) ≡ flag (eqb (k % 3) 2)
kind2 k h = eqb-true _ _ (every-at (λ j. eqb (flag (is_class2 kind_field j)) (flag (eqb (j % 3) 2))) (max_kind + 1) refl k (omega arith))

-- a sum to one entry more
sum-three : (m : ℕ) (g : ℕ → ℕ) → sum_to (3 * suc m) g ≡ sum_to (3 * m) g + g (3 * m) + g (3 * m + 1) + g (3 * m + 2)
sum-three m g =
    let e : 3 * suc m ≡ suc (suc (suc (3 * m))) = omega arith in
    let e1 : suc (3 * m) ≡ 3 * m + 1 = omega arith in
    let e2 : suc (suc (3 * m)) ≡ 3 * m + 2 = omega arith in
    ap (λ k. sum_to k g) e ∙ ap (λ k. sum_to (3 * m) g + g (3 * m) + g k + g (suc (suc (3 * m)))) e1 ∙ ap (λ k. sum_to (3 * m) g + g (3 * m) + g (3 * m + 1) + g k) e2

-- a byte's tests, by which of its entry it is
from-fine : (n field x y : ℕ) → field ≡ from_field → bad_byte n field x y ≡ false → (leb n x ≡ false) × (eqb x y ≡ false)
from-fine n field x y e h = or-none (leb n x) (eqb x y) (sym (rw e) ∙ h)

other-fine : (n m field f x y : ℕ) → field ≡ f → field_limit n f ≡ m → bad_byte n field x y ≡ false → leb m x ≡ false
other-fine n m field f x y e g h = ap (λ k. leb k x) (sym (rw e g)) ∙ (or-none (leb (field_limit n field) x) (eqb field from_field && eqb x y) h).0

-- and what it counts
none1 : (field x b : ℕ) → field ≡ b → eqb b kind_field ≡ false → flag (is_class1 field x) ≡ 0
none1 field x b e f = rw (e, f)

none2 : (field x b : ℕ) → field ≡ b → eqb b kind_field ≡ false → flag (is_class2 field x) ≡ 0
none2 field x b e f = rw (e, f)

-- which byte of its entry each byte is
abbrev Fields : List ℕ → Type 0
Fields fields = (m : ℕ) → m < block_size → (get_or fields (3 * m) 0 ≡ from_field) × (get_or fields (3 * m + 1) 0 ≡ to_field) × (get_or fields (3 * m + 2) 0 ≡ kind_field)

module _ (n : ℕ) (fields l : List ℕ) (i : ℕ) (known : Fields fields) (room : arc_size * (i + block_size) < length l) (fine : NoneBad n fields l (arc_size * i) block_bytes) where
  abbrev at : ℕ
  at = arc_size * i

  abbrev g1 : ℕ → ℕ
  g1 = class1_at fields l at

  abbrev g2 : ℕ → ℕ
  g2 = class2_at fields l at

  -- entry m of the block: its tests, and its class
  module _ (m : ℕ) (h : m < block_size) where
    abbrev x : ℕ
    x = get_or l (arc_size * (i + m)) 0

    abbrev y : ℕ
    y = get_or l (arc_size * (i + m) + 1) 0

    abbrev z : ℕ
    z = get_or l (arc_size * (i + m) + 2) 0

    x-at : get_or l (at + 3 * m) 0 ≡ x
    x-at = let e : at + 3 * m ≡ arc_size * (i + m) = omega arith in ap (λ k. get_or l k 0) e

    after-x : get_or l (at + 3 * m + 1) 0 ≡ y
    after-x = let e : at + 3 * m + 1 ≡ arc_size * (i + m) + 1 = omega arith in ap (λ k. get_or l k 0) e

    y-at : get_or l (at + (3 * m + 1)) 0 ≡ y
    y-at = let e : at + (3 * m + 1) ≡ arc_size * (i + m) + 1 = omega arith in ap (λ k. get_or l k 0) e

    z-at : get_or l (at + (3 * m + 2)) 0 ≡ z
    z-at = let e : at + (3 * m + 2) ≡ arc_size * (i + m) + 2 = omega arith in ap (λ k. get_or l k 0) e

    arc-fine : arc_test n (entry_at l (i + m)) ≡ false
    arc-fine =
        let f = known m h in
        let a = from-fine n (get_or fields (3 * m) 0) (get_or l (at + 3 * m) 0) (get_or l (at + 3 * m + 1) 0) f.0 (fine (3 * m) (omega arith)) in
        let b = other-fine n n (get_or fields (3 * m + 1) 0) to_field (get_or l (at + (3 * m + 1)) 0) (get_or l (at + (3 * m + 1) + 1) 0) f.1 refl (fine (3 * m + 1) (omega arith)) in
        rw (sym (ap (leb n) x-at) ∙ a.0, sym (ap (leb n) y-at) ∙ b, sym (ap₂ eqb x-at after-x) ∙ a.1)

    kind-fine : z ≤ max_kind
    kind-fine =
        let c = other-fine n (max_kind + 1) (get_or fields (3 * m + 2) 0) kind_field (get_or l (at + (3 * m + 2)) 0) (get_or l (at + (3 * m + 2) + 1) 0) (known m h).2 refl (fine (3 * m + 2) (omega arith)) in
        omega (arith, leb-false (max_kind + 1) z (sym (ap (leb (max_kind + 1)) z-at) ∙ c))

    next1 : sum_to (3 * suc m) g1 ≡ sum_to (3 * m) g1 + flag (eqb (z % 3) 1)
    next1 =
        let f = known m h in
        omega (arith, sum-three m g1, none1 (get_or fields (3 * m) 0) (get_or l (at + 3 * m) 0) from_field f.0 refl, none1 (get_or fields (3 * m + 1) 0) (get_or l (at + (3 * m + 1)) 0) to_field f.1 refl, ap₂ (λ a b. flag (is_class1 a b)) f.2 z-at, kind1 z kind-fine)

    next2 : sum_to (3 * suc m) g2 ≡ sum_to (3 * m) g2 + flag (eqb (z % 3) 2)
    next2 =
        let f = known m h in
        omega (arith, sum-three m g2, none2 (get_or fields (3 * m) 0) (get_or l (at + 3 * m) 0) from_field f.0 refl, none2 (get_or fields (3 * m + 1) 0) (get_or l (at + (3 * m + 1)) 0) to_field f.1 refl, ap₂ (λ a b. flag (is_class2 a b)) f.2 z-at, kind2 z kind-fine)

    entry-added : (m1 m2 : ℕ) → Looked n l (i + m) (m1 + sum_to (3 * m) g1) (m2 + sum_to (3 * m) g2) → Looked n l (i + suc m) (m1 + sum_to (3 * suc m) g1) (m2 + sum_to (3 * suc m) g2)
    entry-added m1 m2 k =
        let e : i + suc m ≡ i + m + 1 = omega arith in
        let e1 : m1 + sum_to (3 * suc m) g1 ≡ m1 + sum_to (3 * m) g1 + flag (eqb (z % 3) 1) = omega (arith, next1) in
        let e2 : m2 + sum_to (3 * suc m) g2 ≡ m2 + sum_to (3 * m) g2 + flag (eqb (z % 3) 2) = omega (arith, next2) in
        rw (e, e1, e2) (looked-next n l k (omega arith) _ _ arc-fine kind-fine refl refl)

  entries-added : (m m1 m2 : ℕ) → m ≤ block_size → Looked n l i m1 m2 → Looked n l (i + m) (m1 + sum_to (3 * m) g1) (m2 + sum_to (3 * m) g2)
  entries-added zero m1 m2 h k =
      let e : i + 0 ≡ i = omega arith in
      let e1 : m1 + sum_to (3 * 0) g1 ≡ m1 = omega arith in
      let e2 : m2 + sum_to (3 * 0) g2 ≡ m2 = omega arith in
      rw (e, e1, e2) k
  entries-added (suc m) m1 m2 h k = entry-added m (omega arith) m1 m2 (entries-added m m1 m2 (omega arith) k)

pub block-added : (n : ℕ) (fields l : List ℕ) (i n1 n2 : ℕ) → fields ≡ block_fields → arc_size * (i + block_size) < length l → NoneBad n fields l (arc_size * i) block_bytes
    → n1 ≡ sum_to block_bytes (class1_at fields l (arc_size * i)) → n2 ≡ sum_to block_bytes (class2_at fields l (arc_size * i)) → GoodBlock n l i n1 n2
block-added n fields l i n1 n2 f room fine e1 e2 m1 m2 k =
    let known : Fields fields = λ m h. rw f (fields_at block_size m h) in
    rw (e1, e2) (entries-added n fields l i known room fine block_size m1 m2 (omega arith) k)
