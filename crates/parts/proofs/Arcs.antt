-- The pass over the arc entries: those before a place are good and counted.
use mathlib.Core.Path.{◌≡◌, refl, sym, ap, ap₂, ◌∙◌}
use mathlib.Core.Bool.{true, false, ◌||◌, cond}
use mathlib.Core.List.{List, [], ◌∷◌, map}
use Prim.Native.Nat.{ℕ, zero, suc, ◌+◌, ◌*◌, ◌%◌, ◌≤◌, ◌<◌}
use native.Mathlib.Numerals.{add-one}
use native.Mathlib.Omega.{arith}
use borrow.Author.Tests.{lt-ltb, le-ltb, eqb-true}
use lib.Dec.{eqb, ltb}
use lib.ListN.{length, get_or, length-map}
use Rattle.limits.specs.Limits.{arc_size, arc_count, max_kind, max_class}
use Rattle.laws.specs.Every.{every, every-at}
use Rattle.laws.specs.Members.{any}
use Rattle.laws.specs.Tests.{flag, flag-le}
use Rattle.answer.proofs.Outcomes.{outcome-values, outcome-refused, outcome-passed}
use Rattle.answer.specs.Outcome.{Outcome, success, refused, outcome}
use Rattle.orders.proofs.Scans.{count-append, count_most}
use Rattle.orders.specs.Order.{count}
use Rattle.parts.specs.Study.{Entry, entry_class, entries_from, elements}
use Rattle.parts.specs.Tests.{bad_classes, bad_arcs, bad_kinds, bad_sizes, part_tests}
use Rattle.parts.specs.Steps.{sizes_of, arc_tests, arc_test, kind_test, bad_before, Looked}
use Rattle.parts.proofs.Scans.{entries-length, entry_at, entries_at, entry_next, entry-end, class-next, class-end}

-- 1 for each kind of a class, as the code has it
abbrev pub class1 : List ℕ
class1 = 0 ∷ 1 ∷ 0 ∷ 0 ∷ 1 ∷ 0 ∷ []

abbrev pub class2 : List ℕ
class2 = 0 ∷ 0 ∷ 1 ∷ 0 ∷ 0 ∷ 1 ∷ []

kinds-of : (t : List ℕ) (c : ℕ) → every (max_kind + 1) (λ k. eqb (get_or t k 0) (flag (eqb (k % 3) c))) ≡ true → (k : ℕ) → k ≤ max_kind → get_or t k 0 ≡ flag (eqb (k % 3) c)
kinds-of t c e k h = eqb-true (get_or t k 0) (flag (eqb (k % 3) c)) (every-at (λ j. eqb (get_or t j 0) (flag (eqb (j % 3) c))) (max_kind + 1) e k (omega arith))

pub of-class1 : (k : ℕ) → k ≤ max_kind → get_or class1 k 0 ≡ flag (eqb (k % 3) 1)
of-class1 = kinds-of class1 1 refl

pub of-class2 : (k : ℕ) → k ≤ max_kind → get_or class2 k 0 ≡ flag (eqb (k % 3) 2)
of-class2 = kinds-of class2 2 refl

-- the scan for a bad one, of entries of three bytes
bad_to : (n : ℕ) (l : List ℕ) (i : ℕ) → i ≤ arc_count l → bad_arcs n (entries_from l) ≡ (bad_before n arc_size l i || any (arc_test n) (entries_at l i))
bad_to n l zero h = refl
bad_to n l (suc i) h = bad_to n l i (omega arith) ∙ entry_next (arc_test n) (bad_before n arc_size l i) l i (omega arith) ∙ rw (add-one i)

pub bad_all : (n : ℕ) (l : List ℕ) → bad_arcs n (entries_from l) ≡ bad_before n arc_size l (arc_count l)
bad_all n l = bad_to n l (arc_count l) (omega arith) ∙ entry-end (arc_test n) (bad_before n arc_size l (arc_count l)) l (arc_count l) (omega arith)

module _ (n : ℕ) (l : List ℕ) where
  pub looked-first : Looked n l 0 0 0
  looked-first = record { arc = refl; kinds = refl; size1 = omega arith; size2 = omega arith; most1 = omega arith; most2 = omega arith }

  module _ {i n1 n2 : ℕ} (k : Looked n l i n1 n2) where
    module _ (h : arc_size * i + 2 < length l) where
      arc-now : bad_arcs n (entries_from l) ≡ (arc_test n (entry_at l i) || any (arc_test n) (entries_at l (i + 1)))
      arc-now = k.arc ∙ entry_next (arc_test n) false l i h

      kinds-now : bad_kinds (entries_from l) ≡ (kind_test (entry_at l i) || any kind_test (entries_at l (i + 1)))
      kinds-now = k.kinds ∙ entry_next kind_test false l i h

      pub looked-arc : arc_test n (entry_at l i) ≡ true → bad_arcs n (entries_from l) ≡ true
      looked-arc e = arc-now ∙ rw e

      pub looked-kind : max_kind < get_or l (arc_size * i + 2) 0 → bad_kinds (entries_from l) ≡ true
      looked-kind e = kinds-now ∙ rw (lt-ltb max_kind (get_or l (arc_size * i + 2) 0) e)

      pub looked-next : (x1 x2 : ℕ) → arc_test n (entry_at l i) ≡ false → get_or l (arc_size * i + 2) 0 ≤ max_kind
          → x1 ≡ flag (eqb (get_or l (arc_size * i + 2) 0 % 3) 1) → x2 ≡ flag (eqb (get_or l (arc_size * i + 2) 0 % 3) 2) → Looked n l (i + 1) (n1 + x1) (n2 + x2)
      looked-next x1 x2 e f f1 f2 =
          let z = get_or l (arc_size * i + 2) 0 in
          record {
            arc = arc-now ∙ rw e;
            kinds = kinds-now ∙ rw (le-ltb max_kind z f);
            size1 = omega (arith, k.size1, class-next 1 l i h, f1);
            size2 = omega (arith, k.size2, class-next 2 l i h, f2);
            most1 = omega (arith, k.most1, f1, flag-le (eqb (z % 3) 1));
            most2 = omega (arith, k.most2, f2, flag-le (eqb (z % 3) 2));
          }

    pub looked-end : length l ≤ arc_size * i + 2 → success (n1 ∷ n2 ∷ []) ≡ outcome (arc_tests n (entries_from l)) (sizes_of (map entry_class (entries_from l)))
    looked-end h =
        let a = k.arc ∙ entry-end (arc_test n) false l i h in
        let b = k.kinds ∙ entry-end kind_test false l i h in
        let s1 : count 1 (map entry_class (entries_from l)) ≡ n1 = omega (arith, k.size1, class-end 1 l i h) in
        let s2 : count 2 (map entry_class (entries_from l)) ≡ n2 = omega (arith, k.size2, class-end 2 l i h) in
        rw (a, b, s1, s2)

-- ---- the tests of all parts, where no node byte is bad: what the pass found, and the sizes
module _ (nodes arcs : List ℕ) (fine : bad_classes nodes ≡ false) where
  abbrev entries : List Entry
  entries = entries_from arcs

  abbrev sizes : List ℕ
  sizes = sizes_of (elements nodes entries)

  abbrev found : Outcome
  found = outcome (arc_tests (length nodes) entries) (sizes_of (map entry_class entries))

  -- what the code has at hand: what the pass found
  module _ (now : Outcome) (so : now ≡ found) where
    pub code-refused : (n : ℕ) → now ≡ refused n → refused n ≡ outcome (part_tests (length nodes) nodes arcs) sizes
    code-refused n q = sym (rw fine (outcome-refused (arc_tests (length nodes) entries) ((6, bad_sizes (elements nodes entries)) ∷ []) (sizes_of (map entry_class entries)) sizes n (sym so ∙ q)))

    module _ (arcs1 arcs2 : ℕ) (q : now ≡ success (arcs1 ∷ arcs2 ∷ [])) where
      values : sizes_of (map entry_class entries) ≡ arcs1 ∷ arcs2 ∷ []
      values = outcome-values (arc_tests (length nodes) entries) (sizes_of (map entry_class entries)) (arcs1 ∷ arcs2 ∷ []) (sym so ∙ q)

      few : (c : ℕ) → count c (map entry_class entries) ≤ length arcs
      few c = omega (arith, count_most c (map entry_class entries), length-map entries entry_class, entries-length arcs)

      pub code-few : (arcs1 ≤ length arcs) × (arcs2 ≤ length arcs)
      code-few = (omega (arith, few 1, ap (λ v. get_or v 0 0) values), omega (arith, few 2, ap (λ v. get_or v 1 0) values))

      -- test 6 is left
      pub code-last : (n1 n2 : ℕ) → n1 ≡ count 1 nodes → n2 ≡ count 2 nodes
          → cond (ltb max_class (n1 + arcs1) || ltb max_class (n2 + arcs2)) (refused 6) (success ((n1 + arcs1) ∷ (n2 + arcs2) ∷ [])) ≡ outcome (part_tests (length nodes) nodes arcs) sizes
      code-last n1 n2 e1 e2 =
          let f : (n1 + arcs1) ∷ (n2 + arcs2) ∷ [] ≡ sizes = ap₂ (λ x y. x ∷ y ∷ [])
          (omega (arith, e1, count-append 1 nodes (map entry_class entries), ap (λ v. get_or v 0 0) values))
          (omega (arith, e2, count-append 2 nodes (map entry_class entries), ap (λ v. get_or v 1 0) values)) in
          sym
          (rw fine (outcome-passed (arc_tests (length nodes) entries) ((6, bad_sizes (elements nodes entries)) ∷ []) (sizes_of (map entry_class entries)) sizes (sym so ∙ q))
          ∙ ap (λ v. cond (ltb max_class (get_or v 0 0) || ltb max_class (get_or v 1 0)) (refused 6) (success v)) (sym f))
