-- What the tests leave where they are all false: a study within document 01's limits.
use mathlib.Core.Path.{◌≡◌, refl, sym, ap, ◌∙◌}
use mathlib.Core.Bool.{Bool, true, false, ◌||◌}
use mathlib.Core.List.Memᴰ
use mathlib.Core.List.{List, []}
use Prim.Native.Nat.{ℕ, zero, suc, ◌+◌, ◌*◌, ◌≤◌, ◌<◌}
use native.Mathlib.Nat.{suc-mul}
use native.Mathlib.Omega.{arith}
use borrow.Author.Tests.{ltb-false, leb-false, eqb-false}
use lib.Dec.{eqb, leb, ltb}
use lib.ListN.{length, get_or, take, drop, length-take, length-drop}
use lib.Seq.{drop-drop}
use Rattle.limits.specs.Limits.{min_nodes, max_nodes, max_arcs, arc_count, max_kind, max_rounds, max_class}
use Rattle.laws.specs.Members.{◌∈◌, here, there, any, any-in}
use Rattle.laws.specs.Tests.{T_true, or-none}
use Rattle.orders.specs.Order.{count}
use Rattle.slices.specs.Bytes.{part_at}
use Rattle.parts.specs.Study.{Entry, entries_from, elements, pieces, round_size, study_from, WithinLimits}
use Rattle.parts.specs.Tests.{bad_counts, bad_ends, bad_classes, bad_sizes, bad_arc, bad_arcs, bad_kinds, part_tests}
use Rattle.parts.proofs.Scans.{entries-length}

-- ---- one test each
pub counts-fit : (N A M : ℕ) → bad_counts N A M ≡ false → (min_nodes ≤ N) × (N ≤ max_nodes) × (A ≤ max_arcs) × (M ≤ max_rounds)
counts-fit N A M e =
    let x = or-none (ltb N min_nodes || ltb max_nodes N || ltb max_arcs A) (ltb max_rounds M) e in
    let y = or-none (ltb N min_nodes || ltb max_nodes N) (ltb max_arcs A) x.0 in
    let z = or-none (ltb N min_nodes) (ltb max_nodes N) y.0 in
    (ltb-false N min_nodes z.0, ltb-false max_nodes N z.1, ltb-false max_arcs A y.1, ltb-false max_rounds M x.1)

pub ends-fit : (N s t : ℕ) → bad_ends N s t ≡ false → (s < N) × (t < N) × (s ≡ t → ⊥)
ends-fit N s t e =
    let x = or-none (leb N s || leb N t) (eqb s t) e in
    let y = or-none (leb N s) (leb N t) x.0 in
    (leb-false N s y.0, leb-false N t y.1, eqb-false s t x.1)

sizes-fit : (classes : List ℕ) → bad_sizes classes ≡ false → (count 1 classes ≤ max_class) × (count 2 classes ≤ max_class)
sizes-fit classes e =
    let x = or-none (ltb max_class (count 1 classes)) (ltb max_class (count 2 classes)) e in
    (ltb-false max_class (count 1 classes) x.0, ltb-false max_class (count 2 classes) x.1)

-- no member passes a test that none passes
none_of : {A : Type 0} (f : A → Bool) (l : List A) → any f l ≡ false → (x : A) → x ∈ l → f x ≡ false
none_of f l e x m = go (f x) refl
  where
    go : (b : Bool) → f x ≡ b → b ≡ false
    go true q = sym ((T_true (any f l)).0 (any-in f m ((T_true (f x)).1 q))) ∙ e
    go false q = refl

-- what tests 5, 8, 32 and 6 leave
pub record PartsFit (N : ℕ) (nodes arcs : List ℕ) : Type 0 where
  pub classes : bad_classes nodes ≡ false
  pub arc : bad_arcs N (entries_from arcs) ≡ false
  pub kinds : bad_kinds (entries_from arcs) ≡ false
  pub sizes : (count 1 (elements nodes (entries_from arcs)) ≤ max_class) × (count 2 (elements nodes (entries_from arcs)) ≤ max_class)

pub parts-fit : (N : ℕ) (nodes arcs : List ℕ) → ((u : ℕ × Bool) → u ∈ part_tests N nodes arcs → u.1 ≡ false) → PartsFit N nodes arcs
parts-fit N nodes arcs test =
    record {
      classes = test _ here;
      arc = test _ (there here);
      kinds = test _ (there (there here));
      sizes = sizes-fit (elements nodes (entries_from arcs)) (test _ (there (there (there here))));
    }

-- ---- lengths
pub pieces-length : (m n : ℕ) (b : List ℕ) → length (pieces m n b) ≡ m
pieces-length zero n b = refl
pieces-length (suc m) n b = ap suc (pieces-length m n (drop n b))

pieces-long : (m n : ℕ) (b : List ℕ) → m * n ≤ length b → (r : List ℕ) → r ∈ pieces m n b → length r ≡ n
pieces-long (suc m) n b h r (Memᴰ.head e) = ap length e ∙ (omega (arith, suc-mul m n, length-take n b))
pieces-long (suc m) n b h r (Memᴰ.tail k) = pieces-long m n (drop n b) (omega (arith, suc-mul m n, length-drop n b)) r k
pieces-long zero n b h r k = elim k [ ]

-- the piece at a place
pub piece-at : (m n : ℕ) (b : List ℕ) (r : ℕ) → r < m → get_or (pieces m n b) r [] ≡ part_at (r * n) n b
piece-at zero n b r h = absurd (omega arith)
piece-at (suc m) n b zero h = let e : 0 * n ≡ 0 = omega arith in ap (λ k. part_at k n b) (sym e)
piece-at (suc m) n b (suc r) h =
    let e : n + r * n ≡ suc r * n = omega (arith, suc-mul r n) in
    piece-at m n (drop n b) r (omega arith) ∙ ap (take n) (drop-drop (r * n) n b ∙ ap (λ k. drop k b) e)

-- THE LIMITS: where tests 2, 3, 5, 8, 32 and 6 are false and the rounds' bytes suffice
pub parts_within : (nodes arcs rounds : List ℕ) (s t M : ℕ)
    → bad_counts (length nodes) (arc_count arcs) M ≡ false → bad_ends (length nodes) s t ≡ false → PartsFit (length nodes) nodes arcs
    → M * round_size (elements nodes (entries_from arcs)) ≤ length rounds → WithinLimits (study_from nodes arcs rounds s t M)
parts_within nodes arcs rounds s t M two three p nine =
    let c = counts-fit (length nodes) (arc_count arcs) M two in
    let e = ends-fit (length nodes) s t three in
    let size = round_size (elements nodes entries) in
    record {
      nodes-least = c.0;
      nodes-most = c.1;
      arcs-most = omega (arith, entries-length arcs, c.2);
      rounds-most = omega (arith, pieces-length M size rounds, c.3);
      size1-most = p.sizes.0;
      size2-most = p.sizes.1;
      classes-most = λ x m. ltb-false 2 x (none_of (ltb 2) nodes p.classes x m);
      kinds-most = λ x m. ltb-false max_kind x.kind (none_of (λ y. ltb max_kind y.kind) entries p.kinds x m);
      source_in = e.0;
      target-in = e.1;
      ends-differ = e.2;
      from_in = λ x m. (arc x m).0;
      to_in = λ x m. (arc x m).1;
      no_loop = λ x m. (arc x m).2;
      rounds-long = pieces-long M size rounds nine;
    }
  where
    entries : List Entry
    entries = entries_from arcs

    arc : (x : Entry) → x ∈ entries → (x.from < length nodes) × (x.to < length nodes) × (x.from ≡ x.to → ⊥)
    arc x m = ends-fit (length nodes) x.from x.to (none_of (λ y. bad_arc (length nodes) y.from y.to) entries p.arc x m)
