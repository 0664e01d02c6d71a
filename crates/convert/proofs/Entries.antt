-- Pairs of bytes as entries of kind 0: the same arcs, none of which fails.
use mathlib.Core.Path.{◌≡◌, refl, sym, ap, ap₂, ◌∙◌}
use mathlib.Core.Logic.{⊎_elim}
use mathlib.Core.Bool.{false, ◌||◌}
use mathlib.Core.List.Memᴰ
use mathlib.Core.List.{List, [], ◌∷◌, map}
use Prim.Native.Nat.{ℕ, zero, suc, ◌+◌, ◌-◌, ◌*◌, ◌/◌, ◌≤◌}
use native.Mathlib.Omega.{arith}
use borrow.Author.Tests.{ne_eqb}
use lib.Dec.{eqb}
use lib.ListN.{length, get_or, get_or-append, get_or-eq_default}
use lib.Seq.{get_or-append-add}
use Rattle.limits.specs.Limits.{arc_size}
use Rattle.laws.specs.Members.{◌∈◌, any}
use Rattle.laws.specs.Tests.{flag, order}
use Rattle.orders.specs.Order.{count}
use Rattle.orders.proofs.Scans.{count-append}
use Rattle.parts.specs.Study.{Entry, Arc, entry_class, arcs_from, entries_from, elements}
use Rattle.parts.specs.Tests.{bad_arc, bad_arcs, bad_kinds}
use Rattle.convert.specs.Old.{old_arc_size, old_arcs_from, old_bad_arcs}
use Rattle.convert.specs.Convert.{with_kinds}

-- the entries of an old file's arcs
abbrev pub new_entries : List ℕ → List Entry
new_entries b = entries_from (with_kinds b)

-- they lead as the old arcs
pub arcs-same : (i : ℕ) (b : List ℕ) → arcs_from i (new_entries b) ≡ old_arcs_from i b
arcs-same i [] = refl
arcs-same i (x ∷ []) = refl
arcs-same i (x ∷ y ∷ b) = ap (λ r. record { from = x; to = y; place = i } ∷ r) (arcs-same (suc i) b)

pub kinds-are : (b : List ℕ) (x : Entry) → x ∈ new_entries b → x.kind ≡ 0
kinds-are (y ∷ z ∷ b) x (Memᴰ.head e) = ap (λ (k : Entry). k.kind) e
kinds-are (y ∷ z ∷ b) x (Memᴰ.tail m) = kinds-are b x m
kinds-are [] x m = elim m [ ]
kinds-are (y ∷ []) x m = elim m [ ]

pub kinds-length : (b : List ℕ) → length (with_kinds b) ≡ arc_size * (length b / old_arc_size)
kinds-length [] = refl
kinds-length (x ∷ []) = refl
kinds-length (x ∷ y ∷ b) = omega (arith, kinds-length b)

-- ---- tests 8 and 32
pub arcs-as-bad : (N : ℕ) (b : List ℕ) → bad_arcs N (new_entries b) ≡ old_bad_arcs N b
arcs-as-bad N b = from 0 b
  where
    from : (i : ℕ) (b : List ℕ) → bad_arcs N (new_entries b) ≡ any (λ (a : Arc). bad_arc N a.from a.to) (old_arcs_from i b)
    from i [] = refl
    from i (x ∷ []) = refl
    from i (x ∷ y ∷ b) = ap (λ t. bad_arc N x y || t) (from (suc i) b)

pub kinds-good : (b : List ℕ) → bad_kinds (new_entries b) ≡ false
kinds-good [] = refl
kinds-good (x ∷ []) = refl
kinds-good (x ∷ y ∷ b) = kinds-good b

-- ---- classes: those of the nodes, and 0
none-fails : (b : List ℕ) (j : ℕ) → get_or (map entry_class (new_entries b)) j 0 ≡ 0
none-fails [] j = refl
none-fails (x ∷ []) j = refl
none-fails (x ∷ y ∷ b) zero = refl
none-fails (x ∷ y ∷ b) (suc j) = none-fails b j

none-counts : (c : ℕ) (b : List ℕ) → count (suc c) (map entry_class (new_entries b)) ≡ 0
none-counts c [] = refl
none-counts c (x ∷ []) = refl
none-counts c (x ∷ y ∷ b) = let e : flag (eqb 0 (suc c)) ≡ 0 = ap flag (ne_eqb 0 (suc c) (λ q. omega arith)) in ap₂ ◌+◌ e (none-counts c b)

module _ (nodes b : List ℕ) where
  -- the elements' classes
  abbrev pub new_classes : List ℕ
  new_classes = elements nodes (new_entries b)

  pub sizes-same : (c : ℕ) → count (suc c) new_classes ≡ count (suc c) nodes
  sizes-same c = count-append (suc c) nodes (map entry_class (new_entries b)) ∙ omega (arith, none-counts c b)

  pub arc-class : (i : ℕ) → get_or new_classes (length nodes + i) 0 ≡ 0
  arc-class i = get_or-append-add nodes (map entry_class (new_entries b)) i 0 ∙ none-fails b i

  pub class_same : (v : ℕ) → get_or new_classes v 0 ≡ get_or nodes v 0
  class_same v =
      ⊎_elim
      (λ (h : length nodes ≤ v). let q : length nodes + (v - length nodes) ≡ v = omega arith in
      ap (λ k. get_or new_classes k 0) (sym q) ∙ arc-class (v - length nodes) ∙ sym (get_or-eq_default nodes 0 {n = v} h))
      (λ h. get_or-append nodes (map entry_class (new_entries b)) 0 v h) (order (length nodes) v)
