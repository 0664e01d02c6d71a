-- Scans of node bytes and of entries: what is found so far, and what the bytes from a place on say, make the whole.
use mathlib.Core.Path.{◌≡◌, refl, sym, ap, ◌∙◌}
use mathlib.Core.Bool.{Bool, ◌||◌, or_assoc, or-false}
use mathlib.Core.List.{List, [], ◌∷◌, map}
use Prim.Native.Nat.{ℕ, suc, ◌+◌, ◌*◌, ◌%◌, ◌≤◌, ◌<◌}
use native.Mathlib.Numerals.{add-one}
use native.Mathlib.Omega.{arith}
use lib.Dec.{eqb}
use lib.ListN.{length, get_or, drop, length-drop}
use lib.Seq.{drop-cons}
use Rattle.limits.specs.Limits.{arc_size, arc_count}
use Rattle.laws.specs.Members.{any}
use Rattle.laws.specs.Parts.{drop-two}
use Rattle.laws.specs.Tests.{flag}
use Rattle.orders.specs.Order.{count}
use Rattle.parts.specs.Study.{Entry, entry_class, entries_from}
use Rattle.parts.specs.Steps.{class_from}
pub use Rattle.parts.specs.Steps.{entries_at}

module _ {A : Type 0} (f : A → Bool) where
  -- one more is looked at
  more : (b : Bool) (x : A) (l : List A) → (b || any f (x ∷ l)) ≡ (b || f x || any f l)
  more b x l = sym (or_assoc b (f x) (any f l))

-- node bytes
pub any_next : (f : ℕ → Bool) (b : Bool) (l : List ℕ) (i : ℕ) → i < length l → (b || any f (drop i l)) ≡ (b || f (get_or l i 0) || any f (drop (i + 1) l))
any_next f b l i h = rw (add-one i, drop-cons l i 0 h) (more f b (get_or l i 0) (drop (suc i) l))

-- ---- entries, three bytes each
pub drop-three : (l : List ℕ) (n : ℕ) → n + 2 < length l → drop n l ≡ get_or l n 0 ∷ get_or l (n + 1) 0 ∷ get_or l (n + 2) 0 ∷ drop (n + 3) l
drop-three l n h =
    let e : suc (n + 2) ≡ n + 3 = omega arith in
    drop-two l n 0 (omega arith) ∙ ap (λ r. get_or l n 0 ∷ get_or l (n + 1) 0 ∷ r) (drop-cons l (n + 2) 0 h ∙ ap (λ k. get_or l (n + 2) 0 ∷ drop k l) e)

pub entries-length : (b : List ℕ) → length (entries_from b) ≡ arc_count b
entries-length [] = refl
entries-length (x ∷ []) = refl
entries-length (x ∷ y ∷ []) = refl
entries-length (x ∷ y ∷ z ∷ b) = omega (arith, entries-length b)

-- the entry at place i
abbrev pub entry_at : List ℕ → ℕ → Entry
entry_at l i = record { from = get_or l (arc_size * i) 0; to = get_or l (arc_size * i + 1) 0; kind = get_or l (arc_size * i + 2) 0 }

-- and those from it on
pub entries_next : (l : List ℕ) (i : ℕ) → arc_size * i + 2 < length l → entries_at l i ≡ entry_at l i ∷ entries_at l (i + 1)
entries_next l i h =
    let e : arc_size * i + 3 ≡ arc_size * (i + 1) = omega arith in
    ap entries_from (drop-three l (arc_size * i) h) ∙ ap (λ k. entry_at l i ∷ entries_from (drop k l)) e

pub entries-end : (l : List ℕ) (i : ℕ) → length l ≤ arc_size * i + 2 → entries_at l i ≡ []
entries-end l i h = few (drop (arc_size * i) l) (omega (arith, length-drop (arc_size * i) l))
  where
    few : (m : List ℕ) → length m ≤ 2 → entries_from m ≡ []
    few [] k = refl
    few (x ∷ []) k = refl
    few (x ∷ y ∷ []) k = refl
    few (x ∷ y ∷ z ∷ m) k = absurd (omega arith)

-- a test of entries
pub entry_next : (f : Entry → Bool) (b : Bool) (l : List ℕ) (i : ℕ) → arc_size * i + 2 < length l → (b || any f (entries_at l i)) ≡ (b || f (entry_at l i) || any f (entries_at l (i + 1)))
entry_next f b l i h = ap (λ m. b || any f m) (entries_next l i h) ∙ more f b (entry_at l i) (entries_at l (i + 1))

pub entry-end : (f : Entry → Bool) (b : Bool) (l : List ℕ) (i : ℕ) → length l ≤ arc_size * i + 2 → (b || any f (entries_at l i)) ≡ b
entry-end f b l i h = ap (λ m. b || any f m) (entries-end l i h) ∙ or-false b

-- the entries of a class
pub class-next : (c : ℕ) (l : List ℕ) (i : ℕ) → arc_size * i + 2 < length l → class_from c l i ≡ flag (eqb (get_or l (arc_size * i + 2) 0 % 3) c) + class_from c l (i + 1)
class-next c l i h = ap (λ m. count c (map entry_class m)) (entries_next l i h)

pub class-end : (c : ℕ) (l : List ℕ) (i : ℕ) → length l ≤ arc_size * i + 2 → class_from c l i ≡ 0
class-end c l i h = ap (λ m. count c (map entry_class m)) (entries-end l i h)
