-- Lists of cells: their lengths and what stands where.
use mathlib.Core.Path.{◌≡◌, refl, sym, ap, ap₂, ◌∙◌}
use mathlib.Core.List.{List, ◌∷◌, ◌++◌, map, append-nil, append_assoc}
use borrow.Rule.Slice.PartMut.{put_mid}
use Prim.Native.Nat.{ℕ, zero, suc, ◌+◌, ◌-◌, ◌*◌, ◌≤◌, ◌<◌}
use native.Mathlib.Nat.{suc-mul, zero-mul}
use native.Mathlib.Omega.{arith}
use lib.ListN.{length, get_or, take, drop, replicate, length-append, length-drop, length-take, replicate-append-replicate}
use lib.Seq.{get_or-take, take-add, take-append-add, drop-append-add, get_or-append-add, get_or-drop, drop-drop}
use Rattle.laws.specs.Lists.{list_to, list_length, list_at, list_same, list-split, take-list}
use Rattle.cells.specs.Cells.{cell_rows}
use Rattle.cells.specs.Steps.{changed_word}

pub table-length : (n m : ℕ) (c : ℕ → ℕ → ℕ) → length (cell_rows n m c) ≡ n * m
table-length zero m c = sym (zero-mul m)
table-length (suc n) m c = length-append (list_to m (c 0)) (cell_rows n m (λ i. c (suc i))) ∙ omega (arith, list_length m (c 0), table-length n m (λ i. c (suc i)), suc-mul n m)

list-zero : (n : ℕ) → list_to {A = ℕ} n (λ i. 0) ≡ replicate n 0
list-zero zero = refl
list-zero (suc n) = ap (λ l. 0 ∷ l) (list-zero n)

pub table-zero : (n m : ℕ) → cell_rows n m (λ i j. 0) ≡ replicate (n * m) 0
table-zero zero m = rw (zero-mul m)
table-zero (suc n) m =
    let e : m + n * m ≡ suc n * m = omega (arith, suc-mul n m) in
    ap₂ ◌++◌ (list-zero m) (table-zero n m) ∙ replicate-append-replicate m (n * m) 0 ∙ ap (λ k. replicate k 0) e

-- ---- what stands where
-- reading a cell
pub table_at : (n m : ℕ) (c : ℕ → ℕ → ℕ) (i j : ℕ) (l : List ℕ) → i < n → j < m → get_or (cell_rows n m c ++ l) (i * m + j) 0 ≡ c i j
table_at zero m c i j l h k = absurd (omega arith)
table_at (suc n) m c zero j l h k =
    let e : 0 * m + j ≡ j = omega (arith, zero-mul m) in
    ap (λ x. get_or x (0 * m + j) 0) (append_assoc (list_to m (c 0)) (cell_rows n m (λ x. c (suc x))) l) ∙ ap (λ x. get_or (list_to m (c 0) ++ (cell_rows n m (λ x. c (suc x)) ++ l)) x 0) e ∙ list_at m (c 0) j (cell_rows n m (λ x. c (suc x)) ++ l) 0 k
table_at (suc n) m c (suc i) j l h k =
    let e : suc i * m + j ≡ length (list_to m (c 0)) + (i * m + j) = omega (arith, suc-mul i m, list_length m (c 0)) in
    ap (λ x. get_or x (suc i * m + j) 0) (append_assoc (list_to m (c 0)) (cell_rows n m (λ x. c (suc x))) l) ∙ ap (λ x. get_or (list_to m (c 0) ++ (cell_rows n m (λ x. c (suc x)) ++ l)) x 0) e
    ∙ get_or-append-add (list_to m (c 0)) (cell_rows n m (λ x. c (suc x)) ++ l) (i * m + j) 0 ∙ table_at n m (λ x. c (suc x)) i j l (omega arith) k

-- the same cells are the same rows
pub table_same : (n m : ℕ) (c d : ℕ → ℕ → ℕ) → ((i j : ℕ) → i < n → j < m → c i j ≡ d i j) → cell_rows n m c ≡ cell_rows n m d
table_same zero m c d h = refl
table_same (suc n) m c d h = ap₂ ◌++◌ (list_same m (c 0) (d 0) (λ j k. h 0 j (omega arith) k)) (table_same n m (λ i. c (suc i)) (λ i. d (suc i)) (λ i j k l. h (suc i) j (omega arith) l))

-- a list as rows of m
pub table-take : (n m : ℕ) (l : List ℕ) → n * m ≤ length l → cell_rows n m (λ i j. get_or l (i * m + j) 0) ≡ take (n * m) l
table-take zero m l h = ap (λ k. take k l) (sym (zero-mul m))
table-take (suc n) m l h =
    let e : m + n * m ≡ suc n * m = omega (arith, suc-mul n m) in
    ap₂ ◌++◌
    (list_same m (λ j. get_or l (0 * m + j) 0) (λ j. get_or l j 0) (λ j k. ap (λ x. get_or l x 0) (first j)) ∙ sym (take-list m l 0 (omega (arith, e))))
    (table_same n m (λ i j. get_or l (suc i * m + j) 0) (λ i j. get_or (drop m l) (i * m + j) 0) (λ i j k q. ap (λ x. get_or l x 0) (later i j) ∙ sym (get_or-drop m l (i * m + j) 0)) ∙ table-take n m (drop m l) (omega (arith, e, length-drop m l)))
    ∙ sym (take-add m (n * m) l) ∙ ap (λ k. take k l) e
  where
    first : (j : ℕ) → 0 * m + j ≡ j
    first j = omega (arith, zero-mul m)

    later : (i j : ℕ) → suc i * m + j ≡ m + (i * m + j)
    later i j = omega (arith, suc-mul i m)

-- one row more, at the end
pub table-snoc : (n m : ℕ) (c : ℕ → ℕ → ℕ) → cell_rows (suc n) m c ≡ cell_rows n m c ++ list_to m (c n)
table-snoc zero m c = append-nil (list_to m (c 0))
table-snoc (suc n) m c = ap (λ r. list_to m (c 0) ++ r) (table-snoc n m (λ i. c (suc i))) ∙ sym (append_assoc (list_to m (c 0)) (cell_rows n m (λ i. c (suc i))) (list_to m (c (suc n))))

-- the n words from a place on changed
abbrev pub changed_part : ℕ → ℕ → List ℕ → ℕ → ℕ → List ℕ
changed_part up down l from n = take from l ++ list_to n (λ i. changed_word up down (get_or l (from + i) 0)) ++ drop (from + n) l

-- the last y cells of a row of w changed, where `done` stands in front of the row
module _ (up down : ℕ) (old done : List ℕ) (w y : ℕ) (f : ℕ → ℕ) (fits : y ≤ w) (room : length done + w ≤ length old)
    (low : (i : ℕ) → i < w - y → f i ≡ get_or old (length done + i) 0)
    (high : (i : ℕ) → i < y → f (w - y + i) ≡ changed_word up down (get_or old (length done + (w - y + i)) 0)) where
  abbrev rest : List ℕ
  rest = drop (length done) old

  row_is : take (w - y) rest ++ list_to y (λ i. changed_word up down (get_or (done ++ rest) (length done + (w - y) + i) 0)) ≡ list_to w f
  row_is =
      ap₂ ◌++◌ (take-list (w - y) rest 0 (omega (arith, length-drop (length done) old)) ∙ list_same (w - y) (λ i. get_or rest i 0) f (λ i h. get_or-drop (length done) old i 0 ∙ sym (low i h)))
      (list_same y (λ i. changed_word up down (get_or (done ++ rest) (length done + (w - y) + i) 0)) (λ i. f (w - y + i)) at)
      ∙ sym (list-split (w - y) y f) ∙ ap (λ k. list_to k f) whole
    where
      whole : w - y + y ≡ w
      whole = omega arith

      at : (i : ℕ) → i < y → changed_word up down (get_or (done ++ rest) (length done + (w - y) + i) 0) ≡ f (w - y + i)
      at i h =
          let e : length done + (w - y) + i ≡ length done + (w - y + i) = omega arith in
          ap (changed_word up down) (ap (λ k. get_or (done ++ rest) k 0) e ∙ get_or-append-add done rest (w - y + i) 0 ∙ get_or-drop (length done) old (w - y + i) 0) ∙ sym (high i h)

  pub row-changed : changed_part up down (done ++ rest) (length done + (w - y)) y ≡ done ++ list_to w f ++ drop (length done + w) old
  row-changed =
      let e : length done + (w - y) + y ≡ length done + w = omega arith in
      ap₂ (λ a b. a ++ list_to y (λ i. changed_word up down (get_or (done ++ rest) (length done + (w - y) + i) 0)) ++ b) (take-append-add done rest (w - y)) (ap (λ k. drop k (done ++ rest)) e ∙ drop-append-add done rest w ∙ drop-drop w (length done) old)
      ∙ ap (λ r. r ++ drop (length done + w) old) (append_assoc done (take (w - y) rest) (list_to y (λ i. changed_word up down (get_or (done ++ rest) (length done + (w - y) + i) 0))) ∙ ap (λ r. done ++ r) row_is)

map-list : (f g : ℕ → ℕ) (n : ℕ) → map f (list_to n g) ≡ list_to n (λ i. f (g i))
map-list f g zero = refl
map-list f g (suc n) = ap (λ l. f (g 0) ∷ l) (map-list f (λ i. g (suc i)) n)

-- a part that was lent
pub part-at : (l : List ℕ) (from k i : ℕ) → i < length (take k (drop from l)) → get_or (take k (drop from l)) i 0 ≡ get_or l (from + i) 0
part-at l from k i h = get_or-take k (drop from l) i 0 (omega (arith, length-take k (drop from l))) ∙ get_or-drop from l i 0

pub part-changed : (up down : ℕ) (l : List ℕ) (from k n : ℕ) {new : List ℕ} → k ≡ n → from + n ≤ length l → new ≡ map (changed_word up down) (take k (drop from l))
    → put_mid from k l new ≡ changed_part up down l from n
part-changed up down l from k n e h f =
    let g : ℕ → ℕ = λ i. changed_word up down (get_or l (from + i) 0) in
    let mapped : map (changed_word up down) (take n (drop from l)) ≡ list_to n g =
    ap (map (changed_word up down)) (take-list n (drop from l) 0 (omega (arith, length-drop from l))) ∙ map-list (changed_word up down) (λ i. get_or (drop from l) i 0) n
    ∙ list_same n (λ i. changed_word up down (get_or (drop from l) i 0)) g (λ i _. ap (changed_word up down) (get_or-drop from l i 0)) in
    ap (λ m. take from l ++ (m ++ drop k (drop from l))) f ∙ ap (λ j. take from l ++ (map (changed_word up down) (take j (drop from l)) ++ drop j (drop from l))) e
    ∙ ap₂ (λ m r. take from l ++ (m ++ r)) mapped (drop-drop n from l) ∙ sym (append_assoc (take from l) (list_to n g) (drop (from + n) l))
