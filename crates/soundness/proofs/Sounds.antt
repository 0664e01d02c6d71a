-- What the test of a sound tally says, by document 01's sentence and as the code makes it.
use mathlib.Core.Path.{◌≡◌, refl, sym, ap, ap₂, ◌∙◌}
use mathlib.Core.Logic.{◌↔◌, ⊎_elim}
use mathlib.Core.Bool.{Bool, true, ◌&&◌, ◌||◌}
use mathlib.Core.List.{List}
use Prim.Native.Nat.{ℕ, suc, ◌+◌, ◌*◌, ◌/◌, ◌%◌, ◌≤◌, ◌<◌}
use native.Mathlib.Nat.{le_trans, zero-add, mod-add-mod, add-mod-mod, div-add-mod', mod-lt, div-lt_iff_lt-mul}
use native.Mathlib.Omega.{arith}
use lib.Arith.{digits_lt}
use lib.Dec.{eqb, leb}
use lib.ListN.{get_or, drop}
use lib.Seq.{get_or-drop}
use borrow.Author.Tests.{eqb-true, eq-eqb, leb-true, le-leb, lt-leb}
use Rattle.limits.specs.Limits.{max_rounds, max_class}
use Rattle.laws.specs.Tests.{T-ext, T_true, and_both, both_true, order}
use Rattle.laws.specs.Every.{every, every-at, every-all}
use Rattle.laws.specs.Sums.{sum_to, sum_same, sum-split, sum_rows}
use Rattle.chance.specs.Chance.{Grows}
use Rattle.chance.proofs.Bounds.{rising-all}
use Rattle.soundness.specs.Tally.{head_words, tally_size1, tally_size2, rounds, tally_score, width, cell, cell_sum, fair, is_sound, Sound}
use Rattle.soundness.specs.Steps.{cut, rises_by, sum_from, rows_rise, cells_fair, is_fair}
use Rattle.soundness.proofs.Totals.{total-most}

-- two tests that pass together are equal
same_test : (a b : Bool) → (a ≡ true) ↔ (b ≡ true) → a ≡ b
same_test a b e = T-ext a b (λ t. (T_true b).1 (e.0 ((T_true a).0 t)), λ t. (T_true a).1 (e.1 ((T_true b).0 t)))

-- a bound that counts below n only
unless : (n l x y : ℕ) → leb n l || leb x y ≡ true → l < n → x ≤ y
unless n l x y e h = leb-true x y (rw (lt-leb n l h) at e)

unless-is : (n l x y : ℕ) → (l < n → x ≤ y) → leb n l || leb x y ≡ true
unless-is n l x y h = ⊎_elim (λ k. rw (le-leb n l k)) (λ k. rw (lt-leb n l k, le-leb x y (h k))) (order n l)

-- ---- sums cut to a word
-- all rows but the last, the last but its last cell, and that cell
pub cut-whole : (cells : List ℕ) (n1 n2 a b c d : ℕ) → a ≡ cut (sum_from cells 0 (n1 * width n2)) → b ≡ cut (sum_from cells (n1 * width n2) n2)
    → c ≡ cut (b + get_or cells (n1 * width n2 + n2) 0) → d ≡ cut (a + c) → d ≡ cut (sum_from cells 0 ((n1 + 1) * width n2))
cut-whole cells n1 n2 a b c d ea eb ec ed =
    let k = n1 * width n2 in
    let p : ℕ = 4294967296 in
    let rows = sum_from cells 0 k in
    let row = sum_from cells k n2 in
    let x = get_or cells (k + n2) 0 in
    let e : (n1 + 1) * width n2 ≡ k + suc n2 = omega arith in
    let l : sum_to (suc n2) (λ i. get_or cells (0 + (k + i)) 0) ≡ sum_to (suc n2) (λ i. get_or cells (k + i) 0) =
    sum_same (suc n2) (λ i. get_or cells (0 + (k + i)) 0) (λ i. get_or cells (k + i) 0) (λ i h. ap (λ j. get_or cells j 0) (zero-add (k + i))) in
    ed ∙ ap₂ (λ u v. (u + v) % p) ea (ec ∙ ap (λ v. (v + x) % p) eb ∙ mod-add-mod row p x)
    ∙ mod-add-mod rows p ((row + x) % p) ∙ add-mod-mod rows (row + x) p
    ∙ ap (λ v. v % p) (sym (ap (λ n. sum_from cells 0 n) e ∙ sum-split k (suc n2) (λ i. get_or cells (0 + i) 0) ∙ ap (λ v. rows + v) l))

module _ (t : List ℕ) where
  abbrev n1 : ℕ
  n1 = tally_size1 t

  abbrev n2 : ℕ
  n2 = tally_size2 t

  abbrev m : ℕ
  m = rounds t

  abbrev all_fair : Bool
  all_fair = every (n1 + 1) (λ l1. every (n2 + 1) (λ l2. fair t l1 l2))

  -- ---- by cells
  abbrev Fair : ℕ → ℕ → Type 0
  Fair l1 l2 = (cell t l1 l2 ≤ m) × (l1 < n1 → cell t l1 l2 ≤ cell t (l1 + 1) l2) × (l2 < n2 → cell t l1 l2 ≤ cell t l1 (l2 + 1))

  fair-means : (l1 l2 : ℕ) → fair t l1 l2 ≡ true → Fair l1 l2
  fair-means l1 l2 e =
      let u = and_both (leb (cell t l1 l2) m && (leb n1 l1 || leb (cell t l1 l2) (cell t (l1 + 1) l2))) (leb n2 l2 || leb (cell t l1 l2) (cell t l1 (l2 + 1))) e in
      let v = and_both (leb (cell t l1 l2) m) (leb n1 l1 || leb (cell t l1 l2) (cell t (l1 + 1) l2)) u.0 in
      (leb-true (cell t l1 l2) m v.0, unless n1 l1 (cell t l1 l2) (cell t (l1 + 1) l2) v.1, unless n2 l2 (cell t l1 l2) (cell t l1 (l2 + 1)) u.1)

  fair-is : (l1 l2 : ℕ) → Fair l1 l2 → fair t l1 l2 ≡ true
  fair-is l1 l2 f =
      both_true (both_true (le-leb (cell t l1 l2) m f.0) (unless-is n1 l1 (cell t l1 l2) (cell t (l1 + 1) l2) f.1)) (unless-is n2 l2 (cell t l1 l2) (cell t l1 (l2 + 1)) f.2)

  pub fair-grows : (all_fair ≡ true) ↔ Grows n1 n2 m (cell t)
  fair-grows = (
    λ e.
        let at : (l1 l2 : ℕ) → l1 ≤ n1 → l2 ≤ n2 → Fair l1 l2 =
        λ l1 l2 h k. fair-means l1 l2 (every-at (fair t l1) (n2 + 1) (every-at (λ x. every (n2 + 1) (fair t x)) (n1 + 1) e l1 (omega arith)) l2 (omega arith)) in
        record {
          below = λ l1 l2 h k. (at l1 l2 h k).0;
          first = λ l1 l2 h k. let i : suc l1 ≡ l1 + 1 = omega arith in rw i ((at l1 l2 (omega arith) k).1 h);
          second = λ l1 l2 h k. let i : suc l2 ≡ l2 + 1 = omega arith in rw i ((at l1 l2 h (omega arith)).2 k);
        },
    λ g.
        every-all (λ x. every (n2 + 1) (fair t x)) (n1 + 1) (λ l1 h.
        every-all (fair t l1) (n2 + 1) (λ l2 k.
        fair-is l1 l2 (
          g.below l1 l2 (omega arith) (omega arith),
          λ i. let e : l1 + 1 ≡ suc l1 = omega arith in rw e (g.first l1 l2 i (omega arith)),
          λ i. let e : l2 + 1 ≡ suc l2 = omega arith in rw e (g.second l1 l2 (omega arith) i),
        ))),
  )

  -- ---- as the code has it
  abbrev cells : List ℕ
  cells = drop head_words t

  at-cell : (l1 l2 k : ℕ) → k ≡ l1 * width n2 + l2 → get_or cells k 0 ≡ cell t l1 l2
  at-cell l1 l2 k e = get_or-drop head_words t k 0 ∙ ap (λ i. get_or t (head_words + i) 0) e

  -- one row on
  next_row : (l1 l2 i : ℕ) → i ≡ l1 * width n2 + l2 → 0 + i + width n2 ≡ suc l1 * width n2 + l2
  next_row l1 l2 i e = omega (arith, e)

  code-grows : cells_fair cells n1 n2 m ≡ true → Grows n1 n2 m (cell t)
  code-grows e =
      record {
        below = λ l1 l2 h k. le_trans (rising-all n1 (λ x. cell t x l2) (λ x i. first x l2 i k) l1 n1 h (omega arith)) (le_trans (rising-all n2 (cell t n1) (λ y i. second n1 y (omega arith) i) l2 n2 k (omega arith)) top);
        first = first;
        second = second;
      }
    where
      u : (leb (get_or cells (n1 * width n2 + n2) 0) m ≡ true) × (rises_by cells 0 (width n2) (n1 * width n2) && rows_rise cells n2 (n1 + 1) ≡ true)
      u = and_both (leb (get_or cells (n1 * width n2 + n2) 0) m) (rises_by cells 0 (width n2) (n1 * width n2) && rows_rise cells n2 (n1 + 1)) e

      v : (rises_by cells 0 (width n2) (n1 * width n2) ≡ true) × (rows_rise cells n2 (n1 + 1) ≡ true)
      v = and_both (rises_by cells 0 (width n2) (n1 * width n2)) (rows_rise cells n2 (n1 + 1)) u.1

      top : cell t n1 n2 ≤ m
      top = rw (← at-cell n1 n2 (n1 * width n2 + n2) refl) (leb-true (get_or cells (n1 * width n2 + n2) 0) m u.0)

      first : (l1 l2 : ℕ) → l1 < n1 → l2 ≤ n2 → cell t l1 l2 ≤ cell t (suc l1) l2
      first l1 l2 h k =
          let i = l1 * width n2 + l2 in
          rw (← at-cell l1 l2 (0 + i) (zero-add i), ← at-cell (suc l1) l2 (0 + i + width n2) (next_row l1 l2 i refl))
          (leb-true (get_or cells (0 + i) 0) (get_or cells (0 + i + width n2) 0) (every-at (λ i. leb (get_or cells (0 + i) 0) (get_or cells (0 + i + width n2) 0)) (n1 * width n2) v.0 i (digits_lt h (omega arith))))

      second : (l1 l2 : ℕ) → l1 ≤ n1 → l2 < n2 → cell t l1 l2 ≤ cell t l1 (suc l2)
      second l1 l2 h k =
          let j = l1 * width n2 in
          let e : j + l2 + 1 ≡ j + suc l2 = omega arith in
          rw (← at-cell l1 l2 (j + l2) refl, ← at-cell l1 (suc l2) (j + l2 + 1) e)
          (leb-true (get_or cells (j + l2) 0) (get_or cells (j + l2 + 1) 0)
          (every-at (λ i. leb (get_or cells (j + i) 0) (get_or cells (j + i + 1) 0)) n2 (every-at (λ l1. rises_by cells (l1 * width n2) 1 n2) (n1 + 1) v.1 l1 (omega arith)) l2 k))

  grows-code : Grows n1 n2 m (cell t) → cells_fair cells n1 n2 m ≡ true
  grows-code g =
      both_true top
      (both_true (every-all (λ i. leb (get_or cells (0 + i) 0) (get_or cells (0 + i + width n2) 0)) (n1 * width n2) down)
      (every-all (λ l1. rises_by cells (l1 * width n2) 1 n2) (n1 + 1) (λ l1 h. every-all (λ i. leb (get_or cells (l1 * width n2 + i) 0) (get_or cells (l1 * width n2 + i + 1) 0)) n2 (along l1 h))))
    where
      top : leb (get_or cells (n1 * width n2 + n2) 0) m ≡ true
      top = rw (at-cell n1 n2 (n1 * width n2 + n2) refl) (le-leb (cell t n1 n2) m (g.below n1 n2 (omega arith) (omega arith)))

      down : (i : ℕ) → i < n1 * width n2 → leb (get_or cells (0 + i) 0) (get_or cells (0 + i + width n2) 0) ≡ true
      down i h =
          let l1 = i / width n2 in
          let l2 = i % width n2 in
          let e : i ≡ l1 * width n2 + l2 = sym (div-add-mod' i (width n2)) in
          let k : l2 < width n2 = mod-lt i (omega arith) in
          rw (at-cell l1 l2 (0 + i) (zero-add i ∙ e), at-cell (suc l1) l2 (0 + i + width n2) (next_row l1 l2 i e))
          (le-leb (cell t l1 l2) (cell t (suc l1) l2) (g.first l1 l2 ((div-lt_iff_lt-mul (omega arith)).1 h) (omega arith)))

      along : (l1 : ℕ) → l1 < n1 + 1 → (l2 : ℕ) → l2 < n2 → leb (get_or cells (l1 * width n2 + l2) 0) (get_or cells (l1 * width n2 + l2 + 1) 0) ≡ true
      along l1 h l2 k =
          let j = l1 * width n2 in
          let e : j + l2 + 1 ≡ j + suc l2 = omega arith in
          rw (at-cell l1 l2 (j + l2) refl, at-cell l1 (suc l2) (j + l2 + 1) e) (le-leb (cell t l1 l2) (cell t l1 (suc l2)) (g.second l1 l2 (omega arith) k))

  -- ---- the sum of the cells
  abbrev sum : ℕ
  sum = cell_sum n1 n2 (cell t)

  abbrev code_sum : ℕ
  code_sum = sum_from cells 0 ((n1 + 1) * width n2)

  sum-cells : code_sum ≡ sum
  sum-cells =
      sum_rows (n1 + 1) (width n2) (λ i. get_or cells (0 + i) 0)
      ∙ sum_same (n1 + 1) (λ l1. sum_to (width n2) (λ l2. get_or cells (0 + (l1 * width n2 + l2)) 0)) (λ l1. sum_to (width n2) (cell t l1)) (λ l1 h.
      sum_same (width n2) (λ l2. get_or cells (0 + (l1 * width n2 + l2)) 0) (cell t l1) (λ l2 k. at-cell l1 l2 (0 + (l1 * width n2 + l2)) (zero-add (l1 * width n2 + l2))))

  -- where no cell is above M, and M is not too large, a word holds it
  uncut : n1 ≤ max_class → n2 ≤ max_class → m ≤ max_rounds → Grows n1 n2 m (cell t) → cut code_sum ≡ sum
  uncut h1 h2 h3 g = ap cut sum-cells ∙ omega (arith, total-most n1 n2 max_rounds (cell t) h1 h2 (λ l1 l2 h k. le_trans (g.below l1 l2 h k) h3))

  -- the code's test is documents 01 and 02's
  pub fair-code : n1 ≤ max_class → n2 ≤ max_class → m ≤ max_rounds → is_fair cells n1 n2 m (tally_score t) ≡ (all_fair && eqb (tally_score t) sum)
  fair-code h1 h2 h3 = same_test (is_fair cells n1 n2 m (tally_score t)) (all_fair && eqb (tally_score t) sum) (
    λ e.
        let u = and_both (cells_fair cells n1 n2 m) (eqb (tally_score t) (cut code_sum)) e in
        let g = code-grows u.0 in
        both_true (fair-grows.1 g) (eq-eqb (tally_score t) sum (eqb-true (tally_score t) (cut code_sum) u.1 ∙ uncut h1 h2 h3 g)),
    λ e.
        let u = and_both all_fair (eqb (tally_score t) sum) e in
        let g = fair-grows.0 u.0 in
        both_true (grows-code g) (eq-eqb (tally_score t) (cut code_sum) (eqb-true (tally_score t) sum u.1 ∙ sym (uncut h1 h2 h3 g))),
  )

  -- THE TEST says what document 01 says
  pub sound-is : (is_sound t ≡ true) ↔ Sound t
  sound-is = (
    λ e.
        let x = and_both (leb n1 max_class && leb n2 max_class && leb m max_rounds && all_fair) (eqb (tally_score t) sum) e in
        let u = and_both (leb n1 max_class && leb n2 max_class && leb m max_rounds) all_fair x.0 in
        let v = and_both (leb n1 max_class && leb n2 max_class) (leb m max_rounds) u.0 in
        let w = and_both (leb n1 max_class) (leb n2 max_class) v.0 in
        record { small1 = leb-true n1 max_class w.0; small2 = leb-true n2 max_class w.1; few = leb-true m max_rounds v.1; grows = fair-grows.0 u.1; total = eqb-true (tally_score t) sum x.1 },
    λ s. both_true (both_true (both_true (both_true (le-leb n1 max_class s.small1) (le-leb n2 max_class s.small2)) (le-leb m max_rounds s.few)) (fair-grows.1 s.grows)) (eq-eqb (tally_score t) sum s.total),
  )
