-- Cells a line at a time, over lists: the loops of `change_rows` and `lines_start`.
use mathlib.Core.Path.{◌≡◌, refl, sym, ap, ap₂, ◌∙◌}
use mathlib.Core.Bool.{Bool, true, false, ◌&&◌}
use mathlib.Core.List.{List, ◌++◌}
use Prim.Native.Nat.{ℕ, suc, ◌+◌, ◌-◌, ◌*◌, ◌≤◌, ◌<◌, max}
use native.Mathlib.Nat.{mul-le-mul_right, suc-mul, zero-mul}
use native.Mathlib.Omega.{arith}
use lib.ListN.{length, get_or, drop, length-append, length-drop}
use lib.Seq.{get_or-append-add, get_or-drop}
use Rattle.laws.specs.Tests.{T_true, T-ext, flag, flag-le}
use Rattle.laws.specs.Sums.{sum_to, sum-each, sum-split, sum-part}
use Rattle.laws.specs.Every.{every, every-next}
use Rattle.laws.specs.Members.{◌∈◌}
use Rattle.front.specs.declared.Pair.{Pair}
use Rattle.record.specs.Record.{listed, record_holds}
use Rattle.record.proofs.Records.{IsRecord, record_is}
use Rattle.soundness.specs.Tally.{width}
use Rattle.soundness.proofs.Totals.{total-most}
use Rattle.cells.specs.Cells.{cell_rows, held}
use Rattle.cells.specs.declared.Along.TheVariants.{Rows, Columns}
use Rattle.cells.specs.Steps.{changed_word, peak, peak_at, CanChange, Fitting, CellsCanChange, changed_cell, held_cells, starts_line, line_test, Lines}
use Rattle.limits.specs.Limits.{max_class}
use Rattle.cells.proofs.Peaks.{holds-peak, peak-next, peak-none, peak-most, turn-within}
use Rattle.cells.proofs.Tables.{changed_part, table-length, table-snoc, row-changed}

-- whether the record holds, by its height
pub held-true : (r : List ℕ) (n1 n2 l1 l2 : ℕ) → n2 - l2 < peak (listed r) (n1 - l1) → record_holds r (n1 - l1) (n2 - l2) ≡ true
held-true r n1 n2 l1 l2 h = (T_true (record_holds r (n1 - l1) (n2 - l2))).0 ((holds-peak (listed r) (n1 - l1) (n2 - l2)).1 h)

pub held-false : (r : List ℕ) (n1 n2 l1 l2 : ℕ) → peak (listed r) (n1 - l1) ≤ n2 - l2 → record_holds r (n1 - l1) (n2 - l2) ≡ false
held-false r n1 n2 l1 l2 h = T-ext (record_holds r (n1 - l1) (n2 - l2)) false (λ t. absurd (omega (arith, (holds-peak (listed r) (n1 - l1) (n2 - l2)).0 t)), λ t. absurd t)

-- x − 1 failures come next; the lines of more failures are done
pub record AtLine (l : List Pair) (lines stride y at x : ℕ) : Type 0 where
  -- at most so many positions are left
  pub upto : x ≤ lines
  -- the line that comes next begins here
  pub place : at ≡ (lines - x) * stride
  -- the height after x failures
  pub height : y ≡ peak l x

module _ (l : List Pair) (lines n stride : ℕ) (within : (p : Pair) → p ∈ l → (p.p1.0 ≤ lines) × (p.p2.0 ≤ n)) where
  pub line_first : AtLine l lines stride 0 0 lines
  line_first =
      let e : lines - lines ≡ 0 = omega arith in
      record { upto = omega arith; place = rw e (sym (zero-mul stride)); height = sym (peak-none l lines (λ p m. (within p m).0)) }

  module _ {y at x : ℕ} (s : AtLine l lines stride y at x) (some : 0 < x) (z : ℕ) (is : z ≡ max y (peak_at l x)) where
    pub line-risen : z ≡ peak l (x - 1)
    line-risen =
        let e : x ≡ suc (x - 1) = omega arith in
        is ∙ ap₂ max (s.height ∙ ap (peak l) e) (ap (peak_at l) e) ∙ sym (peak-next l (x - 1))

    pub line-fits : z ≤ n
    line-fits = omega (arith, line-risen, peak-most l (x - 1) n (λ p m. (within p m).1))

    pub line-next : AtLine l lines stride z (at + stride) (x - 1)
    line-next =
        let e : suc (lines - x) ≡ lines - (x - 1) = omega (arith, s.upto) in
        record {
          upto = omega (arith, s.upto);
          place = omega (arith, s.place, suc-mul (lines - x) stride, ap (λ k. k * stride) e);
          height = line-risen;
        }

    -- the test of a line
    pub test-next : (cells : List ℕ) (step : ℕ) {all : Bool} → all ≡ every (lines - x) (line_test l lines cells n stride step)
        → all && starts_line cells at n z step ≡ every (lines - (x - 1)) (line_test l lines cells n stride step)
    test-next cells step {all} e =
        let q : lines - x + 1 ≡ lines - (x - 1) = omega (arith, s.upto) in
        let p : x - 1 ≡ lines - 1 - (lines - x) = omega (arith, s.upto) in
        ap (λ b. all && b) (ap₂ (λ a k. starts_line cells a n k step) s.place (line-risen ∙ ap (peak l) p))
        ∙ every-next (line_test l lines cells n stride step) (lines - x) e ∙ ap (λ m. every m (line_test l lines cells n stride step)) q

-- the cells of the first n rows in which the record holds
abbrev pub held_rows : List ℕ → ℕ → ℕ → ℕ → ℕ
held_rows r n1 n2 n = sum_to n (λ l1. sum_to (width n2) (held r n1 n2 l1))

-- the rows in front are changed, the others as they were
pub record RowsDone (up down : ℕ) (r old cells : List ℕ) (n1 n2 at x : ℕ) : Type 0 where
  pub done : cells ≡ cell_rows (n1 + 1 - x) (width n2) (λ l1 l2. changed_cell up down r n1 n2 l1 l2 (get_or old (l1 * width n2 + l2) 0)) ++ drop at old
  -- as many cells
  pub long : length cells ≡ length old

module _ {r old : List ℕ} {n1 n2 : ℕ} (ok : Fitting old r n1 n2) where
  good : IsRecord r
  good = (record_is r).0 ok.is

  within : (p : Pair) → p ∈ listed r → (p.p1.0 ≤ n1 + 1) × (p.p2.0 ≤ width n2)
  within p m = (omega (arith, good.form.within p m, ok.one), omega (arith, good.form.within p m, ok.two))

  pub small : (n1 ≤ max_class) × (n2 ≤ max_class)
  small = (omega (arith, good.small1, ok.one), omega (arith, good.small2, ok.two))

  -- the cells as rows, and as columns
  room_for : (l1 l2 : ℕ) → l1 < n1 + 1 → l2 < width n2 → l1 * width n2 + l2 < length old
  room_for l1 l2 h k = let b : l1 + 1 ≤ n1 + 1 = omega arith in omega (arith, ok.room, mul-le-mul_right (width n2) b)

  pub rows_lie : Lines old r Rows (n1 + 1) (width n2) (width n2) 1
  rows_lie =
      record {
        is = ok.is;
        few = (omega (arith, small), omega arith, omega (arith, small));
        within = within;
        room = λ k i h b. omega (arith, room_for k i h b);
      }

  pub columns-lie : Lines old r Columns (width n2) (n1 + 1) 1 (width n2)
  columns-lie =
      record {
        is = ok.is;
        few = (omega (arith, small), omega arith, omega arith);
        within = turn-within (listed r) (n1 + 1) (width n2) within;
        room = λ k i h b. omega (arith, room_for i k b h);
      }

  abbrev AtRow : ℕ → ℕ → ℕ → Type 0
  AtRow y at x = AtLine (listed r) (n1 + 1) (width n2) y at x

  pub row_first : AtRow 0 0 (n1 + 1)
  row_first = line_first (listed r) (n1 + 1) (width n2) (width n2) within

  pub done_first : (up down : ℕ) → RowsDone up down r old old n1 n2 0 (n1 + 1)
  done_first up down = let e : n1 + 1 - (n1 + 1) ≡ 0 = omega arith in record { done = rw e refl; long = refl }

  module _ {y at x : ℕ} (s : AtRow y at x) (some : 0 < x) (z : ℕ) (is : z ≡ max y (peak_at (listed r) x)) where
    abbrev l1 : ℕ
    l1 = n1 + 1 - x

    risen : z ≡ peak (listed r) (n1 - l1)
    risen =
        let e : x - 1 ≡ n1 - l1 = omega (arith, s.upto) in
        line-risen (listed r) (n1 + 1) (width n2) (width n2) within s some z is ∙ ap (peak (listed r)) e

    pub fits : z ≤ width n2
    fits = line-fits (listed r) (n1 + 1) (width n2) (width n2) within s some z is

    pub row_next : AtRow z (at + width n2) (x - 1)
    row_next = line-next (listed r) (n1 + 1) (width n2) (width n2) within s some z is

    pub room : at + width n2 ≤ length old
    room =
        let h : l1 + 1 ≤ n1 + 1 = omega (arith, s.upto) in
        omega (arith, s.place, ok.room, mul-le-mul_right (width n2) h)

    next : suc l1 ≡ n1 + 1 - (x - 1)
    next = omega (arith, s.upto)

    -- the record holds in the last z cells of the row alone
    holds-high : (i : ℕ) → i < z → record_holds r (n1 - l1) (n2 - (width n2 - z + i)) ≡ true
    holds-high i h = held-true r n1 n2 l1 (width n2 - z + i) (omega (arith, risen, fits))

    holds-low : (i : ℕ) → i < width n2 - z → record_holds r (n1 - l1) (n2 - i) ≡ false
    holds-low i h = held-false r n1 n2 l1 i (omega (arith, risen))

    -- ---- how many they are
    row-held : sum_to (width n2) (held r n1 n2 l1) ≡ z
    row-held =
        let e : width n2 ≡ width n2 - z + z = omega (arith, fits) in
        ap (λ n. sum_to n (held r n1 n2 l1)) e ∙ sum-split (width n2 - z) z (held r n1 n2 l1)
        ∙ ap₂ ◌+◌ (sum-each (width n2 - z) 0 (held r n1 n2 l1) (λ i h. ap (λ b. flag b) (holds-low i h))) (sum-each z 1 (λ i. held r n1 n2 l1 (width n2 - z + i)) (λ i h. ap (λ b. flag b) (holds-high i h)))
        ∙ omega arith

    pub count_next : {n : ℕ} → n ≡ held_rows r n1 n2 (n1 + 1 - x) → n + z ≡ held_rows r n1 n2 (n1 + 1 - (x - 1))
    count_next e = ap₂ ◌+◌ e (sym row-held) ∙ ap (held_rows r n1 n2) next

    -- ---- cells changed
    module _ {up down : ℕ} {cells : List ℕ} (d : RowsDone up down r old cells n1 n2 at x) where
      abbrev cell-new : ℕ → ℕ → ℕ
      cell-new = λ l1 l2. changed_cell up down r n1 n2 l1 l2 (get_or old (l1 * width n2 + l2) 0)

      abbrev front : List ℕ
      front = cell_rows l1 (width n2) cell-new

      front_long : length front ≡ at
      front_long = table-length l1 (width n2) cell-new ∙ sym s.place

      -- the cells from this row on are as they were
      pub later : CellsCanChange up down r n1 n2 old → (i : ℕ) → i < z → CanChange up down (get_or cells (at + (width n2 - z) + i) 0)
      later each i b =
          let k = width n2 - z + i in
          let e : at + (width n2 - z) + i ≡ at + k = omega arith in
          rw (ap (λ j. get_or cells j 0) e ∙ ap (λ c. get_or c (at + k) 0) d.done ∙ ap (λ a. get_or (front ++ drop at old) (a + k) 0) (sym front_long) ∙ get_or-append-add front (drop at old) k 0 ∙ get_or-drop at old k 0 ∙ ap (λ a. get_or old (a + k) 0) s.place)
          (each l1 k (omega (arith, s.upto)) (omega (arith, fits)) ((T_true (record_holds r (n1 - l1) (n2 - k))).1 (holds-high i b)))

      low : (i : ℕ) → i < width n2 - z → cell-new l1 i ≡ get_or old (length front + i) 0
      low i h = rw (holds-low i h) (ap (λ n. get_or old (n + i) 0) (sym s.place ∙ sym front_long))

      high : (i : ℕ) → i < z → cell-new l1 (width n2 - z + i) ≡ changed_word up down (get_or old (length front + (width n2 - z + i)) 0)
      high i h = rw (holds-high i h) (ap (λ n. changed_word up down (get_or old (n + (width n2 - z + i)) 0)) (sym s.place ∙ sym front_long))

      pub done_next : RowsDone up down r old (changed_part up down cells (at + (width n2 - z)) z) n1 n2 (at + width n2) (x - 1)
      done_next =
          record {
            done = now ∙ ap (λ k. cell_rows k (width n2) cell-new ++ drop (at + width n2) old) next;
            long = ap length now ∙ whole;
          }
        where
          now : changed_part up down cells (at + (width n2 - z)) z ≡ cell_rows (suc l1) (width n2) cell-new ++ drop (at + width n2) old
          now =
              ap (λ c. changed_part up down c (at + (width n2 - z)) z) d.done
              ∙ ap (λ a. changed_part up down (front ++ drop a old) (a + (width n2 - z)) z) (sym front_long)
              ∙ row-changed up down old front (width n2) z (cell-new l1) fits (omega (arith, room, front_long)) low high
              ∙ ap₂ (λ t a. t ++ drop (a + width n2) old) (sym (table-snoc l1 (width n2) cell-new)) front_long

          whole : length (cell_rows (suc l1) (width n2) cell-new ++ drop (at + width n2) old) ≡ length old
          whole = length-append (cell_rows (suc l1) (width n2) cell-new) (drop (at + width n2) old) ∙ omega (arith, room, s.place, table-length (suc l1) (width n2) cell-new, length-drop (at + width n2) old)

  pub count-first : 0 ≡ held_rows r n1 n2 (n1 + 1 - (n1 + 1))
  count-first = let e : n1 + 1 - (n1 + 1) ≡ 0 = omega arith in rw e refl

  pub held-most : held_cells r n1 n2 ≤ (max_class + 1) * ((max_class + 1) * 1)
  held-most = total-most n1 n2 1 (held r n1 n2) small.0 small.1 (λ l1 l2 p q. flag-le (record_holds r (n1 - l1) (n2 - l2)))

  pub count_small : (x n : ℕ) → n ≡ held_rows r n1 n2 (n1 + 1 - x) → n ≤ (max_class + 1) * ((max_class + 1) * 1)
  count_small x n e =
      omega (arith, e, held-most, sum-part (n1 + 1 - x) (n1 + 1) (λ l1. sum_to (width n2) (held r n1 n2 l1)) (omega arith))
