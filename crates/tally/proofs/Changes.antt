-- A whole tally changed: M, the cells and the score.
use mathlib.Core.Path.{◌≡◌, sym, ap, ap₂, ◌∙◌}
use mathlib.Core.Bool.{Bool, true, false, cond}
use mathlib.Core.List.{List, [], ◌∷◌, ◌++◌, append-nil, append_assoc}
use Prim.Native.Nat.{ℕ, ◌+◌, ◌-◌, ◌*◌, ◌≤◌}
use native.Mathlib.Nat.{le_trans, mul-le-mul_left}
use native.Mathlib.Omega.{arith}
use lib.Dec.{T}
use lib.ListN.{length, get_or, set, take, drop, length-set}
use lib.Seq.{get_or-drop, drop-drop, drop-length, drop-set-lt}
use borrow.Rule.Slice.PartMut.{put_mid, Post-is}
use Rattle.laws.specs.Tests.{flag}
use Rattle.record.specs.Record.{record_holds, record_size1, record_size2}
use Rattle.soundness.specs.Tally.{width, head_words, rounds_place, score_place, tally_size1, tally_size2, rounds, tally_score, words, cell, cell_sum, Sound}
use Rattle.soundness.proofs.Totals.{total-same, total-add, total-times, total-most}
use Rattle.cells.specs.Cells.{cell_rows, held}
use Rattle.tally.specs.Words.{heading, tally_of}
use Rattle.tally.specs.Calls.{added, removed}
use Rattle.cells.specs.Steps.{changed_word, Fitting, CellsCanChange, changed_cell, changed_cells, held_cells}
use Rattle.tally.specs.Steps.{ready_answer, Changing, changed_tally}
use Rattle.limits.specs.Limits.{max_rounds, max_class}
use Rattle.answer.specs.Outcome.{success}
use Rattle.cells.proofs.Tables.{table_same}
use Rattle.cells.proofs.Rows.{held-most}
use Rattle.tally.proofs.Headings.{head_of, head-score, score-at, counted, tally-length, tally-by}
use Rattle.tally.proofs.Readies.{ready-sound, ready-long, ready-cells}

-- a list whose tail was lent
pub put-tail : (n : ℕ) (l ys zs : List ℕ) → n ≤ length l → ys ≡ zs → put_mid n (length l - n) l ys ≡ take n l ++ zs
put-tail n l ys zs h e = ap (λ r. take n l ++ r) (ap₂ ◌++◌ e (Post-is n (length l) l h ∙ drop-length l) ∙ append-nil zs)

-- ---- a whole tally
module _ (up down : ℕ) (r t : List ℕ) where
  abbrev n1 : ℕ
  n1 = tally_size1 t

  abbrev n2 : ℕ
  n2 = tally_size2 t

  abbrev h : ℕ → ℕ → ℕ
  h = held r n1 n2

  abbrev cells-new : ℕ → ℕ → ℕ
  cells-new l1 l2 = changed_cell up down r n1 n2 l1 l2 (cell t l1 l2)

  -- where no cell falls below 0: the sum of all cells before and after
  sums-are : ((l1 l2 : ℕ) → l1 ≤ n1 → l2 ≤ n2 → T (record_holds r (n1 - l1) (n2 - l2)) → down ≤ cell t l1 l2 + up)
      → cell_sum n1 n2 cells-new + held_cells r n1 n2 * down ≡ cell_sum n1 n2 (cell t) + held_cells r n1 n2 * up
  sums-are cells =
      let a = total-add n1 n2 cells-new (λ l1 l2. down * h l1 l2) in
      let b = total-add n1 n2 (cell t) (λ l1 l2. up * h l1 l2) in
      let c = total-same n1 n2 (λ l1 l2. cells-new l1 l2 + down * h l1 l2) (λ l1 l2. cell t l1 l2 + up * h l1 l2) (λ l1 l2 p q. one (record_holds r (n1 - l1) (n2 - l2)) (cell t l1 l2) (cells l1 l2 p q)) in
      omega (arith, a, b, c, total-times n1 n2 down h, total-times n1 n2 up h)
    where
      one : (b : Bool) (x : ℕ) → (T b → down ≤ x + up) → cond b (changed_word up down x) x + down * flag b ≡ x + up * flag b
      one true x f = omega (arith, f tt)
      one false x f = omega arith

  module _ (ok : Changing up down r t) where
    -- M is changed first; the cells are as they were
    cells_are : (m : ℕ) → drop head_words (set t rounds_place m) ≡ drop head_words t
    cells_are m = drop-set-lt head_words t rounds_place m (omega arith)

    pub change-long : (m : ℕ) → head_words ≤ length (set t rounds_place m)
    change-long m = omega (arith, ok.long, length-set t rounds_place m)

    pub change-cells : (m : ℕ) → let cells = drop head_words (set t rounds_place m) in
        Fitting cells r (record_size1 r) (record_size2 r) × CellsCanChange up down r (record_size1 r) (record_size2 r) cells
    change-cells m = rw (cells_are m, ok.fits.one, ok.fits.two) (ok.fits, ok.each)

    -- the words after M and the cells were changed, the score as it was
    abbrev m-new : ℕ
    m-new = changed_word up down (rounds t)

    abbrev pub half : List ℕ
    half = let u = set t rounds_place m-new in take head_words u ++ changed_cells up down r (record_size1 r) (record_size2 r) (drop head_words u)

    abbrev cells-now : List ℕ
    cells-now = cell_rows (n1 + 1) (width n2) cells-new ++ drop (words n1 n2) t

    half_is : half ≡ head_of n1 n2 m-new (tally_score t) ++ cells-now
    half_is =
        let w = width n2 in
        rw (ok.fits.one, ok.fits.two, cells_are m-new, counted t m-new ok.long)
        (ap₂ (λ x y. head_of n1 n2 m-new (tally_score t) ++ (x ++ y))
        (table_same (n1 + 1) w (λ l1 l2. changed_cell up down r n1 n2 l1 l2 (get_or (drop head_words t) (l1 * w + l2) 0)) cells-new (λ i j p q. ap (changed_cell up down r n1 n2 i j) (get_or-drop head_words t (i * w + j) 0)))
        (drop-drop ((n1 + 1) * w) head_words t))

    -- the score follows the cells
    new-score : changed_word (held_cells r n1 n2 * up) (held_cells r n1 n2 * down) (tally_score t) ≡ cell_sum n1 n2 cells-new
    new-score =
        let e = sums-are (λ l1 l2 p q y. rw (← get_or-drop head_words t (l1 * width n2 + l2) 0) (ok.each l1 l2 p q y).1) in
        omega (arith, e, ok.total, ok.sum.1)

    pub change-out : (l : List ℕ) (k : ℕ) → l ≡ half → k ≡ held_cells r n1 n2 → set l score_place (changed_word (k * up) (k * down) (get_or l score_place 0)) ≡ changed_tally up down r t
    change-out l k e f =
        ap₂ (λ l k. set l score_place (changed_word (k * up) (k * down) (get_or l score_place 0))) (e ∙ half_is) f
        ∙ ap (λ s. set (head_of n1 n2 m-new (tally_score t) ++ cells-now) score_place (changed_word (held_cells r n1 n2 * up) (held_cells r n1 n2 * down) s)) (score-at n1 n2 m-new (tally_score t) cells-now).1
        ∙ head-score n1 n2 m-new (tally_score t) (changed_word (held_cells r n1 n2 * up) (held_cells r n1 n2 * down) (tally_score t)) cells-now
        ∙ ap (λ s. head_of n1 n2 m-new s ++ cells-now) new-score ∙ sym (append_assoc (heading n1 n2 m-new cells-new) (cell_rows (n1 + 1) (width n2) cells-new) (drop (words n1 n2) t))

  -- by M and the cells that it leaves
  changed-is : (m : ℕ) (c : ℕ → ℕ → ℕ) → changed_word up down (rounds t) ≡ m → ((l1 l2 : ℕ) → cells-new l1 l2 ≡ c l1 l2)
      → let x = tally_of n1 n2 m c in changed_tally up down r t ≡ x ++ drop (length x) t
  changed-is m c e f =
      ap (λ y. y ++ drop (words n1 n2) t) (tally-by n1 n2 cells-new c e (λ l1 l2 h k. f l1 l2)) ∙ ap (λ k. tally_of n1 n2 m c ++ drop k t) (sym (tally-length n1 n2 m c))

  -- where nothing falls below 0: no word is above the largest M
  pub can-change : ready_answer r t ≡ success (0 ∷ []) → up ≤ 1 → down ≤ rounds t + up
      → ((l1 l2 : ℕ) → l1 ≤ n1 → l2 ≤ n2 → T (record_holds r (n1 - l1) (n2 - l2)) → down ≤ cell t l1 l2 + up) → Changing up down r t
  can-change ok one many cells =
      record {
        long = ready-long r t ok;
        fits = ready-cells r t ok;
        many = (omega (arith, sound.few), many);
        each = λ l1 l2 h k y. rw (get_or-drop head_words t (l1 * width n2 + l2) 0) (omega (arith, sound.few, sound.grows.below l1 l2 h k), cells l1 l2 h k y);
        total = sound.total;
        sum = (omega (arith, sound.total, all-cells, held-most (ready-cells r t ok), mul-le-mul_left (held_cells r n1 n2) one), omega (arith, sound.total, sums-are cells));
      }
    where
      sound : Sound t
      sound = ready-sound r t ok

      all-cells : cell_sum n1 n2 (cell t) ≤ (max_class + 1) * ((max_class + 1) * max_rounds)
      all-cells = total-most n1 n2 max_rounds (cell t) sound.small1 sound.small2 (λ l1 l2 p q. le_trans (sound.grows.below l1 l2 p q) sound.few)

-- add and remove are such changes
module _ (r t : List ℕ) where
  raised : (b : Bool) (x : ℕ) → cond b (changed_word 1 0 x) x ≡ x + flag b
  raised true x = omega arith
  raised false x = omega arith

  lowered : (b : Bool) (x : ℕ) → cond b (changed_word 0 1 x) x ≡ x - flag b
  lowered true x = omega arith
  lowered false x = omega arith

  pub add_is : changed_tally 1 0 r t ≡ added r t ++ drop (length (added r t)) t
  add_is =
      let n1 = tally_size1 t in
      let n2 = tally_size2 t in
      changed-is 1 0 r t (rounds t + 1) (λ l1 l2. cell t l1 l2 + held r n1 n2 l1 l2) (omega arith) (λ l1 l2. raised (record_holds r (n1 - l1) (n2 - l2)) (cell t l1 l2))

  pub remove-is : changed_tally 0 1 r t ≡ removed r t ++ drop (length (removed r t)) t
  remove-is =
      let n1 = tally_size1 t in
      let n2 = tally_size2 t in
      changed-is 0 1 r t (rounds t - 1) (λ l1 l2. cell t l1 l2 - held r n1 n2 l1 l2) (omega arith) (λ l1 l2. lowered (record_holds r (n1 - l1) (n2 - l2)) (cell t l1 l2))
