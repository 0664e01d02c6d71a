-- The lines of a report by their numbers: what each is, and whether another follows.
use mathlib.Core.Path.{◌≡◌, refl, sym, ap, ap₂, ◌∙◌}
use mathlib.Core.Bool.{Bool, true, false, cond, false≢true}
use mathlib.Core.List.{List, [], ◌∷◌, ◌++◌}
use Prim.Native.Nat.{ℕ, zero, suc, ◌+◌, ◌-◌, ◌*◌, ◌≤◌, ◌<◌, min}
use native.Mathlib.Nat.{mul-le-mul_right, suc-mul, min-eq_left, min-eq_right}
use native.Mathlib.Omega.{arith}
use lib.Dec.{ltb, leb-suc-suc}
use lib.ListN.{length, get_or, take, replicate}
use lib.Seq.{take-suc, take-length}
use borrow.Author.Tests.{lt-ltb, le-ltb, ltb-true, ltb-false}
use Rattle.limits.specs.Limits.{max_rounds, max_class}
use Rattle.laws.specs.Members.{concat_map, concat_map-snoc}
use Rattle.answer.specs.Outcome.{Outcome, success, refused, succeeds}
use Rattle.answer.proofs.Outcomes.{refused-apart, outcome-values}
use Rattle.study.specs.Calls.{opened_rounds, opened_size1, opened_size2, open_answer}
use Rattle.study.proofs.Lookups.{open-values, open-fits, open-parts}
use Rattle.search.specs.Search.{search_bytes}
use Rattle.soundness.specs.Tally.{head_words, tally_size2, width, words, largest}
use Rattle.soundness.proofs.States.{cells-most}
use Rattle.tally.specs.Calls.{new_answer, add_tests, add_answer, add_out}
use Rattle.tally.specs.Steps.{Tallies}
use Rattle.tally.proofs.News.{new-done}
use Rattle.tally.proofs.Runs.{new-tallies, add-tallies}
use Rattle.lines.specs.Text.{sizes_line, count_line, refused_line}
use Rattle.lines.specs.Report.{by_answer, tally_row, count_lines, tally_after, round_answer, round_line, round_lines, fresh_for, open_lines, max_input, report_opens, report_lines, report_text, line_at, first_lines, SentOf}
use Rattle.lines.specs.Steps.{round_tally, Due, NextLine}

-- ---- THE LINES IN THEIR ORDER ARE THE WHOLE TEXT
first_taken : (f : List ℕ) (n : ℕ) → n ≤ length (report_lines f) → first_lines f n ≡ concat_map (λ l. l) (take n (report_lines f))
first_taken f zero h = refl
first_taken f (suc n) h =
    let ls = report_lines f in
    ap (λ t. t ++ line_at f n) (first_taken f n (omega arith)) ∙ sym (concat_map-snoc (λ l. l) (take n ls) (line_at f n)) ∙ ap (concat_map (λ l. l)) (sym (take-suc ls n [] (omega arith)))

pub whole-text : (f : List ℕ) → first_lines f (length (report_lines f)) ≡ report_text f
whole-text f = first_taken f (length (report_lines f)) (omega arith) ∙ ap (concat_map (λ l. l)) (take-length (report_lines f))

-- ---- the counts
count-lines : (k l : ℕ) (t : List ℕ) → length (count_lines k l t) ≡ k
count-lines zero l t = refl
count-lines (suc k) l t = ap suc (count-lines k (suc l) t)

count_at : (k l : ℕ) (t : List ℕ) (j : ℕ) → j < k → get_or (count_lines k l t) j [] ≡ count_line (l + j) (tally_row t (l + j))
count_at zero l t j h = absurd (omega arith)
count_at (suc k) l t zero h = let e : l ≡ l + 0 = omega arith in ap (λ n. count_line n (tally_row t n)) e
count_at (suc k) l t (suc j) h = let e : suc l + j ≡ l + suc j = omega arith in count_at k (suc l) t j (omega arith) ∙ ap (λ n. count_line n (tally_row t n)) e

-- ---- the rounds from r on, k of them, and the counts
module _ (f t : List ℕ) (n1 : ℕ) where
  some-line : (k r : ℕ) → 0 < length (round_lines f t n1 k r)
  some-line zero r = omega (arith, count-lines (n1 + 1) 0 (tally_after f t r))
  some-line (suc k) r = omega arith

  few-lines : (k r : ℕ) → length (round_lines f t n1 k r) ≤ k + (n1 + 1)
  few-lines zero r = omega (arith, count-lines (n1 + 1) 0 (tally_after f t r))
  few-lines (suc k) r = go (round_answer f r) (few-lines k (suc r))
    where
      go : (o : Outcome) → length (round_lines f t n1 k (suc r)) ≤ k + (n1 + 1) → suc (length (by_answer o (λ n. []) (λ v. round_lines f t n1 k (suc r)))) ≤ suc k + (n1 + 1)
      go (refused n) h = omega arith
      go (success v) h = omega arith

  -- the line of round r + j, and whether another follows
  record RoundAt (k r j : ℕ) : Type 0 where
    pub line : get_or (round_lines f t n1 k r) j [] ≡ round_line f (r + j)
    pub more : ltb (suc j) (length (round_lines f t n1 k r)) ≡ succeeds (round_answer f (r + j))

  round-at : (k r j : ℕ) → j < k → j < length (round_lines f t n1 k r) → RoundAt k r j
  round-at zero r j h i = absurd (omega arith)
  round-at (suc k) r zero h i = record { line = ap (round_line f) same; more = go (round_answer f r) ∙ ap (λ x. succeeds (round_answer f x)) same }
    where
      same : r ≡ r + 0
      same = omega arith

      go : (o : Outcome) → ltb 1 (suc (length (by_answer o (λ n. []) (λ v. round_lines f t n1 k (suc r))))) ≡ succeeds o
      go (refused n) = refl
      go (success v) = lt-ltb 1 (suc (length (round_lines f t n1 k (suc r)))) (omega (arith, some-line k (suc r)))
  round-at (suc k) r (suc j) h i = go (round_answer f r) refl (round-at k (suc r) j (omega arith))
    where
      next : suc r + j ≡ r + suc j
      next = omega arith

      go : (o : Outcome) → round_answer f r ≡ o → (j < length (round_lines f t n1 k (suc r)) → RoundAt k (suc r) j) → RoundAt (suc k) r (suc j)
      go (refused n) q rest = absurd (omega (arith, rw q at i))
      go (success v) q rest =
          let b = rest (omega (arith, rw q at i)) in
          record { line = rw q (b.line ∙ ap (round_line f) next); more = rw q (leb-suc-suc (suc (suc j)) (length (round_lines f t n1 k (suc r))) ∙ b.more ∙ ap (λ x. succeeds (round_answer f x)) next) }

  -- count line j behind k rounds, and how many lines there are
  record CountAt (k r j : ℕ) : Type 0 where
    pub line : get_or (round_lines f t n1 k r) (k + j) [] ≡ count_line j (tally_row (tally_after f t (r + k)) j)
    pub all : length (round_lines f t n1 k r) ≡ k + (n1 + 1)

  count-after : (k r j : ℕ) → k + j < length (round_lines f t n1 k r) → CountAt k r j
  count-after zero r j i =
      let same : r + 0 ≡ r = omega arith in
      let z : 0 + j ≡ j = omega arith in
      let n = count-lines (n1 + 1) 0 (tally_after f t r) in
      record { line = rw (z, same) (count_at (n1 + 1) 0 (tally_after f t r) j (omega (arith, n)) ∙ ap (λ n. count_line n (tally_row (tally_after f t r) n)) z); all = n ∙ omega arith }
  count-after (suc k) r j i = go (round_answer f r) refl (count-after k (suc r) j)
    where
      next : suc r + k ≡ r + suc k
      next = omega arith

      step : suc k + j ≡ suc (k + j)
      step = omega arith

      go : (o : Outcome) → round_answer f r ≡ o → (k + j < length (round_lines f t n1 k (suc r)) → CountAt k (suc r) j) → CountAt (suc k) r j
      go (refused n) q rest = absurd (omega (arith, rw q at i))
      go (success v) q rest =
          let b = rest (omega (arith, rw q at i)) in
          record { line = rw (q, step) (b.line ∙ ap (λ n. count_line j (tally_row (tally_after f t n) j)) next); all = rw q (omega (arith, b.all)) }

-- ---- a file that does not open
pub refused-lines : (f : List ℕ) (n : ℕ) → report_opens f ≡ refused n → report_lines f ≡ refused_line n ∷ []
refused-lines f n o = ap (λ a. by_answer a (λ n. refused_line n ∷ []) (open_lines f)) o

-- ---- THE LINES OF AN OPEN STUDY
module _ (f v : List ℕ) (o : report_opens f ≡ success v) where
  abbrev n1 : ℕ
  n1 = opened_size1 v

  abbrev n2 : ℕ
  n2 = opened_size2 v

  abbrev M : ℕ
  M = opened_rounds v

  opens : open_answer f ≡ success v
  opens = go (ltb max_input (length f)) o
    where
      go : (b : Bool) → cond b (refused 1) (open_answer f) ≡ success v → open_answer f ≡ success v
      go true e = absurd (refused-apart 1 v e)
      go false e = e

  lines_are : report_lines f ≡ open_lines f v
  lines_are = ap (λ a. by_answer a (λ n. refused_line n ∷ []) (open_lines f)) o

  pub small : (n1 ≤ max_class) × (n2 ≤ max_class) × (M ≤ max_rounds)
  small =
      let w = open-values f v opens in
      let p = open-parts f v opens in
      let q = open-fits f v opens in
      (omega (arith, p.sizes, ap opened_size1 w), omega (arith, p.sizes, ap opened_size2 w), omega (arith, q.rounds-most, ap opened_rounds w))

  few-open : length (report_lines f) ≤ 200000
  few-open = omega (arith, ap length lines_are, few-lines f (fresh_for v) n1 M 0, small)

  abbrev fresh : List ℕ
  fresh = fresh_for v

  abbrev rest : List (List ℕ)
  rest = round_lines f fresh n1 M 0

  all_lines : length (report_lines f) ≡ suc (length rest)
  all_lines = ap length lines_are

  pub due-first : Due f v 0 fresh
  due-first =
      let m : min (0 - 1) M ≡ 0 = min-eq_left (omega arith) in
      record { line = omega (arith, all_lines); tally = sym (ap (tally_after f fresh) m) }

  -- the tally before line i
  before : (i r : ℕ) (t : List ℕ) → Due f v i t → min (i - 1) M ≡ r → t ≡ tally_after f fresh r
  before i r t d e = d.tally ∙ ap (tally_after f fresh) e

  after : (i r : ℕ) (b : Bool) (t : List ℕ) → b ≡ ltb (i + 1) (length (report_lines f)) → min i M ≡ r → (b ≡ true → t ≡ tally_after f fresh r) → NextLine f v i b t
  after i r b t e m g =
      let back : i + 1 - 1 ≡ i = omega arith in
      record { more = e; due = λ w. record { line = ltb-true (i + 1) (length (report_lines f)) (sym e ∙ w); tally = g w ∙ ap (tally_after f fresh) (sym (ap (λ x. min x M) back ∙ m)) } }

  -- a line by its number, and what follows
  abbrev pub Step : ℕ → List ℕ → Bool → List ℕ → Type 0
  Step i line b t = (line_at f i ≡ line) × NextLine f v i b t

  -- line 0
  sizes_step : (t : List ℕ) → Due f v 0 t → Step 0 (sizes_line n1 n2 M) true t
  sizes_step t d =
      let m : min 0 M ≡ 0 = min-eq_left (omega arith) in
      (ap (λ l. get_or l 0 []) lines_are, after 0 0 true t (sym (lt-ltb 1 (length (report_lines f)) (omega (arith, all_lines, some-line f fresh n1 M 0)))) m (λ w. before 0 0 t d m))

  pub sizes-next : (i : ℕ) (t : List ℕ) → i ≡ 0 → Due f v i t → Step i (sizes_line n1 n2 M) true t
  sizes-next i t e d = rw e (sizes_step t (rw e at d))

  -- the line of round r
  round-step : (r : ℕ) (t : List ℕ) → r < M → Due f v (suc r) t → Step (suc r) (round_line f r) (succeeds (round_answer f r)) (round_tally f r t)
  round-step r t h d =
      let a = round-at f fresh n1 M 0 r h (omega (arith, all_lines, d.line)) in
      let z : 0 + r ≡ r = omega arith in
      let p : suc r + 1 ≡ suc (suc r) = omega arith in
      let m : min (suc r) M ≡ suc r = min-eq_left h in
      let y : suc r - 1 ≡ r = omega arith in
      let e = before (suc r) r t d (ap (λ x. min x M) y ∙ min-eq_left (omega arith)) in (
        ap (λ l. get_or l (suc r) []) lines_are ∙ a.line ∙ ap (round_line f) z,
        after (suc r) (suc r) (succeeds (round_answer f r)) (round_tally f r t)
            (sym (ap₂ (λ x y. ltb x y) p all_lines ∙ leb-suc-suc (suc (suc r)) (length rest) ∙ a.more ∙ ap (λ x. succeeds (round_answer f x)) z))
            m
            (go (round_answer f r) e),
      )
    where
      go : (a : Outcome) → t ≡ tally_after f fresh r → succeeds a ≡ true → by_answer a (λ n. t) (λ v. add_out (search_bytes f r) t) ≡ tally_after f fresh (suc r)
      go (refused n) e w = absurd (false≢true w)
      go (success v) e w = ap (add_out (search_bytes f r)) e

  pub round-next : (i r : ℕ) (t : List ℕ) → i ≡ suc r → r < M → Due f v i t → Step i (round_line f r) (succeeds (round_answer f r)) (round_tally f r t)
  round-next i r t e h d = rw e (round-step r t h (rw e at d))

  -- the count line of l1
  count-step : (l1 : ℕ) (t : List ℕ) → Due f v (suc (M + l1)) t → Step (suc (M + l1)) (count_line l1 (tally_row t l1)) (ltb l1 n1) t
  count-step l1 t d =
      let a = count-after f fresh n1 M 0 l1 (omega (arith, all_lines, d.line)) in
      let z : 0 + M ≡ M = omega arith in
      let p : suc (M + l1) - 1 ≡ M + l1 = omega arith in
      let e = before (suc (M + l1)) M t d (min-eq_right (omega arith)) in (
        ap (λ l. get_or l (suc (M + l1)) []) lines_are ∙ a.line ∙ ap (λ x. count_line l1 (tally_row x l1)) (ap (tally_after f fresh) z ∙ sym e),
        after (suc (M + l1)) M (ltb l1 n1) t (go (ltb l1 n1) refl a.all) (min-eq_right (omega arith)) (λ w. e),
      )
    where
      go : (b : Bool) → ltb l1 n1 ≡ b → length rest ≡ M + (n1 + 1) → b ≡ ltb (suc (M + l1) + 1) (length (report_lines f))
      go true e l = sym (lt-ltb (suc (M + l1) + 1) (length (report_lines f)) (omega (arith, all_lines, l, ltb-true l1 n1 e)))
      go false e l = sym (le-ltb (suc (M + l1) + 1) (length (report_lines f)) (omega (arith, all_lines, l, ltb-false l1 n1 e)))

  pub count_next : (i l1 : ℕ) (t : List ℕ) → i ≡ suc (M + l1) → Due f v i t → Step i (count_line l1 (tally_row t l1)) (ltb l1 n1) t
  count_next i l1 t e d = rw e (count-step l1 t (rw e at d))

  -- ---- THE TALLY THROUGHOUT has the study's sizes, in 4,229 words
  room : words n1 n2 ≤ largest
  room = omega (arith, cells-most n1 n2 small.0 small.1)

  abbrev blank : List ℕ
  blank = replicate largest 0

  begun : new_answer n1 n2 (length blank) ≡ success (0 ∷ [])
  begun = sym (new-done n1 n2 blank (rw (le-ltb max_class n1 small.0, le-ltb max_class n2 small.1) refl) room).0

  record Counted (t : List ℕ) : Type 0 where
    pub records : List (List ℕ)
    pub is : Tallies blank t n1 n2 records

  -- after an add, whatever it answered
  add-counted : (x t : List ℕ) (a : Outcome) → add_answer x t ≡ a → Counted t → Counted (add_out x t)
  add-counted x t (refused n) e c = rw e c
  add-counted x t (success w) e c = record { records = x ∷ c.records; is = add-tallies c.is x (e ∙ ap success (sym (outcome-values (add_tests x t) (0 ∷ []) w e))) }

  counted : (r : ℕ) → Counted (tally_after f fresh r)
  counted zero = record { records = []; is = new-tallies n1 n2 blank begun }
  counted (suc r) = add-counted (search_bytes f r) (tally_after f fresh r) (add_answer (search_bytes f r) (tally_after f fresh r)) refl (counted r)

  -- the row of l1 is in the slice
  pub count_fits : (i l1 : ℕ) (t : List ℕ) → i ≡ suc (M + l1) → Due f v i t → (l1 ≤ max_class) × (head_words ≤ length t) × (tally_size2 t ≤ max_class) × (head_words + l1 * width (tally_size2 t) + width (tally_size2 t) ≤ length t)
  count_fits i l1 t q d =
      let a = count-after f fresh n1 M 0 l1 (omega (arith, all_lines, d.line)) in
      let e = before i M t d (min-eq_right (omega arith)) in
      let k = (counted M).is in
      let two : tally_size2 t ≡ n2 = ap tally_size2 e ∙ k.two in
      let long : length t ≡ largest = ap length e ∙ k.long in
      let h : l1 ≤ n1 = omega (arith, all_lines, d.line, a.all) in
      let s : suc l1 ≤ n1 + 1 = omega arith in
      let g : l1 * width (tally_size2 t) + width (tally_size2 t) ≤ (n1 + 1) * width n2 = omega (arith, suc-mul l1 (width n2), mul-le-mul_right (width n2) s, ap (λ x. l1 * width x) two, two) in
      (omega (arith, h, small), omega (arith, long), omega (arith, two, small), omega (arith, g, long, room))

-- ---- EVERY REPORT has a line, and far fewer than a machine can count
sized : (f : List ℕ) (o : Outcome) → report_opens f ≡ o → (0 < length (report_lines f)) × (length (report_lines f) ≤ 200000)
sized f (refused n) e = let l = ap length (refused-lines f n e) in (omega (arith, l), omega (arith, l))
sized f (success v) e = (omega (arith, all_lines f v e), few-open f v e)

pub few : (f : List ℕ) → length (report_lines f) ≤ 200000
few f = (sized f (report_opens f) refl).1

-- so the receipt for no line is that of no report: a program that writes nothing has none to give
pub unsent : (f : List ℕ) → SentOf (report_lines f) 0 true → ⊥
unsent f s = omega (arith, s.all refl, (sized f (report_opens f) refl).0)
