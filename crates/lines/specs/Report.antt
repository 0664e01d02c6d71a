-- The whole report on the bytes of standard input (document 01, "Writer and program").
use Rattle.std.specs.Prelude.{◌≡◌, Bool, true, false, cond, List, [], ◌∷◌, ◌++◌, ℕ, zero, suc, ◌+◌, ◌*◌, ◌<◌, ltb, length, get_or, take, drop, replicate}
use Rattle.laws.specs.Members.{concat_map}
use Rattle.answer.specs.Outcome.{Outcome, success, refused}
use Rattle.study.specs.Calls.{opened_rounds, opened_size1, opened_size2, open_answer}
use Rattle.search.specs.Search.{search_bytes, search_answer}
use Rattle.record.specs.Record.{longest}
use Rattle.soundness.specs.Tally.{head_words, tally_size2, width, largest}
use Rattle.tally.specs.Calls.{new_out, add_out}
use Rattle.lines.specs.Text.{sizes_line, front_line, count_line, refused_line}

-- the row of a tally for l1
abbrev pub tally_row : List ℕ → ℕ → List ℕ
tally_row t l1 = take (width (tally_size2 t)) (drop (head_words + l1 * width (tally_size2 t)) t)

-- the counts from l1 on, k lines
abbrev pub count_lines : ℕ → ℕ → List ℕ → List (List ℕ)
count_lines zero l1 t = []
count_lines (suc k) l1 t = count_line l1 (tally_row t l1) ∷ count_lines k (suc l1) t

-- what follows an answer: of a refusal, or of a success
abbrev pub by_answer : {A : Type 0} → Outcome → (ℕ → A) → (List ℕ → A) → A
by_answer (refused n) g h = g n
by_answer (success v) g h = h v

-- the tally t once the first r rounds are added
abbrev pub tally_after : List ℕ → List ℕ → ℕ → List ℕ
tally_after f t zero = t
tally_after f t (suc r) = add_out (search_bytes f r) (tally_after f t r)

-- the search of round r, with room for any record
abbrev pub round_answer : List ℕ → ℕ → Outcome
round_answer f r = search_answer f r longest

-- the line of round r
abbrev pub round_line : List ℕ → ℕ → List ℕ
round_line f r = by_answer (round_answer f r) refused_line (λ v. front_line r (search_bytes f r))

-- the fronts from round r on, k of them, and then the counts; a bad round ends the report
abbrev pub round_lines : List ℕ → List ℕ → ℕ → ℕ → ℕ → List (List ℕ)
round_lines f t n1 zero r = count_lines (n1 + 1) 0 (tally_after f t r)
round_lines f t n1 (suc k) r = round_line f r ∷ by_answer (round_answer f r) (λ n. []) (λ v. round_lines f t n1 k (suc r))

-- from here on v is what opening answers: N, A, M, s, t, n1, n2
-- a new tally, in as many words as any has
abbrev pub fresh_for : List ℕ → List ℕ
fresh_for v = new_out (opened_size1 v) (opened_size2 v) (replicate largest 0)

-- the lines of an open study
abbrev pub open_lines : List ℕ → List ℕ → List (List ℕ)
open_lines f v = sizes_line (opened_size1 v) (opened_size2 v) (opened_rounds v) ∷ round_lines f (fresh_for v) (opened_size1 v) (opened_rounds v) 0

-- the most bytes that the report reads
abbrev pub max_input : ℕ
max_input = 65536

-- what opening answers; number 1 above these bytes too
abbrev pub report_opens : List ℕ → Outcome
report_opens f = cond (ltb max_input (length f)) (refused 1) (open_answer f)

-- THE REPORT, line by line and whole
abbrev pub report_lines : List ℕ → List (List ℕ)
report_lines f = by_answer (report_opens f) (λ n. refused_line n ∷ []) (open_lines f)

abbrev pub report_text : List ℕ → List ℕ
report_text f = concat_map (λ l. l) (report_lines f)

-- ---- line after line
-- line i; nothing past the last
abbrev pub line_at : List ℕ → ℕ → List ℕ
line_at f i = get_or (report_lines f) i []

-- the first n lines, one after another
abbrev pub first_lines : List ℕ → ℕ → List ℕ
first_lines f zero = []
first_lines f (suc n) = first_lines f n ++ line_at f n

-- the receipt for a report (report/src/output.rt): n lines were taken, in order from line 0. Where it is whole these are all; else line n
-- was handed over and failed, and none after it was handed over
pub record SentOf (ls : List (List ℕ)) (n : ℕ) (whole : Bool) : Type 0 where
  pub all : whole ≡ true → n ≡ length ls
  pub failed : whole ≡ false → n < length ls
