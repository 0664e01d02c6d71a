-- STEPS: what proofs and the contracts between our crates speak of. Nobody has to believe these: no promise to a caller cites them.
use Rattle.std.specs.Prelude.{◌≡◌, Bool, true, List, ℕ, ◌+◌, ◌-◌, ◌<◌, min, ltb, length}
use Rattle.study.specs.Calls.{opened_rounds}
use Rattle.search.specs.Search.{search_bytes}
use Rattle.tally.specs.Calls.{add_out}
use Rattle.lines.specs.Report.{by_answer, tally_after, round_answer, fresh_for, report_lines}

-- the tally after the line of round r
abbrev pub round_tally : List ℕ → ℕ → List ℕ → List ℕ
round_tally f r t = by_answer (round_answer f r) (λ n. t) (λ v. add_out (search_bytes f r) t)

-- line i of an open study is due, with the tally t
pub record Due (f v : List ℕ) (i : ℕ) (t : List ℕ) : Type 0 where
  -- there is such a line
  pub line : i < length (report_lines f)
  -- the tally has the rounds whose lines stand before it
  pub tally : t ≡ tally_after f (fresh_for v) (min (i - 1) (opened_rounds v))

-- after line i: whether another follows, and is due with the tally t
pub record NextLine (f v : List ℕ) (i : ℕ) (b : Bool) (t : List ℕ) : Type 0 where
  pub more : b ≡ ltb (i + 1) (length (report_lines f))
  pub due : b ≡ true → Due f v (i + 1) t

-- room for any line of the report
abbrev pub line_room : ℕ
line_room = 4096
