-- The score through adds and removes, whatever they answer: each leaves the slice, or a tally written out with its sum.
use mathlib.Core.Path.{◌≡◌, refl, sym}
use mathlib.Core.List.{List, [], ◌∷◌, ◌++◌}
use Prim.Native.Nat.{ℕ, ◌+◌, ◌-◌, ◌≤◌}
use native.Mathlib.Omega.{arith}
use lib.ListN.{length, drop}
use Rattle.answer.specs.Outcome.{Outcome, success, refused, filled}
use Rattle.soundness.specs.Tally.{head_words, tally_size1, tally_size2, rounds, tally_score, cell, cell_sum}
use Rattle.soundness.proofs.Totals.{total-same}
use Rattle.tally.specs.Words.{tally_of}
use Rattle.tally.specs.Calls.{new_answer, new_out, add_answer, add_out, remove_answer, remove_out}
use Rattle.cells.specs.Cells.{held}
use Rattle.tally.proofs.Headings.{tally-cell}

-- a tally of these class sizes whose score is the sum of its cells
pub record Scores (n1 n2 : ℕ) (t : List ℕ) : Type 0 where
  pub one : tally_size1 t ≡ n1
  pub two : tally_size2 t ≡ n2
  pub long : head_words ≤ length t
  pub sum : tally_score t ≡ cell_sum n1 n2 (cell t)

written-scores : (n1 n2 m : ℕ) (c : ℕ → ℕ → ℕ) (l : List ℕ) → Scores n1 n2 (tally_of n1 n2 m c ++ l)
written-scores n1 n2 m c l =
    record { one = refl; two = refl; long = omega arith; sum = total-same n1 n2 c (cell (tally_of n1 n2 m c ++ l)) (λ l1 l2 h k. sym (tally-cell n1 n2 m c l l1 l2 h k)) }

sizes-as : {n1 n2 a b : ℕ} {t : List ℕ} → a ≡ n1 → b ≡ n2 → Scores a b t → Scores n1 n2 t
sizes-as e f s = rw (← e, ← f) s

filled-scores : {n1 n2 : ℕ} {t : List ℕ} (o : Outcome) (m : ℕ) (c : ℕ → ℕ → ℕ) → Scores n1 n2 t → Scores n1 n2 (filled o (tally_of (tally_size1 t) (tally_size2 t) m c) t)
filled-scores {t = t} (success v) m c s =
    sizes-as s.one s.two (written-scores (tally_size1 t) (tally_size2 t) m c (drop (length (tally_of (tally_size1 t) (tally_size2 t) m c)) t))
filled-scores (refused n) m c s = s

pub new-scores : (n1 n2 : ℕ) (t₀ : List ℕ) → new_answer n1 n2 (length t₀) ≡ success (0 ∷ []) → Scores n1 n2 (new_out n1 n2 t₀)
new-scores n1 n2 t₀ e = let none : ℕ → ℕ → ℕ = λ l1 l2. 0 in rw e (written-scores n1 n2 0 none (drop (length (tally_of n1 n2 0 none)) t₀))

pub add-scores : {n1 n2 : ℕ} (r t : List ℕ) → Scores n1 n2 t → Scores n1 n2 (add_out r t)
add-scores r t s = filled-scores (add_answer r t) (rounds t + 1) (λ l1 l2. cell t l1 l2 + held r (tally_size1 t) (tally_size2 t) l1 l2) s

pub remove-scores : {n1 n2 : ℕ} (r t : List ℕ) → Scores n1 n2 t → Scores n1 n2 (remove_out r t)
remove-scores r t s = filled-scores (remove_answer r t) (rounds t - 1) (λ l1 l2. cell t l1 l2 - held r (tally_size1 t) (tally_size2 t) l1 l2) s
