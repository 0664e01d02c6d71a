-- From slices of weights and cells to S, and that it fits 64 bits.
use mathlib.Core.Path.{◌≡◌, sym, ap, ap₂, ◌∙◌}
use mathlib.Core.List.{List, [], ◌∷◌, ◌++◌}
use Prim.Native.Nat.{ℕ, suc, ◌+◌, ◌*◌, ◌≤◌, ◌<◌}
use native.Mathlib.Nat.{le_trans}
use native.Mathlib.Omega.{arith}
use lib.ListN.{length, get_or, drop, length-append, get_or-append}
use lib.Seq.{get_or-drop}
use Rattle.limits.specs.Limits.{max_rounds}
use Rattle.laws.specs.Sums.{sum_to, sum_same, sum_bound}
use Rattle.answer.specs.Outcome.{success}
use Rattle.chance.specs.Chance.{weights, weight}
use Rattle.soundness.specs.Tally.{head_words, tally_size1, tally_size2, width, cell, Sound, state_answer}
use Rattle.chance.proofs.Weights.{weights-length, weight-total}
use Rattle.chance.proofs.Bounds.{by_rows}
use Rattle.soundness.proofs.States.{state-sound}
use Rattle.reliability.specs.Calls.{tally_s}
use Rattle.reliability.specs.Steps.{row_sum, rows_sum}

-- a slice whose first words are the weights
module _ (p n : ℕ) (r u : List ℕ) (e : u ≡ weights p n ++ r) where
  pub filled_at : (l : ℕ) → l < suc n → get_or u l 0 ≡ weight p n l
  filled_at l h = ap (λ x. get_or x l 0) e ∙ get_or-append (weights p n) r 0 l (omega (arith, weights-length p n))

  pub filled-long : n < length u
  filled-long = omega (arith, ap length e, length-append (weights p n) r, weights-length p n)

module _ (t : List ℕ) (fine : state_answer t ≡ success (0 ∷ [])) (p1 p2 : ℕ) (ok1 : p1 ≤ 1000000) (ok2 : p2 ≤ 1000000)
    (r1 u : List ℕ) (is-u : u ≡ weights p1 (tally_size1 t) ++ r1) (r2 v : List ℕ) (is-v : v ≡ weights p2 (tally_size2 t) ++ r2) where
  s : Sound t
  s = state-sound t fine

  abbrev row : ℕ → ℕ
  row l1 = sum_to (suc (tally_size2 t)) (λ l2. weight p2 (tally_size2 t) l2 * cell t l1 l2)

  row_is : (l1 : ℕ) → row_sum (drop head_words t) (l1 * width (tally_size2 t)) v (width (tally_size2 t)) ≡ row l1
  row_is l1 =
      let e : width (tally_size2 t) ≡ suc (tally_size2 t) = omega arith in
      ap (row_sum (drop head_words t) (l1 * width (tally_size2 t)) v) e
      ∙ sum_same (suc (tally_size2 t)) (λ i. get_or v i 0 * get_or (drop head_words t) (l1 * width (tally_size2 t) + i) 0) (λ l2. weight p2 (tally_size2 t) l2 * cell t l1 l2)
      (λ i h. ap₂ ◌*◌ (filled_at p2 (tally_size2 t) r2 v is-v i h) (get_or-drop head_words t (l1 * width (tally_size2 t) + i) 0))

  row-most : (l1 : ℕ) → l1 ≤ tally_size1 t → row l1 ≤ 1000000000000
  row-most l1 h =
      omega (arith, weight-total p2 ok2 (tally_size2 t), sum_bound (suc (tally_size2 t)) max_rounds (weight p2 (tally_size2 t)) (cell t l1) (λ l2 k. le_trans (s.grows.below l1 l2 h (omega arith)) s.few))

  pub row_fits : (l1 : ℕ) → l1 ≤ tally_size1 t → row_sum (drop head_words t) (l1 * width (tally_size2 t)) v (width (tally_size2 t)) ≤ 1000000000000
  row_fits l1 h = rw (row_is l1) (row-most l1 h)

  rows_are : rows_sum (drop head_words t) u v (tally_size2 t) (tally_size1 t + 1) ≡ sum_to (suc (tally_size1 t)) (λ l1. weight p1 (tally_size1 t) l1 * row l1)
  rows_are =
      let e : tally_size1 t + 1 ≡ suc (tally_size1 t) = omega arith in
      ap (rows_sum (drop head_words t) u v (tally_size2 t)) e
      ∙ sum_same (suc (tally_size1 t)) (λ l1. get_or u l1 0 * row_sum (drop head_words t) (l1 * width (tally_size2 t)) v (width (tally_size2 t))) (λ l1. weight p1 (tally_size1 t) l1 * row l1)
      (λ l1 h. ap₂ ◌*◌ (filled_at p1 (tally_size1 t) r1 u is-u l1 h) (row_is l1))

  pub rows_fit : rows_sum (drop head_words t) u v (tally_size2 t) (tally_size1 t + 1) ≤ 10000000000000000000
  rows_fit =
      omega (arith, rows_are, weight-total p1 ok1 (tally_size1 t), sum_bound (suc (tally_size1 t)) 1000000000000 (weight p1 (tally_size1 t)) row (λ l1 h. row-most l1 (omega arith)))

  -- S
  pub rows-sum : rows_sum (drop head_words t) u v (tally_size2 t) (tally_size1 t + 1) ≡ tally_s t p1 p2
  rows-sum = rows_are ∙ sym (by_rows (tally_size1 t) (tally_size2 t) (cell t) (weight p1 (tally_size1 t)) (weight p2 (tally_size2 t)))
