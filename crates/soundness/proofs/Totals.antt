-- Sums of all cells: of the same cells, by parts, and how large they are.
use mathlib.Core.Path.{◌≡◌, refl, ◌∙◌}
use Prim.Native.Nat.{ℕ, ◌+◌, ◌*◌, ◌≤◌}
use native.Mathlib.Nat.{mul-zero, mul-le-mul_left, mul-le-mul_right}
use native.Mathlib.Omega.{arith}
use Rattle.limits.specs.Limits.{max_class}
use Rattle.laws.specs.Sums.{sum_to, sum_same, sum-add, sum-times, sum-each, sum-most}
use Rattle.soundness.specs.Tally.{width, cell_sum}

module _ (n1 n2 : ℕ) where
  abbrev row : (ℕ → ℕ → ℕ) → ℕ → ℕ
  row c l1 = sum_to (width n2) (c l1)

  pub total-same : (c d : ℕ → ℕ → ℕ) → ((l1 l2 : ℕ) → l1 ≤ n1 → l2 ≤ n2 → c l1 l2 ≡ d l1 l2) → cell_sum n1 n2 c ≡ cell_sum n1 n2 d
  total-same c d e = sum_same (n1 + 1) (row c) (row d) (λ l1 h. sum_same (width n2) (c l1) (d l1) (λ l2 k. e l1 l2 (omega arith) (omega arith)))

  pub total-add : (c d : ℕ → ℕ → ℕ) → cell_sum n1 n2 (λ l1 l2. c l1 l2 + d l1 l2) ≡ cell_sum n1 n2 c + cell_sum n1 n2 d
  total-add c d =
      sum_same (n1 + 1) (row (λ l1 l2. c l1 l2 + d l1 l2)) (λ l1. row c l1 + row d l1) (λ l1 h. sum-add (width n2) (c l1) (d l1)) ∙ sum-add (n1 + 1) (row c) (row d)

  pub total-times : (k : ℕ) (c : ℕ → ℕ → ℕ) → cell_sum n1 n2 (λ l1 l2. k * c l1 l2) ≡ k * cell_sum n1 n2 c
  total-times k c = sum_same (n1 + 1) (row (λ l1 l2. k * c l1 l2)) (λ l1. k * row c l1) (λ l1 h. sum-times (width n2) k (c l1)) ∙ sum-times (n1 + 1) k (row c)

  pub total-none : cell_sum n1 n2 (λ l1 l2. 0) ≡ 0
  total-none =
      let none : ℕ → ℕ → ℕ = λ l1 l2. 0 in
      sum-each (n1 + 1) 0 (row none) (λ l1 h. sum-each (width n2) 0 (none l1) (λ l2 k. refl) ∙ mul-zero (width n2)) ∙ mul-zero (n1 + 1)

  pub total-most : (b : ℕ) (c : ℕ → ℕ → ℕ) → n1 ≤ max_class → n2 ≤ max_class → ((l1 l2 : ℕ) → l1 ≤ n1 → l2 ≤ n2 → c l1 l2 ≤ b) → cell_sum n1 n2 c ≤ (max_class + 1) * ((max_class + 1) * b)
  total-most b c h1 h2 e =
      let rows : n1 + 1 ≤ max_class + 1 = omega arith in
      let wide : width n2 ≤ max_class + 1 = omega arith in
      let all = sum-most (n1 + 1) (width n2 * b) (row c) (λ l1 h. sum-most (width n2) b (c l1) (λ l2 k. e l1 l2 (omega arith) (omega arith))) in
      omega (arith, all, mul-le-mul_right (width n2 * b) rows, mul-le-mul_left (max_class + 1) (mul-le-mul_right b wide))
