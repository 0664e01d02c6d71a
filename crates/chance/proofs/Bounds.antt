-- THE BOUNDS: S and R against the survival signature formula, for any cells that grow.
use mathlib.Core.Path.{◌≡◌, refl, ap, ◌∙◌}
use mathlib.Core.Logic.{⊎_elim}
use Prim.Native.Nat.{ℕ, zero, suc, ◌+◌, ◌*◌, ◌^◌, ◌≤◌, ◌<◌}
use native.Mathlib.Nat.{mul-le-mul_left, mul-le-mul_right, mul-suc, pow-suc, div-mul-le_self, lt-div-mul-add, one-le-pow, le_trans, le_of_eq, eq-or-lt_of_le}
use native.Mathlib.Omega.{arith}
use lib.Pow.{pow-add}
use Rattle.laws.specs.Sums.{sum_to, sum_same, sum-le, sum-times, sum_bound}
use Rattle.chance.specs.Chance.{weight, exact, weighed, sum_s, sum_e, scale_d, rate_r, Grows, Near}
use Rattle.chance.proofs.Weights.{exact-total, weight-total}
use Rattle.chance.proofs.Classes.{Rising, class_low, class-high}

million-power : (n : ℕ) → 10 ^ (6 * n) ≡ 1000000 ^ n
million-power zero = refl
million-power (suc n) = rw (mul-suc 6 n, pow-add 10 (6 * n) 6, million-power n, pow-suc 1000000 n)

-- a bound of each row is a bound of the rows' sum
rows-low : (n d : ℕ) (e f g : ℕ → ℕ) → ((l : ℕ) → l < n → f l * d ≤ 10000000 * g l) → sum_to n (λ l. e l * f l) * d ≤ 10000000 * sum_to n (λ l. e l * g l)
rows-low zero d e f g h = omega arith
rows-low (suc n) d e f g h = omega (arith, rows-low n d e f g (λ l k. h l (omega arith)), mul-le-mul_left (e n) (h n (omega arith)))

rows-high : (n d k : ℕ) (e f g : ℕ → ℕ) → ((l : ℕ) → l < n → 10000000 * g l ≤ (f l + k) * d)
    → 10000000 * sum_to n (λ l. e l * g l) ≤ (sum_to n (λ l. e l * f l) + k * sum_to n e) * d
rows-high zero d k e f g h = omega arith
rows-high (suc n) d k e f g h = omega (arith, rows-high n d k e f g (λ l j. h l (omega arith)), mul-le-mul_left (e n) (h n (omega arith)))

-- the sum by rows
pub by_rows : (n1 n2 : ℕ) (c : ℕ → ℕ → ℕ) (u v : ℕ → ℕ) → weighed n1 n2 c u v ≡ sum_to (suc n1) (λ l1. u l1 * sum_to (suc n2) (λ l2. v l2 * c l1 l2))
by_rows n1 n2 c u v = sum_same (suc n1) _ _ (λ l1 h. sum_same (suc n2) _ _ (λ l2 k. turn (c l1 l2) (u l1) (v l2)) ∙ sum-times (suc n2) (u l1) (λ l2. v l2 * c l1 l2))
  where
    turn : (x y z : ℕ) → x * y * z ≡ y * (z * x)
    turn x y z = omega arith

join-low : (s x e d1 d2 : ℕ) → s * d1 ≤ 10000000 * x → x * d2 ≤ 10000000 * e → s * (d1 * d2) ≤ 10 ^ 14 * e
join-low s x e d1 d2 h k = omega (arith, mul-le-mul_right d2 h)

join-high : (s x e d1 d2 n1 n2 M : ℕ) → 10000000 * x ≤ (s + n1 * (M * 10000000)) * d1 → 10000000 * e ≤ (x + n2 * M * d1) * d2
    → 10 ^ 14 * e ≤ (s + (n1 + n2) * M * 10000000) * (d1 * d2)
join-high s x e d1 d2 n1 n2 M h k = omega (arith, mul-le-mul_right d2 h)

pub floor-low : (s e d M r : ℕ) → r * (M * 10000000) ≤ s → s * d ≤ 10 ^ 14 * e → r * M * d ≤ 10000000 * e
floor-low s e d M r h k = omega (arith, mul-le-mul_right d h)

pub floor-high : (s e d M r n : ℕ) → 0 < d → s < r * (M * 10000000) + M * 10000000 → 10 ^ 14 * e ≤ (s + n * M * 10000000) * d → 10000000 * e < (r + n + 1) * M * d
floor-high s e d M r n pos h k = omega (arith, mul-le-mul_right d h)

pub rising-all : (n : ℕ) (f : ℕ → ℕ) → Rising n f → (l m : ℕ) → l ≤ m → m ≤ n → f l ≤ f m
rising-all n f r zero zero h k = omega arith
rising-all n f r (suc l) zero h k = absurd (omega arith)
rising-all n f r l (suc m) h k =
    ⊎_elim (λ (e : l ≡ suc m). le_of_eq (ap f e)) (λ (i : l < suc m). le_trans (rising-all n f r l m (omega arith) (omega arith)) (r m k)) (eq-or-lt_of_le h)

module _ (n1 n2 M p1 p2 : ℕ) (c : ℕ → ℕ → ℕ) (ok1 : p1 ≤ 1000000) (ok2 : p2 ≤ 1000000) (g : Grows n1 n2 M c) where
  abbrev row : ℕ → ℕ
  row l1 = sum_to (suc n2) (λ l2. weight p2 n2 l2 * c l1 l2)

  abbrev exact-row : ℕ → ℕ
  exact-row l1 = sum_to (suc n2) (λ l2. exact p2 n2 l2 * c l1 l2)

  row-most : (l1 : ℕ) → l1 ≤ n1 → row l1 ≤ M * 10000000
  row-most l1 h = rw (weight-total p2 ok2 n2) at (sum_bound (suc n2) M (weight p2 n2) (c l1) (λ l2 k. g.below l1 l2 h (omega arith)))

  row-rises : Rising n1 row
  row-rises l1 h = sum-le (suc n2) _ _ (λ l2 k. mul-le-mul_left (weight p2 n2 l2) (g.first l1 l2 h (omega arith)))

  scales : scale_d n1 n2 ≡ 1000000 ^ n1 * 1000000 ^ n2
  scales = million-power (n1 + n2) ∙ pow-add 1000000 n1 n2

  -- S × D ≤ 10^14 × E ≤ (S + (n1 + n2) × M × 10^7) × D
  pub bound-low : sum_s n1 n2 p1 p2 c * scale_d n1 n2 ≤ 10 ^ 14 * sum_e n1 n2 p1 p2 c
  bound-low =
      rw (scales, by_rows n1 n2 c (weight p1 n1) (weight p2 n2), by_rows n1 n2 c (exact p1 n1) (exact p2 n2))
      (join-low _ _ _ _ _ (class_low p1 ok1 n1 row row-rises)
      (rows-low (suc n1) (1000000 ^ n2) (exact p1 n1) row exact-row (λ l1 h. class_low p2 ok2 n2 (c l1) (λ l2 k. g.second l1 l2 (omega arith) k))))

  pub bound-high : 10 ^ 14 * sum_e n1 n2 p1 p2 c ≤ (sum_s n1 n2 p1 p2 c + (n1 + n2) * M * 10000000) * scale_d n1 n2
  bound-high =
      rw (scales, by_rows n1 n2 c (weight p1 n1) (weight p2 n2), by_rows n1 n2 c (exact p1 n1) (exact p2 n2))
      (join-high _ _ _ _ _ n1 n2 M (class-high p1 ok1 n1 row (M * 10000000) row-rises (row-most n1 (omega arith)))
      (rw (exact-total p1 ok1 n1) at
      (rows-high (suc n1) (1000000 ^ n2) (n2 * M) (exact p1 n1) row exact-row
      (λ l1 h. class-high p2 ok2 n2 (c l1) M (λ l2 k. g.second l1 l2 (omega arith) k) (g.below l1 n2 (omega arith) (omega arith))))))

  -- THE BOUNDS of S and of its floor R
  pub near-formula : 0 < M → Near n1 n2 p1 p2 c (sum_s n1 n2 p1 p2 c) M (rate_r (sum_s n1 n2 p1 p2 c) M)
  near-formula some =
      record {
        sum_low = bound-low;
        sum-high = bound-high;
        rate-low = floor-low _ _ _ M _ (div-mul-le_self (sum_s n1 n2 p1 p2 c) (M * 10000000)) bound-low;
        rate-high = floor-high _ _ _ M _ (n1 + n2) (one-le-pow (6 * (n1 + n2)) 10 (omega arith)) (lt-div-mul-add (omega arith)) bound-high;
      }
