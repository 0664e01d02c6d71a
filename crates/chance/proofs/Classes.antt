-- One class of any size: weights against exact chances, for any values that do not fall.
use mathlib.Core.Path.{◌≡◌, ap}
use Prim.Native.Nat.{ℕ, zero, suc, ◌+◌, ◌-◌, ◌*◌, ◌^◌, ◌≤◌, ◌<◌}
use native.Mathlib.Nat.{mul-le-mul_left, mul-le-mul_right, pow-zero, pow-suc}
use native.Mathlib.Omega.{arith}
use Rattle.laws.specs.Sums.{sum_to}
use Rattle.chance.specs.Chance.{sends, leaves, weight, exact}
use Rattle.chance.proofs.Weights.{back, exact-step, weight-step, sends-le}

-- f does not fall from 0 up to n
abbrev pub Rising : ℕ → (ℕ → ℕ) → Type 0
Rising n f = (l : ℕ) → l < n → f l ≤ f (suc l)

-- one weight: what it passes on in whole ten-millionths against the exact share, for a value that rises by d
module _ (p q w s a : ℕ) (e : p + q ≡ 1000000) (split : w ≡ a + s) where
  cell-low : (x d : ℕ) → 1000000 * s ≤ w * p → 1000000 * (a * x + s * (x + d)) ≤ w * (q * x + p * (x + d))
  cell-low x d h = omega (arith, mul-le-mul_right d h, ap (λ z. w * z * x) e, ap (λ z. z * x) split)

  cell-high : (x d : ℕ) → w * p ≤ 1000000 * s + 1000000 → w * (q * x + p * (x + d)) + 1000000 * x ≤ 1000000 * (a * x + s * (x + d)) + 1000000 * (x + d)
  cell-high x d h = omega (arith, mul-le-mul_right d h, ap (λ z. w * z * x) e, ap (λ z. z * x) split)

most : (p q x y M : ℕ) → p + q ≡ 1000000 → x ≤ M → y ≤ M → q * x + p * y ≤ 1000000 * M
most p q x y M e h k = omega (arith, mul-le-mul_left q h, mul-le-mul_left p k, ap (λ z. z * M) e)

-- from n nodes to n + 1: w, e the sums with n + 1, u, v those with n and one step back, d the scale
module _ (u d : ℕ) {w w' v e d' : ℕ} (ew : w ≡ w') (ee : e ≡ v) (ed : d' ≡ d * 1000000) where
  climb-low : 1000000 * w' ≤ u → u * d ≤ 10000000 * v → w * d' ≤ 10000000 * e
  climb-low h k = rw (ew, ee, ed) (omega (arith, mul-le-mul_right d h))

  climb-high : (n M x y : ℕ) → y ≤ M → u + 1000000 * x ≤ 1000000 * w' + 1000000 * y → 10000000 * v ≤ (u + n * (1000000 * M)) * d → 10000000 * e ≤ (w + suc n * M) * d'
  climb-high n M x y b h k = let g : u ≤ 1000000 * w' + 1000000 * M = omega arith in rw (ew, ee, ed) (omega (arith, mul-le-mul_right d g))

module _ (p : ℕ) (small : p ≤ 1000000) where
  share-low : (w x y : ℕ) → x ≤ y → 1000000 * (leaves p w * x + sends p w * y) ≤ w * ((1000000 - p) * x + p * y)
  share-low w x y h = let d : y ≡ x + (y - x) = omega arith in rw d (cell-low p (1000000 - p) w (sends p w) (leaves p w) (omega arith) (omega (arith, sends-le p small w)) x (y - x) (omega arith))

  share-high : (w x y : ℕ) → x ≤ y → w * ((1000000 - p) * x + p * y) + 1000000 * x ≤ 1000000 * (leaves p w * x + sends p w * y) + 1000000 * y
  share-high w x y h = let d : y ≡ x + (y - x) = omega arith in rw d (cell-high p (1000000 - p) w (sends p w) (leaves p w) (omega arith) (omega (arith, sends-le p small w)) x (y - x) (omega arith))

  -- one node, for any old weights w
  step-low : (w f : ℕ → ℕ) (m : ℕ) → Rising m f → 1000000 * sum_to m (λ l. leaves p (w l) * f l + sends p (w l) * f (suc l)) ≤ sum_to m (λ l. w l * back p f l)
  step-low w f zero r = omega arith
  step-low w f (suc m) r = omega (arith, step-low w f m (λ l h. r l (omega arith)), share-low (w m) (f m) (f (suc m)) (r m (omega arith)))

  step-high : (w f : ℕ → ℕ) (m : ℕ) → Rising m f
      → sum_to m (λ l. w l * back p f l) + 1000000 * f 0 ≤ 1000000 * sum_to m (λ l. leaves p (w l) * f l + sends p (w l) * f (suc l)) + 1000000 * f m
  step-high w f zero r = omega arith
  step-high w f (suc m) r = omega (arith, step-high w f m (λ l h. r l (omega arith)), share-high (w m) (f m) (f (suc m)) (r m (omega arith)))

  back-rises : (f : ℕ → ℕ) (n : ℕ) → Rising (suc n) f → Rising n (back p f)
  back-rises f n r l h = omega (arith, mul-le-mul_left (1000000 - p) (r l (omega arith)), mul-le-mul_left p (r (suc l) (omega arith)))

  back-most : (f : ℕ → ℕ) (n M : ℕ) → Rising (suc n) f → f (suc n) ≤ M → back p f n ≤ 1000000 * M
  back-most f n M r h = most p (1000000 - p) (f n) (f (suc n)) M (omega arith) (omega (arith, r n (omega arith))) h

  -- THE BOUND for one class of any size
  pub class_low : (n : ℕ) (f : ℕ → ℕ) → Rising n f
      → sum_to (suc n) (λ l. weight p n l * f l) * 1000000 ^ n ≤ 10000000 * sum_to (suc n) (λ l. exact p n l * f l)
  class_low zero f r = rw (pow-zero p, pow-zero (1000000 - p)) (omega arith)
  class_low (suc n) f r =
      climb-low (sum_to (suc n) (λ l. weight p n l * back p f l)) (1000000 ^ n) (weight-step p n f) (exact-step p n f) (pow-suc 1000000 n) (step-low (weight p n) f (suc n) r) (class_low n (back p f) (back-rises f n r))

  pub class-high : (n : ℕ) (f : ℕ → ℕ) (M : ℕ) → Rising n f → f n ≤ M
      → 10000000 * sum_to (suc n) (λ l. exact p n l * f l) ≤ (sum_to (suc n) (λ l. weight p n l * f l) + n * M) * 1000000 ^ n
  class-high zero f M r h = rw (pow-zero p, pow-zero (1000000 - p)) (omega arith)
  class-high (suc n) f M r h =
      climb-high (sum_to (suc n) (λ l. weight p n l * back p f l)) (1000000 ^ n) (weight-step p n f) (exact-step p n f) (pow-suc 1000000 n) n M (f 0) (f (suc n)) h (step-high (weight p n) f (suc n) r)
      (class-high n (back p f) (1000000 * M) (back-rises f n r) (back-most f n M r h))
