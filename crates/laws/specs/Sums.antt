-- Products that are bounded, and sums over the numbers below n.
use Rattle.std.specs.Prelude.{◌≡◌, refl, ℕ, zero, suc, ◌+◌, ◌*◌, ◌≤◌, ◌<◌}
use Rattle.std.proofs.Common.{sym, ap, ap₂, ◌∙◌, ⊎_elim, mul-zero, zero-mul, suc-mul, mul-le-mul, mul-le-mul_left, eq-or-lt_of_le, le_of_eq, add-one, arith}

pub product-most : (m n a b : ℕ) → m ≤ a → n ≤ b → m * n ≤ a * b
product-most m n a b h k = mul-le-mul h k

-- g 0 + g 1 + .. + g (n - 1)
abbrev pub sum_to : ℕ → (ℕ → ℕ) → ℕ
sum_to zero g = 0
sum_to (suc n) g = sum_to n g + g n

pub sum_same : (n : ℕ) (g h : ℕ → ℕ) → ((i : ℕ) → i < n → g i ≡ h i) → sum_to n g ≡ sum_to n h
sum_same zero g h e = refl
sum_same (suc n) g h e = ap₂ ◌+◌ (sum_same n g h (λ i k. e i (omega arith))) (e n (omega arith))

pub sum-le : (n : ℕ) (g h : ℕ → ℕ) → ((i : ℕ) → i < n → g i ≤ h i) → sum_to n g ≤ sum_to n h
sum-le zero g h e = omega arith
sum-le (suc n) g h e = omega (arith, sum-le n g h (λ i k. e i (omega arith)), e n (omega arith))

pub sum-add : (n : ℕ) (g h : ℕ → ℕ) → sum_to n (λ i. g i + h i) ≡ sum_to n g + sum_to n h
sum-add zero g h = refl
sum-add (suc n) g h = omega (arith, sum-add n g h)

pub sum-times : (n c : ℕ) (g : ℕ → ℕ) → sum_to n (λ i. c * g i) ≡ c * sum_to n g
sum-times zero c g = omega (arith, mul-zero c)
sum-times (suc n) c g = omega (arith, sum-times n c g)

-- each f i is at most m: the sum of u i × f i is at most m times the sum of u
pub sum_bound : (n m : ℕ) (u f : ℕ → ℕ) → ((i : ℕ) → i < n → f i ≤ m) → sum_to n (λ i. u i * f i) ≤ m * sum_to n u
sum_bound zero m u f e = omega arith
sum_bound (suc n) m u f e = omega (arith, sum_bound n m u f (λ i k. e i (omega arith)), mul-le-mul_left (u n) (e n (omega arith)))

-- one term more
pub sum_more : (j s x : ℕ) (g : ℕ → ℕ) → s ≡ sum_to j g → x ≡ g j → s + x ≡ sum_to (j + 1) g
sum_more j s x g e h = rw (add-one j, e, h)

-- a part of a sum is at most the sum
pub sum-part : (m n : ℕ) (g : ℕ → ℕ) → m ≤ n → sum_to m g ≤ sum_to n g
sum-part zero zero g h = omega arith
sum-part (suc m) zero g h = omega arith
sum-part m (suc n) g h = ⊎_elim (λ (e : m ≡ suc n). le_of_eq (rw e)) (λ (k : m < suc n). omega (arith, sum-part m n g (omega arith))) (eq-or-lt_of_le h)

-- a part of a sum, and one term more, is within the bound of the sum
pub part-fits : (n m j : ℕ) (g : ℕ → ℕ) → sum_to n g ≤ m → j < n → sum_to j g + g j ≤ m
part-fits n m j g k h = omega (arith, k, sum-part (suc j) n g h)

-- terms that are all the same, or at most so much
pub sum-each : (n b : ℕ) (g : ℕ → ℕ) → ((i : ℕ) → i < n → g i ≡ b) → sum_to n g ≡ n * b
sum-each zero b g e = sym (zero-mul b)
sum-each (suc n) b g e = omega (arith, sum-each n b g (λ i k. e i (omega arith)), e n (omega arith), suc-mul n b)

pub sum-most : (n b : ℕ) (g : ℕ → ℕ) → ((i : ℕ) → i < n → g i ≤ b) → sum_to n g ≤ n * b
sum-most n b g e = omega (arith, sum-le n g (λ i. b) e, sum-each n b (λ i. b) (λ i k. refl))

-- a sum in two parts, and in n parts of w
pub sum-split : (m n : ℕ) (g : ℕ → ℕ) → sum_to (m + n) g ≡ sum_to m g + sum_to n (λ i. g (m + i))
sum-split m zero g = let e : m + 0 ≡ m = omega arith in ap (λ k. sum_to k g) e ∙ omega arith
sum-split m (suc n) g = let e : m + suc n ≡ suc (m + n) = omega arith in ap (λ k. sum_to k g) e ∙ omega (arith, sum-split m n g)

pub sum_rows : (n w : ℕ) (g : ℕ → ℕ) → sum_to (n * w) g ≡ sum_to n (λ i. sum_to w (λ j. g (i * w + j)))
sum_rows zero w g = ap (λ k. sum_to k g) (zero-mul w)
sum_rows (suc n) w g =
    let e : suc n * w ≡ n * w + w = omega (arith, suc-mul n w) in
    ap (λ k. sum_to k g) e ∙ sum-split (n * w) w g ∙ ap (λ k. k + sum_to w (λ j. g (n * w + j))) (sum_rows n w g)
