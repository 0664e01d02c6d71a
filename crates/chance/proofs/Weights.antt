-- Rows of the two triangles: weights and exact chances for one node more, and what they add up to.
use mathlib.Core.Path.{◌≡◌, refl, sym, ap, ◌∙◌}
use mathlib.Core.List.{List, [], ◌∷◌}
use mathlib.Core.Logic.{⊎_elim}
use Prim.Native.Nat.{ℕ, zero, suc, ◌+◌, ◌-◌, ◌*◌, ◌^◌, ◌≤◌, ◌<◌}
use native.Mathlib.Nat.{mul-one, pow-zero, pow-succ', add-zero, suc-sub-suc, sub-zero, mul-le-mul_left}
use native.Mathlib.Omega.{arith}
use lib.ListN.{length, get_or, get_or-eq_default}
use Rattle.laws.specs.Tests.{order}
use Rattle.laws.specs.Sums.{sum_to, sum_same, sum-times, sum-part}
use Rattle.chance.specs.Chance.{sends, leaves, spread, weights, weight, choose, exact}

-- one row of a triangle from the one before: what stays at l and what goes from l to l + 1
shift : (a k s f : ℕ → ℕ) → a 0 ≡ k 0 → ((l : ℕ) → a (suc l) ≡ s l + k (suc l)) → (m : ℕ)
    → sum_to (suc m) (λ l. a l * f l) ≡ sum_to m (λ l. k l * f l + s l * f (suc l)) + k m * f m
shift a k s f e0 e zero = rw e0
shift a k s f e0 e (suc m) = omega (arith, shift a k s f e0 e m, ap (λ x. x * f (suc m)) (e m))

-- the same, where nothing stays at the place m
shifted : (a k s f : ℕ → ℕ) → a 0 ≡ k 0 → ((l : ℕ) → a (suc l) ≡ s l + k (suc l)) → (m : ℕ) → k m ≡ 0
    → sum_to (suc m) (λ l. a l * f l) ≡ sum_to m (λ l. k l * f l + s l * f (suc l))
shifted a k s f e0 e m z = shift a k s f e0 e m ∙ rw z (omega arith)

pub spread-first : (p c : ℕ) (ws : List ℕ) → get_or (spread p c ws) 0 0 ≡ leaves p (get_or ws 0 0) + c
spread-first p c [] = omega arith
spread-first p c (w ∷ ws) = refl

pub spread-next : (p c : ℕ) (ws : List ℕ) (l : ℕ) → get_or (spread p c ws) (suc l) 0 ≡ sends p (get_or ws l 0) + leaves p (get_or ws (suc l) 0)
spread-next p c [] l = omega arith
spread-next p c (w ∷ ws) zero = rw (spread-first p (sends p w) ws) (omega arith)
spread-next p c (w ∷ ws) (suc l) = spread-next p (sends p w) ws l

pub spread-length : (p c : ℕ) (ws : List ℕ) → length (spread p c ws) ≡ suc (length ws)
spread-length p c [] = refl
spread-length p c (w ∷ ws) = ap suc (spread-length p (sends p w) ws)

choose-past : (n l : ℕ) → n < l → choose n l ≡ 0
choose-past n zero h = omega arith
choose-past zero (suc l) h = refl
choose-past (suc n) (suc l) h = omega (arith, choose-past n l (omega arith), choose-past n (suc l) (omega arith))

-- b(n, l) with q for 1,000,000 − p
abbrev term : ℕ → ℕ → ℕ → ℕ → ℕ
term p q n l = choose n l * p ^ l * q ^ (n - l)

term-first : (p q n : ℕ) → term p q (suc n) 0 ≡ q * term p q n 0
term-first p q n = rw (sub-zero (suc n), sub-zero n, pow-succ' q n) (omega arith)

term-next : (p q n l : ℕ) → term p q (suc n) (suc l) ≡ p * term p q n l + q * term p q n (suc l)
term-next p q n l = ⊎_elim in_row past (order (suc l) n)
  where
    in_row : l < n → term p q (suc n) (suc l) ≡ p * term p q n l + q * term p q n (suc l)
    in_row h = let e : n - l ≡ suc (n - suc l) = omega arith in rw (suc-sub-suc n l, e, pow-succ' q (n - suc l), pow-succ' p l) (omega arith)

    past : n < suc l → term p q (suc n) (suc l) ≡ p * term p q n l + q * term p q n (suc l)
    past h = rw (choose-past n (suc l) (omega arith), suc-sub-suc n l, pow-succ' p l) (omega arith)

gather : (q p e x y : ℕ) → q * e * x + p * e * y ≡ e * (q * x + p * y)
gather q p e x y = omega arith

last : (q x y : ℕ) {c : ℕ} → c ≡ 0 → q * (c * x * y) ≡ 0
last q x y e = rw e (omega arith)

module _ (p : ℕ) where
  pub weights-length : (n : ℕ) → length (weights p n) ≡ suc n
  weights-length zero = refl
  weights-length (suc n) = rw (spread-length p 0 (weights p n), weights-length n)

  pub weight-first : (n : ℕ) → weight p (suc n) 0 ≡ leaves p (weight p n 0)
  weight-first n = rw (spread-first p 0 (weights p n)) (add-zero _)

  pub weight-next : (n l : ℕ) → weight p (suc n) (suc l) ≡ sends p (weight p n l) + leaves p (weight p n (suc l))
  weight-next n l = spread-next p 0 (weights p n) l

  abbrev pub q : ℕ
  q = 1000000 - p

  -- one step back: the exact chance of f after one node more
  abbrev pub back : (ℕ → ℕ) → ℕ → ℕ
  back f l = q * f l + p * f (suc l)

  pub exact-step : (n : ℕ) (f : ℕ → ℕ) → sum_to (suc (suc n)) (λ l. exact p (suc n) l * f l) ≡ sum_to (suc n) (λ l. exact p n l * back f l)
  exact-step n f =
      shifted (exact p (suc n)) (λ l. q * exact p n l) (λ l. p * exact p n l) f (term-first p q n) (term-next p q n) (suc n) (last q (p ^ suc n) _ (choose-past n (suc n) (omega arith)))
      ∙ sum_same (suc n) _ _ (λ l h. gather q p (exact p n l) (f l) (f (suc l)))

  pub weight-past : (n l : ℕ) → n < l → weight p n l ≡ 0
  weight-past n l h = get_or-eq_default (weights p n) 0 {n = l} (omega (arith, weights-length n))

  pub weight-step : (n : ℕ) (f : ℕ → ℕ) → sum_to (suc (suc n)) (λ l. weight p (suc n) l * f l)
      ≡ sum_to (suc n) (λ l. leaves p (weight p n l) * f l + sends p (weight p n l) * f (suc l))
  weight-step n f =
      shifted (weight p (suc n)) (λ l. leaves p (weight p n l)) (λ l. sends p (weight p n l)) f (weight-first n) (weight-next n) (suc n) (rw (weight-past n (suc n) (omega arith)) (omega arith))

  pub sends-le : p ≤ 1000000 → (w : ℕ) → sends p w ≤ w
  sends-le small w = omega (arith, mul-le-mul_left w small)

  -- the exact chances of n nodes add up to the whole, and the weights to theirs
  pub exact-total : p ≤ 1000000 → (n : ℕ) → sum_to (suc n) (exact p n) ≡ 1000000 ^ n
  exact-total small zero = rw (pow-zero p, pow-zero q)
  exact-total small (suc n) =
      sum_same (suc (suc n)) _ _ (λ l h. sym (mul-one (exact p (suc n) l))) ∙ exact-step n (λ l. 1)
      ∙ sum_same (suc n) _ _ (λ l h. whole (exact p n l)) ∙ sum-times (suc n) 1000000 (exact p n) ∙ ap (λ x. 1000000 * x) (exact-total small n) ∙ sym (pow-succ' 1000000 n)
    where
      whole : (x : ℕ) → x * (q * 1 + p * 1) ≡ 1000000 * x
      whole x = let e : q * 1 + p * 1 ≡ 1000000 = omega arith in rw e (omega arith)

  pub weight-total : p ≤ 1000000 → (n : ℕ) → sum_to (suc n) (weight p n) ≡ 10000000
  weight-total small zero = refl
  weight-total small (suc n) =
      sum_same (suc (suc n)) _ _ (λ l h. sym (mul-one (weight p (suc n) l))) ∙ weight-step n (λ l. 1)
      ∙ sum_same (suc n) _ _ (λ l h. kept (weight p n l)) ∙ weight-total small n
    where
      kept : (w : ℕ) → leaves p w * 1 + sends p w * 1 ≡ w
      kept w = omega (arith, sends-le small w)

  -- no weight is above the whole
  pub weight-most : p ≤ 1000000 → (n l : ℕ) → weight p n l ≤ 10000000
  weight-most small n l =
      ⊎_elim (λ (h : l ≤ n). omega (arith, weight-total small n, sum-part (suc l) (suc n) (weight p n) (omega arith))) (λ (h : n < l). rw (weight-past n l h) (omega arith)) (order l n)
