-- Chances in millionths, weights in ten-millionths, and the survival signature formula that they stand for (document 01, "Chances and reliability").
use Rattle.std.specs.Prelude.{List, [], ◌∷◌, ℕ, zero, suc, ◌+◌, ◌-◌, ◌*◌, ◌/◌, ◌^◌, ◌≤◌, ◌<◌, get_or}
use Rattle.laws.specs.Sums.{sum_to}

-- ---- WEIGHTS
-- what a weight w sends on at the chance p, and what it leaves
abbrev pub sends : ℕ → ℕ → ℕ
sends p w = w * p / 1000000

abbrev pub leaves : ℕ → ℕ → ℕ
leaves p w = w - sends p w

-- one node more: every old weight sends to the next place and leaves the rest; c comes from the place before
abbrev pub spread : ℕ → ℕ → List ℕ → List ℕ
spread p c [] = c ∷ []
spread p c (w ∷ ws) = (leaves p w + c) ∷ spread p (sends p w) ws

-- the weights for n nodes of chance p
abbrev pub weights : ℕ → ℕ → List ℕ
weights p zero = 10000000 ∷ []
weights p (suc n) = spread p 0 (weights p n)

abbrev pub weight : ℕ → ℕ → ℕ → ℕ
weight p n l = get_or (weights p n) l 0

-- ---- THE EXACT CHANCES
-- the binomial coefficient (01: C)
abbrev pub choose : ℕ → ℕ → ℕ
choose n zero = 1
choose zero (suc l) = 0
choose (suc n) (suc l) = choose n l + choose n (suc l)

-- that l of n nodes work (01: b), times 10^(6n)
abbrev pub exact : ℕ → ℕ → ℕ → ℕ
exact p n l = choose n l * p ^ l * (1000000 - p) ^ (n - l)

-- ---- SUMS OVER CELLS
-- the sum over cells of cell × u at l1 × v at l2
abbrev pub weighed : ℕ → ℕ → (ℕ → ℕ → ℕ) → (ℕ → ℕ) → (ℕ → ℕ) → ℕ
weighed n1 n2 c u v = sum_to (suc n1) (λ l1. sum_to (suc n2) (λ l2. c l1 l2 * u l1 * v l2))

-- S, and E: the survival signature formula
abbrev pub sum_s : ℕ → ℕ → ℕ → ℕ → (ℕ → ℕ → ℕ) → ℕ
sum_s n1 n2 p1 p2 c = weighed n1 n2 c (weight p1 n1) (weight p2 n2)

abbrev pub sum_e : ℕ → ℕ → ℕ → ℕ → (ℕ → ℕ → ℕ) → ℕ
sum_e n1 n2 p1 p2 c = weighed n1 n2 c (exact p1 n1) (exact p2 n2)

-- D, and R for M rounds, in ten-millionths
abbrev pub scale_d : ℕ → ℕ → ℕ
scale_d n1 n2 = 10 ^ (6 * (n1 + n2))

abbrev pub rate_r : ℕ → ℕ → ℕ
rate_r s m = s / (m * 10000000)

-- cells of which none is above m, and that do not fall as l1 or l2 grows
pub record Grows (n1 n2 m : ℕ) (c : ℕ → ℕ → ℕ) : Type 0 where
  -- none above m
  pub below : (l1 l2 : ℕ) → l1 ≤ n1 → l2 ≤ n2 → c l1 l2 ≤ m
  -- no fall as l1 grows
  pub first : (l1 l2 : ℕ) → l1 < n1 → l2 ≤ n2 → c l1 l2 ≤ c (suc l1) l2
  -- no fall as l2 grows
  pub second : (l1 l2 : ℕ) → l1 ≤ n1 → l2 < n2 → c l1 l2 ≤ c l1 (suc l2)

-- HOW NEAR S and R of m rounds are: never above the formula on the cells c, and R below it by less than n1 + n2 + 1 ten-millionths
pub record Near (n1 n2 p1 p2 : ℕ) (c : ℕ → ℕ → ℕ) (s m r : ℕ) : Type 0 where
  -- S × D ≤ 10^14 × E ≤ (S + (n1 + n2) × M × 10^7) × D
  pub sum_low : s * scale_d n1 n2 ≤ 10 ^ 14 * sum_e n1 n2 p1 p2 c
  pub sum-high : 10 ^ 14 * sum_e n1 n2 p1 p2 c ≤ (s + (n1 + n2) * m * 10000000) * scale_d n1 n2
  -- R × M × D ≤ 10^7 × E < (R + n1 + n2 + 1) × M × D
  pub rate-low : r * m * scale_d n1 n2 ≤ 10000000 * sum_e n1 n2 p1 p2 c
  pub rate-high : 10000000 * sum_e n1 n2 p1 p2 c < (r + (n1 + n2) + 1) * m * scale_d n1 n2
