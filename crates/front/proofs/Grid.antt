-- The grid has each pair of its range once, p1 falling and, where p1 is equal, p2 rising.
use mathlib.Core.Path.{◌≡◌}
use mathlib.Core.Logic.{◌⊎◌, inl, inr, ⊎_elim}
use mathlib.Core.List.Memᴰ
use mathlib.Core.List.{[], ◌∷◌}
use Prim.Native.Nat.{ℕ, zero, suc, ◌≤◌, ◌<◌}
use native.Mathlib.Omega.{arith}
use Rattle.laws.specs.Tests.{order}
use Rattle.laws.specs.Members.{◌∈◌}
use Rattle.laws.specs.Pairwise.{Pairwise, pairwise_append}
use Rattle.front.specs.declared.Pair.{Pair}
use Rattle.front.specs.Pair.{pair_of}
use Rattle.front.specs.Front.{grid_line, grid}
use Rattle.front.proofs.Pairs.{pair_eq, numbers}

line-in : (x m : ℕ) (p : Pair) → p.p1.0 ≡ x → 0 < p.p2.0 → p.p2.0 ≤ m → p ∈ grid_line x m
line-in x zero p e h k = absurd (omega arith)
line-in x (suc m) p e h k =
    ⊎_elim (λ le. Memᴰ.append_left (pair_of x (suc m) ∷ []) (line-in x m p e h le))
    (λ lt. Memᴰ.append_right (grid_line x m) (Memᴰ.head (pair_eq e (omega arith)))) (order p.p2.0 m)

line-out : (x m : ℕ) (p : Pair) → p ∈ grid_line x m → (p.p1.0 ≡ x) × (0 < p.p2.0) × (p.p2.0 ≤ m)
line-out x zero p h = elim h [ ]
line-out x (suc m) p h =
    ⊎_elim (λ k. omega (arith, line-out x m p k)) (λ k. omega (arith, numbers (Memᴰ.eq_of_singleton k)))
    (Memᴰ.append_cases (grid_line x m) h)

pub grid-in : (p : Pair) (n m : ℕ) → 0 < p.p1.0 → p.p1.0 ≤ n → 0 < p.p2.0 → p.p2.0 ≤ m → p ∈ grid n m
grid-in p zero m h k i j = absurd (omega arith)
grid-in p (suc n) m h k i j =
    ⊎_elim (λ le. Memᴰ.append_right (grid_line (suc n) m) (grid-in p n m h le i j))
    (λ lt. Memᴰ.append_left (grid n m) (line-in (suc n) m p (omega arith) i j)) (order p.p1.0 n)

pub grid-out : (n m : ℕ) (p : Pair) → p ∈ grid n m → (0 < p.p1.0) × (p.p1.0 ≤ n) × (0 < p.p2.0) × (p.p2.0 ≤ m)
grid-out zero m p h = elim h [ ]
grid-out (suc n) m p h =
    ⊎_elim (λ k. omega (arith, line-out (suc n) m p k)) (λ k. omega (arith, grid-out n m p k)) (Memᴰ.append_cases (grid_line (suc n) m) h)

abbrev pub Before : Pair → Pair → Type 0
Before p q = (q.p1.0 < p.p1.0) ⊎ ((q.p1.0 ≡ p.p1.0) × (p.p2.0 < q.p2.0))

line-ordered : (x m : ℕ) → Pairwise Before (grid_line x m)
line-ordered x zero = tt
line-ordered x (suc m) =
    pairwise_append Before (grid_line x m) (pair_of x (suc m) ∷ []) (line-ordered x m) (λ y h. elim h [ ], tt)
    (λ p q h k. inr (omega (arith, line-out x m p h, numbers (Memᴰ.eq_of_singleton k))))

pub grid-ordered : (n m : ℕ) → Pairwise Before (grid n m)
grid-ordered zero m = tt
grid-ordered (suc n) m =
    pairwise_append Before (grid_line (suc n) m) (grid n m) (line-ordered (suc n) m) (grid-ordered n m)
    (λ p q h k. inl (omega (arith, line-out (suc n) m p h, grid-out n m q k)))
