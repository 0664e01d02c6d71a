-- Tests: what a Bool that was computed says. `T b` is the fact that b is true.
use Rattle.std.specs.Prelude.{◌≡◌, refl, ◌↔◌, ◌⊎◌, Bool, true, false, not, cond, ◌&&◌, ◌||◌, ℕ, ◌≤◌, ◌<◌, T}
use Rattle.std.proofs.Common.{inl, inr, ⊎_elim, true≢false, arith}
use Rattle.std.proofs.lemmas.Bool.{false≢true}
use Rattle.std.proofs.Math.Decide.{dec_le}

-- two tests that say the same are equal
pub T-ext : (a b : Bool) → T a ↔ T b → a ≡ b
T-ext true true e = refl
T-ext true false e = absurd (e.0 tt)
T-ext false true e = absurd (e.1 tt)
T-ext false false e = refl

pub T_true : (a : Bool) → T a ↔ (a ≡ true)
T_true true = (λ t. refl, λ e. tt)
T_true false = (λ t. absurd t, λ e. absurd (false≢true e))

pub T_and : (a b : Bool) → T (a && b) ↔ (T a × T b)
T_and true b = (λ t. (tt, t), λ k. k.1)
T_and false b = (λ t. absurd t, λ k. k.0)

pub T-or : (a b : Bool) → T (a || b) ↔ (T a ⊎ T b)
T-or true b = (λ t. inl tt, λ k. tt)
T-or false b = (λ t. inr t, ⊎_elim (λ t. absurd t) (λ t. t))

pub T_not : (a : Bool) → T (not a) ↔ (T a → ⊥)
T_not true = (λ t _. t, λ k. k tt)
T_not false = (λ _ t. t, λ _. tt)

-- what a failed "or" and a passed "and" say of their two tests
pub or-none : (a b : Bool) → (a || b) ≡ false → (a ≡ false) × (b ≡ false)
or-none true b e = absurd (true≢false e)
or-none false b e = (refl, e)

pub and_both : (a b : Bool) → (a && b) ≡ true → (a ≡ true) × (b ≡ true)
and_both true b e = (refl, e)
and_both false b e = absurd (false≢true e)

pub both_true : {a b : Bool} → a ≡ true → b ≡ true → (a && b) ≡ true
both_true e f = rw (e, f)

-- 1 for a test that passes, 0 for one that does not
abbrev pub flag : Bool → ℕ
flag b = cond b 1 0

pub flag-le : (b : Bool) → flag b ≤ 1
flag-le true = omega arith
flag-le false = omega arith

pub flag_true : (b : Bool) → T b → flag b ≡ 1
flag_true true t = refl
flag_true false t = absurd t

pub true-flag : (b : Bool) → 0 < flag b → T b
true-flag true h = tt
true-flag false h = absurd (omega arith)

pub flag-order : (a b : Bool) → (T a → T b) → flag a ≤ flag b
flag-order true true h = omega arith
flag-order true false h = absurd (h tt)
flag-order false b h = omega arith

-- a test passes or it does not
pub decide : (a : Bool) → T a ⊎ (T a → ⊥)
decide true = inl tt
decide false = inr (λ t. t)

pub order : (a b : ℕ) → (a ≤ b) ⊎ (b < a)
order a b = go (dec_le a b)
  where
    go : Dec (a ≤ b) → (a ≤ b) ⊎ (b < a)
    go (yes h) = inl h
    go (no h) = inr (omega arith)

pub equal : (a b : ℕ) → (a ≡ b) ⊎ (a ≡ b → ⊥)
equal a b = ⊎_elim (λ h. ⊎_elim (λ k. inl (omega arith)) (λ k. inr (λ e. omega arith)) (order b a)) (λ h. inr (λ e. omega arith)) (order a b)
