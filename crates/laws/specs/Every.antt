-- Tests at every number below n.
use Rattle.std.specs.Prelude.{◌≡◌, refl, ◌⊎◌, Bool, true, false, ◌&&◌, ℕ, zero, suc, ◌+◌, ◌<◌}
use Rattle.std.proofs.Common.{ap, ◌∙◌, inl, inr, ⊎_elim, add-one, arith}
use Rattle.laws.specs.Tests.{and_both, equal}

abbrev pub every : ℕ → (ℕ → Bool) → Bool
every zero f = true
every (suc n) f = every n f && f n

module _ (f : ℕ → Bool) where
  -- one more
  pub every-next : {b : Bool} (i : ℕ) → b ≡ every i f → b && f i ≡ every (i + 1) f
  every-next i e = rw (add-one i) (ap (λ x. x && f i) e)

  pub every-at : (n : ℕ) → every n f ≡ true → (i : ℕ) → i < n → f i ≡ true
  every-at zero e i h = absurd (omega arith)
  every-at (suc n) e i h =
      let k = and_both (every n f) (f n) e in
      ⊎_elim (λ q. ap f q ∙ k.1) (λ q. every-at n k.0 i (omega arith)) (equal i n)

  -- at all of them, or not at one
  pub every-or : (n : ℕ) → (every n f ≡ true) ⊎ ((i : ℕ) × (i < n) × (f i ≡ false))
  every-or zero = inl refl
  every-or (suc n) = ⊎_elim (λ e. here-or (f n) refl e) (λ (i, h, e). inr (i, omega arith, e)) (every-or n)
    where
      here-or : (b : Bool) → f n ≡ b → every n f ≡ true → (every n f && f n ≡ true) ⊎ ((i : ℕ) × (i < suc n) × (f i ≡ false))
      here-or true q e = inl (rw (e, q))
      here-or false q e = inr (n, omega arith, q)

  pub every-all : (n : ℕ) → ((i : ℕ) → i < n → f i ≡ true) → every n f ≡ true
  every-all zero h = refl
  every-all (suc n) h = rw (every-all n (λ i k. h i (omega arith)), h n (omega arith))
