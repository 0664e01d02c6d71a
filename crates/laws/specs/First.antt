-- The first of a list of tests that is true: how a call picks the one refusal to give.
use Rattle.std.specs.Prelude.{◌≡◌, refl, ◌↔◌, Bool, true, false, cond, List, [], ◌∷◌, ◌++◌}
use Rattle.std.proofs.Common.{sym, ap, ◌∙◌, true≢false}
use mathlib.Core.List.Memᴰ
use Rattle.laws.specs.Members.{◌∈◌, here, there}

module _ {A B : Type 0} (found : A → B) (none : B) where
  -- what is found at the first true test; `none` where no test is true
  abbrev pub first_true : List (A × Bool) → B
  first_true [] = none
  first_true (t ∷ ts) = cond t.1 (found t.0) (first_true ts)

  -- where nothing that is found looks like `none`, it comes exactly when every test is false
  pub first-none : ((a : A) → found a ≡ none → ⊥) → (ts : List (A × Bool)) → (first_true ts ≡ none) ↔ ((t : A × Bool) → t ∈ ts → t.1 ≡ false)
  first-none apart [] = (λ e t m. elim m [ ], λ h. refl)
  first-none apart (u ∷ ts) = go u.1 refl (first-none apart ts)
    where
      go : (b : Bool) → u.1 ≡ b → (first_true ts ≡ none) ↔ ((t : A × Bool) → t ∈ ts → t.1 ≡ false)
          → (cond b (found u.0) (first_true ts) ≡ none) ↔ ((t : A × Bool) → t ∈ u ∷ ts → t.1 ≡ false)
      go true e r = (λ f. absurd (apart u.0 f), λ h. absurd (true≢false (sym e ∙ h u here)))
      go false e r = (λ f t m. each f t m, λ h. r.1 (λ t m. h t (there m)))
        where
          each : first_true ts ≡ none → (t : A × Bool) → t ∈ u ∷ ts → t.1 ≡ false
          each f t (Memᴰ.head q) = rw q e
          each f t (Memᴰ.tail m) = r.0 f t m

  -- a test that is false may be left out
  pub first-without : (ts us : List (A × Bool)) (t : A × Bool) → t.1 ≡ false → first_true (ts ++ t ∷ us) ≡ first_true (ts ++ us)
  first-without [] us t e = rw e
  first-without (u ∷ ts) us t e = ap (cond u.1 (found u.0)) (first-without ts us t e)
