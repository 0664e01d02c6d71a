-- Lists by their places.
use Rattle.std.specs.Prelude.{◌≡◌, refl, List, [], ◌∷◌, ◌++◌, ℕ, zero, suc, ◌+◌, ◌≤◌, ◌<◌, length, get_or, take}
use Rattle.std.proofs.Common.{sym, ap, ap₂, ◌∙◌, zero-add, arith}

module _ {A : Type 0} where
  -- f 0, f 1, .. , f (n - 1)
  abbrev pub list_to : ℕ → (ℕ → A) → List A
  list_to zero f = []
  list_to (suc n) f = f 0 ∷ list_to n (λ i. f (suc i))

  pub list_length : (n : ℕ) (f : ℕ → A) → length (list_to n f) ≡ n
  list_length zero f = refl
  list_length (suc n) f = ap suc (list_length n (λ i. f (suc i)))

  pub list_at : (n : ℕ) (f : ℕ → A) (i : ℕ) (l : List A) (d : A) → i < n → get_or (list_to n f ++ l) i d ≡ f i
  list_at zero f i l d h = absurd (omega arith)
  list_at (suc n) f zero l d h = refl
  list_at (suc n) f (suc i) l d h = list_at n (λ k. f (suc k)) i l d (omega arith)

  pub list_same : (n : ℕ) (f g : ℕ → A) → ((i : ℕ) → i < n → f i ≡ g i) → list_to n f ≡ list_to n g
  list_same zero f g h = refl
  list_same (suc n) f g h = ap₂ ◌∷◌ (h 0 (omega arith)) (list_same n (λ i. f (suc i)) (λ i. g (suc i)) (λ i k. h (suc i) (omega arith)))

  pub list-split : (m n : ℕ) (f : ℕ → A) → list_to (m + n) f ≡ list_to m f ++ list_to n (λ i. f (m + i))
  list-split zero n f = ap (λ k. list_to k f) (zero-add n) ∙ list_same n f (λ i. f (0 + i)) (λ i h. ap f (sym (zero-add i)))
  list-split (suc m) n f =
      let e : suc m + n ≡ suc (m + n) = omega arith in
      let next = list-split m n (λ i. f (suc i)) in
      let rest = list_same n (λ i. f (suc (m + i))) (λ i. f (suc m + i)) same in
      ap (λ k. list_to k f) e ∙ ap (λ l. f 0 ∷ l) (next ∙ ap (λ l. list_to m (λ i. f (suc i)) ++ l) rest)
    where
      same : (i : ℕ) → i < n → f (suc (m + i)) ≡ f (suc m + i)
      same i h = let q : suc (m + i) ≡ suc m + i = omega arith in ap f q

  pub list-snoc : (n : ℕ) (f : ℕ → A) → list_to n f ++ (f n ∷ []) ≡ list_to (n + 1) f
  list-snoc n f = let e : n + 0 ≡ n = omega arith in ap (λ k. list_to n f ++ (f k ∷ [])) (sym e) ∙ sym (list-split n 1 f)

  pub take-list : (m : ℕ) (l : List A) (d : A) → m ≤ length l → take m l ≡ list_to m (λ i. get_or l i d)
  take-list zero l d h = refl
  take-list (suc m) [] d h = absurd (omega arith)
  take-list (suc m) (x ∷ l) d h = ap (λ r. x ∷ r) (take-list m l d (omega arith))
