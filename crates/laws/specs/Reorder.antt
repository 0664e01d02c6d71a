-- Lists in whatever order: one member more, wherever it stands, and the same members, each as often.
use Rattle.std.specs.Prelude.{◌≡◌, List, [], ◌∷◌, ◌++◌, suc, length}
use Rattle.std.proofs.Common.{sym, ap, subst, ◌∙◌, ⊎_elim, arith, length-append}
use mathlib.Core.List.Memᴰ
use Rattle.laws.specs.Members.{◌∈◌, here, there}

module _ {A : Type 0} where
  -- ys is xs and one x more
  abbrev pub With : A → List A → List A → Type 0
  With x xs ys = (a : List A) × (b : List A) × (ys ≡ a ++ (x ∷ b)) × (xs ≡ a ++ b)

  -- ys is xs in some order
  abbrev pub Reordered : List A → List A → Type 0
  Reordered [] ys = ys ≡ []
  Reordered (x ∷ xs) ys = (zs : List A) × With x zs ys × Reordered xs zs

  pub with-length : {x : A} {xs ys : List A} → With x xs ys → length ys ≡ suc (length xs)
  with-length {x} w = ap length w.2 ∙ omega (arith, length-append w.0 (x ∷ w.1), length-append w.0 w.1, ap length w.3)

  pub with_in : {x : A} {xs ys : List A} → With x xs ys → x ∈ ys
  with_in {x} w = subst (λ l. x ∈ l) (sym w.2) (Memᴰ.append_right w.0 here)

  pub with-others : {x : A} {xs ys : List A} → With x xs ys → {y : A} → y ∈ xs → y ∈ ys
  with-others {x} w {y} m =
      subst (λ l. y ∈ l) (sym w.2)
      (⊎_elim (λ k. Memᴰ.append_left (x ∷ w.1) k) (λ k. Memᴰ.append_right w.0 (there k)) (Memᴰ.append_cases w.0 (subst (λ l. y ∈ l) w.3 m)))

  pub reordered-length : (xs ys : List A) → Reordered xs ys → length ys ≡ length xs
  reordered-length [] ys e = ap length e
  reordered-length (x ∷ xs) ys r = with-length r.1 ∙ ap suc (reordered-length xs r.0 r.2)

  -- its members are the same
  pub reordered-in : (xs ys : List A) → Reordered xs ys → {y : A} → y ∈ ys → y ∈ xs
  reordered-in [] ys e {y} m = subst (λ l. y ∈ l) e m
  reordered-in (x ∷ xs) ys (zs, (a, b, e, f), r) {y} m =
      let later : y ∈ a ++ b → y ∈ xs = λ k. reordered-in xs zs r (subst (λ l. y ∈ l) (sym f) k) in
      ⊎_elim (λ k. there (later (Memᴰ.append_left b k))) (here-or (λ k. later (Memᴰ.append_right a k))) (Memᴰ.append_cases a (subst (λ l. y ∈ l) e m))
    where
      here-or : (y ∈ b → y ∈ xs) → y ∈ x ∷ b → y ∈ x ∷ xs
      here-or g (Memᴰ.head i) = Memᴰ.head i
      here-or g (Memᴰ.tail k) = there (g k)
