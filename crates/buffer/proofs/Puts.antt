-- The front of a list in record form and one pair more, whose p1 is the least: the pair comes behind the last, over it, or not at all.
use mathlib.Core.Path.{◌≡◌, sym, subst}
use mathlib.Core.Logic.{⊎_elim}
use mathlib.Core.List.Memᴰ
use mathlib.Core.List.{List, [], ◌∷◌, ◌++◌}
use Prim.Native.Nat.{ℕ, ◌≤◌}
use native.Mathlib.Omega.{arith}
use Rattle.laws.specs.Members.{◌∈◌, here}
use Rattle.laws.specs.Pairwise.{pairwise_append, pairwise-left, pairwise-across}
use Rattle.front.specs.declared.Pair.{Pair}
use Rattle.front.specs.Front.{front, Within, Falls, AtMost}
use Rattle.front.specs.Steps.{RecordForm}
use Rattle.front.proofs.Pairs.{Above, numbers}
use Rattle.front.proofs.Fronts.{form-front, form-is-front}

-- a member of l ++ p ∷ [] is one of l, or p
snoc-cases : {C : Type 0} (l : List Pair) (p q : Pair) → (q ∈ l → C) → (q ≡ p → C) → q ∈ l ++ (p ∷ []) → C
snoc-cases l p q old new m = ⊎_elim old (λ k. new (Memᴰ.eq_of_singleton k)) (Memᴰ.append_cases l m)

module _ {n1 n2 : ℕ} where
  form-snoc : (l : List Pair) (p : Pair) → RecordForm n1 n2 l → Within n1 n2 p → ((q : Pair) → q ∈ l → Falls q p) → RecordForm n1 n2 (l ++ (p ∷ []))
  form-snoc l p r w f =
      record {
        within = λ q m. snoc-cases l p q (r.within q) (λ e. subst (λ x. Within n1 n2 x) (sym e) w) m;
        falls = pairwise_append Falls l (p ∷ []) r.falls (λ y h. elim h [ ], tt) (λ x y h k. subst (λ z. Falls x z) (sym (Memᴰ.eq_of_singleton k)) (f x h));
      }

  pub put_first : (p : Pair) → Within n1 n2 p → p ∷ [] ≡ front n1 n2 (p ∷ [])
  put_first p w =
      sym (form-front n1 n2 (p ∷ []) (record { within = λ q m. subst (λ x. Within n1 n2 x) (sym (Memᴰ.eq_of_singleton m)) w; falls = (λ y h. elim h [ ], tt) }))

  module _ (l : List Pair) (last p : Pair) (r : RecordForm n1 n2 (l ++ (last ∷ []))) (w : Within n1 n2 p) (least : p.p1.0 ≤ last.p1.0) where
    -- the last pair covers p
    pub put-covered : AtMost p last → l ++ (last ∷ []) ≡ front n1 n2 ((l ++ (last ∷ [])) ++ (p ∷ []))
    put-covered h =
        form-is-front n1 n2 (l ++ (last ∷ [])) ((l ++ (last ∷ [])) ++ (p ∷ [])) r
        (λ q m. (q, Memᴰ.append_left (p ∷ []) m, omega arith))
        (λ q m. snoc-cases (l ++ (last ∷ [])) p q (λ k. (q, k, omega arith)) (λ e. (last, Memᴰ.append_right l here, omega (arith, numbers e))) m)

    old : (q : Pair) → q ∈ l → Falls q last
    old q m = pairwise-across Falls l (last ∷ []) r.falls q last m here

    -- p dominates the last pair, and takes its place
    pub put-over : Above p last → l ++ (p ∷ []) ≡ front n1 n2 ((l ++ (last ∷ [])) ++ (p ∷ []))
    put-over h =
        form-is-front n1 n2 (l ++ (p ∷ [])) ((l ++ (last ∷ [])) ++ (p ∷ []))
        (form-snoc l p (record { within = λ q m. r.within q (Memᴰ.append_left (last ∷ []) m); falls = pairwise-left Falls l (last ∷ []) r.falls }) w (λ q m. omega (arith, old q m)))
        (λ q m. snoc-cases l p q (λ k. (q, Memᴰ.append_left (p ∷ []) (Memᴰ.append_left (last ∷ []) k), omega arith)) (λ e. (p, Memᴰ.append_right (l ++ (last ∷ [])) here, omega (arith, numbers e))) m)
        (λ q m. snoc-cases (l ++ (last ∷ [])) p q (λ k. snoc-cases l last q (λ i. (q, Memᴰ.append_left (p ∷ []) i, omega arith)) (λ e. (p, Memᴰ.append_right l here, omega (arith, numbers e))) k) (λ e. (p, Memᴰ.append_right l here, omega (arith, numbers e))) m)

    -- neither: p comes behind the last pair
    pub put-form : Falls last p → RecordForm n1 n2 ((l ++ (last ∷ [])) ++ (p ∷ []))
    put-form h = form-snoc (l ++ (last ∷ [])) p r w (λ q m. snoc-cases l last q (λ k. omega (arith, old q k)) (λ e. omega (arith, numbers e)) m)

    pub put-behind : Falls last p → (l ++ (last ∷ [])) ++ (p ∷ []) ≡ front n1 n2 ((l ++ (last ∷ [])) ++ (p ∷ []))
    put-behind h = sym (form-front n1 n2 ((l ++ (last ∷ [])) ++ (p ∷ [])) (put-form h))
