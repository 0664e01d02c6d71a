-- Lists in which each member stands in a relation to every later one.
use Rattle.std.specs.Prelude.{◌≡◌, refl, ◌⊎◌, Bool, true, false, cond, List, [], ◌∷◌, ◌++◌, ℕ, zero, suc, drop}
use Rattle.std.proofs.Common.{sym, ap₂, ◌∙◌, subst, inl, inr, ⊎_elim}
use mathlib.Core.List.Memᴰ
use Rattle.laws.specs.Members.{◌∈◌, here, there, keep, keep_out}

module _ {A : Type 0} where
  abbrev pub Pairwise : (A → A → Type 0) → List A → Type 0
  Pairwise R [] = Unit
  Pairwise R (x ∷ xs) = ((y : A) → y ∈ xs → R x y) × Pairwise R xs

  module _ (R : A → A → Type 0) where
    pub pairwise_append : (l m : List A) → Pairwise R l → Pairwise R m → ((x y : A) → x ∈ l → y ∈ m → R x y) → Pairwise R (l ++ m)
    pairwise_append [] m p q c = q
    pairwise_append (x ∷ xs) m p q c =
        (λ y h. ⊎_elim (p.0 y) (c x y here) (Memᴰ.append_cases xs h), pairwise_append xs m p.1 q (λ a b h k. c a b (there h) k))

    -- what holds of a list holds of its two parts, and between them
    pub pairwise-left : (l m : List A) → Pairwise R (l ++ m) → Pairwise R l
    pairwise-left [] m p = tt
    pairwise-left (x ∷ xs) m p = (λ y h. p.0 y (Memᴰ.append_left m h), pairwise-left xs m p.1)

    pub pairwise_drop : (i : ℕ) (l : List A) → Pairwise R l → Pairwise R (drop i l)
    pairwise_drop zero l p = p
    pairwise_drop (suc i) [] p = tt
    pairwise_drop (suc i) (x ∷ xs) p = pairwise_drop i xs p.1

    pub pairwise-across : (l m : List A) → Pairwise R (l ++ m) → (x y : A) → x ∈ l → y ∈ m → R x y
    pairwise-across (z ∷ l) m p x y (Memᴰ.head e) k = rw e (p.0 y (Memᴰ.append_right l k))
    pairwise-across (z ∷ l) m p x y (Memᴰ.tail h) k = pairwise-across l m p.1 x y h k
    pairwise-across [] m p x y h k = elim h [ ]

    pub pairwise-keep : (f : A → Bool) (l : List A) → Pairwise R l → Pairwise R (keep f l)
    pairwise-keep f [] p = tt
    pairwise-keep f (x ∷ xs) p = go (f x) (pairwise-keep f xs p.1)
      where
        go : (b : Bool) → Pairwise R (keep f xs) → Pairwise R (cond b (x ∷ keep f xs) (keep f xs))
        go true q = (λ y m. p.0 y (keep_out f xs m).0, q)
        go false q = q

    -- from one relation to another, where it holds of members
    pub pairwise-to : (S : A → A → Type 0) (l : List A) → Pairwise R l → ((x y : A) → x ∈ l → y ∈ l → R x y → S x y) → Pairwise S l
    pairwise-to S [] p c = tt
    pairwise-to S (x ∷ xs) p c = (λ y m. c x y here (there m) (p.0 y m), pairwise-to S xs p.1 (λ a b h k. c a b (there h) (there k)))

    -- two members are one, or stand in R one way or the other
    pub pairwise-either : (l : List A) → Pairwise R l → {x y : A} → x ∈ l → y ∈ l → (x ≡ y) ⊎ (R x y ⊎ R y x)
    pairwise-either (z ∷ l) p (Memᴰ.head e) (Memᴰ.head f) = inl (e ∙ sym f)
    pairwise-either (z ∷ l) p {x} {y} (Memᴰ.head e) (Memᴰ.tail k) = inr (inl (rw e (p.0 y k)))
    pairwise-either (z ∷ l) p {x} {y} (Memᴰ.tail h) (Memᴰ.head f) = inr (inr (rw f (p.0 x h)))
    pairwise-either (z ∷ l) p (Memᴰ.tail h) (Memᴰ.tail k) = pairwise-either l p.1 h k
    pairwise-either [] p h k = elim h [ ]

    -- two lists in a strict order are equal when they have the same members
    pub pairwise-same : ((x y : A) → R x y → R y x → ⊥) → (l m : List A) → Pairwise R l → Pairwise R m
        → ((x : A) → x ∈ l → x ∈ m) → ((x : A) → x ∈ m → x ∈ l) → l ≡ m
    pairwise-same strict [] [] p q to from = refl
    pairwise-same strict [] (y ∷ m) p q to from = elim (from y here) [ ]
    pairwise-same strict (x ∷ l) [] p q to from = elim (to x here) [ ]
    pairwise-same strict (x ∷ l) (y ∷ m) p q to from = ap₂ ◌∷◌ heads (pairwise-same strict l m p.1 q.1 on back)
      where
        heads : x ≡ y
        heads = first (to x here) (from y here)
          where
            first : x ∈ y ∷ m → y ∈ x ∷ l → x ≡ y
            first (Memᴰ.head e) k = e
            first (Memᴰ.tail h) (Memᴰ.head e) = sym e
            first (Memᴰ.tail h) (Memᴰ.tail k) = absurd (strict x y (p.0 y k) (q.0 x h))

        -- a later member of one list is no head of the other
        rest : {u v : A} (k j : List A) → Pairwise R (u ∷ k) → u ≡ v → (z : A) → z ∈ k → z ∈ v ∷ j → z ∈ j
        rest k j r e z h (Memᴰ.tail n) = n
        rest {u} {v} k j r e z h (Memᴰ.head i) = let s : R u u = subst (R u) (i ∙ sym e) (r.0 z h) in absurd (strict u u s s)

        on : (z : A) → z ∈ l → z ∈ m
        on z h = rest l m p heads z h (to z (there h))

        back : (z : A) → z ∈ m → z ∈ l
        back z h = rest m l q (sym heads) z h (from z (there h))
