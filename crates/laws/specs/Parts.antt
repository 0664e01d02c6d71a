-- Parts of lists: two elements stored or read side by side, and parts of parts.
use Rattle.std.specs.Prelude.{◌≡◌, refl, List, [], ◌∷◌, ◌++◌, ℕ, zero, suc, ◌+◌, ◌-◌, ◌≤◌, ◌<◌, length, get_or, set, take, drop, replicate}
use Rattle.std.proofs.Common.{sym, ap, ◌∙◌, arith, length-append, length-drop, drop-cons, take_all, take-take}
use Rattle.std.proofs.lemmas.List.{set_at}
use Rattle.std.proofs.Math.Seq.{append_snoc, take-nil}

module _ {A : Type 0} where
  -- stores at n and n + 1, where n elements stand in front
  pub set-two : (p : List A) (x y : A) (z : List A) (a b : A) (n : ℕ) → length p ≡ n → set (set (p ++ x ∷ y ∷ z) n a) (n + 1) b ≡ p ++ a ∷ b ∷ z
  set-two p x y z a b n e =
      ap (λ l. set l (n + 1) b) (set_at p x (y ∷ z) a n e ∙ sym (append_snoc p a (y ∷ z)))
      ∙ set_at (p ++ (a ∷ [])) y z b (n + 1) (length-append p (a ∷ []) ∙ ap (λ k. k + 1) e) ∙ append_snoc p a (b ∷ z)

  -- the two elements at n and n + 1, and what follows them
  pub drop-two : (l : List A) (n : ℕ) (d : A) → n + 1 < length l → drop n l ≡ get_or l n d ∷ get_or l (n + 1) d ∷ drop (n + 2) l
  drop-two l n d h =
      let e : n + 1 ≡ suc n = omega arith in
      let f : n + 2 ≡ suc (n + 1) = omega arith in
      let g = ap (λ k. drop k l) (sym e) ∙ drop-cons l (n + 1) d h ∙ ap (λ k. get_or l (n + 1) d ∷ drop k l) (sym f) in
      drop-cons l n d (omega arith) ∙ ap (λ r. get_or l n d ∷ r) g

  -- a part that reaches to the end
  pub tail-part : (l : List A) (n : ℕ) → take (length l - n) (drop n l) ≡ drop n l
  tail-part l n = take_all (length l - n) (drop n l) (omega (arith, length-drop n l))

  -- a list of one element, n times
  pub get_or-same : (n i : ℕ) (a : A) → get_or (replicate n a) i a ≡ a
  get_or-same zero i a = refl
  get_or-same (suc n) zero a = refl
  get_or-same (suc n) (suc i) a = get_or-same n i a

  -- a part of a part
  pub part-part : (l : List A) (at n m : ℕ) → at + n ≤ m → take n (drop at (take m l)) ≡ take n (drop at l)
  part-part l zero n m h = take-take n m l (omega arith)
  part-part [] (suc at) n m h = ap (λ r. take n (drop (suc at) r)) (take-nil m)
  part-part (x ∷ l) (suc at) n zero h = absurd (omega arith)
  part-part (x ∷ l) (suc at) n (suc m) h = part-part l at n m (omega arith)
