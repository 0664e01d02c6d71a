-- The members of a list: tests that some or all of them pass, and the list of those that pass one.
use Rattle.std.specs.Prelude.{◌≡◌, refl, ◌↔◌, Bool, true, false, not, ◌&&◌, ◌||◌, cond, List, [], ◌∷◌, ◌++◌, map, ℕ, zero, suc, ◌≤◌, ◌<◌, T, eqb, length, get_or}
use Rattle.std.proofs.Common.{sym, ap, ap₂, ◌∙◌, subst, inl, inr, ⊎_elim, append-nil, append_assoc, arith, eqb→eq}
use Rattle.std.proofs.Math.Bool.{or_assoc}
use mathlib.Core.List.Memᴰ
use mathlib.Core.List.{Memᴰ}
use Rattle.std.proofs.Math.Dec.{eqb_refl}
use Rattle.laws.specs.Tests.{T_and, T-or, T_not}

module _ {A : Type 0} where
  infix 4 ◌∈◌
  abbrev pub ◌∈◌ : A → List A → Type 0
  a ∈ l = Memᴰ a l

  pub here : {a : A} {l : List A} → a ∈ a ∷ l
  here = Memᴰ.head refl

  pub there : {a b : A} {l : List A} → a ∈ l → a ∈ b ∷ l
  there m = Memᴰ.tail m

  pub at_in : (l : List A) (i : ℕ) (d : A) → i < length l → get_or l i d ∈ l
  at_in [] i d h = absurd (omega arith)
  at_in (x ∷ xs) zero d h = here
  at_in (x ∷ xs) (suc i) d h = there (at_in xs i d (omega arith))

  -- ---- some member passes a test
  abbrev pub any : (A → Bool) → List A → Bool
  any f [] = false
  any f (x ∷ xs) = f x || any f xs

  pub any_out : (f : A → Bool) (l : List A) → T (any f l) → (x : A) × (x ∈ l) × T (f x)
  any_out f (x ∷ xs) t = ⊎_elim (λ h. (x, here, h)) (λ h. let r = any_out f xs h in (r.0, there r.1, r.2)) ((T-or (f x) (any f xs)).0 t)
  any_out f [] t = absurd t

  pub any-in : (f : A → Bool) {x : A} {l : List A} → x ∈ l → T (f x) → T (any f l)
  any-in f (Memᴰ.head {x = y} {xs = ys} e) h = (T-or (f y) (any f ys)).1 (inl (subst (λ z. T (f z)) e h))
  any-in f (Memᴰ.tail {x = y} {xs = ys} m) h = (T-or (f y) (any f ys)).1 (inr (any-in f m h))

  pub any_append : (f : A → Bool) (l m : List A) → any f (l ++ m) ≡ (any f l || any f m)
  any_append f [] m = refl
  any_append f (x ∷ xs) m = ap (λ b. f x || b) (any_append f xs m) ∙ sym (or_assoc (f x) (any f xs) (any f m))

  -- ---- every member passes a test
  abbrev pub all : (A → Bool) → List A → Bool
  all f [] = true
  all f (x ∷ xs) = f x && all f xs

  pub all_are : (f : A → Bool) (l : List A) → T (all f l) ↔ ((x : A) → x ∈ l → T (f x))
  all_are f [] = (λ t x m. elim m [ ], λ h. tt)
  all_are f (x ∷ xs) =
      let e = T_and (f x) (all f xs) in
      let r = all_are f xs in
      (λ t. both (e.0 t).0 (r.0 (e.0 t).1), λ h. e.1 (h x here, r.1 (λ y m. h y (there m))))
    where
      both : T (f x) → ((y : A) → y ∈ xs → T (f y)) → (y : A) → y ∈ x ∷ xs → T (f y)
      both t h y (Memᴰ.head q) = subst (λ z. T (f z)) (sym q) t
      both t h y (Memᴰ.tail m) = h y m

  -- ---- the members that pass a test, in the list's order
  abbrev pub keep : (A → Bool) → List A → List A
  keep f [] = []
  keep f (x ∷ xs) = cond (f x) (x ∷ keep f xs) (keep f xs)

  pub keep_out : (f : A → Bool) (l : List A) {x : A} → x ∈ keep f l → (x ∈ l) × T (f x)
  keep_out f (y ∷ l) {x} m = go (f y) refl m (λ q. let r = keep_out f l q in (there r.0, r.1))
    where
      go : (b : Bool) → f y ≡ b → x ∈ cond b (y ∷ keep f l) (keep f l) → (x ∈ keep f l → (x ∈ y ∷ l) × T (f x)) → (x ∈ y ∷ l) × T (f x)
      go true e (Memᴰ.head p) rest = (Memᴰ.head p, subst T (sym e ∙ ap f (sym p)) tt)
      go true e (Memᴰ.tail q) rest = rest q
      go false e q rest = rest q
  keep_out f [] m = elim m [ ]

  pub keep-in : (f : A → Bool) {x : A} {l : List A} → x ∈ l → T (f x) → x ∈ keep f l
  keep-in f {x} (Memᴰ.head {x = y} {xs = ys} e) h = go (f y) (subst (λ z. T (f z)) e h)
    where
      go : (b : Bool) → T b → x ∈ cond b (y ∷ keep f ys) (keep f ys)
      go true t = Memᴰ.head e
      go false t = absurd t
  keep-in f {x} (Memᴰ.tail {x = y} {xs = ys} m) h = go (f y) (keep-in f m h)
    where
      go : (b : Bool) → x ∈ keep f ys → x ∈ cond b (y ∷ keep f ys) (keep f ys)
      go true q = Memᴰ.tail q
      go false q = q

  pub keep_same : (f g : A → Bool) (l : List A) → ((x : A) → x ∈ l → f x ≡ g x) → keep f l ≡ keep g l
  keep_same f g [] h = refl
  keep_same f g (x ∷ xs) h = rw (h x here, keep_same f g xs (λ y m. h y (there m)))

  pub keep-length : (f : A → Bool) (l : List A) → length (keep f l) ≤ length l
  keep-length f [] = omega arith
  keep-length f (x ∷ xs) = go (f x) (keep-length f xs)
    where
      go : (b : Bool) → length (keep f xs) ≤ length xs → length (cond b (x ∷ keep f xs) (keep f xs)) ≤ suc (length xs)
      go true h = omega arith
      go false h = omega arith

  -- a member that does not pass is left out
  pub keep-fewer : (f : A → Bool) {x : A} {l : List A} → x ∈ l → (T (f x) → ⊥) → length (keep f l) < length l
  keep-fewer f (Memᴰ.head {x = y} {xs = ys} e) d = go (f y) (subst (λ z. T (f z) → ⊥) e d) (keep-length f ys)
    where
      go : (b : Bool) → (T b → ⊥) → length (keep f ys) ≤ length ys → length (cond b (y ∷ keep f ys) (keep f ys)) < suc (length ys)
      go true n h = absurd (n tt)
      go false n h = omega arith
  keep-fewer f (Memᴰ.tail {x = y} {xs = ys} m) d = go (f y) (keep-fewer f m d)
    where
      go : (b : Bool) → length (keep f ys) < length ys → length (cond b (y ∷ keep f ys) (keep f ys)) < suc (length ys)
      go true h = omega arith
      go false h = omega arith

  pub in-length : {x : A} {l : List A} → x ∈ l → 0 < length l
  in-length (Memᴰ.head e) = omega arith
  in-length (Memᴰ.tail m) = omega arith

-- two functions that agree on the members
pub map_same : {A B : Type 0} (f g : A → B) (l : List A) → ((x : A) → x ∈ l → f x ≡ g x) → map f l ≡ map g l
map_same f g [] h = refl
map_same f g (x ∷ l) h = ap₂ ◌∷◌ (h x here) (map_same f g l (λ y m. h y (there m)))

-- ---- the lists that f gives for the members, one after another
module _ {A B : Type 0} (f : A → List B) where
  abbrev pub concat_map : List A → List B
  concat_map [] = []
  concat_map (x ∷ xs) = f x ++ concat_map xs

  pub concat_map-snoc : (l : List A) (x : A) → concat_map (l ++ (x ∷ [])) ≡ concat_map l ++ f x
  concat_map-snoc [] x = append-nil (f x)
  concat_map-snoc (y ∷ l) x = ap (λ z. f y ++ z) (concat_map-snoc l x) ∙ sym (append_assoc (f y) (concat_map l) (f x))

  pub concat_map-out : (l : List A) {y : B} → y ∈ concat_map l → (x : A) × (x ∈ l) × (y ∈ f x)
  concat_map-out (x ∷ xs) h = ⊎_elim (λ k. (x, here, k)) (λ k. let r = concat_map-out xs k in (r.0, there r.1, r.2)) (Memᴰ.append_cases (f x) h)
  concat_map-out [] h = elim h [ ]

  pub concat_map-in : {x : A} {l : List A} {y : B} → x ∈ l → y ∈ f x → y ∈ concat_map l
  concat_map-in {y = y} (Memᴰ.head {x = z} {xs = zs} e) h = Memᴰ.append_left (concat_map zs) (subst (λ w. y ∈ f w) e h)
  concat_map-in (Memᴰ.tail {x = z} m) h = Memᴰ.append_right (f z) (concat_map-in m h)

-- ---- lists of numbers
abbrev pub member : ℕ → List ℕ → Bool
member x l = any (eqb x) l

pub member-out : (x : ℕ) (l : List ℕ) → T (member x l) → x ∈ l
member-out x l t = let r = any_out (eqb x) l t in Memᴰ.cast (eqb→eq x r.0 r.2) r.1

pub member-in : {x : ℕ} {l : List ℕ} → x ∈ l → T (member x l)
member-in {x} m = any-in (eqb x) m (eqb_refl x)

-- the list without x
abbrev pub without : ℕ → List ℕ → List ℕ
without x l = keep (λ y. not (eqb x y)) l

pub without-out : (x : ℕ) (l : List ℕ) {y : ℕ} → y ∈ without x l → (y ∈ l) × (x ≡ y → ⊥)
without-out x l {y} m = let r = keep_out (λ z. not (eqb x z)) l m in (r.0, λ e. (T_not (eqb x y)).0 r.1 (subst (λ z. T (eqb x z)) e (eqb_refl x)))

pub without_in : (x : ℕ) {l : List ℕ} {y : ℕ} → y ∈ l → (x ≡ y → ⊥) → y ∈ without x l
without_in x {l} {y} m d = keep-in (λ z. not (eqb x z)) m ((T_not (eqb x y)).1 (λ t. d (eqb→eq x y t)))

pub without-length : {x : ℕ} {l : List ℕ} → x ∈ l → length (without x l) < length l
without-length {x} m = keep-fewer (λ y. not (eqb x y)) m (λ t. (T_not (eqb x x)).0 t (eqb_refl x))
