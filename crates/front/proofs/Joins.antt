-- Series holds where both lists do and parallel where one does; the laws of the two follow from those of "and" and "or".
use mathlib.Core.Path.{◌≡◌, refl, sym, ap, ap₂, ◌∙◌}
use mathlib.Core.Logic.{⊎_elim}
use mathlib.Core.Bool.{Bool, ◌&&◌, ◌||◌, and-or_distrib_right, and-false, and_comm, or_comm, and_assoc, or_assoc, and_self, or_self, and-or_distrib_left, or-and_distrib_left}
use mathlib.Core.List.Memᴰ
use mathlib.Core.List.{List, [], ◌∷◌, ◌++◌, map}
use Prim.Native.Nat.{ℕ}
use native.Mathlib.Omega.{arith}
use Rattle.laws.specs.Members.{here, there, any_append}
use Rattle.front.specs.declared.Pair.{Pair}
use Rattle.front.specs.Pair.{min_pair, holds_at}
use Rattle.front.specs.Front.{holds, front, minima, series_front, parallel_front, AllWithin}
use Rattle.front.specs.Steps.{RecordForm}
use Rattle.front.proofs.Pairs.{numbers, min-holds}
use Rattle.front.proofs.Fronts.{front-within, front-form, front-holds, form-same}

pub minima-holds : (l m : List Pair) (a b : ℕ) → holds (minima l m) a b ≡ (holds l a b && holds m a b)
minima-holds [] m a b = refl
minima-holds (p ∷ l) m a b =
    any_append (λ q. holds_at q a b) (map (min_pair p) m) (minima l m) ∙ ap₂ ◌||◌ (one m) (minima-holds l m a b)
    ∙ sym (and-or_distrib_right (holds_at p a b) (holds l a b) (holds m a b))
  where
    one : (m : List Pair) → holds (map (min_pair p) m) a b ≡ (holds_at p a b && holds m a b)
    one [] = sym (and-false (holds_at p a b))
    one (q ∷ m) = ap₂ ◌||◌ (min-holds p q a b) (one m) ∙ sym (and-or_distrib_left (holds_at p a b) (holds_at q a b) (holds m a b))

pub minima-within : (n1 n2 : ℕ) (l m : List Pair) → AllWithin n1 n2 l → AllWithin n1 n2 m → AllWithin n1 n2 (minima l m)
minima-within n1 n2 [] m w v r h = elim h [ ]
minima-within n1 n2 (p ∷ l) m w v r h =
    ⊎_elim (λ k. let s = Memᴰ.of_map (min_pair p) m k in omega (arith, w p here, v s.0 s.1, numbers s.2))
    (minima-within n1 n2 l m (λ q k. w q (there k)) v r) (Memᴰ.append_cases (map (min_pair p) m) h)

pub append-within : (n1 n2 : ℕ) (l m : List Pair) → AllWithin n1 n2 l → AllWithin n1 n2 m → AllWithin n1 n2 (l ++ m)
append-within n1 n2 l m w v p h = ⊎_elim (w p) (v p) (Memᴰ.append_cases l h)

module _ (n1 n2 : ℕ) (l m : List Pair) (w : AllWithin n1 n2 l) (v : AllWithin n1 n2 m) (a b : ℕ) where
  pub series-holds : holds (series_front n1 n2 l m) a b ≡ (holds l a b && holds m a b)
  series-holds = front-holds n1 n2 (minima l m) (minima-within n1 n2 l m w v) a b ∙ minima-holds l m a b

  pub parallel-holds : holds (parallel_front n1 n2 l m) a b ≡ (holds l a b || holds m a b)
  parallel-holds = front-holds n1 n2 (l ++ m) (append-within n1 n2 l m w v) a b ∙ any_append (λ p. holds_at p a b) l m

-- ---- the laws
-- the pairs of which parallel takes the front, as `minima` are those of series
abbrev pub union : List Pair → List Pair → List Pair
union l m = l ++ m

-- the front of f's pairs holds where op says, of where the two lists do
abbrev HoldsBy : ℕ → ℕ → (List Pair → List Pair → List Pair) → (Bool → Bool → Bool) → Type 0
HoldsBy n1 n2 f op = (l m : List Pair) → AllWithin n1 n2 l → AllWithin n1 n2 m → (a b : ℕ) → holds (front n1 n2 (f l m)) a b ≡ op (holds l a b) (holds m a b)

module _ (n1 n2 : ℕ) where
  -- fronts that hold at the same counts are equal
  fronts : (l m : List Pair) → ((a b : ℕ) → holds (front n1 n2 l) a b ≡ holds (front n1 n2 m) a b) → front n1 n2 l ≡ front n1 n2 m
  fronts l m h = (form-same n1 n2 (front n1 n2 l) (front n1 n2 m) (front-form n1 n2 l) (front-form n1 n2 m)).1 (λ a b _ _. h a b)

  -- a law of op is one of the fronts
  module _ (f : List Pair → List Pair → List Pair) (op : Bool → Bool → Bool) (fh : HoldsBy n1 n2 f op) where
    abbrev F : List Pair → List Pair → List Pair
    F l m = front n1 n2 (f l m)

    comm : ((x y : Bool) → op x y ≡ op y x) → (l m : List Pair) → AllWithin n1 n2 l → AllWithin n1 n2 m → F l m ≡ F m l
    comm law l m w v = fronts (f l m) (f m l) (λ a b. fh l m w v a b ∙ law (holds l a b) (holds m a b) ∙ sym (fh m l v w a b))

    self : ((x : Bool) → op x x ≡ x) → (l : List Pair) → RecordForm n1 n2 l → F l l ≡ l
    self law l r = (form-same n1 n2 (F l l) l (front-form n1 n2 (f l l)) r).1 (λ a b _ _. fh l l r.within r.within a b ∙ law (holds l a b))

    module _ (l m : List Pair) (w : AllWithin n1 n2 l) (v : AllWithin n1 n2 m) (k : List Pair) (u : AllWithin n1 n2 k) where
      assoc : ((x y z : Bool) → op (op x y) z ≡ op x (op y z)) → F (F l m) k ≡ F l (F m k)
      assoc law =
          fronts (f (F l m) k) (f l (F m k)) (λ a b.
          fh (F l m) k (front-within n1 n2 (f l m)) u a b ∙ ap (λ t. op t (holds k a b)) (fh l m w v a b) ∙ law (holds l a b) (holds m a b) (holds k a b)
          ∙ ap (op (holds l a b)) (sym (fh m k v u a b)) ∙ sym (fh l (F m k) w (front-within n1 n2 (f m k)) a b))

      -- F over another such operation
      over : (g : List Pair → List Pair → List Pair) (or : Bool → Bool → Bool) → HoldsBy n1 n2 g or → ((x y z : Bool) → op x (or y z) ≡ or (op x y) (op x z))
          → F l (front n1 n2 (g m k)) ≡ front n1 n2 (g (F l m) (F l k))
      over g or gh law =
          fronts (f l (front n1 n2 (g m k))) (g (F l m) (F l k)) (λ a b.
          fh l (front n1 n2 (g m k)) w (front-within n1 n2 (g m k)) a b ∙ ap (op (holds l a b)) (gh m k v u a b) ∙ law (holds l a b) (holds m a b) (holds k a b)
          ∙ ap₂ or (sym (fh l m w v a b)) (sym (fh l k w u a b)) ∙ sym (gh (F l m) (F l k) (front-within n1 n2 (f l m)) (front-within n1 n2 (f l k)) a b))

  pub series-comm : (l m : List Pair) → AllWithin n1 n2 l → AllWithin n1 n2 m → series_front n1 n2 l m ≡ series_front n1 n2 m l
  series-comm = comm minima ◌&&◌ (series-holds n1 n2) and_comm

  pub parallel-comm : (l m : List Pair) → AllWithin n1 n2 l → AllWithin n1 n2 m → parallel_front n1 n2 l m ≡ parallel_front n1 n2 m l
  parallel-comm = comm union ◌||◌ (parallel-holds n1 n2) or_comm

  pub series-self : (l : List Pair) → RecordForm n1 n2 l → series_front n1 n2 l l ≡ l
  series-self = self minima ◌&&◌ (series-holds n1 n2) and_self

  pub parallel-self : (l : List Pair) → RecordForm n1 n2 l → parallel_front n1 n2 l l ≡ l
  parallel-self = self union ◌||◌ (parallel-holds n1 n2) or_self

  module _ (l m : List Pair) (w : AllWithin n1 n2 l) (v : AllWithin n1 n2 m) (k : List Pair) (u : AllWithin n1 n2 k) where
    pub series-assoc : series_front n1 n2 (series_front n1 n2 l m) k ≡ series_front n1 n2 l (series_front n1 n2 m k)
    series-assoc = assoc minima ◌&&◌ (series-holds n1 n2) l m w v k u and_assoc

    pub parallel-assoc : parallel_front n1 n2 (parallel_front n1 n2 l m) k ≡ parallel_front n1 n2 l (parallel_front n1 n2 m k)
    parallel-assoc = assoc union ◌||◌ (parallel-holds n1 n2) l m w v k u or_assoc

    pub series-over-parallel : series_front n1 n2 l (parallel_front n1 n2 m k) ≡ parallel_front n1 n2 (series_front n1 n2 l m) (series_front n1 n2 l k)
    series-over-parallel = over minima ◌&&◌ (series-holds n1 n2) l m w v k u union ◌||◌ (parallel-holds n1 n2) and-or_distrib_left

    pub parallel-over-series : parallel_front n1 n2 l (series_front n1 n2 m k) ≡ series_front n1 n2 (parallel_front n1 n2 l m) (parallel_front n1 n2 l k)
    parallel-over-series = over union ◌||◌ (parallel-holds n1 n2) l m w v k u minima ◌&&◌ (series-holds n1 n2) or-and_distrib_left
