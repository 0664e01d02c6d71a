-- Positions filled in from the last place to the first, in one half of a slice.
use mathlib.Core.Path.{◌≡◌, refl, sym, ap, ◌∙◌, subst}
use mathlib.Core.Logic.{⊎_elim}
use mathlib.Core.List.{List, ◌∷◌}
use Prim.Native.Nat.{ℕ, suc, ◌+◌, ◌/◌, ◌≤◌, ◌<◌}
use native.Mathlib.Omega.{arith}
use lib.Dec.{T, eqb, eqb→eq, eqb_refl}
use lib.ListN.{length, get_or, set, drop, length-set}
use lib.Seq.{drop-cons, drop-length, get_or-set_same, get_or-set_other}
use borrow.Author.Tests.{eq-eqb, ne_eqb}
use Rattle.limits.specs.Limits.{max_class}
use Rattle.laws.specs.Tests.{decide, equal}
use Rattle.orders.specs.Order.{position}

-- ---- a part of the slice filled with one byte
pub record Filling (capacities₀ : List ℕ) (at past : ℕ) (capacities : List ℕ) (v : ℕ) : Type 0 where
  -- as long as before
  pub size : length capacities ≡ length capacities₀
  -- in one of the two halves
  pub half : at ≤ length capacities₀ / 2
  -- v places are filled
  pub upto : v ≤ length capacities₀ / 2
  pub done : (i : ℕ) → i < v → get_or capacities (at + i) 0 ≡ past
  -- what stands before is kept
  pub kept : (i : ℕ) → i < at → get_or capacities i 0 ≡ get_or capacities₀ i 0

pub fill_none : {capacities : List ℕ} (at past : ℕ) → at ≤ length capacities / 2 → Filling capacities at past capacities 0
fill_none at past h = record { size = refl; half = h; upto = omega arith; done = λ i b. absurd (omega arith); kept = λ i b. refl }

pub fill-again : {capacities₀ : List ℕ} {at past : ℕ} {capacities : List ℕ} {v : ℕ} → Filling capacities₀ at past capacities v → v < length capacities₀ / 2 → Filling capacities₀ at past (set capacities (at + v) past) (v + 1)
fill-again {at = at} {past = past} {capacities = capacities} {v = v} f h =
    record {
      size = length-set capacities (at + v) past ∙ f.size;
      half = f.half;
      upto = omega arith;
      done = λ i b.
          ⊎_elim (λ (e : i ≡ v). ap (λ j. get_or (set capacities (at + v) past) (at + j) 0) e ∙ get_or-set_same capacities (at + v) past 0 (omega (arith, f.size, f.half)))
          (λ n. get_or-set_other capacities (at + v) (at + i) past 0 (omega arith) ∙ f.done i (omega arith)) (equal i v);
      kept = λ i b. get_or-set_other capacities (at + v) i past 0 (omega arith) ∙ f.kept i b;
    }

-- ---- positions filled in from the last place to the first
-- the places from k on have been filled in, in the half that begins at `at`
pub record Placing (o : List ℕ) (at : ℕ) (capacities₀ capacities : List ℕ) (k : ℕ) : Type 0 where
  -- a place fits a byte
  pub small : length o ≤ max_class
  -- parts stand in the order
  pub nodes : (j : ℕ) → j < length o → get_or o j 0 < length capacities₀ / 2
  -- k places are left
  pub upto : k ≤ length o
  -- as long as before
  pub size : length capacities ≡ length capacities₀
  -- one of the two halves
  pub half : at ≤ length capacities₀ / 2
  -- the places from k on are filled in
  pub done : (v : ℕ) → v < length capacities₀ / 2 → get_or capacities (at + v) 0 ≡ k + position v (drop k o)
  -- what stands before is kept
  pub kept : (i : ℕ) → i < at → get_or capacities i 0 ≡ get_or capacities₀ i 0

pub place_none : {o : List ℕ} {at : ℕ} {capacities₀ capacities : List ℕ} → length o ≤ max_class → ((j : ℕ) → j < length o → get_or o j 0 < length capacities₀ / 2) → at ≤ length capacities₀ / 2 → length capacities ≡ length capacities₀
    → ((v : ℕ) → v < length capacities₀ / 2 → get_or capacities (at + v) 0 ≡ length o + 1) → ((i : ℕ) → i < at → get_or capacities i 0 ≡ get_or capacities₀ i 0) → Placing o at capacities₀ capacities (length o)
place_none {o} s n h l f k =
    record {
      small = s;
      nodes = n;
      upto = omega arith;
      size = l;
      half = h;
      done = λ v b. f v b ∙ omega (arith, ap (position v) (drop-length o));
      kept = k;
    }

module _ {o : List ℕ} {at : ℕ} {capacities₀ capacities : List ℕ} {k : ℕ} (p : Placing o at capacities₀ capacities k) (j : ℕ) (is : k ≡ suc j) (x : ℕ) (is_x : x ≡ get_or o j 0) where
  cut : drop j o ≡ x ∷ drop k o
  cut = rw (is, is_x) (drop-cons o j 0 (omega (arith, p.upto)))

  pub inside : (x < length capacities₀ / 2) × (at + x < length capacities)
  inside = omega (arith, is_x, p.nodes j (omega (arith, p.upto)), p.half, p.size)

  pub place-again : (y : ℕ) → y ≡ k → Placing o at capacities₀ (set capacities (at + x) y) j
  place-again y e =
      rw e (record {
        small = p.small;
        nodes = p.nodes;
        upto = omega (arith, p.upto);
        size = length-set capacities (at + x) k ∙ p.size;
        half = p.half;
        done = λ v b.
            ⊎_elim
            (λ t. let e = eqb→eq v x t in
            let q : position v (x ∷ drop k o) ≡ 1 = rw (eq-eqb x v (sym e)) in
            ap (λ y. get_or (set capacities (at + x) k) (at + y) 0) e ∙ get_or-set_same capacities (at + x) k 0 inside.1 ∙ omega (arith, ap (position v) cut, q))
            (λ n. let m : v ≡ x → ⊥ = λ e. n (subst (λ y. T (eqb v y)) e (eqb_refl v)) in
            let q : position v (x ∷ drop k o) ≡ suc (position v (drop k o)) = rw (ne_eqb x v (λ e. m (sym e))) in
            get_or-set_other capacities (at + x) (at + v) k 0 (λ e. m (omega arith)) ∙ omega (arith, p.done v b, ap (position v) cut, q))
            (decide (eqb v x));
        kept = λ i b. get_or-set_other capacities (at + x) i k 0 (omega arith) ∙ p.kept i b;
      })

pub placed : {o : List ℕ} {at : ℕ} {capacities₀ capacities : List ℕ} {k : ℕ} → Placing o at capacities₀ capacities k → k ≡ 0 → (v : ℕ) → v < length capacities₀ / 2 → get_or capacities (at + v) 0 ≡ position v o
placed {o} p e v b = omega (arith, p.done v b, ap (λ j. position v (drop j o)) e)
