-- The scan over all rounds.
use mathlib.Core.Path.{◌≡◌, refl, sym, ap, ap₂, ◌∙◌}
use mathlib.Core.Bool.{Bool, true, ◌&&◌}
use mathlib.Core.List.{List, [], ◌∷◌}
use Prim.Native.Nat.{ℕ, suc, ◌+◌, ◌-◌, ◌*◌, ◌<◌}
use native.Mathlib.Omega.{arith}
use lib.ListN.{drop}
use lib.Seq.{drop-drop}
use Rattle.laws.specs.Members.{all}
use Rattle.parts.specs.Study.{pieces}
use Rattle.slices.specs.Bytes.{part_at}

-- two tests that agree
pub all_same : {A : Type 0} (f g : A → Bool) (l : List A) → ((x : A) → f x ≡ g x) → all f l ≡ all g l
all_same f g [] h = refl
all_same f g (x ∷ l) h = ap₂ ◌&&◌ (h x) (all_same f g l h)

module _ (good : List ℕ → Bool) (m n : ℕ) (b : List ℕ) where
  -- what the rounds from r on say
  abbrev pub good_from : ℕ → Bool
  good_from r = all good (pieces (m - r) n (drop (r * n) b))

  pub good-first : all good (pieces m n b) ≡ good_from 0
  good-first =
      let e : m ≡ m - 0 = omega arith in
      let z : 0 ≡ 0 * n = omega arith in
      ap (λ k. all good (pieces k n b)) e ∙ ap (λ k. all good (pieces (m - 0) n (drop k b))) z

  pub good-next : (r : ℕ) → r < m → good_from r ≡ (good (part_at (r * n) n b) && good_from (r + 1))
  good-next r h =
      let e : m - r ≡ suc (m - (r + 1)) = omega arith in
      let k : r * n + n ≡ (r + 1) * n = omega arith in
      ap (λ i. all good (pieces i n (drop (r * n) b))) e
      ∙ ap (λ l. good (part_at (r * n) n b) && all good (pieces (m - (r + 1)) n l)) (drop-drop n (r * n) b ∙ ap (λ i. drop i b) k)

  -- round r is tested
  pub good-turn : (r : ℕ) (one : List ℕ) (result : Bool) → all good (pieces m n b) ≡ good_from r → r < m → one ≡ part_at (r * n) n b → result ≡ good one
      → all good (pieces m n b) ≡ (result && good_from (r + 1))
  good-turn r one result so h e f = so ∙ good-next r h ∙ ap (λ x. x && good_from (r + 1)) (sym (f ∙ ap good e))

  pub good-end : good_from m ≡ true
  good-end = let e : m - m ≡ 0 = omega arith in ap (λ i. all good (pieces i n (drop (m * n) b))) e
