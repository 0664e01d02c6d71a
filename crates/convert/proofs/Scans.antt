-- One turn of each loop: arcs two bytes by two, tested or written, and the table of places.
use mathlib.Core.Path.{◌≡◌, refl, sym, ap, ◌∙◌}
use mathlib.Core.Bool.{Bool, ◌||◌, or_assoc, or-false}
use mathlib.Core.List.{List, [], ◌∷◌, ◌++◌, map}
use Prim.Native.Nat.{ℕ, zero, suc, ◌+◌, ◌*◌, ◌/◌, ◌≤◌, ◌<◌}
use native.Mathlib.Numerals.{add-one}
use native.Mathlib.Omega.{arith}
use lib.ListN.{length, get_or, set, take, drop, length-drop, length-map}
use lib.Seq.{length-take-le, take-length, paste, paste-suc, length-paste}
use Rattle.limits.specs.Limits.{arc_size}
use Rattle.laws.specs.Members.{any}
use Rattle.laws.specs.Parts.{drop-two}
use Rattle.orders.specs.Order.{place_in_class}
use Rattle.slices.proofs.Placing.{placed-next}
use Rattle.slices.specs.Steps.{placed}
use Rattle.parts.specs.Study.{Arc}
use Rattle.parts.specs.Steps.{bad_before}
use Rattle.parts.specs.Tests.{bad_arc}
use Rattle.split.proofs.Members.{map_at}
use Rattle.convert.specs.Old.{old_arc_size, old_arcs_from, old_bad_arcs}
use Rattle.convert.specs.Convert.{with_kinds}
use Rattle.convert.proofs.Entries.{kinds-length}

-- ---- a test of arcs: what is found so far, and what the arcs from i on say
abbrev pub any_arc : (Arc → Bool) → List ℕ → ℕ → Bool
any_arc f l i = any f (old_arcs_from i (drop (old_arc_size * i) l))

pub arc-next : (f : Arc → Bool) (b : Bool) (l : List ℕ) (i : ℕ) → old_arc_size * i + 1 < length l
    → (b || any_arc f l i) ≡ (b || f (record { from = get_or l (old_arc_size * i) 0; to = get_or l (old_arc_size * i + 1) 0; place = i }) || any_arc f l (i + 1))
arc-next f b l i h =
    let e : old_arc_size * i + 2 ≡ old_arc_size * (i + 1) = omega arith in
    let a : Arc = record { from = get_or l (old_arc_size * i) 0; to = get_or l (old_arc_size * i + 1) 0; place = i } in
    ap (λ m. b || any f (old_arcs_from i m)) (drop-two l (old_arc_size * i) 0 h) ∙ sym (or_assoc b (f a) (any f (old_arcs_from (suc i) (drop (old_arc_size * i + 2) l)))) ∙ rw (e, ← add-one i)

pub arc-end : (f : Arc → Bool) (b : Bool) (l : List ℕ) (i : ℕ) → length l ≤ old_arc_size * i + 1 → (b || any_arc f l i) ≡ b
arc-end f b l i h = rw (few i (drop (old_arc_size * i) l) (omega (arith, length-drop (old_arc_size * i) l)), or-false b)
  where
    few : (j : ℕ) (m : List ℕ) → length m ≤ 1 → old_arcs_from j m ≡ []
    few j [] k = refl
    few j (x ∷ []) k = refl
    few j (x ∷ y ∷ m) k = absurd (omega arith)

-- the scan for a bad one, of arcs of two bytes
bad_to : (n : ℕ) (l : List ℕ) (i : ℕ) → i ≤ length l / old_arc_size → old_bad_arcs n l ≡ (bad_before n old_arc_size l i || any_arc (λ k. bad_arc n k.from k.to) l i)
bad_to n l zero h = refl
bad_to n l (suc i) h = bad_to n l i (omega arith) ∙ arc-next (λ k. bad_arc n k.from k.to) (bad_before n old_arc_size l i) l i (omega arith) ∙ rw (add-one i)

pub bad_all : (n : ℕ) (l : List ℕ) → old_bad_arcs n l ≡ bad_before n old_arc_size l (length l / old_arc_size)
bad_all n l = let i = length l / old_arc_size in bad_to n l i (omega arith) ∙ arc-end (λ k. bad_arc n k.from k.to) (bad_before n old_arc_size l i) l i (omega arith)

-- ---- entries of kind 0
-- one more behind i of them
kinds-next : (b : List ℕ) (i : ℕ) → old_arc_size * i + 1 < length b
    → with_kinds (take (old_arc_size * i) b) ++ (get_or b (old_arc_size * i) 0 ∷ get_or b (old_arc_size * i + 1) 0 ∷ 0 ∷ []) ≡ with_kinds (take (old_arc_size * (i + 1)) b)
kinds-next [] i h = absurd (omega arith)
kinds-next (x ∷ []) i h = absurd (omega arith)
kinds-next (x ∷ y ∷ b) zero h = refl
kinds-next (x ∷ y ∷ b) (suc i) h =
    let e : old_arc_size * suc i ≡ suc (suc (old_arc_size * i)) = omega arith in
    let g : suc (suc (old_arc_size * i)) + 1 ≡ suc (suc (old_arc_size * i + 1)) = omega arith in
    let k : old_arc_size * (suc i + 1) ≡ suc (suc (old_arc_size * (i + 1))) = omega arith in
    rw (e, g, k) (ap (λ r. x ∷ y ∷ 0 ∷ r) (kinds-next b i (omega arith)))

pub put_next : (at : ℕ) (b : List ℕ) (i : ℕ) (d : List ℕ) → old_arc_size * i + 1 < length b → at + arc_size * i ≤ length d
    → placed (at + arc_size * i) (get_or b (old_arc_size * i) 0 ∷ get_or b (old_arc_size * i + 1) 0 ∷ 0 ∷ []) (placed at (with_kinds (take (old_arc_size * i) b)) d)
    ≡ placed at (with_kinds (take (old_arc_size * (i + 1)) b)) d
put_next at b i d h room =
    let x = with_kinds (take (old_arc_size * i) b) in
    let y = get_or b (old_arc_size * i) 0 ∷ get_or b (old_arc_size * i + 1) 0 ∷ 0 ∷ [] in
    let e : arc_size * i ≡ length x = omega (arith, kinds-length (take (old_arc_size * i) b), length-take-le (old_arc_size * i) b (omega arith)) in
    ap (λ n. placed (at + n) y (placed at x d)) e ∙ placed-next at x y d (omega (arith, e)) ∙ ap (λ z. placed at z d) (kinds-next b i h)

-- all of them
pub kinds-all : (b : List ℕ) → with_kinds (take (old_arc_size * (length b / old_arc_size)) b) ≡ with_kinds b
kinds-all [] = refl
kinds-all (x ∷ []) = refl
kinds-all (x ∷ y ∷ b) =
    let e : old_arc_size * (suc (suc (length b)) / old_arc_size) ≡ suc (suc (old_arc_size * (length b / old_arc_size))) = omega arith in
    ap (λ n. with_kinds (take n (x ∷ y ∷ b))) e ∙ ap (λ r. x ∷ y ∷ 0 ∷ r) (kinds-all b)

-- ---- the table of places, of the nodes before v
abbrev pub TableTo : ℕ → List ℕ → List ℕ → Type 0
TableTo v nodes table = (u : ℕ) → u < v → get_or table u 0 ≡ place_in_class nodes u

-- ---- bytes by a table
module _ (f : ℕ → ℕ) (b d : List ℕ) (at : ℕ) (room : at + length b ≤ length d) where
  -- i of them are written
  abbrev pub written : ℕ → List ℕ
  written i = paste d at (map f b) i

  pub written-length : (i : ℕ) → i ≤ length b → length (written i) ≡ length d
  written-length i h = length-paste d at (map f b) i (omega arith) (omega (arith, length-map b f))

  pub written_next : (i : ℕ) → i < length b → set (written i) (at + i) (f (get_or b i 0)) ≡ written (i + 1)
  written_next i h =
      let e : i + 1 ≡ suc i = omega arith in
      ap (set (written i) (at + i)) (sym (map_at f b i h)) ∙ paste-suc d at (map f b) i 0 (omega arith) (omega (arith, length-map b f)) ∙ ap written (sym e)

  pub written_all : (i : ℕ) → i ≡ length b → written i ≡ placed at (map f b) d
  written_all i e =
      let m = map f b in
      ap written (e ∙ sym (length-map b f)) ∙ ap (λ x. take at d ++ x ++ drop (at + length m) d) (take-length m)
