-- The arcs of entries, by place: two arcs of one place are the two ways of one entry. And the number of elements.
use mathlib.Core.Path.{◌≡◌, sym, ap, ◌∙◌}
use mathlib.Core.Logic.{◌⊎◌, inl, inr, ⊎_elim}
use mathlib.Core.Bool.{Bool, true, false, cond}
use mathlib.Core.List.Memᴰ
use mathlib.Core.List.{List, [], ◌∷◌, map}
use Prim.Native.Nat.{ℕ, suc, ◌+◌, ◌≤◌, ◌<◌}
use native.Mathlib.Omega.{arith}
use lib.Dec.{ltb}
use lib.ListN.{length, length-append, length-map}
use Rattle.laws.specs.Members.{◌∈◌, here, there}
use Rattle.parts.specs.Study.{Entry, Arc, entry_class, ways, arcs_from, elements}

-- k is a way of the entry x, forward or back
abbrev pub Way : Entry → Arc → Type 0
Way x k = ((k.from ≡ x.from) × (k.to ≡ x.to)) ⊎ ((k.from ≡ x.to) × (k.to ≡ x.from))

way_out : (i : ℕ) (x : Entry) (k : Arc) → k ∈ ways i x → (k.place ≡ i) × Way x k
way_out i x k m = ⊎_elim forth (λ q. back (ltb 2 x.kind) q) (Memᴰ.cases_cons m)
  where
    forth : k ≡ record { from = x.from; to = x.to; place = i } → (k.place ≡ i) × Way x k
    forth e = (ap (λ (a : Arc). a.place) e, inl (ap (λ (a : Arc). a.from) e, ap (λ (a : Arc). a.to) e))

    back : (o : Bool) → k ∈ cond o (record { from = x.to; to = x.from; place = i } ∷ []) [] → (k.place ≡ i) × Way x k
    back true q = ⊎_elim (λ e. (ap (λ (a : Arc). a.place) e, inr (ap (λ (a : Arc). a.from) e, ap (λ (a : Arc). a.to) e))) (λ z. elim z [ ]) (Memᴰ.cases_cons q)
    back false q = elim q [ ]

-- an arc is a way of an entry, and its place is one of theirs
pub arc-entry : (l : List Entry) (i : ℕ) (k : Arc) → k ∈ arcs_from i l → (x : Entry) × (x ∈ l) × Way x k
arc-entry [] i k m = elim m [ ]
arc-entry (x ∷ l) i k m =
    ⊎_elim (λ q. (x, here, (way_out i x k q).1)) (λ q. let r = arc-entry l (suc i) k q in (r.0, there r.1, r.2)) (Memᴰ.append_cases (ways i x) m)

pub arc-place : (l : List Entry) (i : ℕ) (k : Arc) → k ∈ arcs_from i l → (i ≤ k.place) × (k.place < i + length l)
arc-place [] i k m = elim m [ ]
arc-place (x ∷ l) i k m =
    ⊎_elim (λ q. let e = (way_out i x k q).0 in (omega arith, omega arith)) (λ q. let r = arc-place l (suc i) k q in (omega (arith, r.0), omega (arith, r.1)))
    (Memᴰ.append_cases (ways i x) m)

-- two arcs of one place: the second leads where the first does, or back to where the first begins
one_entry : (x : Entry) (k l : Arc) → Way x k → Way x l → (l.to ≡ k.to) ⊎ (l.to ≡ k.from)
one_entry x k l (inl f) (inl g) = inl (g.1 ∙ sym f.1)
one_entry x k l (inl f) (inr g) = inr (g.1 ∙ sym f.0)
one_entry x k l (inr f) (inl g) = inr (g.1 ∙ sym f.0)
one_entry x k l (inr f) (inr g) = inl (g.1 ∙ sym f.1)

pub twins : (entries : List Entry) (i : ℕ) (k l : Arc) → k ∈ arcs_from i entries → l ∈ arcs_from i entries → k.place ≡ l.place → (l.to ≡ k.to) ⊎ (l.to ≡ k.from)
twins [] i k l m n e = elim m [ ]
twins (x ∷ xs) i k l m n e = go (Memᴰ.append_cases (ways i x) m) (Memᴰ.append_cases (ways i x) n) (λ p q. twins xs (suc i) k l p q e)
  where
    go : (k ∈ ways i x) ⊎ (k ∈ arcs_from (suc i) xs) → (l ∈ ways i x) ⊎ (l ∈ arcs_from (suc i) xs)
        → (k ∈ arcs_from (suc i) xs → l ∈ arcs_from (suc i) xs → (l.to ≡ k.to) ⊎ (l.to ≡ k.from)) → (l.to ≡ k.to) ⊎ (l.to ≡ k.from)
    go (inl p) (inl q) later = one_entry x k l (way_out i x k p).1 (way_out i x l q).1
    go (inl p) (inr q) later = absurd (omega (arith, e, (way_out i x k p).0, (arc-place xs (suc i) l q).0))
    go (inr p) (inl q) later = absurd (omega (arith, e, (way_out i x l q).0, (arc-place xs (suc i) k p).0))
    go (inr p) (inr q) later = later p q

-- ---- how many elements there are
pub elements-long : (nodes : List ℕ) (entries : List Entry) → length (elements nodes entries) ≡ length nodes + length entries
elements-long nodes entries = length-append nodes (map entry_class entries) ∙ ap (λ n. length nodes + n) (length-map entries entry_class)
