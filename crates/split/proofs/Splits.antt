-- The arcs of a split list: each is an arc that never fails or a half of one that may, and all of them are there.
use mathlib.Core.Path.{◌≡◌, refl, ap, subst}
use mathlib.Core.Logic.{⊎_elim}
use mathlib.Core.Bool.{Bool, true, false}
use mathlib.Core.List.Memᴰ
use Prim.Native.Nat.{ℕ, ◌+◌}
use lib.Dec.{T}
use Rattle.laws.specs.Tests.{T_true}
use Rattle.laws.specs.Members.{◌∈◌, here, there, concat_map, concat_map-out, concat_map-in}
use Rattle.parts.specs.Study.{Arc}
use Rattle.network.specs.Walk.{Network}
use Rattle.split.specs.Steps.{Leads, Piece, whole, enters, leaves, halves, split_arc}

module _ (net : Network) (size : ℕ) (fails : ℕ → Bool) where
  abbrev into : Arc → Arc
  into k = record { from = k.from; to = size + k.place; place = k.place }

  abbrev onto : Arc → Arc
  onto k = record { from = size + k.place; to = k.to; place = k.place }

  pub arcs-pieces : (j : Arc) → j ∈ concat_map (split_arc size fails) net.arcs → Piece net fails (λ i. size + i) j
  arcs-pieces j m = let r = concat_map-out (split_arc size fails) net.arcs m in piece r.0 r.1 (fails r.0.place) refl r.2
    where
      piece : (k : Arc) → k ∈ net.arcs → (o : Bool) → fails k.place ≡ o → j ∈ halves o (size + k.place) k → Piece net fails (λ i. size + i) j
      piece k m true e q =
          let f = (T_true (fails k.place)).1 e in
          ⊎_elim (λ z. enters k m f (ap (λ (a : Arc). a.from) z) (ap (λ (a : Arc). a.to) z))
          (λ q. ⊎_elim (λ z. leaves k m f (ap (λ (a : Arc). a.from) z) (ap (λ (a : Arc). a.to) z)) (λ y. elim y [ ]) (Memᴰ.cases_cons q)) (Memᴰ.cases_cons q)
      piece k m false e q =
          ⊎_elim (λ z. whole k m (λ t. subst T e t) (ap (λ (a : Arc). a.from) z) (ap (λ (a : Arc). a.to) z)) (λ y. elim y [ ]) (Memᴰ.cases_cons q)

  pub arcs-kept : (k : Arc) → k ∈ net.arcs → (T (fails k.place) → ⊥) → Leads (concat_map (split_arc size fails) net.arcs) k.from k.to
  arcs-kept k m n = (k, concat_map-in (split_arc size fails) m (go (fails k.place) n), refl, refl)
    where
      go : (o : Bool) → (T o → ⊥) → k ∈ halves o (size + k.place) k
      go true d = absurd (d tt)
      go false d = here

  pub arcs-entered : (k : Arc) → k ∈ net.arcs → T (fails k.place) → Leads (concat_map (split_arc size fails) net.arcs) k.from (size + k.place)
  arcs-entered k m f = (into k, concat_map-in (split_arc size fails) m (go (fails k.place) f), refl, refl)
    where
      go : (o : Bool) → T o → into k ∈ halves o (size + k.place) k
      go true d = here
      go false d = absurd d

  pub arcs-left : (k : Arc) → k ∈ net.arcs → T (fails k.place) → Leads (concat_map (split_arc size fails) net.arcs) (size + k.place) k.to
  arcs-left k m f = (onto k, concat_map-in (split_arc size fails) m (go (fails k.place) f), refl, refl)
    where
      go : (o : Bool) → T o → onto k ∈ halves o (size + k.place) k
      go true d = there here
      go false d = absurd d
