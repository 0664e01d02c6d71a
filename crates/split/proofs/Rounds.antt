-- A round's front is that of its split network, in which only nodes fail.
use mathlib.Core.Path.{◌≡◌, refl, sym, ap, ◌∙◌, subst}
use mathlib.Core.Logic.{⊎_elim}
use mathlib.Core.Bool.{not}
use mathlib.Core.List.{List, [], map}
use Prim.Native.Nat.{ℕ, ◌+◌, ◌≤◌, ◌<◌}
use native.Mathlib.Omega.{arith}
use lib.Dec.{T, eqb, eqb→eq}
use lib.ListN.{length, get_or, get_or-eq_default}
use lib.Seq.{get_or-append-add}
use Rattle.laws.specs.Tests.{T_not, decide, order}
use Rattle.laws.specs.Members.{◌∈◌, at_in}
use Rattle.front.specs.Front.{front, AllWithin}
use Rattle.orders.specs.Order.{place_in_class, order1, order2}
use Rattle.parts.specs.Study.{Arc, Study, WithinLimits, entry_class, study_arcs, study_elements, arc_element}
use Rattle.network.specs.Walk.{route_pairs}
use Rattle.network.specs.Round.{study_size1, study_size2, round_at, capacity, round_network, round_front}
use Rattle.network.proofs.Rounds.{pairs-within, element-within, inside}
use Rattle.split.specs.Steps.{Top, Splits, may_fail, split_round}
use Rattle.split.proofs.Arcs.{arc-entry, twins}
use Rattle.split.proofs.Walks.{split-front}
use Rattle.split.proofs.Splits.{arcs-pieces, arcs-kept, arcs-entered, arcs-left}

-- what is of class 0 never fails
class-top : (n1 n2 c : ℕ) (o1 o2 : List ℕ) (m : ℕ) → c ≡ 0 → Top n1 n2 (capacity n1 n2 c o1 o2 m)
class-top n1 n2 c o1 o2 m e = subst (λ d. Top n1 n2 (capacity n1 n2 d o1 o2 m)) (sym e) (omega arith)

module _ (st : Study) (w : WithinLimits st) where
  -- arcs lead between nodes
  pub arc-ends : (k : Arc) → k ∈ study_arcs st → (k.from < length st.classes) × (k.to < length st.classes)
  arc-ends k m =
      let (x, i, way) = arc-entry st.entries 0 k m in
      let from = w.from_in x i in
      let to = w.to_in x i in
      ⊎_elim (λ e. (omega arith, omega arith)) (λ e. (omega arith, omega arith)) way

  arc-class : (k : Arc) → (T (may_fail st.entries k.place) → ⊥) → get_or (study_elements st) (arc_element st k) 0 ≡ 0
  arc-class k n = get_or-append-add st.classes (map entry_class st.entries) k.place 0 ∙ zero-class (get_or (map entry_class st.entries) k.place 0) n
    where
      zero-class : (c : ℕ) → (T (not (eqb c 0)) → ⊥) → c ≡ 0
      zero-class c d = ⊎_elim (λ t. eqb→eq c 0 t) (λ f. absurd (d ((T_not (eqb c 0)).1 f))) (decide (eqb c 0))

  -- a round has no more bytes than there are members; one that is not there has none
  pub round-long : (r : ℕ) → length (round_at st r) ≤ study_size1 st + study_size2 st
  round-long r =
      ⊎_elim (λ h. omega (arith, ap length (get_or-eq_default st.rounds [] {n = r} h))) (λ h. omega (arith, w.rounds-long (round_at st r) (at_in st.rounds r [] h)))
      (order (length st.rounds) r)

  module _ (r : ℕ) where
    pub round-splits : Splits (round_network st r) (split_round st r) (length st.classes) (study_size1 st) (study_size2 st) (may_fail st.entries) (λ i. length st.classes + i)
    round-splits =
        let net = round_network st r in
        let size = length st.classes in
        let fails = may_fail st.entries in
        record {
          source = refl;
          target = refl;
          source_in = w.source_in;
          target-in = w.target-in;
          from_in = λ k m. (arc-ends k m).0;
          to_in = λ k m. (arc-ends k m).1;
          node = λ v h. refl;
          middle = λ k m f. (omega arith, refl);
          twins = λ k j m n f g e. twins st.entries 0 k j m n (omega arith);
          firm = λ k m n.
              let classes = study_elements st in
              let e = arc_element st k in
              class-top (study_size1 st) (study_size2 st) (get_or classes e 0) (order1 classes (round_at st r)) (order2 classes (round_at st r)) (place_in_class classes e) (arc-class k n);
          top = λ j m. omega arith;
          pieces = arcs-pieces net size fails;
          kept = arcs-kept net size fails;
          entered = arcs-entered net size fails;
          left = arcs-left net size fails;
        }

    split-within : AllWithin (study_size1 st) (study_size2 st) (route_pairs (split_round st r))
    split-within = pairs-within (split_round st r) (study_size1 st) (study_size2 st) (element-within (study_elements st) (round_at st r) (round-long r)) (λ i. omega arith)

    -- THE ROUND'S FRONT is that of its split network
    pub round-front : round_front st r ≡ front (study_size1 st) (study_size2 st) (route_pairs (split_round st r))
    round-front = split-front round-splits (inside st r (round-long r)) split-within
