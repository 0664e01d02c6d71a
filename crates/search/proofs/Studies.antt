-- A round of a study: its orders by element may be searched, and what is found is the record of its front.
use mathlib.Core.Path.{◌≡◌, sym, ap, ap₂, ◌∙◌, subst}
use mathlib.Core.List.{List, map}
use Prim.Native.Nat.{ℕ, ◌+◌, ◌*◌, ◌≤◌}
use native.Mathlib.Omega.{arith}
use lib.Dec.{T}
use lib.ListN.{length}
use Rattle.limits.specs.Limits.{arc_count, max_class}
use Rattle.laws.specs.Members.{◌∈◌}
use Rattle.laws.specs.Tests.{T_and}
use Rattle.front.specs.declared.Pair.{Pair}
use Rattle.front.specs.Front.{front}
use Rattle.record.specs.Record.{record_bytes, front_bytes}
use Rattle.orders.specs.Order.{count, order1, order2, is_order}
use Rattle.orders.proofs.Orders.{order-length}
use Rattle.orders.proofs.Scans.{count-append}
use Rattle.parts.specs.Study.{Study, Arc, entry_class, elements, study_elements, entries_from}
use Rattle.parts.proofs.Scans.{entries-length}
use Rattle.network.specs.Walk.{route_pairs}
use Rattle.network.specs.Round.{study_size1, study_size2, round_at, round_front}
use Rattle.split.specs.Steps.{split_arcs, element_order, round_order1, round_order2, order_network}
use Rattle.split.proofs.Members.{order-long}
use Rattle.split.proofs.Arcs.{elements-long}
use Rattle.split.proofs.Orders.{search-front, ordered}
use Rattle.chains.specs.Steps.{split_entries}
use Rattle.chains.proofs.Entries.{entries-split, split-few}
use Rattle.members.specs.Steps.{ByPlace, elements_in}
use Rattle.members.proofs.Tables.{good-places}
use Rattle.search.specs.declared.Task.{Task}
use Rattle.search.specs.Steps.{task_arcs, task_front, Searchable, RoundGiven}

module _ {st : Study} {r : ℕ} {nodes arcs o1 o2 : List ℕ} {s t : ℕ} (g : RoundGiven st r nodes arcs o1 o2 s t) where
  abbrev all : List ℕ
  all = study_elements st

  abbrev first : List ℕ
  first = order1 (study_elements st) (round_at st r)

  abbrev second : List ℕ
  second = order2 (study_elements st) (round_at st r)

  both : T (is_order (count 1 all) first) × T (is_order (count 2 all) second)
  both = (T_and (is_order (count 1 all) first) (is_order (count 2 all) second)).0 g.good

  long1 : length first ≡ study_size1 st
  long1 = order-length (count 1 all) first both.0

  long2 : length second ≡ study_size2 st
  long2 = order-length (count 2 all) second both.1

  elements-are : elements_in nodes arcs ≡ all
  elements-are = ap₂ elements (sym g.nodes-are) (sym g.entries-are)

  -- ---- as the tables of members take them
  placed : (c : ℕ) (o p : List ℕ) → T (is_order (count c all) o) → o ≡ p → count c all ≤ max_class → ByPlace c (elements_in nodes arcs) p
  placed c o p good e small = rw elements-are (good-places c all p (subst (λ l. T (is_order (count c all) l)) e good) small)

  pub placed1 : ByPlace 1 (elements_in nodes arcs) o1
  placed1 = placed 1 first o1 both.0 g.order1-is g.within.size1-most

  pub placed2 : ByPlace 2 (elements_in nodes arcs) o2
  placed2 = placed 2 second o2 both.1 g.order2-is g.within.size2-most

  -- ---- orders by element
  pub by-element1 : element_order 1 (elements_in nodes arcs) o1 ≡ round_order1 st r
  by-element1 = ap₂ (element_order 1) elements-are (sym g.order1-is)

  pub by-element2 : element_order 2 (elements_in nodes arcs) o2 ≡ round_order2 st r
  by-element2 = ap₂ (element_order 2) elements-are (sym g.order2-is)

  size1 : length (round_order1 st r) ≡ study_size1 st
  size1 = order-long 1 all first ∙ long1

  size2 : length (round_order2 st r) ≡ study_size2 st
  size2 = order-long 2 all second ∙ long2

  many-are : length nodes + arc_count arcs ≡ length all
  many-are = omega (arith, ap length g.nodes-are, ap length g.entries-are, entries-length arcs, elements-long st.classes st.entries)

  arcs-are : split_entries (length nodes) 0 (entries_from arcs) ≡ split_arcs (length st.classes) st.entries
  arcs-are = ap₂ (λ n l. split_entries n 0 l) (ap length (sym g.nodes-are)) (sym g.entries-are) ∙ sym (entries-split (length st.classes) st.entries)

  few-arcs : length (split_arcs (length st.classes) st.entries) ≤ 2 * (length st.entries + study_size1 st + study_size2 st)
  few-arcs =
      let kinds = map entry_class st.entries in
      omega (
        arith,
        ap length (entries-split (length st.classes) st.entries),
        split-few (length st.classes) 0 st.entries,
        count-append 1 st.classes kinds,
        count-append 2 st.classes kinds,
      )

-- as the code has them
module _ {st : Study} {r : ℕ} {nodes o1 o2 : List ℕ} (task : Task) (g : RoundGiven st r nodes task.arcs.now o1 o2 task.source task.target) (is-nodes : task.nodes ≡ length nodes)
    (is-a : task.order1.now ≡ round_order1 st r) (is_b : task.order2.now ≡ round_order2 st r) where
  its-arcs : task_arcs task ≡ split_arcs (length st.classes) st.entries
  its-arcs = ap (λ n. split_entries n 0 (entries_from task.arcs.now)) is-nodes ∙ arcs-are g

  its-elements : task.nodes + arc_count task.arcs.now ≡ length (study_elements st)
  its-elements = omega (arith, is-nodes, many-are g)

  pub may-search : Searchable task
  may-search =
      record {
        few = g.long;
        small = omega (arith, is-nodes, ap length g.nodes-are, g.within.nodes-most);
        ends = λ x m.
            let i : x ∈ st.entries = subst (λ l. x ∈ l) (sym g.entries-are) m in
            (omega (arith, is-nodes, ap length g.nodes-are, g.within.from_in x i), omega (arith, is-nodes, ap length g.nodes-are, g.within.to_in x i));
        many = omega (arith, ap length its-arcs, few-arcs g, ap length is-a, ap length is_b, size1 g, size2 g, ap length g.entries-are, entries-length task.arcs.now);
        small1 = omega (arith, ap length is-a, size1 g, g.within.size1-most);
        small2 = omega (arith, ap length is_b, size2 g, g.within.size2-most);
        ordered = rw (its-arcs, is-a, is_b, ← g.source_is, ← g.target_is, its-elements) (ordered st g.within r g.good);
      }

  pub found : task_front task ≡ record_bytes (study_size1 st) (study_size2 st) (round_front st r)
  found =
      ap (λ l. front_of l task.order1.now task.order2.now task.source task.target) its-arcs ∙ ap (λ o. front_of split o task.order2.now task.source task.target) is-a
      ∙ ap (λ o. front_of split (round_order1 st r) o task.source task.target) is_b
      ∙ ap (λ n. front_of split (round_order1 st r) (round_order2 st r) n task.target) (sym g.source_is)
      ∙ ap (λ n. front_of split (round_order1 st r) (round_order2 st r) st.source n) (sym g.target_is)
      ∙ (ap₂ (λ m n. record_bytes m n front-found) (size1 g) (size2 g) ∙ ap (record_bytes (study_size1 st) (study_size2 st)) (search-front st g.within r g.good))
    where
      split : List Arc
      split = split_arcs (length st.classes) st.entries

      front_of : List Arc → List ℕ → List ℕ → ℕ → ℕ → List ℕ
      front_of l o p m n = front_bytes (length o) (length p) (route_pairs (order_network l o p m n))

      front-found : List Pair
      front-found = front (length (round_order1 st r)) (length (round_order2 st r))
          (route_pairs (order_network split (round_order1 st r) (round_order2 st r) st.source st.target))
