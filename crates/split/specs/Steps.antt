-- STEPS: what proofs and the contracts between our crates speak of. Nobody has to believe these: no promise to a caller cites them.
-- Networks whose failing arcs have become nodes: each stands in the middle of its arc, with the arc's capacity.
use Rattle.std.specs.Prelude.{◌≡◌, ◌⊎◌, Bool, not, cond, List, [], ◌∷◌, map, ℕ, suc, ◌+◌, ◌≤◌, ◌<◌, T, eqb, length, get_or}
use Rattle.laws.specs.Members.{◌∈◌, concat_map}
use Rattle.front.specs.declared.Pair.{Pair}
use Rattle.front.specs.Pair.{pair_of}
use Rattle.orders.specs.Order.{members, order1, order2, position}
use Rattle.parts.specs.Study.{Entry, Arc, Study, entry_class, arcs_from, study_elements}
use Rattle.network.specs.Walk.{Network}
use Rattle.network.specs.Round.{element_capacity, study_size1, study_size2, round_at}

-- ---- THE RELATION, for any numbering of the new nodes
-- a capacity that no number of failures in range meets
abbrev pub Top : ℕ → ℕ → Pair → Type 0
Top n1 n2 p = (n1 < p.p1.0) × (n2 < p.p2.0)

-- some arc leads from u to v
abbrev pub Leads : List Arc → ℕ → ℕ → Type 0
Leads arcs u v = (j : Arc) × (j ∈ arcs) × (j.from ≡ u) × (j.to ≡ v)

-- what an arc of the larger network is: an arc that never fails, or the first or the second half of one that may
pub data Piece (net : Network) (fails : ℕ → Bool) (mid : ℕ → ℕ) (j : Arc) : Type 0 where
  whole : (k : Arc) → k ∈ net.arcs → (T (fails k.place) → ⊥) → j.from ≡ k.from → j.to ≡ k.to → Piece net fails mid j
  enters : (k : Arc) → k ∈ net.arcs → T (fails k.place) → j.from ≡ k.from → j.to ≡ mid k.place → Piece net fails mid j
  leaves : (k : Arc) → k ∈ net.arcs → T (fails k.place) → j.from ≡ mid k.place → j.to ≡ k.to → Piece net fails mid j

-- `big` is `net` with a node in the middle of each arc whose place fails; `mid` numbers these nodes, from `size` on
pub record Splits (net big : Network) (size n1 n2 : ℕ) (fails : ℕ → Bool) (mid : ℕ → ℕ) : Type 0 where
  -- the same ends
  pub source : big.source ≡ net.source
  pub target : big.target ≡ net.target
  -- the old nodes are below size
  pub source_in : net.source < size
  pub target-in : net.target < size
  pub from_in : (k : Arc) → k ∈ net.arcs → k.from < size
  pub to_in : (k : Arc) → k ∈ net.arcs → k.to < size
  -- and keep their capacity
  pub node : (v : ℕ) → v < size → big.node v ≡ net.node v
  -- a new node has the capacity of its arc
  pub middle : (k : Arc) → k ∈ net.arcs → T (fails k.place) → (size ≤ mid k.place) × (big.node (mid k.place) ≡ net.arc k.place)
  -- two arcs that share a middle are one arc, or the two ways of one entry: who comes in by k and goes out by l goes k's way, or back to where it came from
  pub twins : (k l : Arc) → k ∈ net.arcs → l ∈ net.arcs → T (fails k.place) → T (fails l.place) → mid k.place ≡ mid l.place
      → (l.to ≡ k.to) ⊎ (l.to ≡ k.from)
  -- the arcs that are kept, and all arcs of the larger network, never fail
  pub firm : (k : Arc) → k ∈ net.arcs → (T (fails k.place) → ⊥) → Top n1 n2 (net.arc k.place)
  pub top : (j : Arc) → j ∈ big.arcs → Top n1 n2 (big.arc j.place)
  -- nothing but arcs and halves, and all of them
  pub pieces : (j : Arc) → j ∈ big.arcs → Piece net fails mid j
  pub kept : (k : Arc) → k ∈ net.arcs → (T (fails k.place) → ⊥) → Leads big.arcs k.from k.to
  pub entered : (k : Arc) → k ∈ net.arcs → T (fails k.place) → Leads big.arcs k.from (mid k.place)
  pub left : (k : Arc) → k ∈ net.arcs → T (fails k.place) → Leads big.arcs (mid k.place) k.to

-- ---- THE SPLIT ARCS, the arc at place i having node size + i
-- an arc, or its two halves, with the node m between them
abbrev pub halves : Bool → ℕ → Arc → List Arc
halves o m k = cond o (record { from = k.from; to = m; place = k.place } ∷ record { from = m; to = k.to; place = k.place } ∷ []) (k ∷ [])

abbrev pub split_arc : ℕ → (ℕ → Bool) → Arc → List Arc
split_arc size fails k = halves (fails k.place) (size + k.place) k

-- ---- A ROUND's split network: its nodes are the study's elements, each with its own capacity
-- whether the arc at place i may fail
abbrev pub may_fail : List Entry → ℕ → Bool
may_fail entries i = not (eqb (get_or (map entry_class entries) i 0) 0)

abbrev pub split_arcs : ℕ → List Entry → List Arc
split_arcs size entries = concat_map (split_arc size (may_fail entries)) (arcs_from 0 entries)

abbrev pub split_round : Study → ℕ → Network
split_round st r =
    record {
      arcs = split_arcs (length st.classes) st.entries;
      node = λ e. element_capacity (study_elements st) (round_at st r) e;
      arc = λ i. pair_of (study_size1 st + 1) (study_size2 st + 1);
      source = st.source;
      target = st.target;
    }

-- ---- A ROUND's orders by element, as the search takes them
-- the element of class c that a round names m
abbrev pub member_at : ℕ → List ℕ → ℕ → ℕ
member_at c classes m = get_or (members c classes) m 0

abbrev pub element_order : ℕ → List ℕ → List ℕ → List ℕ
element_order c classes o = map (member_at c classes) o

abbrev pub round_order1 : Study → ℕ → List ℕ
round_order1 st r = element_order 1 (study_elements st) (order1 (study_elements st) (round_at st r))

abbrev pub round_order2 : Study → ℕ → List ℕ
round_order2 st r = element_order 2 (study_elements st) (order2 (study_elements st) (round_at st r))

-- the network of two orders of elements: an element that stands in neither is past the last of both
abbrev pub order_network : List Arc → List ℕ → List ℕ → ℕ → ℕ → Network
order_network arcs o1 o2 s t =
    record {
      arcs = arcs;
      node = λ v. pair_of (position v o1) (position v o2);
      arc = λ i. pair_of (length o1 + 1) (length o2 + 1);
      source = s;
      target = t;
    }

-- what the search asks of arcs and orders: no element stands twice in the class 1 order, and none of the class 2 order stands in it
pub record Ordered (arcs : List Arc) (o1 o2 : List ℕ) (s t size : ℕ) : Type 0 where
  pub from_in : (k : Arc) → k ∈ arcs → k.from < size
  pub to_in : (k : Arc) → k ∈ arcs → k.to < size
  pub source_in : s < size
  pub target-in : t < size
  pub nodes1 : (k : ℕ) → k < length o1 → get_or o1 k 0 < size
  pub nodes2 : (k : ℕ) → k < length o2 → get_or o2 k 0 < size
  pub once : (k : ℕ) → k < length o1 → position (get_or o1 k 0) o1 ≡ suc k
  pub apart : (v : ℕ) → position v o2 ≤ length o2 → length o1 < position v o1
