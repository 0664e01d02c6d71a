-- A round of a study (document 01, "Positions, routes and the search"; 02, S-4): where it holds, told by direct removal, and its front, told by its routes.
use Rattle.std.specs.Prelude.{Bool, true, List, [], ℕ, zero, suc, ◌+◌, T, ltb, length, get_or}
use Rattle.laws.specs.Members.{◌∈◌}
use Rattle.front.specs.declared.Pair.{Pair}
use Rattle.front.specs.Pair.{pair_of}
use Rattle.front.specs.Front.{front}
use Rattle.orders.specs.Order.{count, place_in_class, order1, order2, position}
use Rattle.parts.specs.Study.{Entry, Arc, Study, arcs_from, study_arcs, elements, study_elements, arc_element}
use Rattle.network.specs.Walk.{Network, Walk, visits, RouteFrom, pair_on, route_pairs}

-- n1 and n2: of nodes and arcs
abbrev pub study_size1 : Study → ℕ
study_size1 st = count 1 (study_elements st)

abbrev pub study_size2 : Study → ℕ
study_size2 st = count 2 (study_elements st)

abbrev pub round_at : Study → ℕ → List ℕ
round_at st r = get_or st.rounds r []

-- A ROUTE: a chain of arcs from source to target that visits no node twice; two over the same nodes by different arcs are different
abbrev pub Route : Study → List Arc → Type 0
Route st ks = RouteFrom (study_arcs st) st.source st.target ks

-- ---- DIRECT REMOVAL
-- after a failures of class 1 and b of class 2, what the orders name m works when its position is above a, of class 2 when above b, of class 0 always
abbrev pub works : ℕ → List ℕ → List ℕ → ℕ → ℕ → ℕ → Bool
works zero o1 o2 a b m = true
works (suc zero) o1 o2 a b m = ltb a (position m o1)
works (suc (suc c)) o1 o2 a b m = ltb b (position m o2)

-- whether element e works, of elements with these classes: a round names it by its place in its class
abbrev pub element_works : List ℕ → List ℕ → ℕ → ℕ → ℕ → Bool
element_works classes round a b e = works (get_or classes e 0) (order1 classes round) (order2 classes round) a b (place_in_class classes e)

-- a chain of arcs leads from s to t through working nodes and working arcs; `visits` has s and t too, so both must work, of whatever class they are (S-1)
abbrev pub Joins : Study → (ℕ → Bool) → Type 0
Joins st working =
    (ks : List Arc) × Walk (study_arcs st) st.source st.target ks
    × ((v : ℕ) → v ∈ visits st.source ks → T (working v)) × ((k : Arc) → k ∈ ks → T (working (arc_element st k)))

-- THE ROUND HOLDS at (a, b)
abbrev pub RoundHolds : Study → ℕ → ℕ → ℕ → Type 0
RoundHolds st r a b = Joins st (element_works (study_elements st) (round_at st r) a b)

-- ---- THE PAIRS OF ROUTES
-- the capacity of what the orders name m: its position in its own class; in a class that is not its own, one more than the class has
abbrev pub capacity : ℕ → ℕ → ℕ → List ℕ → List ℕ → ℕ → Pair
capacity n1 n2 zero o1 o2 m = pair_of (n1 + 1) (n2 + 1)
capacity n1 n2 (suc zero) o1 o2 m = pair_of (position m o1) (n2 + 1)
capacity n1 n2 (suc (suc c)) o1 o2 m = pair_of (n1 + 1) (position m o2)

abbrev pub element_capacity : List ℕ → List ℕ → ℕ → Pair
element_capacity classes round e =
    capacity (count 1 classes) (count 2 classes) (get_or classes e 0) (order1 classes round) (order2 classes round) (place_in_class classes e)

-- the network that a round makes of nodes with classes and arc entries: both ways of an entry have the capacity of its place
abbrev pub network_in : List ℕ → List Entry → List ℕ → ℕ → ℕ → Network
network_in nodes entries round s t =
    record {
      arcs = arcs_from 0 entries;
      node = λ v. element_capacity (elements nodes entries) round v;
      arc = λ i. element_capacity (elements nodes entries) round (length nodes + i);
      source = s;
      target = t;
    }

abbrev pub round_network : Study → ℕ → Network
round_network st r = network_in st.classes st.entries (round_at st r) st.source st.target

-- the pair of a route in a round: its two ends count like any other node, and so do the arcs it uses (`pair_on`)
abbrev pub route_pair : Study → ℕ → List Arc → Pair
route_pair st r ks = pair_on (round_network st r) st.source ks

-- THE FRONT of a round: the undominated pairs of all its routes
abbrev pub round_front : Study → ℕ → List Pair
round_front st r = front (study_size1 st) (study_size2 st) (route_pairs (round_network st r))
