-- A study (document 01, "The study file"; 02, S-4): nodes with classes, arc entries, rounds, source and target, and the limits that are set.
use Rattle.std.specs.Prelude.{◌≡◌, cond, List, [], ◌∷◌, ◌++◌, map, ℕ, zero, suc, ◌+◌, ◌%◌, ◌≤◌, ◌<◌, ltb, length, take, drop}
use Rattle.limits.specs.Limits.{min_nodes, max_nodes, max_arcs, max_kind, max_rounds, max_class}
use Rattle.laws.specs.Members.{◌∈◌}
use Rattle.orders.specs.Order.{count}

-- an arc entry. Kinds 0, 1, 2 lead one way, from `from` to `to`; kinds 3, 4, 5 both ways
pub record Entry : Type 0 where
  pub from : ℕ
  pub to : ℕ
  pub kind : ℕ

-- an arc leads one way; its place is the number of its entry in the arc section, from 0
pub record Arc : Type 0 where
  pub from : ℕ
  pub to : ℕ
  pub place : ℕ

pub record Study : Type 0 where
  -- the class of each node: 0 never fails, 1, 2
  pub classes : List ℕ
  pub entries : List Entry
  -- each round is the order of class 1, then that of class 2
  pub rounds : List (List ℕ)
  pub source : ℕ
  pub target : ℕ

-- ---- the arcs of entries
-- an entry's class: kinds 0 and 3 never fail, 1 and 4 are of class 1, 2 and 5 of class 2
abbrev pub entry_class : Entry → ℕ
entry_class x = x.kind % 3

-- the arc of the entry at place i, or both its ways
abbrev pub ways : ℕ → Entry → List Arc
ways i x =
    record { from = x.from; to = x.to; place = i }
    ∷ cond (ltb 2 x.kind) (record { from = x.to; to = x.from; place = i } ∷ []) []

-- of all entries; the first has place i
abbrev pub arcs_from : ℕ → List Entry → List Arc
arcs_from i [] = []
arcs_from i (x ∷ l) = ways i x ++ arcs_from (suc i) l

abbrev pub study_arcs : Study → List Arc
study_arcs st = arcs_from 0 st.entries

-- ---- ELEMENTS, what may fail: 0 .. N − 1 are the nodes, N .. N + A − 1 the arc entries by place; a both-way entry is one, and fails once for both ways
-- their classes, in one list
abbrev pub elements : List ℕ → List Entry → List ℕ
elements nodes entries = nodes ++ map entry_class entries

abbrev pub study_elements : Study → List ℕ
study_elements st = elements st.classes st.entries

-- the element that an arc is
abbrev pub arc_element : Study → Arc → ℕ
arc_element st k = length st.classes + k.place

-- ---- the study that bytes spell
-- three bytes an entry: from, to, kind
abbrev pub entries_from : List ℕ → List Entry
entries_from [] = []
entries_from (x ∷ []) = []
entries_from (x ∷ y ∷ []) = []
entries_from (x ∷ y ∷ z ∷ b) = record { from = x; to = y; kind = z } ∷ entries_from b

-- m pieces of n bytes
abbrev pub pieces : ℕ → ℕ → List ℕ → List (List ℕ)
pieces zero n b = []
pieces (suc m) n b = take n b ∷ pieces m n (drop n b)

-- n1 + n2, the length of a round
abbrev pub round_size : List ℕ → ℕ
round_size classes = count 1 classes + count 2 classes

-- from node bytes, arc bytes, round bytes, source, target and the number of rounds
abbrev pub study_from : List ℕ → List ℕ → List ℕ → ℕ → ℕ → ℕ → Study
study_from nodes arcs rounds s t m =
    let entries = entries_from arcs in
    record { classes = nodes; entries = entries; rounds = pieces m (round_size (elements nodes entries)) rounds; source = s; target = t }

-- ---- what every study of a good file is
pub record WithinLimits (st : Study) : Type 0 where
  -- N 2 to 160, A 0 to 1,024, M 0 to 100,000, n1 and n2 0 to 64
  pub nodes-least : min_nodes ≤ length st.classes
  pub nodes-most : length st.classes ≤ max_nodes
  pub arcs-most : length st.entries ≤ max_arcs
  pub rounds-most : length st.rounds ≤ max_rounds
  pub size1-most : count 1 (study_elements st) ≤ max_class
  pub size2-most : count 2 (study_elements st) ≤ max_class
  -- a node's class is 0, 1 or 2, a kind 0 to 5
  pub classes-most : (c : ℕ) → c ∈ st.classes → c ≤ 2
  pub kinds-most : (x : Entry) → x ∈ st.entries → x.kind ≤ max_kind
  -- source and target are two nodes, of any class
  pub source_in : st.source < length st.classes
  pub target-in : st.target < length st.classes
  pub ends-differ : st.source ≡ st.target → ⊥
  -- an entry joins a node and another
  pub from_in : (x : Entry) → x ∈ st.entries → x.from < length st.classes
  pub to_in : (x : Entry) → x ∈ st.entries → x.to < length st.classes
  pub no_loop : (x : Entry) → x ∈ st.entries → x.from ≡ x.to → ⊥
  -- a round has a byte for each element of classes 1 and 2
  pub rounds-long : (r : List ℕ) → r ∈ st.rounds → length r ≡ round_size (study_elements st)
