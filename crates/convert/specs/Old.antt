-- THE OLD STUDY FILE, as it was before S-4 (document 01, "The study file", "Numbers from the input"), for the converter alone: an arc is two bytes and never
-- fails, a round names nodes by their numbers. What S-4 left as it was is cited, not repeated.
use Rattle.std.specs.Prelude.{Bool, ◌&&◌, List, [], ◌∷◌, ◌++◌, ℕ, suc, ◌+◌, ◌-◌, ◌*◌, ltb, length, get_or}
use Rattle.laws.specs.Members.{any}
use Rattle.slices.specs.Bytes.{part_at}
use Rattle.front.specs.declared.Pair.{Pair}
use Rattle.front.specs.Pair.{pair_of}
use Rattle.front.specs.Front.{front}
use Rattle.record.specs.Record.{record_bytes}
use Rattle.orders.specs.Order.{count, order1, order2, is_order_of}
use Rattle.parts.specs.Study.{Arc, pieces, round_size}
use Rattle.parts.specs.Tests.{bad_classes, bad_arc, bad_sizes}
use Rattle.sections.specs.File.{trailer_at, trailer, nodes_of}
use Rattle.study.specs.Calls.{trailer_tests}
use Rattle.network.specs.Walk.{Network, route_pairs}
use Rattle.network.specs.Round.{capacity}

-- ---- an old study, and the one that bytes spell
pub record OldStudy : Type 0 where
  -- the class of each node: 0 never fails, 1, 2
  pub classes : List ℕ
  pub arcs : List Arc
  -- each round is the order of class 1, then that of class 2
  pub rounds : List (List ℕ)
  pub source : ℕ
  pub target : ℕ

-- the bytes of an arc: from, to
abbrev pub old_arc_size : ℕ
old_arc_size = 2

-- pairs of bytes, from and to; the first has place i
abbrev pub old_arcs_from : ℕ → List ℕ → List Arc
old_arcs_from i [] = []
old_arcs_from i (x ∷ []) = []
old_arcs_from i (x ∷ y ∷ b) = record { from = x; to = y; place = i } ∷ old_arcs_from (suc i) b

-- from node bytes, arc bytes, round bytes, source, target and the number of rounds
abbrev pub old_study_from : List ℕ → List ℕ → List ℕ → ℕ → ℕ → ℕ → OldStudy
old_study_from nodes arcs rounds s t m =
    record { classes = nodes; arcs = old_arcs_from 0 arcs; rounds = pieces m (round_size nodes) rounds; source = s; target = t }

-- ---- the sections of an old file; trailer and node section are as they were
-- A pairs of bytes, from and to
abbrev pub old_arcs : List ℕ → List ℕ
old_arcs f = part_at (trailer_at f - (trailer f).da) (old_arc_size * (trailer f).arcs) f

-- M rounds, each n1 bytes then n2 bytes; n1 and n2 count nodes
abbrev pub old_rounds : List ℕ → List ℕ
old_rounds f = part_at (trailer_at f - (trailer f).dm) ((trailer f).rounds * round_size (nodes_of f)) f

-- THE OLD STUDY that a file spells
abbrev pub old_study_of : List ℕ → OldStudy
old_study_of f = old_study_from (nodes_of f) (old_arcs f) (old_rounds f) (trailer f).source (trailer f).target (trailer f).rounds

-- ---- THE OLD TESTS OF OPENING (1 to 6, 8, 9); the first four with 2A
-- 8 an arc end not below N, or both ends equal
abbrev pub old_bad_arcs : ℕ → List ℕ → Bool
old_bad_arcs N arcs = any (λ a. bad_arc N a.from a.to) (old_arcs_from 0 arcs)

-- of nodes and arcs: 6 counts nodes, and comes before 8
abbrev pub old_part_tests : ℕ → List ℕ → List ℕ → List (ℕ × Bool)
old_part_tests N nodes arcs = (5, bad_classes nodes) ∷ (6, bad_sizes nodes) ∷ (8, old_bad_arcs N arcs) ∷ []

-- 9 M × (n1 + n2) > dM
abbrev pub old_bad_rounds : List ℕ → Bool
old_bad_rounds f = ltb (trailer f).dm ((trailer f).rounds * round_size (nodes_of f))

abbrev pub old_tests : List ℕ → List (ℕ × Bool)
old_tests f =
    trailer_tests old_arc_size (length f) (trailer f)
    ++ old_part_tests (trailer f).nodes (nodes_of f) (old_arcs f) ++ (9, old_bad_rounds f) ∷ []

-- ---- THE OLD TEST OF A ROUND (11): each order is each node of its class once
abbrev pub old_is_round : List ℕ → List ℕ → Bool
old_is_round nodes round = is_order_of 1 nodes (order1 nodes round) && is_order_of 2 nodes (order2 nodes round)

-- ---- THE OLD FRONT
-- the network that a round makes of nodes with classes and arcs; an arc never fails
abbrev pub old_network_in : List ℕ → List Arc → List ℕ → ℕ → ℕ → Network
old_network_in classes arcs round s t =
    let n1 = count 1 classes in
    let n2 = count 2 classes in
    record {
      arcs = arcs;
      node = λ v. capacity n1 n2 (get_or classes v 0) (order1 classes round) (order2 classes round) v;
      arc = λ i. pair_of (n1 + 1) (n2 + 1);
      source = s;
      target = t;
    }

abbrev pub old_round_network : OldStudy → ℕ → Network
old_round_network st r = old_network_in st.classes st.arcs (get_or st.rounds r []) st.source st.target

-- the undominated pairs of all routes of a round
abbrev pub old_round_front : OldStudy → ℕ → List Pair
old_round_front st r = front (count 1 st.classes) (count 2 st.classes) (route_pairs (old_round_network st r))

-- and their record, as search wrote it
abbrev pub old_search_bytes : List ℕ → ℕ → List ℕ
old_search_bytes f r =
    let st = old_study_of f in
    record_bytes (count 1 st.classes) (count 2 st.classes) (old_round_front st r)
