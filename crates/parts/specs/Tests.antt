-- The tests of a study's parts (document 01, "Numbers from the input"; 02, S-4): 2, 3, 5, 8, 32 and 6, on numbers and bytes, for opening and writer.
use Rattle.std.specs.Prelude.{Bool, ◌||◌, List, [], ◌∷◌, ℕ, eqb, leb, ltb}
use Rattle.limits.specs.Limits.{min_nodes, max_nodes, max_arcs, max_kind, max_rounds, max_class}
use Rattle.laws.specs.Members.{any}
use Rattle.orders.specs.Order.{count}
use Rattle.parts.specs.Study.{Entry, entries_from, elements}

-- 2 N, A or M out of limits
abbrev pub bad_counts : ℕ → ℕ → ℕ → Bool
bad_counts N A M = ltb N min_nodes || ltb max_nodes N || ltb max_arcs A || ltb max_rounds M

-- 3 s or t not below N, or s = t
abbrev pub bad_ends : ℕ → ℕ → ℕ → Bool
bad_ends N s t = leb N s || leb N t || eqb s t

-- 5 node byte above 2
abbrev pub bad_classes : List ℕ → Bool
bad_classes nodes = any (ltb 2) nodes

-- 8 an arc end not below N, or both ends equal
abbrev pub bad_arc : ℕ → ℕ → ℕ → Bool
bad_arc N from to = leb N from || leb N to || eqb from to

abbrev pub bad_arcs : ℕ → List Entry → Bool
bad_arcs N entries = any (λ x. bad_arc N x.from x.to) entries

-- 32 a kind above 5
abbrev pub bad_kinds : List Entry → Bool
bad_kinds entries = any (λ x. ltb max_kind x.kind) entries

-- 6 a class size above 64, of the elements' classes
abbrev pub bad_sizes : List ℕ → Bool
bad_sizes classes = ltb max_class (count 1 classes) || ltb max_class (count 2 classes)

-- the tests of nodes and arcs: 32 after 8 and before 6, which counts arcs too (02, S-4); source and target may be of any class, and 7 is not used again (S-1)
abbrev pub part_tests : ℕ → List ℕ → List ℕ → List (ℕ × Bool)
part_tests N nodes arcs =
    let entries = entries_from arcs in
    (5, bad_classes nodes) ∷ (8, bad_arcs N entries) ∷ (32, bad_kinds entries) ∷ (6, bad_sizes (elements nodes entries)) ∷ []
