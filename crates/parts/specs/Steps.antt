-- STEPS: what proofs and the contracts between our crates speak of. Nobody has to believe these: no promise to a caller cites them.
use Rattle.std.specs.Prelude.{◌≡◌, Bool, false, ◌||◌, cond, List, [], ◌∷◌, map, ℕ, zero, suc, Result, ◌+◌, ◌*◌, ◌≤◌, eqb, ltb, get_or, drop}
use Rattle.limits.specs.Limits.{arc_size, max_kind}
use Rattle.laws.specs.Members.{any}
use Rattle.answer.specs.declared.Refusal.{Refusal}
use Rattle.answer.specs.Outcome.{Outcome, told}
use Rattle.orders.specs.Order.{count}
use Rattle.parts.specs.Study.{Entry, entry_class, entries_from}
use Rattle.parts.specs.Tests.{bad_arc, bad_arcs, bad_kinds}
use Rattle.parts.specs.declared.Sizes.{Sizes}

-- n1 and n2, of the elements' classes
abbrev pub sizes_of : List ℕ → List ℕ
sizes_of classes = count 1 classes ∷ count 2 classes ∷ []

-- the tests of arcs among the tests of the parts
abbrev pub arc_tests : ℕ → List Entry → List (ℕ × Bool)
arc_tests N entries = (8, bad_arcs N entries) ∷ (32, bad_kinds entries) ∷ []

-- what the tests of nodes and arcs find
abbrev pub counted : Result Sizes Refusal → Outcome
counted = told (λ s. s.n1 ∷ s.n2 ∷ [])

-- whether one of the first i entries of so many bytes is bad, each beginning with from and to, for n nodes
abbrev pub bad_before : ℕ → ℕ → List ℕ → ℕ → Bool
bad_before n size l zero = false
bad_before n size l (suc i) = bad_before n size l i || bad_arc n (get_or l (size * i) 0) (get_or l (size * i + 1) 0)

-- ---- the pass over the arc entries
-- those from place i on
abbrev pub entries_at : List ℕ → ℕ → List Entry
entries_at l i = entries_from (drop (arc_size * i) l)

-- how many of them are of a class
abbrev pub class_from : ℕ → List ℕ → ℕ → ℕ
class_from c l i = count c (map entry_class (entries_at l i))

-- the tests of an entry
abbrev pub arc_test : ℕ → Entry → Bool
arc_test n x = bad_arc n x.from x.to

abbrev pub kind_test : Entry → Bool
kind_test x = ltb max_kind x.kind

-- of the entries before i none is bad, and n1 and n2 are of classes 1 and 2
pub record Looked (n : ℕ) (l : List ℕ) (i n1 n2 : ℕ) : Type 0 where
  pub arc : bad_arcs n (entries_from l) ≡ any (arc_test n) (entries_at l i)
  pub kinds : bad_kinds (entries_from l) ≡ any kind_test (entries_at l i)
  pub size1 : count 1 (map entry_class (entries_from l)) ≡ n1 + class_from 1 l i
  pub size2 : count 2 (map entry_class (entries_from l)) ≡ n2 + class_from 2 l i
  pub most1 : n1 ≤ i
  pub most2 : n2 ≤ i

-- which byte of its entry a byte is, as the code marks it: the letters f, t and k
abbrev pub from_field : ℕ
from_field = 102

abbrev pub to_field : ℕ
to_field = 116

abbrev pub kind_field : ℕ
kind_field = 107

-- what it is below where the entry is good, for n nodes
abbrev pub field_limit : ℕ → ℕ → ℕ
field_limit n field = cond (eqb field kind_field) (max_kind + 1) n

-- ---- blocks of entries: how many entries, and bytes
abbrev pub block_size : ℕ
block_size = 16

abbrev pub block_bytes : ℕ
block_bytes = arc_size * block_size

-- m entries' fields
abbrev pub fields_of : ℕ → List ℕ
fields_of zero = []
fields_of (suc m) = from_field ∷ to_field ∷ kind_field ∷ fields_of m

abbrev pub block_fields : List ℕ
block_fields = fields_of block_size

-- the entries of the block from i on are good too, and n1 and n2 of them are of classes 1 and 2
abbrev pub GoodBlock : ℕ → List ℕ → ℕ → ℕ → ℕ → Type 0
GoodBlock n l i n1 n2 = (m1 m2 : ℕ) → Looked n l i m1 m2 → Looked n l (i + block_size) (m1 + n1) (m2 + n2)
