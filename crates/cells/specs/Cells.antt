-- The cells of a tally written out, and where a record holds among them.
use Rattle.std.specs.Prelude.{List, [], ◌++◌, ℕ, zero, suc, ◌-◌}
use Rattle.laws.specs.Tests.{flag}
use Rattle.laws.specs.Lists.{list_to}
use Rattle.record.specs.Record.{record_holds}

-- n rows of m
abbrev pub cell_rows : ℕ → ℕ → (ℕ → ℕ → ℕ) → List ℕ
cell_rows zero m c = []
cell_rows (suc n) m c = list_to m (c 0) ++ cell_rows n m (λ i. c (suc i))

-- 1 where the record holds with the last l1 and l2 working
abbrev pub held : List ℕ → ℕ → ℕ → ℕ → ℕ → ℕ
held r n1 n2 l1 l2 = flag (record_holds r (n1 - l1) (n2 - l2))
