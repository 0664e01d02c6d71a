-- THE SAMPLE RING (document 01, R1, R2 and R7) by the terms of the page: calls that can be made, and what the demands say of them.
use Rattle.std.specs.Prelude.{◌≡◌, List, [], ◌∷◌, ℕ, ◌+◌, ◌*◌, ◌≤◌, ◌<◌}
use Rattle.front.specs.Pair.{pair_of}
use Rattle.sections.specs.File.{study_of}
use Rattle.chance.specs.Chance.{sum_e, scale_d}
use Rattle.soundness.specs.Tally.{cell}
use Rattle.survival.specs.Counts.{Count, HoldsWith}
use Rattle.plan.specs.Plan.{Plan, searched, series, parallel, PlanHolds, PlanSized}
use Rattle.answer.specs.Outcome.{success, refused}
use Rattle.samples.specs.Table.{ring_with, ring_file, ring, ten, eight, ring_tally}
use Rattle.runs.specs.Arguments.{u8}
use Rattle.runs.specs.Run.{Holds, Ends}
use Rattle.kinds.specs.Kinds as call
use Rattle.plan.specs.Calls.{Vain, Searched, Built}
use Rattle.survival.specs.Calls.{Tallied, AllSearched, Rating}
use Rattle.lines.specs.Report.{report_lines}
use Rattle.demands.specs.Terms.{SameSections, Undominated, OfRoute, Wrote}

-- the ring's round in a row with two of its kind side by side
abbrev pub ring_plan : Plan
ring_plan = series (searched ring_file 0) (parallel (searched ring_file 0) (searched ring_file 0))

abbrev pub ring_rounds : List (List ℕ × ℕ)
ring_rounds = (ring_file, 0) ∷ []

pub record RingClaims : Type 0 where
  -- R1: the writer hands on the ring's file; R2: the search of its round hands on the record 2 2 3 3 1 2 2 1 3
  pub wrote : Wrote (ring_with (1 ∷ 0 ∷ 1 ∷ 0 ∷ [])) ring_file
  pub found : Searched ring_file 0 ring
  -- two files that differ in a byte in front of their sections, which nothing reads
  pub outside : SameSections (1 ∷ ring_file) (2 ∷ ring_file)
  pub reported : report_lines (1 ∷ ring_file) ≡ report_lines (2 ∷ ring_file)
  -- R2 on the machine: the search's own code, run on the ring's file and ten bytes of room, ends; it answers 9, and the room then holds the record and its
  -- own tenth byte. With eight bytes of room it ends with number 15, and file and room are as they were
  pub ran : ∥ ((e : Ends [] (call.search_run ring_file 0 ten)) × (call.search_result e.made ≡ success (9 ∷ []))
      × Holds e.memory u8 3 0 (2 ∷ 2 ∷ 3 ∷ 3 ∷ 1 ∷ 2 ∷ 2 ∷ 1 ∷ 3 ∷ 9 ∷ [])) ∥₁
  pub ran-short : ∥ ((e : Ends [] (call.search_run ring_file 0 eight)) × (call.search_result e.made ≡ refused 15)
      × Holds e.memory u8 2 0 ring_file × Holds e.memory u8 3 0 eight) ∥₁
  -- so (2, 2) is the pair of a route that no route's pair dominates; (3, 3), the largest p1 and the largest p2 of different routes, is none
  pub listed : Undominated (OfRoute (study_of ring_file) 0) (pair_of 2 2)
  pub not_listed : Undominated (OfRoute (study_of ring_file) 0) (pair_of 3 3) → ⊥
  -- three searches, a parallel and a series, each successful; a refused call may be lent any slice in between
  pub built : Built ring_plan ring
  pub vain : (s : List ℕ) → Vain s s
  -- so direct removal finds the plan joined at (2, 0) and not at (2, 1)
  pub sized : PlanSized ring_plan 2 2
  pub holds : PlanHolds ring_plan 2 0
  pub fails : PlanHolds ring_plan 2 1 → ⊥
  -- a fresh tally and the record added: with no node of class 1 and both of class 2 working, removal finds the round joined; with one, not
  pub tallied : Tallied 2 2 (ring ∷ []) ring_tally
  pub rounds : AllSearched ring_rounds (ring ∷ [])
  pub counted : Count (HoldsWith 2 2 0 2) ring_rounds 1
  pub not-counted : Count (HoldsWith 2 2 0 1) ring_rounds 0
  -- R7, and by how much at most it is below the formula
  pub rating : Rating ring_tally 500000 500000 68750000000000 1 6875000
  pub never-above : 6875000 * 1 * scale_d 2 2 ≤ 10000000 * sum_e 2 2 500000 500000 (cell ring_tally)
  pub below-by-less : 10000000 * sum_e 2 2 500000 500000 (cell ring_tally) < (6875000 + (2 + 2) + 1) * 1 * scale_d 2 2
