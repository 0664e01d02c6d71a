-- The sample ring, by evaluation and by the demands.
use mathlib.Core.Path.{◌≡◌, refl, subst, ap₂, ◌∙◌}
use mathlib.Core.Logic.{∥∥₁_map}
use mathlib.Core.List.{List, [], ◌∷◌}
use Prim.Native.Nat.{ℕ}
use native.Mathlib.Omega.{arith}
use lib.ListN.{length}
use Rattle.laws.specs.Members.{◌∈◌, here, there, any-in}
use Rattle.answer.specs.Outcome.{success, refused}
use Rattle.front.specs.Pair.{pair_of, same}
use Rattle.slices.specs.Bytes.{word_at}
use Rattle.record.specs.Record.{listed}
use Rattle.compose.specs.Compose.{series_bytes, parallel_bytes}
use Rattle.search.specs.Search.{search_bytes, search_answer, search_out}
use Rattle.tally.specs.Calls.{new_out}
use Rattle.samples.specs.Table.{ring_with, ring_file, ring, ten, eight, ring_tally, table}
use Rattle.runs.specs.Arguments.{u8}
use Rattle.runs.specs.Run.{Holds, Ends}
use Rattle.runs.proofs.General.{told}
use Rattle.runs.proofs.Bytes.{all_bytes, bytes-by}
use Rattle.kinds.specs.Kinds as call
use Rattle.plan.specs.Calls.{Vain, search, Searched, RowJoined, SideJoined, Built}
use Rattle.survival.specs.Calls.{Tallied, AllSearched, Rating}
use Rattle.demands.specs.Terms.{SameSections, Wrote}
use Rattle.demands.specs.Ring.{ring_plan, ring_rounds, RingClaims}
use Rattle.demands.proofs.Made.{search-made}
use Rattle.demands.proofs.One.{demand1}
use Rattle.demands.proofs.Plenty.{searched-by, row_by, side-by, wrote_by, begun-by, added-by, rating-by}
use Rattle.demands.proofs.Two.{demand2}
use Rattle.demands.proofs.Three.{demand3}

ring-bytes : search_bytes ring_file 0 ≡ ring
unfolding word_at
ring-bytes = refl

found : Searched ring_file 0 ring
found = subst (Searched ring_file 0) ring-bytes (searched-by ring_file 0 ten 9 table.r2-answer)

outside : SameSections (1 ∷ ring_file) (2 ∷ ring_file)
unfolding word_at
outside = record { long = refl; trailers = refl; nodes = refl; arcs = refl; rounds = refl }

-- (3, 3) is not listed
no-largest : pair_of 3 3 ∈ listed ring → ⊥
no-largest m = any-in (same (pair_of 3 3)) m tt

wrote : Wrote (ring_with (1 ∷ 0 ∷ 1 ∷ 0 ∷ [])) ring_file
wrote = subst (Wrote (ring_with (1 ∷ 0 ∷ 1 ∷ 0 ∷ []))) table.r1-bytes (wrote_by (ring_with (1 ∷ 0 ∷ 1 ∷ 0 ∷ [])) ring_file 63 table.r1-answer)

built : Built ring_plan ring
built = (ring, ring, found, (ring, ring, found, found, ring-side), ring-row)
  where
    row-bytes : series_bytes ring ring ≡ ring
    row-bytes = refl

    side-bytes : parallel_bytes ring ring ≡ ring
    side-bytes = refl

    ring-row : RowJoined ring ring ring
    ring-row = subst (RowJoined ring ring) row-bytes (row_by ring ring ten 9 refl)

    ring-side : SideJoined ring ring ring
    ring-side = subst (SideJoined ring ring) side-bytes (side-by ring ring ten 9 refl)

-- ---- the runs
-- a run answers, and leaves in its slice, what the definitions say of its arguments
run-answer : (f : List ℕ) (r : ℕ) (s : List ℕ) (e : Ends [] (call.search_run f r s)) → call.search_result e.made ≡ search_answer f r (length s)
run-answer f r s e = (told (call.search_run f r s) e).kept.0

run-left : (f : List ℕ) (r : ℕ) (s : List ℕ) (e : Ends [] (call.search_run f r s)) → Holds e.memory u8 3 0 (search_out f r s)
run-left f r s e = let d = told (call.search_run f r s) e in subst (Holds e.memory u8 3 0) d.kept.1 d.memory-is.1.0

ran : ∥ ((e : Ends [] (call.search_run ring_file 0 ten)) × (call.search_result e.made ≡ success (9 ∷ [])) × Holds e.memory u8 3 0 (2 ∷ 2 ∷ 3 ∷ 3 ∷ 1 ∷ 2 ∷ 2 ∷ 1 ∷ 3 ∷ 9 ∷ [])) ∥₁
unfolding all_bytes
ran =
    ∥∥₁_map ((demand1.search-ends ring_file 0 ten).ends [] tt ((bytes-by ring_file tt, omega arith), (omega arith, ((bytes-by ten tt, omega arith), tt)))) (λ e.
    (e, run-answer ring_file 0 ten e ∙ table.r2-answer, subst (Holds e.memory u8 3 0) table.r2-out (run-left ring_file 0 ten e)))

ran-short : ∥ ((e : Ends [] (call.search_run ring_file 0 eight)) × (call.search_result e.made ≡ refused 15) × Holds e.memory u8 2 0 ring_file × Holds e.memory u8 3 0 eight) ∥₁
unfolding all_bytes
ran-short =
    ∥∥₁_map ((demand1.search-ends ring_file 0 eight).ends [] tt ((bytes-by ring_file tt, omega arith), (omega arith, ((bytes-by eight tt, omega arith), tt)))) (λ e.
    let a = run-answer ring_file 0 eight e ∙ table.r2-short in
    let k = demand1.search-keeps ring_file 0 eight [] e (15, a) in
    (e, a, k.0, k.1.0))

-- no bytes are no study: number 1
vain : (s : List ℕ) → Vain s s
vain s = go (search-made [] 0 s)
  where
    answer : (n : ℕ) → search_answer [] 0 n ≡ refused 1
    answer n = refl

    go : (c : call.SearchCall) × (call.search_file c ≡ []) × (call.search_round c ≡ 0) × (call.search_lent c ≡ s) → Vain s s
    go m =
        let c = m.0 in
        let a : call.search_result c ≡ refused 1 = c.kept.0 ∙ ap₂ (λ f r. search_answer f r (length (call.search_lent c))) m.1 m.2 ∙ answer (length (call.search_lent c)) in
        subst (λ l. Vain s l) ((demand1.search-leaves c).refusal 1 a ∙ m.3) (subst (λ l. Vain l (call.search_left c)) m.3 (search c 1 a))

abbrev spare : List ℕ
spare = 9 ∷ 9 ∷ 9 ∷ 9 ∷ 9 ∷ 9 ∷ 9 ∷ 9 ∷ 9 ∷ 9 ∷ 9 ∷ 9 ∷ 9 ∷ 7 ∷ []

tallied : Tallied 2 2 (ring ∷ []) ring_tally
tallied = (new_out 2 2 spare, begun-by 2 2 spare refl, added-by ring (new_out 2 2 spare) refl)

rounds : AllSearched ring_rounds (ring ∷ [])
rounds = (found, tt)

rating : Rating ring_tally 500000 500000 68750000000000 1 6875000
rating = rating-by ring_tally 500000 500000 68750000000000 1 6875000 table.r7

-- THE CLAIMS
pub ring-claims : RingClaims
ring-claims =
    record {
      wrote = wrote;
      found = found;
      outside = outside;
      reported = demand1.report-ignores (1 ∷ ring_file) (2 ∷ ring_file) outside;
      ran = ran;
      ran-short = ran-short;
      listed = (demand2.exact ring_file 0 ring found (pair_of 2 2)).0 (there here);
      not_listed = λ h. no-largest ((demand2.exact ring_file 0 ring found (pair_of 3 3)).1 h);
      built = built;
      vain = vain;
      sized = (demand3.agree ring_plan ring built).1;
      holds = (demand3.holds ring_plan ring 2 2 built (demand3.agree ring_plan ring built).1 2 0 (omega arith) (omega arith)).0 tt;
      fails = (demand3.holds ring_plan ring 2 2 built (demand3.agree ring_plan ring built).1 2 1 (omega arith) (omega arith)).1;
      tallied = tallied;
      rounds = rounds;
      counted = demand2.counts 2 2 ring_rounds (ring ∷ []) ring_tally tallied rounds 0 2 (omega arith) (omega arith);
      not-counted = demand2.counts 2 2 ring_rounds (ring ∷ []) ring_tally tallied rounds 0 1 (omega arith) (omega arith);
      rating = rating;
      never-above = demand2.never-above ring_tally 500000 500000 68750000000000 1 6875000 rating;
      below-by-less = demand2.below-by-less ring_tally 500000 500000 68750000000000 1 6875000 rating;
    }
