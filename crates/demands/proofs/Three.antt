-- DEMAND 3, from the lemmas on plans.
use mathlib.Core.Logic.{◌↔◌}
use mathlib.Core.List.{List}
use Prim.Native.Nat.{ℕ}
use Rattle.record.specs.Record.{record_size1, record_size2}
use Rattle.plan.specs.Plan.{Plan, searched, series, parallel, PlanSized}
use Rattle.plan.specs.Calls.{Built}
use Rattle.plan.proofs.Plans as plans
use Rattle.plan.proofs.Laws as laws
use Rattle.plan.proofs.Told.{search-passed}
use Rattle.sections.specs.File.{study_of}
use Rattle.study.specs.Calls.{round_tests}
use Rattle.network.specs.Round.{route_pair}
use Rattle.demands.specs.Terms.{PlanPasses}
use Rattle.demands.specs.Demands.{Demand3}
use Rattle.demands.proofs.Numbers.{none_in}
use Rattle.demands.proofs.Routes.{pair_is, good-long, good-classes}
use Rattle.demands.proofs.Plenty.{plan-made}

-- the plans whose calls can succeed
built-passes : (p : Plan) (x : List ℕ) → Built p x → PlanPasses p
built-passes (searched f r) x s = none_in (round_tests f r) (search-passed f r x s)
built-passes (series p q) x b = (built-passes p b.0 b.2, built-passes q b.1 b.3)
built-passes (parallel p q) x b = (built-passes p b.0 b.2, built-passes q b.1 b.3)

succeeds : (p : Plan) → ((x : List ℕ) × Built p x) ↔ ((n1 : ℕ) × (n2 : ℕ) × PlanSized p n1 n2 × PlanPasses p)
succeeds p = (
  λ b. (record_size1 b.0, record_size2 b.0, (plans.sound p b.0 b.1).sized, built-passes p b.0 b.1),
  λ h. plan-made p h.0 h.1 h.2 h.3,
)

-- THE THEOREM
pub demand3 : Demand3
demand3 =
    record {
      holds = plans.holds;
      agree = λ p x b. let s = plans.sound p x b in (s.is, s.sized);
      succeeds = succeeds;
      equal = plans.equal;
      route = λ f r x b ks h.
          let none = built-passes (searched f r) x b in
          let k = plans.route f r x b ks h in
          (route_pair (study_of f) r ks, k.0, pair_is (study_of f) r (good-long f r none) (good-classes f r none) ks, k.1, k.2);
      short = plans.short;
      row-order = laws.series-comm;
      side-order = laws.parallel-comm;
      row-grouping = laws.series-assoc;
      side-grouping = laws.parallel-assoc;
      row-itself = laws.series-self;
      side-itself = laws.parallel-self;
      row-over-side = laws.series-over-parallel;
      side-over-row = laws.parallel-over-series;
    }
