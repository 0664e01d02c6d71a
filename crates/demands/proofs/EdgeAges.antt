-- S-3: ageing by the formula, and at the edges of its ages.
use mathlib.Core.Path.{◌≡◌, refl, ◌∙◌}
use mathlib.Core.Logic.{∥∥₁_map}
use mathlib.Core.List.{[]}
use Prim.Native.Nat.{ℕ, ◌-◌, ◌*◌, ◌^◌, ◌<◌}
use native.Mathlib.Nat.{mul-le-mul}
use native.Mathlib.Omega.{arith}
use borrow.Author.Tests.{lt-ltb, le-ltb}
use Rattle.answer.specs.Outcome.{Outcome}
use Rattle.weights.specs.Calls.{ageing_answer}
use Rattle.runs.proofs.General.{told}
use Rattle.kinds.specs.Kinds as call
use Rattle.demands.specs.Requests.{Request3, RunAnswers, EdgeAges}
use Rattle.demands.proofs.One.{demand1}

pub request3 : Request3
request3 =
    record {
      reckons = λ c h. let y = call.ageing_age c in (1000000 - 1000 * (y * y), c.kept ∙ rw (le-ltb 30 y (omega arith)), omega (arith, mul-le-mul h h));
      beyond = λ c h. c.kept ∙ rw (lt-ltb 30 (call.ageing_age c) (omega arith));
    }

-- ---- runs, by evaluation of the answer
run-answers : (y : ℕ) (o : Outcome) → y < 2 ^ 64 → ageing_answer y ≡ o → RunAnswers y o
run-answers y o fits e = ∥∥₁_map ((demand1.ageing-ends y).ends [] tt (fits, tt)) (λ r. (r, (told (call.ageing_run y) r).kept ∙ e))

pub edge-ages : EdgeAges
edge-ages =
    record {
      none = run-answers _ _ (omega arith) refl;
      last = run-answers _ _ (omega arith) refl;
      next = run-answers _ _ (omega arith) refl;
      largest = run-answers _ _ (omega arith) refl;
    }
