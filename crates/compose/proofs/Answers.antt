-- What the tests of two records leave: neither 12 nor 13.
use mathlib.Core.Path.{◌≡◌}
use mathlib.Core.Bool.{not, ◌&&◌}
use mathlib.Core.List.{List, [], ◌∷◌}
use Prim.Native.Nat.{ℕ}
use borrow.Author.Tests.{not-false}
use Rattle.laws.specs.Tests.{T_true, T_and}
use Rattle.laws.specs.Members.{here, there}
use Rattle.answer.specs.Outcome.{success, outcome}
use Rattle.answer.proofs.Outcomes.{outcome-tests}
use Rattle.record.specs.Record.{is_record}
use Rattle.compose.specs.Compose.{same_sizes, record_tests}
use Rattle.compose.specs.Steps.{Joinable}

pub joined-joinable : (x y : List ℕ) → outcome (record_tests x y) (0 ∷ []) ≡ success (0 ∷ []) → Joinable x y
joined-joinable x y e =
    let t = outcome-tests (record_tests x y) (0 ∷ []) e in
    let r = (T_and (is_record x) (is_record y)).0 ((T_true (is_record x && is_record y)).1 (not-false (is_record x && is_record y) (t (12, not (is_record x && is_record y)) here))) in
    record { left_is = r.0; right_is = r.1; same = (T_true (same_sizes x y)).1 (not-false (same_sizes x y) (t (13, not (same_sizes x y)) (there here))) }
