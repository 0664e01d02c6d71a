-- How near the answer of `reliability` is.
use mathlib.Core.Path.{◌≡◌, sym, ap, ◌∙◌}
use mathlib.Core.Bool.{Bool, false, ◌||◌}
use mathlib.Core.List.Memᴰ
use mathlib.Core.List.{List, [], ◌∷◌}
use Prim.Native.Nat.{ℕ, ◌≤◌}
use native.Mathlib.Nat.{pos_of_ne-zero}
use lib.Dec.{eqb, ltb}
use lib.ListN.{get_or}
use borrow.Author.Tests.{eqb-false, ltb-false}
use Rattle.laws.specs.Tests.{or-none}
use Rattle.laws.specs.Members.{here, there}
use Rattle.answer.specs.Outcome.{success}
use Rattle.answer.proofs.Outcomes.{outcome-tests, outcome-success, outcome-values}
use Rattle.chance.specs.Chance.{rate_r, Near}
use Rattle.soundness.specs.Tally.{tally_size1, tally_size2, rounds, cell, state_tests}
use Rattle.chance.proofs.Bounds.{near-formula}
use Rattle.soundness.proofs.States.{state-sound}
use Rattle.reliability.specs.Calls.{tally_s, rate_tests, rate_answer}

both_small : (p1 p2 : ℕ) → ltb 1000000 p1 || ltb 1000000 p2 ≡ false → (p1 ≤ 1000000) × (p2 ≤ 1000000)
both_small p1 p2 e = let k = or-none (ltb 1000000 p1) (ltb 1000000 p2) e in (ltb-false 1000000 p1 k.0, ltb-false 1000000 p2 k.1)

module _ (t : List ℕ) (p1 p2 : ℕ) where
  abbrev values : List ℕ
  values = tally_s t p1 p2 ∷ rounds t ∷ rate_r (tally_s t p1 p2) (rounds t) ∷ []

  abbrev last : List (ℕ × Bool)
  last = (25, eqb (rounds t) 0) ∷ []

  -- DEMAND 2 of a tally, from the call's answer
  pub near : (s m r : ℕ) → rate_answer t p1 p2 ≡ success (s ∷ m ∷ r ∷ []) → (m ≡ rounds t) × Near (tally_size1 t) (tally_size2 t) p1 p2 (cell t) s m r
  near s m r e =
      let v = outcome-values (rate_tests t p1 p2) values (s ∷ m ∷ r ∷ []) e in
      let a = outcome-tests (rate_tests t p1 p2) values (e ∙ ap success (sym v)) in
      let k = both_small p1 p2 (a (14, ltb 1000000 p1 || ltb 1000000 p2) here) in
      let g = (state-sound t (outcome-success (state_tests t) (0 ∷ []) (λ x i. a x (there (Memᴰ.append_left last i))))).grows in
      let some = pos_of_ne-zero (eqb-false (rounds t) 0 (a (25, eqb (rounds t) 0) (there (there (there here))))) in
      let many = ap (λ l. get_or l 1 0) v in
      (sym many, rw (← ap (λ l. get_or l 0 0) v, ← many, ← ap (λ l. get_or l 2 0) v) (near-formula (tally_size1 t) (tally_size2 t) (rounds t) p1 p2 (cell t) k.0 k.1 g some))
