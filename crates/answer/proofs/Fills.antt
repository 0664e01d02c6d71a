-- A call that fills a slice of bytes: a refusal by its tests, the step that delivers, and what a success says.
use mathlib.Core.Path.{◌≡◌, sym, ap, ◌∙◌}
use mathlib.Core.Bool.{Bool, false, cond}
use mathlib.Core.List.Memᴰ
use mathlib.Core.List.{List, [], ◌∷◌, ◌++◌}
use Prim.Native.Nat.{ℕ, ◌≤◌, ◌<◌}
use borrow.Author.Tests.{lt-ltb, le-ltb}
use lib.Dec.{T, ltb}
use lib.ListN.{length, get_or, take, drop}
use lib.Seq.{take_at}
use Rattle.laws.specs.Members.{◌∈◌}
use Rattle.answer.specs.Outcome.{Outcome, success, refused, outcome, filled, fill_tests, fill_answer, fill_out}
use Rattle.answer.proofs.Outcomes.{other_numbers, outcome-never, outcome-tests, outcome-values, outcome-refused, outcome-passed}

-- an answer and the slice that goes with it
abbrev pub Filled : List (ℕ × Bool) → List ℕ → List ℕ → Outcome → List ℕ → Type 0
Filled ts bytes out answer left = (answer ≡ fill_answer ts bytes (length out)) × (left ≡ fill_out ts bytes out)

module _ (ts : List (ℕ × Bool)) (bytes out : List ℕ) where
  -- the slice follows from the answer
  by_answer : (a : Outcome) → a ≡ fill_answer ts bytes (length out) → Filled ts bytes out a (filled a bytes out)
  by_answer a e = (e, ap (λ (o : Outcome). filled o bytes out) e)

  -- a refusal by the tests
  pub fill-refused : (n : ℕ) → outcome ts (0 ∷ []) ≡ refused n → Filled ts bytes out (refused n) out
  fill-refused n e = by_answer (refused n) (sym (outcome-refused ts ((15, ltb (length out) (length bytes)) ∷ []) (0 ∷ []) (length bytes ∷ []) n e))

  -- the tests passed: what the delivery of these bytes answers and leaves
  pub fill-delivered : outcome ts (0 ∷ []) ≡ success (0 ∷ []) → {b left : List ℕ} {a : Outcome} → b ≡ bytes → Filled [] b out a left → Filled ts bytes out a left
  fill-delivered e is d =
      let f = sym (outcome-passed ts ((15, ltb (length out) (length bytes)) ∷ []) (0 ∷ []) (length bytes ∷ []) e) in
      (d.0 ∙ ap (λ x. fill_answer [] x (length out)) is ∙ f, d.1 ∙ ap (λ x. fill_out [] x out) is ∙ ap (λ (o : Outcome). filled o bytes out) f)

  -- a success: every test passed, and the slice begins with the bytes
  pub fill-passed : (v : List ℕ) → fill_answer ts bytes (length out) ≡ success v → (t : ℕ × Bool) → t ∈ fill_tests ts bytes (length out) → t.1 ≡ false
  fill-passed v e = outcome-tests (fill_tests ts bytes (length out)) (length bytes ∷ []) e

  pub fill-tests : (v : List ℕ) → fill_answer ts bytes (length out) ≡ success v → (t : ℕ × Bool) → t ∈ ts → t.1 ≡ false
  fill-tests v e t m = fill-passed v e t (Memᴰ.append_left ((15, ltb (length out) (length bytes)) ∷ []) m)

  pub fill-length : (n : ℕ) → fill_answer ts bytes (length out) ≡ success (n ∷ []) → length bytes ≡ n
  fill-length n e = ap (λ v. get_or v 0 0) (outcome-values (fill_tests ts bytes (length out)) (length bytes ∷ []) (n ∷ []) e)

  pub fill-wrote : (n : ℕ) → fill_answer ts bytes (length out) ≡ success (n ∷ []) → take n (fill_out ts bytes out) ≡ bytes
  fill-wrote n e = ap (λ (a : Outcome). take n (filled a bytes out)) e ∙ take_at bytes (drop (length bytes) out) n (fill-length n e)

-- a number that is no test's is not answered
pub fill-never : (n : ℕ) (ts : List (ℕ × Bool)) (bytes : List ℕ) (room : ℕ) → T (other_numbers n (fill_tests ts bytes room)) → fill_answer ts bytes room ≡ refused n → ⊥
fill-never n ts bytes room h e = outcome-never n (fill_tests ts bytes room) (length bytes ∷ []) h e

module _ (bytes out : List ℕ) where
  -- delivery: the slice is too short, or holds the bytes
  pub deliver-short : length out < length bytes → Filled [] bytes out (refused 15) out
  deliver-short h = by_answer [] bytes out (refused 15) (ap (λ b. cond b (refused 15) (success (length bytes ∷ []))) (sym (lt-ltb (length out) (length bytes) h)))

  pub deliver-done : length bytes ≤ length out → (n : ℕ) → n ≡ length bytes → {left : List ℕ} → left ≡ bytes ++ drop (length bytes) out → Filled [] bytes out (success (n ∷ [])) left
  deliver-done h n k p =
      let a = by_answer [] bytes out (success (length bytes ∷ [])) (ap (λ b. cond b (refused 15) (success (length bytes ∷ []))) (sym (le-ltb (length out) (length bytes) h))) in
      (ap (λ m. success (m ∷ [])) k ∙ a.0, p ∙ a.1)
