-- What add and remove test first, what a record that passes says of itself and of the tally, and the answer by the last test.
use mathlib.Core.Path.{◌≡◌, sym, ap₂, ◌∙◌}
use mathlib.Core.Logic.{◌↔◌}
use mathlib.Core.Bool.{Bool, true, false, not, ◌&&◌}
use mathlib.Core.List.{List, [], ◌∷◌, ◌++◌}
use Prim.Native.Nat.{ℕ, ◌+◌, ◌≤◌, ◌<◌}
use native.Mathlib.Omega.{arith}
use lib.Dec.{eqb, leb, ltb}
use lib.ListN.{length, drop, length-drop}
use borrow.Author.Tests.{eqb-true, eq-eqb, not-false, leb-true, le-leb, ltb-true, lt-ltb, le-ltb}
use Rattle.limits.specs.Limits.{max_class}
use Rattle.laws.specs.Tests.{T_true, and_both}
use Rattle.laws.specs.Every.{every, every-at, every-all}
use Rattle.laws.specs.Members.{here, there}
use Rattle.answer.specs.Outcome.{Outcome, success, refused, outcome, filled}
use Rattle.answer.proofs.Outcomes.{outcome-refused, outcome-passed, outcome-tests, outcome-first}
use Rattle.record.specs.Record.{is_record, record_size1, record_size2}
use Rattle.soundness.specs.Tally.{head_words, tally_size1, tally_size2, rounds, words, cell, Sound, lacks_room, is_sound, state_tests, state_answer}
use Rattle.soundness.proofs.Sounds.{sound-is}
use Rattle.soundness.proofs.States.{state-sound, state-long, state-room}
use Rattle.tally.specs.Calls.{fits_tally, ready_tests, removed, lowerable, removable, remove_tests, remove_answer}
use Rattle.cells.specs.Cells.{held}
use Rattle.tally.specs.Steps.{ready_answer, Fits}
use Rattle.cells.specs.Steps.{Fitting}

module _ (r t : List ℕ) where
  module _ (is : is_record r ≡ true) where
    abbrev last : List (ℕ × Bool)
    last = (23, not (fits_tally r t)) ∷ []

    by_state : ready_answer r t ≡ outcome (state_tests t ++ last) (0 ∷ [])
    by_state = rw is

-- ---- a record that is ready
module _ (r t : List ℕ) (ok : ready_answer r t ≡ success (0 ∷ [])) where
  is-record : is_record r ≡ true
  is-record = not-false (is_record r) (outcome-tests (ready_tests r t) (0 ∷ []) ok (12, not (is_record r)) here)

  fine : state_answer t ≡ success (0 ∷ [])
  fine = outcome-first (state_tests t) ((23, not (fits_tally r t)) ∷ []) (0 ∷ []) (0 ∷ []) (sym (by_state r t is-record) ∙ ok)

  pub ready-sound : Sound t
  ready-sound = state-sound t fine

  pub ready-long : head_words ≤ length t
  ready-long = state-long t fine

  pub ready-room : words (tally_size1 t) (tally_size2 t) ≤ length t
  ready-room = state-room t fine

  pub ready-fits : Fits (tally_size1 t) (tally_size2 t) r
  ready-fits =
      let e = not-false (fits_tally r t) (outcome-tests (ready_tests r t) (0 ∷ []) ok (23, not (fits_tally r t)) (there (there (there here)))) in
      let k = and_both (eqb (record_size1 r) (tally_size1 t)) (eqb (record_size2 r) (tally_size2 t)) e in
      ((T_true (is_record r)).1 is-record, eqb-true (record_size1 r) (tally_size1 t) k.0, eqb-true (record_size2 r) (tally_size2 t) k.1)

  pub ready-cells : Fitting (drop head_words t) r (tally_size1 t) (tally_size2 t)
  ready-cells = record { is = ready-fits.0; one = ready-fits.1; two = ready-fits.2; room = omega (arith, ready-room, length-drop head_words t) }

-- and the other way about
pub ready_by : (r t : List ℕ) → Fits (tally_size1 t) (tally_size2 t) r → Sound t → words (tally_size1 t) (tally_size2 t) ≤ length t → ready_answer r t ≡ success (0 ∷ [])
ready_by r t f s h =
    rw ((T_true (is_record r)).0 f.0, has_room, (sound-is t).1 s, eq-eqb (record_size1 r) (tally_size1 t) f.1, eq-eqb (record_size2 r) (tally_size2 t) f.2)
  where
    has_room : lacks_room t ≡ false
    has_room =
        rw (le-ltb (length t) head_words (omega (arith, h)), le-leb (tally_size1 t) max_class s.small1, le-leb (tally_size2 t) max_class s.small2, le-ltb (length t) (words (tally_size1 t) (tally_size2 t)) h)

-- ---- a call that is ready first, and has one test more: n, where b; it would write x
module _ (r t : List ℕ) (n : ℕ) (b : Bool) (x : List ℕ) where
  abbrev answer : Outcome
  answer = outcome (ready_tests r t ++ (n, b) ∷ []) (0 ∷ [])

  pub call-refused : (k : ℕ) → ready_answer r t ≡ refused k → (refused k ≡ answer) × (t ≡ filled answer x t)
  call-refused k e = let a = outcome-refused (ready_tests r t) ((n, b) ∷ []) (0 ∷ []) (0 ∷ []) k e in (sym a, rw a)

  module _ (ok : ready_answer r t ≡ success (0 ∷ [])) where
    by_last : answer ≡ outcome ((n, b) ∷ []) (0 ∷ [])
    by_last = outcome-passed (ready_tests r t) ((n, b) ∷ []) (0 ∷ []) (0 ∷ []) ok

    pub call-last : b ≡ true → (refused n ≡ answer) × (t ≡ filled answer x t)
    call-last e = let a : answer ≡ refused n = by_last ∙ rw e in (sym a, rw a)

    pub call-done : b ≡ false → (success (0 ∷ []) ≡ answer) × (x ++ drop (length x) t ≡ filled answer x t)
    call-done e = let a : answer ≡ success (0 ∷ []) = by_last ∙ rw e in (sym a, rw a)

-- ---- what can be lowered
abbrev pub Lowers : ℕ → ℕ → List ℕ → List ℕ → Type 0
Lowers n1 n2 r t = (0 < rounds t) × ((l1 l2 : ℕ) → l1 ≤ n1 → l2 ≤ n2 → held r n1 n2 l1 l2 ≤ cell t l1 l2)

module _ (r t : List ℕ) where
  abbrev above : ℕ → ℕ → Bool
  above l1 l2 = leb (held r (tally_size1 t) (tally_size2 t) l1 l2) (cell t l1 l2)

  abbrev row : ℕ → Bool
  row l1 = every (tally_size2 t + 1) (above l1)

  lowerable-is : (lowerable r t ≡ true) ↔ Lowers (tally_size1 t) (tally_size2 t) r t
  lowerable-is = (
    λ e.
        let k = and_both (ltb 0 (rounds t)) (every (tally_size1 t + 1) row) e in (
          ltb-true 0 (rounds t) k.0,
          λ l1 l2 h j. leb-true (held r (tally_size1 t) (tally_size2 t) l1 l2) (cell t l1 l2) (every-at (above l1) (tally_size2 t + 1) (every-at row (tally_size1 t + 1) k.1 l1 (omega arith)) l2 (omega arith)),
        ),
    λ k.
        ap₂ ◌&&◌ (lt-ltb 0 (rounds t) k.0)
        (every-all row (tally_size1 t + 1) (λ l1 h.
        every-all (above l1) (tally_size2 t + 1) (λ l2 j.
        le-leb (held r (tally_size1 t) (tally_size2 t) l1 l2) (cell t l1 l2) (k.1 l1 l2 (omega arith) (omega arith))))),
  )

pub removable-means : (r t : List ℕ) → (removable r t ≡ true) ↔ (Lowers (tally_size1 t) (tally_size2 t) r t × Sound (removed r t))
removable-means r t = (
  λ e. let k = and_both (lowerable r t) (is_sound (removed r t)) e in ((lowerable-is r t).0 k.0, (sound-is (removed r t)).0 k.1),
  λ k. ap₂ ◌&&◌ ((lowerable-is r t).1 k.0) ((sound-is (removed r t)).1 k.1),
)

-- a remove that succeeds
pub remove-means : (r t : List ℕ) {v : List ℕ} → remove_answer r t ≡ success v → (ready_answer r t ≡ success (0 ∷ [])) × Lowers (tally_size1 t) (tally_size2 t) r t × Sound (removed r t)
remove-means r t e =
    let last : List (ℕ × Bool) = (31, not (removable r t)) ∷ [] in
    let k = (removable-means r t).0 (not-false (removable r t) (outcome-tests (remove_tests r t) (0 ∷ []) e (31, not (removable r t)) (there (there (there (there here)))))) in
    (outcome-first (ready_tests r t) last (0 ∷ []) (0 ∷ []) e, k.0, k.1)
