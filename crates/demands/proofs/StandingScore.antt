-- S-5: the fourth word is the sum of the cells, kept true by every call; and two fronts added, a third taken.
use mathlib.Core.Path.{◌≡◌, refl, sym, ap, ap₂, subst, ◌∙◌}
use mathlib.Core.Logic.{◌↔◌, ◌⊎◌, ⊎_elim, inl, inr}
use mathlib.Core.Bool.{Bool, not, ◌&&◌}
use mathlib.Core.List.{List, [], ◌∷◌, ◌++◌}
use Prim.Native.Nat.{ℕ, ◌+◌, ◌*◌, ◌≤◌, ◌<◌}
use native.Mathlib.Omega.{arith}
use lib.Dec.{T, eqb, leb, ltb}
use lib.ListN.{length}
use borrow.Author.Tests.{le-ltb, leb-true, le-leb}
use Rattle.limits.specs.Limits.{max_rounds, max_class}
use Rattle.laws.specs.Tests.{T_true, T-or, T_and}
use Rattle.answer.specs.Outcome.{Outcome, success, refused, outcome}
use Rattle.answer.proofs.Outcomes.{outcome-first}
use Rattle.soundness.specs.Tally.{tally_size1, tally_size2, rounds, tally_score, cell, cell_sum, lacks_room, is_sound}
use Rattle.soundness.proofs.Sounds.{sound-is}
use Rattle.soundness.proofs.Totals.{total-same}
use Rattle.tally.specs.Calls.{new_out, ready_tests, add_answer, add_out, removable, remove_answer, remove_out, score_answer}
use Rattle.tally.proofs.Scores.{Scores, new-scores, add-scores, remove-scores}
use Rattle.tally.proofs.Readies.{ready-sound, ready-long}
use Rattle.reliability.specs.Calls.{rate_answer}
use Rattle.survival.specs.Calls.{Move, adding, removing, Moved, Called, AllSearched}
use Rattle.survival.specs.Counts.{Count, HoldsWith}
use Rattle.survival.proofs.Tallies as tally
use Rattle.kinds.specs.Kinds as call
use Rattle.demands.specs.Requests.{FormerlySound, TrueScore, Request5, first_alone, bears_first, bears_second, mixed_moves, wrong_score, ScoreIs, StandingScore}
use Rattle.demands.proofs.Numbers.{shorter}
use Rattle.demands.proofs.One.{demand1}
use Rattle.demands.proofs.Plenty.{begun-by, adding-by, removing-by, blank, new-answer}

-- ---- a true score
-- of a tally of class sizes that are known
true_of : {n1 n2 : ℕ} {t : List ℕ} → Scores n1 n2 t → TrueScore t
true_of {n1} {n2} {t} s = s.sum ∙ ap₂ (λ a b. cell_sum a b (cell t)) (sym s.one) (sym s.two)

-- add and take succeed on a sound tally alone
ready-scores : (x t : List ℕ) (last : List (ℕ × Bool)) → outcome (ready_tests x t ++ last) (0 ∷ []) ≡ success (0 ∷ []) → Scores (tally_size1 t) (tally_size2 t) t
ready-scores x t last e =
    let ok = outcome-first (ready_tests x t) last (0 ∷ []) (0 ∷ []) e in
    record { one = refl; two = refl; long = ready-long x t ok; sum = (ready-sound x t ok).total }

fresh-true : (c : call.NewCall) → call.new_result c ≡ success (0 ∷ []) → TrueScore (call.new_left c)
fresh-true c e = subst TrueScore (sym c.kept.1) (true_of (new-scores (call.new_size1 c) (call.new_size2 c) (call.new_lent c) (sym c.kept.0 ∙ e)))

add-true : (c : call.AddCall) → call.add_result c ≡ success (0 ∷ []) → TrueScore (call.add_left c)
add-true c e =
    let x = call.add_record c in
    let t = call.add_lent c in
    subst TrueScore (sym c.kept.1) (true_of (add-scores x t (ready-scores x t ((24, eqb (rounds t) max_rounds) ∷ []) (sym c.kept.0 ∙ e))))

take-true : (c : call.RemoveCall) → call.remove_result c ≡ success (0 ∷ []) → TrueScore (call.remove_left c)
take-true c e =
    let x = call.remove_record c in
    let t = call.remove_lent c in
    subst TrueScore (sym c.kept.1) (true_of (remove-scores x t (ready-scores x t ((31, not (removable x t)) ∷ []) (sym c.kept.0 ∙ e))))

-- ---- the tests
sound : (t : List ℕ) → T (is_sound t) ↔ (FormerlySound t × TrueScore t)
sound t = (
  λ y. let s = (sound-is t).0 ((T_true (is_sound t)).0 y) in (record { small = (s.small1, s.small2); few = s.few; grows = s.grows }, s.total),
  λ (f, e). (T_true (is_sound t)).1 ((sound-is t).1 (record { small1 = f.small.0; small2 = f.small.1; few = f.few; grows = f.grows; total = e })),
)

most-is : (a b : ℕ) → T (leb a b) ↔ (a ≤ b)
most-is a b = (λ y. leb-true a b ((T_true (leb a b)).0 y), λ h. (T_true (leb a b)).1 (le-leb a b h))

no_room : (t : List ℕ) → let n1 = tally_size1 t in let n2 = tally_size2 t in
    T (lacks_room t) ↔ ((length t < 4) ⊎ ((n1 ≤ max_class) × (n2 ≤ max_class) × (length t < 4 + (n1 + 1) * (n2 + 1))))
no_room t =
    let n1 = tally_size1 t in
    let n2 = tally_size2 t in
    let n = 4 + (n1 + 1) * (n2 + 1) in
    let first = T-or (ltb (length t) 4) (leb n1 max_class && leb n2 max_class && ltb (length t) n) in
    let all = T_and (leb n1 max_class && leb n2 max_class) (ltb (length t) n) in
    let sizes = T_and (leb n1 max_class) (leb n2 max_class) in (
      λ y. ⊎_elim (λ k. inl ((shorter (length t) 4).0 k)) (λ k. let a = all.0 k in let b = sizes.0 a.0 in inr ((most-is n1 max_class).0 b.0, (most-is n2 max_class).0 b.1, (shorter (length t) n).0 a.1)) (first.0 y),
      λ y. first.1 (⊎_elim (λ k. inl ((shorter (length t) 4).1 k)) (λ k. inr (all.1 (sizes.1 ((most-is n1 max_class).1 k.0, (most-is n2 max_class).1 k.1), (shorter (length t) n).1 k.2))) y),
    )

-- ---- the score call
returns : (c : call.ScoreCall) → 4 ≤ length (call.score_tally c) → call.score_result c ≡ success (tally_score (call.score_tally c) ∷ [])
returns c h = c.kept ∙ rw (le-ltb (length (call.score_tally c)) 4 h)

no-cell-read : (c d : call.ScoreCall) → let t = call.score_tally c in let u = call.score_tally d in
    ltb (length t) 4 ≡ ltb (length u) 4 → tally_score t ≡ tally_score u → call.score_result c ≡ call.score_result d
no-cell-read c d e f = c.kept ∙ ap₂ (λ b v. outcome ((21, b) ∷ []) (v ∷ [])) e f ∙ sym d.kept

only-21 : (c : call.ScoreCall) (n : ℕ) → (call.score_result c ≡ refused n) ↔ ((n ≡ 21) × (length (call.score_tally c) < 4))
only-21 c n =
    let k = (demand1.score c).number n in
    let l = shorter (length (call.score_tally c)) 4 in (
      λ e. ⊎_elim (λ a. (a.1, l.0 a.0)) (λ a. absurd a.1) (k.0 e),
      λ a. k.1 (inl (l.1 a.1, a.0)),
    )

-- of a tally whose score is the sum
sum-scored : {n1 n2 : ℕ} {t : List ℕ} → Scores n1 n2 t → (c : call.ScoreCall) → call.score_tally c ≡ t → call.score_result c ≡ success (cell_sum n1 n2 (cell t) ∷ [])
sum-scored {t = t} s c e = c.kept ∙ ap score_answer e ∙ rw (le-ltb (length t) 4 s.long) (ap (λ v. success (v ∷ [])) s.sum)

standing : (n1 n2 : ℕ) (ms : List Move) (t : List ℕ) → Called n1 n2 ms t → (c : call.ScoreCall) → call.score_tally c ≡ t
    → (tally_size1 t ≡ n1) × (tally_size2 t ≡ n2) × (call.score_result c ≡ success (cell_sum n1 n2 (cell t) ∷ []))
standing n1 n2 ms t k c e = let s = tally.called-scores n1 n2 ms t k in (s.one, s.two, sum-scored s c e)

found : (n1 n2 : ℕ) (ms : List Move) (left : List (List ℕ)) (t : List ℕ) → Moved n1 n2 ms left t → (qs : List (List ℕ × ℕ)) → AllSearched qs left
    → (by-removal : ℕ → ℕ → ℕ) → ((l1 l2 : ℕ) → l1 ≤ n1 → l2 ≤ n2 → Count (HoldsWith n1 n2 l1 l2) qs (by-removal l1 l2))
    → (c : call.ScoreCall) → call.score_tally c ≡ t → call.score_result c ≡ success (cell_sum n1 n2 by-removal ∷ [])
found n1 n2 ms left t m qs s by-removal are c e =
    let d = (tally.moved n1 n2 ms left t m).1 in
    let k = d.tallies in
    let w : Scores n1 n2 t = record { one = k.one; two = k.two; long = omega (arith, k.room, k.long); sum = k.sound.total ∙ ap₂ (λ a b. cell_sum a b (cell t)) k.one k.two } in
    sum-scored w c e ∙ ap (λ v. success (v ∷ [])) (sym (total-same n1 n2 by-removal (cell t) (tally.counts-are qs d s by-removal are)))

-- ---- any list of any records
callable : (n1 n2 : ℕ) → n1 ≤ max_class → n2 ≤ max_class → (ms : List Move) → (t : List ℕ) × Called n1 n2 ms t
callable n1 n2 h k [] = (new_out n1 n2 (blank n1 n2), begun-by n1 n2 (blank n1 n2) (new-answer n1 n2 h k))
callable n1 n2 h k (adding x ∷ ms) = let c = callable n1 n2 h k ms in (add_out x c.0, (c.0, c.1, adding-by x c.0))
callable n1 n2 h k (removing x ∷ ms) = let c = callable n1 n2 h k ms in (remove_out x c.0, (c.0, c.1, removing-by x c.0))

-- THE THEOREM
pub request5 : Request5
request5 =
    record {
      fourth = λ t. refl;
      cells-behind = λ t l1 l2. refl;
      fresh-true = fresh-true;
      add-true = add-true;
      take-true = take-true;
      sound = sound;
      no_room = no_room;
      fresh-room = λ n1 n2 room. refl;
      returns = returns;
      no-cell-read = no-cell-read;
      standing = standing;
      callable = callable;
      found = found;
      only-21 = only-21;
    }

-- ---- the instance, by evaluation
abbrev fresh : List ℕ
fresh = new_out 1 1 (9 ∷ 9 ∷ 9 ∷ 9 ∷ 9 ∷ 9 ∷ 9 ∷ 9 ∷ [])

abbrev two : List ℕ
two = add_out bears_second (add_out bears_first fresh)

mixed : Called 1 1 mixed_moves (1 ∷ 1 ∷ 1 ∷ 3 ∷ 0 ∷ 1 ∷ 1 ∷ 1 ∷ [])
mixed =
    let one = add_out bears_first fresh in
    let taken = remove_out first_alone two in
    (taken, (two, (one, (fresh, begun-by 1 1 (9 ∷ 9 ∷ 9 ∷ 9 ∷ 9 ∷ 9 ∷ 9 ∷ 9 ∷ []) refl, adding-by bears_first fresh), adding-by bears_second one), removing-by first_alone two), adding-by [] taken)

score-is : (t : List ℕ) (o : Outcome) → score_answer t ≡ o → ScoreIs t o
score-is t o e c f = c.kept ∙ ap score_answer f ∙ e

pub standing-score : StandingScore
standing-score =
    record {
      called = mixed;
      scored = score-is _ _ refl;
      ring-scored = score-is _ _ refl;
      three = score-is _ _ refl;
      four = score-is _ _ refl;
      add-22 = λ c f g. c.kept.0 ∙ ap₂ add_answer f g ∙ refl;
      take-22 = λ c f g. c.kept.0 ∙ ap₂ remove_answer f g ∙ refl;
      rate-22 = λ c f g h. c.kept ∙ ap (λ t. rate_answer t (call.rate_chance1 c) (call.rate_chance2 c)) f ∙ ap₂ (rate_answer wrong_score) g h ∙ refl;
      wrong = score-is _ _ refl;
    }
