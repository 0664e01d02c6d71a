-- S-2: lists of adds and removes, a front added back, number 31; and the sample ring.
use mathlib.Core.Path.{◌≡◌, refl, sym, ap, ap₂, subst, ◌∙◌}
use mathlib.Core.Logic.{◌↔◌, ◌⊎◌, ⊎_elim, inl, inr}
use mathlib.Core.Bool.{Bool, true, false, not, true≢false}
use mathlib.Core.List.{List, [], ◌∷◌, append-nil}
use Prim.Native.Nat.{ℕ, ◌+◌, ◌-◌, ◌≤◌, ◌<◌}
use native.Mathlib.Omega.{arith}
use lib.Dec.{T, leb}
use borrow.Author.Tests.{leb-true, leb-false}
use lib.ListN.{drop}
use lib.Seq.{drop-length}
use Rattle.laws.specs.Tests.{T_true, T_not, flag-le, flag_true, true-flag, equal}
use Rattle.laws.specs.Every.{every, every-at, every-or}
use Rattle.laws.specs.Reorder.{reordered-in, reordered-length}
use Rattle.answer.specs.Outcome.{success, refused}
use Rattle.record.specs.Record.{record_holds}
use Rattle.answer.proofs.Outcomes.{outcome-never}
use Rattle.soundness.specs.Tally.{tally_size1, tally_size2, rounds, cell, Sound}
use Rattle.cells.specs.Cells.{held}
use Rattle.tally.specs.Calls.{new_out, ready_tests, add_answer, add_out, removed, removable, remove_tests, remove_answer, remove_out}
use Rattle.tally.proofs.Headings.{tally-same}
use Rattle.tally.proofs.Readies.{Lowers, removable-means}
use Rattle.tally.proofs.Runs.{add_back}
use Rattle.plan.specs.Calls.{Through}
use Rattle.plan.proofs.Told.{through_same}
use Rattle.survival.specs.Calls.{Move, adding, Moved}
use Rattle.survival.proofs.Tallies as tally
use Rattle.samples.specs.Table.{ring}
use Rattle.kinds.specs.Kinds as call
use Rattle.demands.specs.Terms.{First, None, LoweredTally}
use Rattle.demands.specs.Requests.{Remaining, ZeroCell, UnsoundOutcome, Request2, ring_moves, TakenBack}
use Rattle.demands.proofs.Numbers.{first-is, first-append}
use Rattle.demands.proofs.Leaves.{lowered}
use Rattle.demands.proofs.Plenty.{begun-by, added-by, removing-by, adds-made}

-- ---- lists of adds and removes
remaining : (n1 n2 : ℕ) (ms : List Move) (left : List (List ℕ)) (t : List ℕ) (m : Moved n1 n2 ms left t) → Remaining n1 n2 ms left t m
remaining n1 n2 ms left t m =
    let k = tally.moved n1 n2 ms left t m in
    let d = k.1 in
    let s = d.tallies.sound in
    let z = tally.sizes d in
    record {
      succeed = k.0;
      same = λ xs u o w. tally.same-words d o (tally.run n1 n2 xs u w);
      remain = λ xs o.
          adds-made n1 n2 xs (omega (arith, s.small1, z.0)) (omega (arith, s.small2, z.1)) (omega (arith, reordered-length left xs o, tally.many d, s.few)) (λ x i. d.fits x (reordered-in left xs o i));
      next = λ x rest w. (remove_out x t, (t, left, m, removing-by x t, w));
      sizes = z;
      many = tally.many d;
      cells = tally.cells d;
      sound = s;
      counts = λ qs. tally.counts qs d;
      near-rounds = λ qs. tally.near-rounds qs d;
    }

-- ---- a front added back
restores : (c : call.RemoveCall) → call.remove_result c ≡ success (0 ∷ []) → (d : call.AddCall) → call.add_record d ≡ call.remove_record c
    → Through (call.remove_left c) (call.add_lent d) → (call.add_result d ≡ success (0 ∷ [])) × (call.add_left d ≡ call.remove_lent c)
restores c e d f g =
    let k = add_back (call.remove_record c) (call.remove_lent c) (sym c.kept.0 ∙ e) in
    let u = sym (through_same g) ∙ c.kept.1 in
    (d.kept.0 ∙ ap₂ add_answer f u ∙ k.0, d.kept.1 ∙ ap₂ add_out f u ∙ k.1)

-- ---- number 31
module _ (r t : List ℕ) where
  abbrev n1 : ℕ
  n1 = tally_size1 t

  abbrev n2 : ℕ
  n2 = tally_size2 t

  abbrev less : ℕ → ℕ → ℕ
  less l1 l2 = cell t l1 l2 - held r n1 n2 l1 l2

  -- the outcome is one
  lowered-one : (x : List ℕ) → LoweredTally r t x → removed r t ≡ x
  lowered-one x w =
      sym (append-nil (removed r t))
      ∙ tally-same n1 n2 (rounds t - 1) less [] x w.size1-is w.size2-is (omega (arith, w.rounds-are)) w.score-is (omega (arith, w.long)) (λ l1 l2 h k. omega (arith, w.cells_are l1 l2 h k))
      (sym (ap (λ n. drop n x) (sym w.long) ∙ drop-length x))

  -- every cell can be lowered, or one is 0
  abbrev above : ℕ → ℕ → Bool
  above l1 l2 = leb (held r n1 n2 l1 l2) (cell t l1 l2)

  zero_or : ((l1 l2 : ℕ) → l1 ≤ n1 → l2 ≤ n2 → held r n1 n2 l1 l2 ≤ cell t l1 l2) ⊎ ZeroCell r t
  zero_or = ⊎_elim (λ e. inl (all e)) (λ (l1, h, e). ⊎_elim (λ q. absurd (true≢false (sym q ∙ e))) (λ (l2, k, q). inr (one l1 l2 h k q)) (every-or (above l1) (n2 + 1))) (every-or (λ l1. every (n2 + 1) (above l1)) (n1 + 1))
    where
      all : every (n1 + 1) (λ l1. every (n2 + 1) (above l1)) ≡ true → (l1 l2 : ℕ) → l1 ≤ n1 → l2 ≤ n2 → held r n1 n2 l1 l2 ≤ cell t l1 l2
      all e l1 l2 h k = leb-true (held r n1 n2 l1 l2) (cell t l1 l2) (every-at (above l1) (n2 + 1) (every-at (λ l1. every (n2 + 1) (above l1)) (n1 + 1) e l1 (omega arith)) l2 (omega arith))

      one : (l1 l2 : ℕ) → l1 < n1 + 1 → l2 < n2 + 1 → above l1 l2 ≡ false → ZeroCell r t
      one l1 l2 h k q =
          let b = record_holds r (n1 - l1) (n2 - l2) in
          let lt = leb-false (held r n1 n2 l1 l2) (cell t l1 l2) q in
          (l1, l2, omega arith, omega arith, true-flag b (omega (arith, lt)), omega (arith, lt, flag-le b))

  causes : T (not (removable r t)) ↔ ((rounds t ≡ 0) ⊎ (ZeroCell r t ⊎ UnsoundOutcome r t))
  causes = (
    λ n. ⊎_elim (λ e. inl e) (λ e. ⊎_elim (λ low. inr (inr (unsound n (omega (arith, e), low)))) (λ z. inr (inl z)) zero_or) (equal (rounds t) 0),
    λ c. (T_not (removable r t)).1 (λ y. let k = (removable-means r t).0 ((T_true (removable r t)).0 y) in none c k.0 k.1),
  )
    where
      unsound : T (not (removable r t)) → Lowers n1 n2 r t → UnsoundOutcome r t
      unsound n low = (removed r t, lowered r t low, λ s. (T_not (removable r t)).0 n ((T_true (removable r t)).1 ((removable-means r t).1 (low, s))))

      none : (rounds t ≡ 0) ⊎ (ZeroCell r t ⊎ UnsoundOutcome r t) → Lowers n1 n2 r t → Sound (removed r t) → ⊥
      none (inl e) low s = omega (arith, e, low.0)
      none (inr (inl (l1, l2, h, k, y, e))) low s = omega (arith, e, low.1 l1 l2 h k, flag_true (record_holds r (n1 - l1) (n2 - l2)) y)
      none (inr (inr (x, w, u))) low s = u (subst Sound (lowered-one x w) s)

  abbrev last : List (ℕ × Bool)
  last = (31, not (removable r t)) ∷ []

  not-before : First (ready_tests r t) 31 → ⊥
  not-before k = outcome-never 31 (ready_tests r t) (0 ∷ []) tt ((first-is (ready_tests r t) (0 ∷ []) 31).1 k)

  answers-31 : (remove_answer r t ≡ refused 31) ↔ (None (ready_tests r t) × ((rounds t ≡ 0) ⊎ (ZeroCell r t ⊎ UnsoundOutcome r t)))
  answers-31 =
      let f = first-is (remove_tests r t) (0 ∷ []) 31 in
      let s = first-append (ready_tests r t) last 31 in (
        λ e. ⊎_elim (λ k. absurd (not-before k)) (λ k. (k.0, ⊎_elim (λ j. causes.0 j.0) (λ j. absurd j.1) k.1)) (s.0 (f.0 e)),
        λ k. f.1 (s.1 (inr (k.0, inl (causes.1 k.1, refl)))),
      )

number-31 : (c : call.RemoveCall) → let r = call.remove_record c in let t = call.remove_lent c in
    (call.remove_result c ≡ refused 31) ↔ (None (ready_tests r t) × ((rounds t ≡ 0) ⊎ (ZeroCell r t ⊎ UnsoundOutcome r t)))
number-31 c = rw c.kept.0 (answers-31 (call.remove_record c) (call.remove_lent c))

-- THE THEOREM
pub request2 : Request2
request2 =
    record {
      remaining = remaining;
      restores = restores;
      refused-stays = λ s u g. through_same g;
      tests = λ r t. refl;
      number-31 = number-31;
    }

-- ---- the sample ring, by evaluation
abbrev spare : List ℕ
spare = 9 ∷ 9 ∷ 9 ∷ 9 ∷ 9 ∷ 9 ∷ 9 ∷ 9 ∷ 9 ∷ 9 ∷ 9 ∷ 9 ∷ 9 ∷ 7 ∷ []

abbrev none : List ℕ
none = new_out 2 2 spare

abbrev once : List ℕ
once = add_out ring none

abbrev twice : List ℕ
twice = add_out ring once

ring-twice : Moved 2 2 (adding ring ∷ adding ring ∷ []) (ring ∷ ring ∷ []) twice
ring-twice = (once, ring ∷ [], (none, [], (begun-by 2 2 spare refl, refl), added-by ring none refl, refl), added-by ring once refl, refl)

abbrev less_one : List ℕ
less_one = remove_out ring twice

ring-moved : Moved 2 2 ring_moves (ring ∷ ring ∷ []) (2 ∷ 2 ∷ 2 ∷ 12 ∷ 0 ∷ 0 ∷ 2 ∷ 0 ∷ 2 ∷ 2 ∷ 2 ∷ 2 ∷ 2 ∷ 7 ∷ [])
ring-moved = (less_one, ring ∷ [], (twice, ring ∷ ring ∷ [], ring-twice, removing-by ring twice, ([], ring ∷ [], refl, refl)), added-by ring less_one refl, refl)

by-31 : (r t : List ℕ) → remove_answer r t ≡ refused 31 → (c : call.RemoveCall) → call.remove_record c ≡ r → call.remove_lent c ≡ t → call.remove_result c ≡ refused 31
by-31 r t e c f g = c.kept.0 ∙ ap₂ remove_answer f g ∙ e

pub taken_back : TakenBack
taken_back =
    record {
      moved = ring-moved;
      no-rounds = by-31 _ _ refl;
      no_cell = by-31 _ _ refl;
      falls = by-31 _ _ refl;
      above-m = by-31 _ _ refl;
    }
