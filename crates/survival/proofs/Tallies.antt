-- DEMAND 2 of tallies and reliability, and requests S-2 and S-5, by induction over the adds and removes.
use mathlib.Core.Path.{◌≡◌, refl, sym, ap, ap₂, subst, ◌∙◌}
use mathlib.Core.Logic.{◌↔◌, ◌⊎◌, inl, inr, ⊎_elim}
use mathlib.Core.Bool.{Bool, true, false}
use mathlib.Core.List.Memᴰ
use mathlib.Core.List.{List, [], ◌∷◌}
use Prim.Native.Nat.{ℕ, suc, ◌+◌, ◌-◌, ◌*◌, ◌≤◌}
use native.Mathlib.Omega.{arith}
use lib.Dec.{T}
use lib.ListN.{length, take}
use Rattle.laws.specs.Members.{◌∈◌, here, there}
use Rattle.laws.specs.Reorder.{With, Reordered, with_in, with-others, reordered-length}
use Rattle.laws.specs.Sums.{sum_to, sum_same}
use Rattle.laws.specs.Tests.{flag}
use Rattle.answer.specs.Outcome.{success}
use Rattle.record.specs.Record.{record_size1, record_size2, record_holds}
use Rattle.chance.specs.Chance.{exact, sum_e, Near}
use Rattle.sections.specs.File.{study_of}
use Rattle.network.specs.Round.{study_size1, study_size2, RoundHolds}
use Rattle.search.proofs.Claims.{claims}
use Rattle.plan.specs.Calls.{Searched}
use Rattle.plan.proofs.Told.{through_same, search-wrote, search-passed}
use Rattle.soundness.specs.Tally.{tally_size1, tally_size2, rounds, words, cell, Sound}
use Rattle.tally.specs.Words.{tally_of}
use Rattle.tally.specs.Calls.{new_answer, new_out, add_answer, add_out, remove_answer, remove_out}
use Rattle.tally.specs.Steps.{holding, Tallies, Fits}
use Rattle.tally.proofs.Scores.{Scores, new-scores, add-scores, remove-scores}
use Rattle.tally.proofs.Runs.{new-tallies, added-fits, add-tallies, remove-succeeds, remove-tallies, holding-reordered, tallies-words}
use Rattle.reliability.specs.Calls.{rate_answer}
use Rattle.reliability.proofs.Answers as answers
use Rattle.kinds.specs.Kinds as call
use Rattle.survival.specs.Calls.{Begun, Added, Tallied, Removing, Move, adding, removing, Moved, RemovesSucceed, Adding, Called, AllSearched, Rating}
use Rattle.survival.specs.Counts.{Count, HoldsWith}

-- a count is one number
count-one : {A : Type 0} (P : A → Type 0) (xs : List A) (m n : ℕ) → Count P xs m → Count P xs n → m ≡ n
count-one P [] m n c d = c ∙ sym d
count-one P (x ∷ xs) m n c d =
    ⊎_elim
    (λ a. ⊎_elim (λ b. a.1.1 ∙ ap suc (count-one P xs a.1.0 b.1.0 a.1.2 b.1.2) ∙ sym b.1.1) (λ b. absurd (b.0 a.0)) d)
    (λ a. ⊎_elim (λ b. absurd (a.0 b.0)) (λ b. count-one P xs m n a.1 b.1) d) c

-- ---- a searched round's record has its study's class sizes, and holds where removal finds the round joined
round-sizes : (f : List ℕ) (r : ℕ) (x : List ℕ) → Searched f r x → (record_size1 x ≡ study_size1 (study_of f)) × (record_size2 x ≡ study_size2 (study_of f))
round-sizes f r x s = (ap record_size1 (search-wrote f r x s), ap record_size2 (search-wrote f r x s))

-- a searched round's record holds where removal finds the round joined
searched-holds : (f : List ℕ) (r : ℕ) (x : List ℕ) → Searched f r x → (a b : ℕ) → a ≤ record_size1 x → b ≤ record_size2 x → T (record_holds x a b) ↔ RoundHolds (study_of f) r a b
searched-holds f r x s = subst (λ y. (a b : ℕ) → a ≤ record_size1 y → b ≤ record_size2 y → T (record_holds y a b) ↔ RoundHolds (study_of f) r a b) (sym (search-wrote f r x s)) (claims f r (search-passed f r x s)).removal

-- ---- the calls
fresh-answer : {n1 n2 : ℕ} {t : List ℕ} (b : Begun n1 n2 t) → new_answer n1 n2 (length (call.new_lent b.made)) ≡ success (0 ∷ [])
fresh-answer b = rw (← b.size1-is, ← b.size2-is) (sym b.made.kept.0 ∙ b.success-is)

fresh-left : {n1 n2 : ℕ} {t : List ℕ} (b : Begun n1 n2 t) → new_out n1 n2 (call.new_lent b.made) ≡ t
fresh-left b = rw (← b.size1-is, ← b.size2-is) (sym b.made.kept.1 ∙ through_same b.through)

removing-left : {x u t : List ℕ} (r : Removing x u t) → remove_out x u ≡ t
removing-left r = ap₂ remove_out (sym r.record_is) (sym r.tally-is) ∙ sym r.made.kept.1 ∙ through_same r.through

adding-left : {x u t : List ℕ} (a : Adding x u t) → add_out x u ≡ t
adding-left a = ap₂ add_out (sym a.record_is) (sym a.tally-is) ∙ sym a.made.kept.1 ∙ through_same a.through

-- THE SCORE after any adds and removes is the sum of the cells
pub called-scores : (n1 n2 : ℕ) (ms : List Move) (t : List ℕ) → Called n1 n2 ms t → Scores n1 n2 t
called-scores n1 n2 [] t b = subst (Scores n1 n2) (fresh-left b) (new-scores n1 n2 (call.new_lent b.made) (fresh-answer b))
called-scores n1 n2 (adding x ∷ ms) t (u, c, a) = subst (Scores n1 n2) (adding-left a) (add-scores x u (called-scores n1 n2 ms u c))
called-scores n1 n2 (removing x ∷ ms) t (u, c, r) = subst (Scores n1 n2) (removing-left r) (remove-scores x u (called-scores n1 n2 ms u c))

-- THE TALLY OF THESE RECORDS, each of which fits
pub record Run (n1 n2 : ℕ) (xs : List (List ℕ)) (t : List ℕ) : Type 0 where
  pub slice : List ℕ
  pub tallies : Tallies slice t n1 n2 xs
  pub fits : (x : List ℕ) → x ∈ xs → Fits n1 n2 x

begun-run : {n1 n2 : ℕ} {t : List ℕ} → Begun n1 n2 t → Run n1 n2 [] t
begun-run {n1} {n2} b =
    let s = call.new_lent b.made in
    record { slice = s; tallies = subst (λ u. Tallies s u n1 n2 []) (fresh-left b) (new-tallies n1 n2 s (fresh-answer b)); fits = λ x m. elim m [ ] }

added-run : {n1 n2 : ℕ} {x u t : List ℕ} {xs : List (List ℕ)} → Run n1 n2 xs u → Added x u t → Run n1 n2 (x ∷ xs) t
added-run {n1} {n2} {x} {u} {t} {xs} d a =
    record {
      slice = d.slice;
      tallies = subst (λ y. Tallies d.slice y n1 n2 (x ∷ xs)) (adding-left a.called) (add-tallies d.tallies x answer);
      fits = each;
    }
  where
    answer : add_answer x u ≡ success (0 ∷ [])
    answer = let c = a.called in ap₂ add_answer (sym c.record_is) (sym c.tally-is) ∙ sym c.made.kept.0 ∙ a.success-is

    each : (y : List ℕ) → y ∈ x ∷ xs → Fits n1 n2 y
    each y (Memᴰ.head e) = rw e (added-fits d.tallies x answer)
    each y (Memᴰ.tail m) = d.fits y m

-- a remove of one of them succeeds
removed-run : {n1 n2 : ℕ} {x u t : List ℕ} {xs ys : List (List ℕ)} → Run n1 n2 xs u → (r : Removing x u t) → With x ys xs → (call.remove_result r.made ≡ success (0 ∷ [])) × Run n1 n2 ys t
removed-run {n1} {n2} {x} {u} {t} {xs} {ys} d r w = (
  r.made.kept.0 ∙ ap₂ remove_answer r.record_is r.tally-is ∙ remove-succeeds d.tallies w fit,
  record {
    slice = d.slice;
    tallies = subst (λ y. Tallies d.slice y n1 n2 ys) (removing-left r) (remove-tallies d.tallies w fit);
    fits = λ y m. d.fits y (with-others w m);
  },
)
  where
    fit : Fits n1 n2 x
    fit = d.fits x (with_in w)

pub run : (n1 n2 : ℕ) (xs : List (List ℕ)) (t : List ℕ) → Tallied n1 n2 xs t → Run n1 n2 xs t
run n1 n2 [] t b = begun-run b
run n1 n2 (x ∷ xs) t w = added-run (run n1 n2 xs w.0 w.1) w.2

pub moved : (n1 n2 : ℕ) (ms : List Move) (left : List (List ℕ)) (t : List ℕ) (m : Moved n1 n2 ms left t) → RemovesSucceed n1 n2 ms left t m × Run n1 n2 left t
moved n1 n2 [] left t m = (tt, subst (λ l. Run n1 n2 l t) (sym m.1) (begun-run m.0))
moved n1 n2 (adding x ∷ ms) left t (u, before, m, a, e) =
    let k = moved n1 n2 ms before u m in
    (k.0, subst (λ l. Run n1 n2 l t) (sym e) (added-run k.1 a))
moved n1 n2 (removing x ∷ ms) left t (u, before, m, r, w) =
    let k = moved n1 n2 ms before u m in
    let d = removed-run k.1 r w in
    ((d.0, k.0), d.1)

-- so many of the records hold there
count-holding : (xs : List (List ℕ)) (a b : ℕ) → Count (λ x. T (record_holds x a b)) xs (holding xs a b)
count-holding [] a b = refl
count-holding (x ∷ xs) a b = go (record_holds x a b) (count-holding xs a b)
  where
    go : (h : Bool) → Count (λ x. T (record_holds x a b)) xs (holding xs a b)
        → (T h × ((m : ℕ) × (flag h + holding xs a b ≡ suc m) × Count (λ x. T (record_holds x a b)) xs m)) ⊎ ((T h → ⊥) × Count (λ x. T (record_holds x a b)) xs (flag h + holding xs a b))
    go true c = inl (tt, (holding xs a b, omega arith, c))
    go false c = inr ((λ t. t), subst (Count (λ x. T (record_holds x a b)) xs) (omega arith) c)

module _ {n1 n2 : ℕ} {xs : List (List ℕ)} {t : List ℕ} (d : Run n1 n2 xs t) where
  pub sizes : (tally_size1 t ≡ n1) × (tally_size2 t ≡ n2)
  sizes = (d.tallies.one, d.tallies.two)

  pub many : rounds t ≡ length xs
  many = d.tallies.many

  pub cells : (l1 l2 : ℕ) → l1 ≤ n1 → l2 ≤ n2 → Count (λ x. T (record_holds x (n1 - l1) (n2 - l2))) xs (cell t l1 l2)
  cells l1 l2 h k =
      let a = n1 - l1 in
      let b = n2 - l2 in
      subst (Count (λ x. T (record_holds x a b)) xs) (sym (d.tallies.cells l1 l2 h k)) (count-holding xs a b)

  pub sound : Sound t
  sound = d.tallies.sound

-- two of the same records in whatever order have the same words
pub same-words : {n1 n2 : ℕ} {xs ys : List (List ℕ)} {t u : List ℕ} → Run n1 n2 xs t → Reordered xs ys → Run n1 n2 ys u → take (words n1 n2) t ≡ take (words n1 n2) u
same-words {n1} {n2} {xs} {ys} d o e =
    tallies-words d.tallies (holding ys) (holding-reordered xs ys o) ∙ ap (λ m. tally_of n1 n2 m (λ l1 l2. holding ys (n1 - l1) (n2 - l2))) (sym (reordered-length xs ys o))
    ∙ sym (tallies-words e.tallies (holding ys) (λ a b. refl))

-- ---- the survival signature formula depends on the counts of cells alone
formula-same : (n1 n2 p1 p2 : ℕ) (c d : ℕ → ℕ → ℕ) → ((l1 l2 : ℕ) → l1 ≤ n1 → l2 ≤ n2 → c l1 l2 ≡ d l1 l2) → sum_e n1 n2 p1 p2 c ≡ sum_e n1 n2 p1 p2 d
formula-same n1 n2 p1 p2 c d h =
    sum_same (suc n1) (λ l1. sum_to (suc n2) (λ l2. c l1 l2 * exact p1 n1 l1 * exact p2 n2 l2)) (λ l1. sum_to (suc n2) (λ l2. d l1 l2 * exact p1 n1 l1 * exact p2 n2 l2)) (λ l1 i.
    sum_same (suc n2) (λ l2. c l1 l2 * exact p1 n1 l1 * exact p2 n2 l2) (λ l2. d l1 l2 * exact p1 n1 l1 * exact p2 n2 l2) (λ l2 j.
    ap (λ x. x * exact p1 n1 l1 * exact p2 n2 l2) (h l1 l2 (omega arith) (omega arith))))

near_same : {n1 n2 p1 p2 s m r : ℕ} {c d : ℕ → ℕ → ℕ} → sum_e n1 n2 p1 p2 d ≡ sum_e n1 n2 p1 p2 c → Near n1 n2 p1 p2 c s m r → Near n1 n2 p1 p2 d s m r
near_same e n = record { sum_low = rw e n.sum_low; sum-high = rw e n.sum-high; rate-low = rw e n.rate-low; rate-high = rw e n.rate-high }

-- ---- rounds
-- what is said of a searched round whose record fits
fitting : (n1 n2 : ℕ) (qs : List (List ℕ × ℕ)) (xs : List (List ℕ)) → ((x : List ℕ) → x ∈ xs → Fits n1 n2 x) → AllSearched qs xs
    → (q : List ℕ × ℕ) → q ∈ qs → (study_size1 (study_of q.0) ≡ n1) × (study_size2 (study_of q.0) ≡ n2)
fitting n1 n2 (p ∷ qs) (x ∷ xs) f s q (Memᴰ.head e) =
    let z = round-sizes p.0 p.1 x s.0 in
    let a = f x here in
    subst (λ (i : List ℕ × ℕ). (study_size1 (study_of i.0) ≡ n1) × (study_size2 (study_of i.0) ≡ n2)) (sym e) (sym z.0 ∙ a.1, sym z.1 ∙ a.2)
fitting n1 n2 (p ∷ qs) (x ∷ xs) f s q (Memᴰ.tail m) = fitting n1 n2 qs xs (λ y k. f y (there k)) s.1 q m
fitting n1 n2 (p ∷ qs) [] f s q m = absurd s
fitting n1 n2 [] xs f s q m = elim m [ ]

-- as many rounds as records
pub as_many : (qs : List (List ℕ × ℕ)) (xs : List (List ℕ)) → AllSearched qs xs → length xs ≡ length qs
as_many [] [] s = refl
as_many [] (x ∷ xs) s = absurd s
as_many (q ∷ qs) [] s = absurd s
as_many (q ∷ qs) (x ∷ xs) s = ap suc (as_many qs xs s.1)

-- as many rounds are joined as records hold
joined : (n1 n2 : ℕ) (qs : List (List ℕ × ℕ)) (xs : List (List ℕ)) → ((x : List ℕ) → x ∈ xs → Fits n1 n2 x) → AllSearched qs xs → (l1 l2 n : ℕ)
    → Count (λ x. T (record_holds x (n1 - l1) (n2 - l2))) xs n → Count (HoldsWith n1 n2 l1 l2) qs n
joined n1 n2 [] [] f s l1 l2 n c = c
joined n1 n2 [] (x ∷ xs) f s l1 l2 n c = absurd s
joined n1 n2 (q ∷ qs) [] f s l1 l2 n c = absurd s
joined n1 n2 (q ∷ qs) (x ∷ xs) f s l1 l2 n c =
    let a = f x here in
    let later = joined n1 n2 qs xs (λ y k. f y (there k)) s.1 l1 l2 in
    let h = searched-holds q.0 q.1 x s.0 (n1 - l1) (n2 - l2) (omega (arith, a.1)) (omega (arith, a.2)) in
    ⊎_elim (λ k. inl (h.0 k.0, (k.1.0, k.1.1, later k.1.0 k.1.2))) (λ k. inr ((λ g. k.0 (h.1 g)), later n k.1)) c

-- ---- reliability of any tally
pub rated : (t : List ℕ) (p1 p2 s m r : ℕ) → Rating t p1 p2 s m r → (m ≡ rounds t) × Near (tally_size1 t) (tally_size2 t) p1 p2 (cell t) s m r
rated t p1 p2 s m r a =
    let c = a.made in
    answers.near t p1 p2 s m r
    (ap (λ u. rate_answer u p1 p2) (sym a.tally-is) ∙ ap₂ (rate_answer (call.rate_tally c)) (sym a.chance1-is) (sym a.chance2-is) ∙ sym c.kept ∙ a.success-is)

-- ---- of rounds that were searched
module _ {n1 n2 : ℕ} (qs : List (List ℕ × ℕ)) {xs : List (List ℕ)} {t : List ℕ} (d : Run n1 n2 xs t) (s : AllSearched qs xs) where
  pub studies : (q : List ℕ × ℕ) → q ∈ qs → (study_size1 (study_of q.0) ≡ n1) × (study_size2 (study_of q.0) ≡ n2)
  studies = fitting n1 n2 qs xs d.fits s

  pub counts : (l1 l2 : ℕ) → l1 ≤ n1 → l2 ≤ n2 → Count (HoldsWith n1 n2 l1 l2) qs (cell t l1 l2)
  counts l1 l2 h k = joined n1 n2 qs xs d.fits s l1 l2 (cell t l1 l2) (cells d l1 l2 h k)

  -- the cells are what removal counts
  pub counts-are : (by-removal : ℕ → ℕ → ℕ) → ((l1 l2 : ℕ) → l1 ≤ n1 → l2 ≤ n2 → Count (HoldsWith n1 n2 l1 l2) qs (by-removal l1 l2))
      → (l1 l2 : ℕ) → l1 ≤ n1 → l2 ≤ n2 → by-removal l1 l2 ≡ cell t l1 l2
  counts-are by-removal are l1 l2 h k = count-one (HoldsWith n1 n2 l1 l2) qs (by-removal l1 l2) (cell t l1 l2) (are l1 l2 h k) (counts l1 l2 h k)

  -- reliability on the counts that removal finds
  pub near-rounds : (by-removal : ℕ → ℕ → ℕ) → ((l1 l2 : ℕ) → l1 ≤ n1 → l2 ≤ n2 → Count (HoldsWith n1 n2 l1 l2) qs (by-removal l1 l2))
      → (p1 p2 v m r : ℕ) → Rating t p1 p2 v m r → (m ≡ length qs) × Near n1 n2 p1 p2 by-removal v m r
  near-rounds by-removal are p1 p2 v m r rate =
      let n = rated t p1 p2 v m r rate in
      let z = sizes d in
      (n.0 ∙ many d ∙ as_many qs xs s, near_same (formula-same n1 n2 p1 p2 by-removal (cell t) (counts-are by-removal are)) (rw (← z.0, ← z.1) n.1))
