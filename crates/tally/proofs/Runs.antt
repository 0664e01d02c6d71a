-- The tally of a list of records, in whatever order: after new, after an add, after a remove of one of them; and a record added back.
use mathlib.Core.Path.{◌≡◌, refl, sym, ap, ap₂, subst, ◌∙◌}
use mathlib.Core.Bool.{not, ◌||◌}
use mathlib.Core.List.{List, [], ◌∷◌, ◌++◌, append-nil}
use Prim.Native.Nat.{ℕ, suc, ◌+◌, ◌-◌, ◌≤◌}
use native.Mathlib.Omega.{arith}
use lib.Dec.{eqb, ltb}
use lib.ListN.{length, take, drop, length-append}
use lib.Seq.{length_front, length-take-le, drop_at, take_at}
use borrow.Author.Tests.{ltb-false, eqb-false, ne_eqb}
use Rattle.limits.specs.Limits.{max_rounds, max_class}
use Rattle.laws.specs.Tests.{flag, flag-le, flag-order}
use Rattle.laws.specs.Members.{here, there}
use Rattle.laws.specs.Reorder.{With, Reordered, with-length}
use Rattle.answer.specs.Outcome.{success}
use Rattle.answer.proofs.Outcomes.{outcome-tests, outcome-first}
use Rattle.front.proofs.Fronts.{holds-fewer}
use Rattle.record.specs.Record.{listed, record_holds}
use Rattle.chance.specs.Chance.{Grows}
use Rattle.soundness.specs.Tally.{tally_size1, tally_size2, rounds, words, cell, Sound}
use Rattle.soundness.proofs.States.{neither}
use Rattle.tally.specs.Words.{tally_of}
use Rattle.tally.specs.Calls.{new_tests, new_answer, new_out, ready_tests, add_tests, add_answer, add_out, added, removed, removable, remove_answer, remove_out}
use Rattle.cells.specs.Cells.{held}
use Rattle.tally.specs.Steps.{ready_answer, holding, Tallies, Fits}
use Rattle.tally.proofs.Headings.{tally-length, tally-cell, tally-same}
use Rattle.tally.proofs.Wholes.{grows_same, tally-sound}
use Rattle.tally.proofs.Readies.{ready-sound, ready-room, ready-fits, ready_by, call-done, Lowers, removable-means, remove-means}

-- ---- how many hold
holding-most : (rs : List (List ℕ)) (a b : ℕ) → holding rs a b ≤ length rs
holding-most [] a b = omega arith
holding-most (r ∷ rs) a b = omega (arith, flag-le (record_holds r a b), holding-most rs a b)

holding-order : (rs : List (List ℕ)) (a c b d : ℕ) → a ≤ c → b ≤ d → holding rs c d ≤ holding rs a b
holding-order [] a c b d h k = omega arith
holding-order (r ∷ rs) a c b d h k = omega (arith, flag-order (record_holds r c d) (record_holds r a b) (holds-fewer (listed r) a c b d h k), holding-order rs a c b d h k)

holding-with : {r : List ℕ} {qs rs : List (List ℕ)} → With r qs rs → (a b : ℕ) → holding rs a b ≡ flag (record_holds r a b) + holding qs a b
holding-with {r} w a b = ap (λ l. holding l a b) w.2 ∙ go w.0 ∙ ap (λ l. flag (record_holds r a b) + holding l a b) (sym w.3)
  where
    go : (xs : List (List ℕ)) → holding (xs ++ (r ∷ w.1)) a b ≡ flag (record_holds r a b) + holding (xs ++ w.1) a b
    go [] = refl
    go (x ∷ xs) = omega (arith, go xs)

pub holding-reordered : (rs qs : List (List ℕ)) → Reordered rs qs → (a b : ℕ) → holding qs a b ≡ holding rs a b
holding-reordered [] qs e a b = ap (λ l. holding l a b) e
holding-reordered (r ∷ rs) qs h a b = holding-with h.1 a b ∙ ap (λ k. flag (record_holds r a b) + k) (holding-reordered rs h.0 h.2 a b)

-- counts of fronts grow with the working nodes
holding-grows : (rs : List (List ℕ)) (n1 n2 : ℕ) → Grows n1 n2 (length rs) (λ l1 l2. holding rs (n1 - l1) (n2 - l2))
holding-grows rs n1 n2 =
    record {
      below = λ l1 l2 h k. holding-most rs (n1 - l1) (n2 - l2);
      first = λ l1 l2 h k. holding-order rs (n1 - suc l1) (n1 - l1) (n2 - l2) (n2 - l2) (omega arith) (omega arith);
      second = λ l1 l2 h k. holding-order rs (n1 - l1) (n1 - l1) (n2 - suc l2) (n2 - l2) (omega arith) (omega arith);
    }

-- ---- a tally whose cells count
module _ (t₀ old : List ℕ) (n1 n2 : ℕ) (rs : List (List ℕ)) (c : ℕ → ℕ → ℕ) where
  abbrev front : List ℕ
  front = tally_of n1 n2 (length rs) c

  abbrev past-front : List ℕ
  past-front = drop (length front) old

  front_long : length front ≡ words n1 n2
  front_long = tally-length n1 n2 (length rs) c

  tallied : n1 ≤ max_class → n2 ≤ max_class → length rs ≤ max_rounds → words n1 n2 ≤ length t₀ → length old ≡ length t₀ → drop (words n1 n2) old ≡ drop (words n1 n2) t₀
      → ((l1 l2 : ℕ) → l1 ≤ n1 → l2 ≤ n2 → c l1 l2 ≡ holding rs (n1 - l1) (n2 - l2)) → Tallies t₀ (front ++ past-front) n1 n2 rs
  tallied h1 h2 h3 room long past counts =
      record {
        one = refl;
        two = refl;
        many = refl;
        cells = λ l1 l2 h k. tally-cell n1 n2 (length rs) c past-front l1 l2 h k ∙ counts l1 l2 h k;
        sound = (tally-sound n1 n2 (length rs) c past-front).1 (h1, h2, h3, grows_same (λ l1 l2 h k. sym (counts l1 l2 h k)) (holding-grows rs n1 n2));
        past = drop_at front past-front (words n1 n2) front_long ∙ ap (λ k. drop k old) front_long ∙ past;
        long = length_front old front (length front) (sym (length-take-le (length front) old (omega (arith, front_long)))) ∙ long;
        room = room;
      }

pub new-tallies : (n1 n2 : ℕ) (t₀ : List ℕ) → new_answer n1 n2 (length t₀) ≡ success (0 ∷ []) → Tallies t₀ (new_out n1 n2 t₀) n1 n2 []
new-tallies n1 n2 t₀ e =
    let a = outcome-tests (new_tests n1 n2 (length t₀)) (0 ∷ []) e in
    let s = neither n1 n2 (a (6, ltb max_class n1 || ltb max_class n2) here) in
    let room = ltb-false (length t₀) (words n1 n2) (a (21, ltb (length t₀) (words n1 n2)) (there here)) in
    rw e (tallied t₀ t₀ n1 n2 [] (λ l1 l2. 0) s.0 s.1 (omega arith) room refl refl (λ l1 l2 h k. refl))

-- ---- a tally written over one of these records
module _ {t₀ t : List ℕ} {n1 n2 : ℕ} {rs : List (List ℕ)} (s : Tallies t₀ t n1 n2 rs) where
  -- its cells by the class sizes, which are t's
  written : (qs : List (List ℕ)) (m : ℕ) (c : ℕ → ℕ → ℕ → ℕ → ℕ) → m ≡ length qs → length qs ≤ max_rounds
      → ((l1 l2 : ℕ) → l1 ≤ n1 → l2 ≤ n2 → c n1 n2 l1 l2 ≡ holding qs (n1 - l1) (n2 - l2))
      → let x = tally_of (tally_size1 t) (tally_size2 t) m (c (tally_size1 t) (tally_size2 t)) in Tallies t₀ (x ++ drop (length x) t) n1 n2 qs
  written qs m c e few counts =
      subst (λ x. Tallies t₀ (x ++ drop (length x) t) n1 n2 qs) (sym (shape s.one s.two e))
      (tallied t₀ t n1 n2 qs (c n1 n2) (omega (arith, s.sound.small1, s.one)) (omega (arith, s.sound.small2, s.two)) few s.room s.long s.past counts)
    where
      shape : {a b k : ℕ} → a ≡ n1 → b ≡ n2 → k ≡ length qs → tally_of a b k (c a b) ≡ tally_of n1 n2 (length qs) (c n1 n2)
      shape e f g = rw (e, f, g) refl

  has_room : words (tally_size1 t) (tally_size2 t) ≤ length t
  has_room = omega (arith, s.room, s.long, ap₂ words s.one s.two)

  pub fits-ready : (r : List ℕ) → Fits n1 n2 r → ready_answer r t ≡ success (0 ∷ [])
  fits-ready r f = ready_by r t (f.0, f.1 ∙ sym s.one, f.2 ∙ sym s.two) s.sound has_room

  pub add-succeeds : (r : List ℕ) → Fits n1 n2 r → suc (length rs) ≤ max_rounds → add_answer r t ≡ success (0 ∷ [])
  add-succeeds r f few = sym (call-done r t 24 (eqb (rounds t) max_rounds) (added r t) (fits-ready r f) (ne_eqb (rounds t) max_rounds (λ e. omega (arith, e, s.many)))).0

  -- a record that was added fits
  pub added-fits : (r : List ℕ) → add_answer r t ≡ success (0 ∷ []) → Fits n1 n2 r
  added-fits r e =
      let f = ready-fits r t (outcome-first (ready_tests r t) ((24, eqb (rounds t) max_rounds) ∷ []) (0 ∷ []) (0 ∷ []) e) in
      (f.0, f.1 ∙ s.one, f.2 ∙ s.two)

  pub add-tallies : (r : List ℕ) → add_answer r t ≡ success (0 ∷ []) → Tallies t₀ (add_out r t) n1 n2 (r ∷ rs)
  add-tallies r e =
      let free = eqb-false (rounds t) max_rounds (outcome-tests (add_tests r t) (0 ∷ []) e (24, eqb (rounds t) max_rounds) (there (there (there (there here))))) in
      rw e (written (r ∷ rs) (rounds t + 1) (λ a b l1 l2. cell t l1 l2 + held r a b l1 l2) (omega (arith, s.many)) (omega (arith, s.many, s.sound.few, free)) (λ l1 l2 h k. omega (arith, s.cells l1 l2 h k)))

  -- a remove of one of them
  module _ {r : List ℕ} {qs : List (List ℕ)} (w : With r qs rs) (f : Fits n1 n2 r) where
    left : Tallies t₀ (removed r t ++ drop (length (removed r t)) t) n1 n2 qs
    left =
        written qs (rounds t - 1) (λ a b l1 l2. cell t l1 l2 - held r a b l1 l2) (omega (arith, s.many, with-length w)) (omega (arith, s.many, s.sound.few, with-length w))
        (λ l1 l2 h k. omega (arith, s.cells l1 l2 h k, holding-with w (n1 - l1) (n2 - l2)))

    lowers : Lowers (tally_size1 t) (tally_size2 t) r t
    lowers = (
      omega (arith, s.many, with-length w),
      λ l1 l2 h k.
          omega (arith, s.cells l1 l2 (omega (arith, s.one)) (omega (arith, s.two)), holding-with w (n1 - l1) (n2 - l2), ap₂ (λ a b. held r a b l1 l2) s.one s.two),
    )

    pub remove-succeeds : remove_answer r t ≡ success (0 ∷ [])
    remove-succeeds = sym (call-done r t 31 (not (removable r t)) (removed r t) (fits-ready r f) (ap not ((removable-means r t).1 (lowers, outcome-sound)))).0
      where
        outcome-sound : Sound (removed r t)
        outcome-sound =
            let c : ℕ → ℕ → ℕ = λ l1 l2. cell t l1 l2 - held r (tally_size1 t) (tally_size2 t) l1 l2 in
            let z = tally-sound (tally_size1 t) (tally_size2 t) (rounds t - 1) c in
            subst Sound (append-nil (removed r t)) ((z []).1 ((z (drop (length (removed r t)) t)).0 left.sound))

    pub remove-tallies : Tallies t₀ (remove_out r t) n1 n2 qs
    remove-tallies = rw remove-succeeds left

  -- ---- a tally is told by its sizes, M and how many records hold where
  pub tallies-words : (many : ℕ → ℕ → ℕ) → ((a b : ℕ) → many a b ≡ holding rs a b) → take (words n1 n2) t ≡ tally_of n1 n2 (length rs) (λ l1 l2. many (n1 - l1) (n2 - l2))
  tallies-words many e =
      let c : ℕ → ℕ → ℕ = λ l1 l2. many (n1 - l1) (n2 - l2) in
      let past = drop (words n1 n2) t in
      ap (take (words n1 n2))
      (sym (tally-same n1 n2 (length rs) c past t s.one s.two s.many s.sound.total (omega (arith, s.room, s.long)) (λ l1 l2 h k. e (n1 - l1) (n2 - l2) ∙ sym (s.cells l1 l2 h k)) refl))
      ∙ take_at (tally_of n1 n2 (length rs) c) past (words n1 n2) (tally-length n1 n2 (length rs) c)

-- ---- ADDING BACK what was removed restores every word
module _ (r t : List ℕ) (e : remove_answer r t ≡ success (0 ∷ [])) where
  abbrev n1 : ℕ
  n1 = tally_size1 t

  abbrev n2 : ℕ
  n2 = tally_size2 t

  abbrev less : ℕ → ℕ → ℕ
  less l1 l2 = cell t l1 l2 - held r n1 n2 l1 l2

  abbrev rest : List ℕ
  rest = drop (length (removed r t)) t

  abbrev u : List ℕ
  u = removed r t ++ rest

  ready : ready_answer r t ≡ success (0 ∷ [])
  ready = (remove-means r t e).0

  low : Lowers n1 n2 r t
  low = (remove-means r t e).1

  long : length (removed r t) ≡ words n1 n2
  long = tally-length n1 n2 (rounds t - 1) less

  left-sound : Sound u
  left-sound = let z = tally-sound n1 n2 (rounds t - 1) less in (z rest).1 ((z []).0 (subst Sound (sym (append-nil (removed r t))) (remove-means r t e).2))

  answer : add_answer r u ≡ success (0 ∷ [])
  answer =
      sym
      (call-done r u 24 (eqb (rounds u) max_rounds) (added r u) (ready_by r u (ready-fits r t ready) left-sound (omega (arith, long, length-append (removed r t) rest)))
      (ne_eqb (rounds u) max_rounds (λ q. omega (arith, q, (ready-sound r t ready).few, low.0)))).0

  restored : added r u ++ drop (length (added r u)) u ≡ t
  restored =
      tally-same n1 n2 (rounds u + 1) (λ l1 l2. cell u l1 l2 + held r n1 n2 l1 l2) (drop (length (added r u)) u) t refl refl (omega (arith, low.0)) (ready-sound r t ready).total (ready-room r t ready)
      (λ l1 l2 h k. omega (arith, tally-cell n1 n2 (rounds t - 1) less rest l1 l2 h k, low.1 l1 l2 h k))
      (drop_at (removed r t) rest (length (added r u)) (long ∙ sym again) ∙ ap (λ k. drop k t) long)
    where
      again : length (added r u) ≡ words n1 n2
      again = tally-length n1 n2 (rounds u + 1) (λ l1 l2. cell u l1 l2 + held r n1 n2 l1 l2)

  pub add_back : (add_answer r (remove_out r t) ≡ success (0 ∷ [])) × (add_out r (remove_out r t) ≡ t)
  add_back = rw e (answer, rw answer restored)
