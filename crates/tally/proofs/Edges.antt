-- The test of 31: the outcome of a remove can fall only where the record begins to hold, and there the cells decide.
use mathlib.Core.Path.{◌≡◌, refl, sym, ap, ap₂, subst, ◌∙◌}
use mathlib.Core.Logic.{◌↔◌, ◌⊎◌, inl, inr, ⊎_elim}
use mathlib.Core.Bool.{Bool, true, false, ◌&&◌, ◌||◌}
use mathlib.Core.List.{List, [], ◌∷◌, append-nil}
use Prim.Native.Nat.{ℕ, suc, ◌+◌, ◌-◌, ◌*◌, ◌≤◌, ◌<◌}
use native.Mathlib.Nat.{le_trans, suc-mul}
use native.Mathlib.Omega.{arith}
use lib.Dec.{ltb}
use lib.ListN.{get_or, drop}
use lib.Seq.{get_or-drop}
use borrow.Author.Tests.{le-leb, lt-leb, ltb-true, lt-ltb, eq-eqb, ne_eqb}
use Rattle.laws.specs.Tests.{T_true, T-ext, T-or, and_both, both_true, order, equal, flag}
use Rattle.laws.specs.Every.{every, every-at, every-all}
use Rattle.laws.specs.Members.{◌∈◌}
use Rattle.front.specs.declared.Pair.{Pair}
use Rattle.answer.specs.Outcome.{success}
use Rattle.record.specs.Record.{listed, record_holds}
use Rattle.record.proofs.Records.{IsRecord, record_is}
use Rattle.chance.specs.Chance.{Grows}
use Rattle.chance.proofs.Bounds.{rising-all}
use Rattle.soundness.specs.Tally.{head_words, tally_size1, tally_size2, rounds, width, cell, Sound}
use Rattle.cells.specs.Cells.{held}
use Rattle.tally.specs.Calls.{removed, removable}
use Rattle.cells.specs.Steps.{peak, exchange_all, starts_line, line_test}
use Rattle.tally.specs.Steps.{ready_answer}
use Rattle.cells.proofs.Peaks.{holds-peak, peak-next, peak-most, turn-within, turn_holds}
use Rattle.tally.proofs.Wholes.{tally-sound}
use Rattle.cells.proofs.Rows.{held-true, held-false}
use Rattle.tally.proofs.Readies.{ready-sound, ready-fits, Lowers, removable-means}

-- in a line of n cells, the last z of which are to be lowered, the first of these is above the one in front of it, or above 0
record Begins (f : ℕ → ℕ) (n z : ℕ) : Type 0 where
  after : (i : ℕ) → suc i < n → suc i ≡ n - z → f i < f (suc i)
  whole : 0 < n → z ≡ n → 0 < f 0

module _ (cells : List ℕ) (at n z step : ℕ) (fits : z ≤ n) (f : ℕ → ℕ) (is : (i : ℕ) → i < n → get_or cells (at + i * step) 0 ≡ f i) where
  -- the first of them, and the one in front
  first-at : 0 < z → get_or cells (at + (n - z) * step) 0 ≡ f (n - z)
  first-at h = is (n - z) (omega arith)

  front_at : (i : ℕ) → suc i ≡ n - z → get_or cells (at + (n - z) * step - step) 0 ≡ f i
  front_at i e =
      let q : at + (n - z) * step - step ≡ at + i * step = omega (arith, suc-mul i step, ap (λ k. k * step) e) in
      ap (λ k. get_or cells k 0) q ∙ is i (omega arith)

  line-is : (starts_line cells at n z step ≡ true) ↔ Begins f n z
  line-is = (says, ⊎_elim (λ k b. rw (le-leb z 0 k)) (λ k b. ⊎_elim (full k b) (part k b) (equal z n)) (order z 0))
    where
      says : starts_line cells at n z step ≡ true → Begins f n z
      says e =
          record {
            after = λ i h q.
                let s = rw (lt-leb z 0 (omega (arith, q)), ne_eqb z n (λ u. omega (arith, u, q))) at e in
                omega (arith, ltb-true (get_or cells (at + (n - z) * step - step) 0) (get_or cells (at + (n - z) * step) 0) s, front_at i q, first-at (omega (arith, q)), ap f q);
            whole = λ h q.
                let o : n - z ≡ 0 = omega (arith, q) in
                let s = rw (lt-leb z 0 (omega (arith, q)), eq-eqb z n q) at e in
                omega (arith, ltb-true 0 (get_or cells (at + (n - z) * step) 0) s, first-at (omega (arith, q)), ap f o);
          }

      full : 0 < z → Begins f n z → z ≡ n → starts_line cells at n z step ≡ true
      full k b q =
          let o : n - z ≡ 0 = omega (arith, q) in
          rw (lt-leb z 0 k, eq-eqb z n q) (lt-ltb 0 (get_or cells (at + (n - z) * step) 0) (omega (arith, b.whole (omega arith) q, first-at k, ap f o)))

      part : 0 < z → Begins f n z → (z ≡ n → ⊥) → starts_line cells at n z step ≡ true
      part k b q =
          let lt : z < n = omega (arith, q) in
          let e : suc (n - z - 1) ≡ n - z = omega arith in
          rw (lt-leb z 0 k, ne_eqb z n q) (lt-ltb (get_or cells (at + (n - z) * step - step) 0) (get_or cells (at + (n - z) * step) 0) (omega (arith, b.after (n - z - 1) (omega arith) e, front_at (n - z - 1) e, first-at k, ap f e)))

module _ (r t : List ℕ) (ok : ready_answer r t ≡ success (0 ∷ [])) where
  abbrev n1 : ℕ
  n1 = tally_size1 t

  abbrev n2 : ℕ
  n2 = tally_size2 t

  abbrev w : ℕ
  w = width n2

  abbrev cells : List ℕ
  cells = drop head_words t

  sound : Sound t
  sound = ready-sound r t ok

  at-cell : (l1 l2 k : ℕ) → k ≡ l1 * w + l2 → get_or cells k 0 ≡ cell t l1 l2
  at-cell l1 l2 k e = get_or-drop head_words t k 0 ∙ ap (λ i. get_or t (head_words + i) 0) e

  -- ---- the heights of the rows
  abbrev high : ℕ → ℕ
  high l1 = peak (listed r) (n1 - l1)

  good : IsRecord r
  good = (record_is r).0 (ready-fits r t ok).0

  within : (p : Pair) → p ∈ listed r → (p.p1.0 ≤ n1 + 1) × (p.p2.0 ≤ w)
  within p m = (omega (arith, good.form.within p m, (ready-fits r t ok).1), omega (arith, good.form.within p m, (ready-fits r t ok).2))

  high-most : (l1 : ℕ) → high l1 ≤ w
  high-most l1 = peak-most (listed r) (n1 - l1) w (λ p m. (within p m).1)

  -- and of the columns: the record holds in the last cells of both
  abbrev wide : ℕ → ℕ
  wide l2 = peak (exchange_all (listed r)) (n2 - l2)

  wide-most : (l2 : ℕ) → wide l2 ≤ n1 + 1
  wide-most l2 = peak-most (exchange_all (listed r)) (n2 - l2) (n1 + 1) (λ p m. (turn-within (listed r) (n1 + 1) w within p m).1)

  both_ways : (l1 l2 : ℕ) → l1 ≤ n1 → l2 ≤ n2 → (w - high l1 ≤ l2) ↔ (n1 + 1 - wide l2 ≤ l1)
  both_ways l1 l2 h k =
      let a = n1 - l1 in
      let b = n2 - l2 in
      let row = holds-peak (listed r) a b in
      let column = holds-peak (exchange_all (listed r)) b a in
      let turned = turn_holds (listed r) a b in (
        λ q. omega (arith, column.0 (turned.0 (row.1 (omega (arith, high-most l1))))),
        λ q. omega (arith, row.0 (turned.1 (column.1 (omega (arith, wide-most l2))))),
      )

  rises : (l1 : ℕ) → l1 < n1 → high l1 ≤ high (suc l1)
  rises l1 h =
      let e : n1 - l1 ≡ suc (n1 - suc l1) = omega arith in
      omega (arith, ap (peak (listed r)) e, peak-next (listed r) (n1 - suc l1))

  held_one : (l1 l2 : ℕ) → l2 ≤ n2 → w - high l1 ≤ l2 → held r n1 n2 l1 l2 ≡ 1
  held_one l1 l2 h k = ap (λ b. flag b) (held-true r n1 n2 l1 l2 (omega (arith, high-most l1)))

  held_none : (l1 l2 : ℕ) → l2 < w - high l1 → held r n1 n2 l1 l2 ≡ 0
  held_none l1 l2 h = ap (λ b. flag b) (held-false r n1 n2 l1 l2 (omega arith))

  -- ---- what the tests of the lines say
  row_is : (l1 : ℕ) → l1 ≤ n1 → (line_test (listed r) (n1 + 1) cells w w 1 l1 ≡ true) ↔ Begins (cell t l1) w (high l1)
  row_is l1 h =
      let e : n1 - l1 ≡ n1 + 1 - 1 - l1 = omega arith in
      subst (λ z. (starts_line cells (l1 * w) w z 1 ≡ true) ↔ Begins (cell t l1) w (high l1)) (ap (peak (listed r)) e)
      (line-is cells (l1 * w) w (high l1) 1 (high-most l1) (cell t l1) (λ i b. at-cell l1 i (l1 * w + i * 1) (omega arith)))

  column-is : (l2 : ℕ) → l2 ≤ n2 → (line_test (exchange_all (listed r)) w cells (n1 + 1) 1 w l2 ≡ true) ↔ Begins (λ l1. cell t l1 l2) (n1 + 1) (wide l2)
  column-is l2 h =
      let e : n2 - l2 ≡ w - 1 - l2 = omega arith in
      subst (λ z. (starts_line cells (l2 * 1) (n1 + 1) z w ≡ true) ↔ Begins (λ l1. cell t l1 l2) (n1 + 1) (wide l2)) (ap (peak (exchange_all (listed r))) e)
      (line-is cells (l2 * 1) (n1 + 1) (wide l2) w (wide-most l2) (λ l1. cell t l1 l2) (λ i b. at-cell i l2 (l2 * 1 + i * w) (omega arith)))

  -- where the record begins to hold in a row, and where it begins to hold with one more of class 1
  record Edges : Type 0 where
    along : (l1 l2 : ℕ) → l1 ≤ n1 → l2 < n2 → suc l2 ≡ w - high l1 → cell t l1 l2 < cell t l1 (suc l2)
    whole : (l1 : ℕ) → l1 ≤ n1 → w ≡ high l1 → 0 < cell t l1 0
    down : (l1 l2 : ℕ) → l1 < n1 → l2 ≤ n2 → w - high (suc l1) ≤ l2 → l2 < w - high l1 → cell t l1 l2 < cell t (suc l1) l2

  abbrev rows : Bool
  rows = every (n1 + 1) (line_test (listed r) (n1 + 1) cells w w 1)

  abbrev columns : Bool
  columns = every w (line_test (exchange_all (listed r)) w cells (n1 + 1) 1 w)

  edges : rows ≡ true → columns ≡ true → Edges
  edges e f =
      record {
        along = λ l1 l2 h k q. (row l1 h).after l2 (omega arith) q;
        whole = λ l1 h q. (row l1 h).whole (omega arith) (sym q);
        down = λ l1 l2 h k p q.
            let at = (both_ways (suc l1) l2 h k).0 p in
            (column l2 k).after l1 (omega arith) (⊎_elim (λ j. absurd (omega (arith, (both_ways l1 l2 (omega arith) k).1 j))) (λ j. omega arith) (order (n1 + 1 - wide l2) l1));
      }
    where
      row : (l1 : ℕ) → l1 ≤ n1 → Begins (cell t l1) w (high l1)
      row l1 h = (row_is l1 h).0 (every-at (line_test (listed r) (n1 + 1) cells w w 1) (n1 + 1) e l1 (omega arith))

      column : (l2 : ℕ) → l2 ≤ n2 → Begins (λ l1. cell t l1 l2) (n1 + 1) (wide l2)
      column l2 h = (column-is l2 h).0 (every-at (line_test (exchange_all (listed r)) w cells (n1 + 1) 1 w) w f l2 (omega arith))

  edge-rows : Edges → rows ≡ true
  edge-rows d =
      every-all (line_test (listed r) (n1 + 1) cells w w 1) (n1 + 1) (λ l1 h.
      (row_is l1 (omega arith)).1 (record { after = λ i b q. d.along l1 i (omega arith) (omega arith) q; whole = λ b q. d.whole l1 (omega arith) (sym q) }))

  edge-columns : Edges → ((l1 l2 : ℕ) → l1 ≤ n1 → l2 ≤ n2 → held r n1 n2 l1 l2 ≤ cell t l1 l2) → columns ≡ true
  edge-columns d some =
      every-all (line_test (exchange_all (listed r)) w cells (n1 + 1) 1 w) w (λ l2 h. (column-is l2 (omega arith)).1 (record { after = λ i b q. falls l2 (omega arith) i (omega arith) q; whole = λ b q. top l2 (omega arith) q }))
    where
      falls : (l2 : ℕ) → l2 ≤ n2 → (l1 : ℕ) → l1 < n1 → suc l1 ≡ n1 + 1 - wide l2 → cell t l1 l2 < cell t (suc l1) l2
      falls l2 k l1 h q =
          d.down l1 l2 h k ((both_ways (suc l1) l2 h k).1 (omega (arith, q)))
          (⊎_elim (λ j. absurd (omega (arith, q, (both_ways l1 l2 (omega arith) k).0 j))) (λ j. j) (order (w - high l1) l2))

      top : (l2 : ℕ) → l2 ≤ n2 → wide l2 ≡ n1 + 1 → 0 < cell t 0 l2
      top l2 k q = omega (arith, some 0 l2 (omega arith) k, held_one 0 l2 k ((both_ways 0 l2 (omega arith) k).1 (omega (arith, q))))

  -- ---- the outcome
  abbrev m : ℕ
  m = rounds t

  abbrev less : ℕ → ℕ → ℕ
  less l1 l2 = cell t l1 l2 - held r n1 n2 l1 l2

  -- the record holds with all working, or the last cell is below M
  abbrev top : Bool
  top = record_holds r 0 0 || ltb (get_or cells (n1 * w + n2) 0) m

  last-held : (b : Bool) → record_holds r 0 0 ≡ b → held r n1 n2 n1 n2 ≡ flag b
  last-held b e =
      let i : n1 - n1 ≡ 0 = omega arith in
      let j : n2 - n2 ≡ 0 = omega arith in
      ap₂ (λ a c. flag (record_holds r a c)) i j ∙ ap (λ b. flag b) e

  top-means : top ≡ true → (record_holds r 0 0 ≡ true) ⊎ (cell t n1 n2 < m)
  top-means e =
      ⊎_elim (λ k. inl ((T_true (record_holds r 0 0)).0 k)) (λ k. inr (rw (← at-cell n1 n2 (n1 * w + n2) refl) (ltb-true (get_or cells (n1 * w + n2) 0) m ((T_true (ltb (get_or cells (n1 * w + n2) 0) m)).0 k))))
      ((T-or (record_holds r 0 0) (ltb (get_or cells (n1 * w + n2) 0) m)).0 ((T_true top).1 e))

  module _ (d : Edges) (e : top ≡ true) where
    -- the first cell to be lowered in a row is above 0
    first_above : (l1 : ℕ) → l1 ≤ n1 → 0 < high l1 → 0 < cell t l1 (w - high l1)
    first_above l1 h k = ⊎_elim whole part (equal (high l1) w)
      where
        whole : high l1 ≡ w → 0 < cell t l1 (w - high l1)
        whole q = let i : w - high l1 ≡ 0 = omega (arith, q) in rw i (d.whole l1 h (sym q))

        part : (high l1 ≡ w → ⊥) → 0 < cell t l1 (w - high l1)
        part q =
            let lt : high l1 < w = omega (arith, q, high-most l1) in
            let i : suc (w - high l1 - 1) ≡ w - high l1 = omega arith in
            rw (← i) (omega (arith, d.along l1 (w - high l1 - 1) h (omega arith) i))

    lowers : (l1 l2 : ℕ) → l1 ≤ n1 → l2 ≤ n2 → held r n1 n2 l1 l2 ≤ cell t l1 l2
    lowers l1 l2 h k = ⊎_elim some none (order (w - high l1) l2)
      where
        some : w - high l1 ≤ l2 → held r n1 n2 l1 l2 ≤ cell t l1 l2
        some q = omega (arith, held_one l1 l2 k q, first_above l1 h (omega (arith, high-most l1)), rising-all n2 (cell t l1) (λ y i. sound.grows.second l1 y h i) (w - high l1) l2 q k)

        none : l2 < w - high l1 → held r n1 n2 l1 l2 ≤ cell t l1 l2
        none q = omega (arith, held_none l1 l2 q)

    along : (l1 l2 : ℕ) → l1 ≤ n1 → l2 < n2 → less l1 l2 ≤ less l1 (suc l2)
    along l1 l2 h k = ⊎_elim past (λ q. ⊎_elim (edge q) in-front (order (w - high l1) (suc l2))) (order (w - high l1) l2)
      where
        g : cell t l1 l2 ≤ cell t l1 (suc l2)
        g = sound.grows.second l1 l2 h k

        past : w - high l1 ≤ l2 → less l1 l2 ≤ less l1 (suc l2)
        past q = omega (arith, g, held_one l1 l2 (omega arith) q, held_one l1 (suc l2) k (omega arith))

        edge : l2 < w - high l1 → w - high l1 ≤ suc l2 → less l1 l2 ≤ less l1 (suc l2)
        edge q s = let i : suc l2 ≡ w - high l1 = omega arith in omega (arith, held_none l1 l2 q, held_one l1 (suc l2) k s, d.along l1 l2 h k i)

        in-front : suc l2 < w - high l1 → less l1 l2 ≤ less l1 (suc l2)
        in-front q = omega (arith, g, held_none l1 l2 (omega arith), held_none l1 (suc l2) q)

    down : (l1 l2 : ℕ) → l1 < n1 → l2 ≤ n2 → less l1 l2 ≤ less (suc l1) l2
    down l1 l2 h k = ⊎_elim past (λ q. ⊎_elim (edge q) in-front (order (w - high (suc l1)) l2)) (order (w - high l1) l2)
      where
        g : cell t l1 l2 ≤ cell t (suc l1) l2
        g = sound.grows.first l1 l2 h k

        past : w - high l1 ≤ l2 → less l1 l2 ≤ less (suc l1) l2
        past q = omega (arith, g, held_one l1 l2 k q, held_one (suc l1) l2 k (omega (arith, rises l1 h)))

        edge : l2 < w - high l1 → w - high (suc l1) ≤ l2 → less l1 l2 ≤ less (suc l1) l2
        edge q s = omega (arith, held_none l1 l2 q, held_one (suc l1) l2 k s, d.down l1 l2 h k s q)

        in-front : l2 < w - high (suc l1) → less l1 l2 ≤ less (suc l1) l2
        in-front q = omega (arith, g, held_none l1 l2 (omega (arith, rises l1 h)), held_none (suc l1) l2 q)

    last-cell : (0 < m) × (less n1 n2 ≤ m - 1)
    last-cell = ⊎_elim
        (λ q. let b = last-held true q in let c = lowers n1 n2 (omega arith) (omega arith) in let g = sound.grows.below n1 n2 (omega arith) (omega arith) in (omega (arith, b, c, g), omega (arith, b, g)))
        (λ q. (omega arith, omega arith)) (top-means e)

    grows : Grows n1 n2 (m - 1) less
    grows =
        record {
          below = λ l1 l2 h k. le_trans (rising-all n1 (λ x. less x l2) (λ x i. down x l2 i k) l1 n1 h (omega arith)) (le_trans (rising-all n2 (less n1) (λ y i. along n1 y (omega arith) i) l2 n2 k (omega arith)) last-cell.1);
          first = down;
          second = along;
        }

    ready-removable : removable r t ≡ true
    ready-removable =
        (removable-means r t).1 (
          (last-cell.0, lowers),
          subst Sound (append-nil (removed r t)) ((tally-sound n1 n2 (m - 1) less []).1 (sound.small1, sound.small2, omega (arith, sound.few), grows)),
        )

  -- ---- and back
  module _ (e : removable r t ≡ true) where
    low : Lowers n1 n2 r t
    low = ((removable-means r t).0 e).0

    grown : Grows n1 n2 (m - 1) less
    grown = ((tally-sound n1 n2 (m - 1) less []).0 (subst Sound (sym (append-nil (removed r t))) ((removable-means r t).0 e).1)).3

    its-edges : Edges
    its-edges =
        record {
          along = λ l1 l2 h k q. omega (arith, grown.second l1 l2 h k, held_none l1 l2 (omega (arith, q)), held_one l1 (suc l2) k (omega (arith, q)), low.1 l1 (suc l2) h k);
          whole = λ l1 h q. omega (arith, held_one l1 0 (omega arith) (omega (arith, q)), low.1 l1 0 h (omega arith));
          down = λ l1 l2 h k p q. omega (arith, grown.first l1 l2 h k, held_none l1 l2 q, held_one (suc l1) l2 k p, low.1 (suc l1) l2 h k);
        }

    its-top : top ≡ true
    its-top = go (record_holds r 0 0) refl
      where
        go : (b : Bool) → record_holds r 0 0 ≡ b → b || ltb (get_or cells (n1 * w + n2) 0) m ≡ true
        go true q = refl
        go false q = rw (at-cell n1 n2 (n1 * w + n2) refl) (lt-ltb (cell t n1 n2) m (omega (arith, last-held false q, grown.below n1 n2 (omega arith) (omega arith), low.0)))

    removable-ready : rows && columns && top ≡ true
    removable-ready = both_true (both_true (edge-rows its-edges) (edge-columns its-edges low.1)) its-top

  -- THE CODE'S TEST is that of 31
  pub removable-is : (rows && columns && top) ≡ removable r t
  removable-is =
      T-ext (rows && columns && top) (removable r t) (
        λ y.
            let k = and_both (rows && columns) top ((T_true (rows && columns && top)).0 y) in
            let j = and_both rows columns k.0 in
            (T_true (removable r t)).1 (ready-removable (edges j.0 j.1) k.1),
        λ y. (T_true (rows && columns && top)).1 (removable-ready ((T_true (removable r t)).0 y)),
      )
