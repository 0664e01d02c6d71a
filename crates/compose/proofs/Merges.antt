-- One pass over two records: what a turn of either merge takes over, and what is left.
use mathlib.Core.Path.{◌≡◌, sym, ap, ap₂, ◌∙◌, subst}
use mathlib.Core.Logic.{◌⊎◌, inl, ⊎_elim}
use mathlib.Core.Bool.{◌&&◌, ◌||◌, and_comm, and-false, or_assoc, or_comm, and-or_distrib_right}
use mathlib.Core.List.{List, [], ◌∷◌, ◌++◌}
use Prim.Native.Nat.{ℕ, zero, suc, ◌+◌, ◌≤◌, ◌<◌, min, max}
use native.Mathlib.Omega.{arith}
use native.Mathlib.Numerals.{add-one}
use lib.Dec.{T, eqb, eqb→eq}
use lib.ListN.{length, get_or, drop, drop_of_length-le, get_or-eq_default}
use lib.Seq.{drop-cons}
use Rattle.limits.specs.Limits.{max_class}
use Rattle.laws.specs.Tests.{T-ext, T_and, T-or, order}
use Rattle.laws.specs.Members.{here, any_out, any_append, at_in}
use Rattle.laws.specs.Pairwise.{Pairwise, pairwise_drop}
use Rattle.front.specs.declared.Pair.{Pair}
use Rattle.front.specs.Pair.{pair_of, min_pair, holds_at}
use Rattle.front.specs.Front.{holds, minima, Within, Falls}
use Rattle.front.specs.Steps.{RecordForm}
use Rattle.front.proofs.Pairs.{numbers, holds-is, min-holds}
use Rattle.front.proofs.Joins.{minima-within, minima-holds, append-within}
use Rattle.record.specs.Record.{record_size1, record_size2, pair_count, listed, record_bytes, front_bytes, is_record}
use Rattle.record.specs.Steps.{pair_at}
use Rattle.buffer.specs.Steps.{Puttable}
use Rattle.record.proofs.Bytes.{pair-at, listed-length}
use Rattle.record.proofs.Records.{record_is, record-few}
use Rattle.buffer.proofs.Collects.{Where, Collects, collects-none, collects-puttable, collects-more, collects-all}
use Rattle.compose.specs.Steps.{Joinable}

-- ---- what is left of two lists: where both hold, where one does
abbrev pub both : List Pair → List Pair → Where
both l r x y = holds l x y && holds r x y

abbrev pub either : List Pair → List Pair → Where
either l r x y = holds l x y || holds r x y

-- of two pairs, the one with the smaller p2 is done with: its minimum with a later pair of the other list is covered
pub both-pass : (p q : Pair) (l r : List Pair) → Pairwise Falls (q ∷ r) → p.p2.0 ≤ q.p2.0 → (x y : ℕ) → both (p ∷ l) (q ∷ r) x y ≡ (holds_at (min_pair p q) x y || both l (q ∷ r) x y)
both-pass p q l r f h x y =
    and-or_distrib_right (holds_at p x y) (holds l x y) (holds (q ∷ r) x y) ∙ ap (λ t. t || both l (q ∷ r) x y) (now ∙ sym (min-holds p q x y))
  where
    now : (holds_at p x y && holds (q ∷ r) x y) ≡ (holds_at p x y && holds_at q x y)
    now =
        let e = T_and (holds_at p x y) (holds (q ∷ r) x y) in
        let g = T_and (holds_at p x y) (holds_at q x y) in
        let o = T-or (holds_at q x y) (holds r x y) in
        T-ext (holds_at p x y && holds (q ∷ r) x y) (holds_at p x y && holds_at q x y) (
          λ t.
              let k = e.0 t in
              g.1 (k.0, ⊎_elim (λ i. i) (λ i. let s = any_out (λ u. holds_at u x y) r i in (holds-is q x y).1 (omega (arith, f.0 s.0 s.1, (holds-is s.0 x y).0 s.2, (holds-is p x y).0 k.0))) (o.0 k.1)),
          λ t. let k = g.0 t in e.1 (k.0, o.1 (inl k.1)),
        )

pub both-pass-right : (p q : Pair) (l r : List Pair) → Pairwise Falls (p ∷ l) → q.p2.0 ≤ p.p2.0 → (x y : ℕ) → both (p ∷ l) (q ∷ r) x y ≡ (holds_at (min_pair p q) x y || both (p ∷ l) r x y)
both-pass-right p q l r f h x y =
    and_comm (holds (p ∷ l) x y) (holds (q ∷ r) x y) ∙ both-pass q p r l f h x y
    ∙ ap₂ ◌||◌ (min-holds q p x y ∙ and_comm (holds_at q x y) (holds_at p x y) ∙ sym (min-holds p q x y)) (and_comm (holds r x y) (holds (p ∷ l) x y))

either-pass : (p : Pair) (l r : List Pair) (x y : ℕ) → either (p ∷ l) r x y ≡ (holds_at p x y || either l r x y)
either-pass p l r x y = or_assoc (holds_at p x y) (holds l x y) (holds r x y)

either-pass-right : (q : Pair) (l r : List Pair) (x y : ℕ) → either l (q ∷ r) x y ≡ (holds_at q x y || either l r x y)
either-pass-right q l r x y =
    or_comm (holds l x y) (holds (q ∷ r) x y) ∙ either-pass q r l x y ∙ ap (λ t. holds_at q x y || t) (or_comm (holds r x y) (holds l x y))

-- ---- the pairs of a list by place; (0, 0) past the last
abbrev pub at : List Pair → ℕ → Pair
at l i = get_or l i (pair_of 0 0)

-- p1 falls along a list
later : (l : List Pair) → Pairwise Falls l → (i : ℕ) → (at l (suc i)).p1.0 ≤ (at l i).p1.0
later [] f i = omega arith
later (p ∷ []) f zero = omega arith
later (p ∷ q ∷ l) f zero = omega (arith, f.0 q here)
later (p ∷ l) f (suc i) = later l f.1 i

-- what the code reads of a record
module _ (x : List ℕ) (r : T (is_record x)) where
  pub pair_is : (i : ℕ) {p : Pair} → p ≡ pair_at x i → p ≡ at (listed x) i
  pair_is i e = e ∙ pair-at x i ((record_is x).0 r).long

  pub count-is : {k : ℕ} → k ≡ pair_count x → (k ≡ length (listed x)) × (k ≤ max_class + 1)
  count-is e = let u = (record_is x).0 r in (e ∙ sym (listed-length x u.long), omega (arith, record-few x u, u.small1))

-- what is known of the pair at place i of a list in record form
module _ {n1 n2 : ℕ} {l : List Pair} (r : RecordForm n1 n2 l) (i : ℕ) {p : Pair} (e : p ≡ at l i) where
  next-top : (p.p1.0 ≡ (at l i).p1.0) × ((at l (i + 1)).p1.0 ≤ p.p1.0)
  next-top =
      let f = (numbers e).0 in
      let g : (at l (i + 1)).p1.0 ≤ (at l i).p1.0 = rw (add-one i) (later l r.falls i) in
      omega arith

  next-none : length l ≤ i → p.p1.0 ≡ 0
  next-none h = (numbers (e ∙ get_or-eq_default l (pair_of 0 0) {n = i} h)).0

  module _ (h : i < length l) where
    next-in : Within n1 n2 p
    next-in = subst (λ z. Within n1 n2 z) (sym e) (r.within (at l i) (at_in l i (pair_of 0 0) h))

    next-split : drop i l ≡ p ∷ drop (i + 1) l
    next-split = drop-cons l i (pair_of 0 0) h ∙ ap₂ (λ z n. z ∷ drop n l) (sym e) (sym (add-one i))

    next-falls : Pairwise Falls (p ∷ drop (i + 1) l)
    next-falls = subst (λ m. Pairwise Falls m) next-split (pairwise_drop Falls i l r.falls)

-- ---- THE INVARIANT of a merge at the places i and j
-- the record b has collected all but what `rest` says of the pairs from there on, whose p1 is at most `top` of the next two
pub record Merging (rest : List Pair → List Pair → Where) (top : ℕ → ℕ → ℕ) (n1 n2 : ℕ) (l r : List Pair) (i j : ℕ) (b : List ℕ) : Type 0 where
  pub form-left : RecordForm n1 n2 l
  pub form-right : RecordForm n1 n2 r
  pub in_left : i ≤ length l
  pub in_right : j ≤ length r
  pub collects : Collects n1 n2 (rest l r) (rest (drop i l) (drop j r)) (top (at l i).p1.0 (at r j).p1.0) b

-- a merge of two records begins
pub merging-none : {rest : List Pair → List Pair → Where} {top : ℕ → ℕ → ℕ} {x y b : List ℕ} {u v : ℕ} → Joinable x y → u ≡ record_size1 x → v ≡ record_size2 x → b ≡ record_bytes u v []
    → Merging rest top (record_size1 x) (record_size2 x) (listed x) (listed y) 0 0 b
merging-none {x = x} {y = y} k e f g =
    let s = (record_is x).0 k.left_is in
    let t = (record_is y).0 k.right_is in
    let w = (T_and (eqb (record_size1 x) (record_size1 y)) (eqb (record_size2 x) (record_size2 y))).0 k.same in
    record {
      form-left = s.form;
      form-right = rw (eqb→eq (record_size1 x) (record_size1 y) w.0, eqb→eq (record_size2 x) (record_size2 y) w.1) t.form;
      in_left = omega arith;
      in_right = omega arith;
      collects = collects-none s.small1 s.small2 (g ∙ ap₂ (λ m n. record_bytes m n []) e f);
    }

-- what `put` left after the pair c
abbrev pub PutIn : List ℕ → Pair → List ℕ → Type 0
PutIn b c b' = b' ≡ front_bytes (record_size1 b) (record_size2 b) (listed b ++ (c ∷ []))

-- ---- series
module _ {n1 n2 : ℕ} {l r : List Pair} {i j : ℕ} {b : List ℕ} (m : Merging both min n1 n2 l r i j b) (hi : i < length l) (hj : j < length r) {p q c : Pair} (ep : p ≡ at l i) (eq : q ≡ at r j) (ec : c ≡ min_pair p q) where
  -- for omega: the tops of the two next pairs, and c's numbers
  tops : ((p.p1.0 ≡ (at l i).p1.0) × ((at l (i + 1)).p1.0 ≤ p.p1.0)) × ((q.p1.0 ≡ (at r j).p1.0) × ((at r (j + 1)).p1.0 ≤ q.p1.0)) × ((c.p1.0 ≡ min p.p1.0 q.p1.0) × (c.p2.0 ≡ min p.p2.0 q.p2.0))
  tops = (next-top m.form-left i ep, next-top m.form-right j eq, numbers ec)

  c-in : Within n1 n2 c
  c-in = omega (arith, tops, next-in m.form-left i ep hi, next-in m.form-right j eq hj)

  c-low : c.p1.0 ≤ min (at l i).p1.0 (at r j).p1.0
  c-low = omega (arith, tops)

  pub series-puttable : Puttable b c
  series-puttable = collects-puttable m.collects c c-in c-low

  abbrev l' : List Pair
  l' = drop (i + 1) l

  abbrev r' : List Pair
  r' = drop (j + 1) r

  module _ {b' : List ℕ} (s : PutIn b c b') where
    pub series-left : p.p2.0 ≤ q.p2.0 → Merging both min n1 n2 l r (i + 1) j b'
    series-left h =
        record {
          form-left = m.form-left;
          form-right = m.form-right;
          in_left = omega arith;
          in_right = m.in_right;
          collects = collects-more m.collects c c-in c-low s
              (λ x y.
              rw (next-split m.form-left i ep hi, next-split m.form-right j eq hj)
              (both-pass p q l' r' (next-falls m.form-right j eq hj) h x y ∙ ap (λ z. holds_at z x y || both l' (q ∷ r') x y) (sym ec)))
              (omega (arith, tops));
        }

    pub series-right : q.p2.0 ≤ p.p2.0 → Merging both min n1 n2 l r i (j + 1) b'
    series-right h =
        record {
          form-left = m.form-left;
          form-right = m.form-right;
          in_left = m.in_left;
          in_right = omega arith;
          collects = collects-more m.collects c c-in c-low s
              (λ x y.
              rw (next-split m.form-left i ep hi, next-split m.form-right j eq hj)
              (both-pass-right p q l' r' (next-falls m.form-left i ep hi) h x y ∙ ap (λ z. holds_at z x y || both (p ∷ l') r' x y) (sym ec)))
              (omega (arith, tops));
        }

-- one list is at its end
pub series-done : {n1 n2 : ℕ} {l r : List Pair} {i j : ℕ} {b : List ℕ} → Merging both min n1 n2 l r i j b → (length l ≤ i) ⊎ (length r ≤ j) → b ≡ front_bytes n1 n2 (minima l r)
series-done {n1} {n2} {l} {r} {i} {j} m h =
    collects-all m.collects (minima l r) (minima-within n1 n2 l r m.form-left.within m.form-right.within) (minima-holds l r)
    (λ x y. ⊎_elim (λ k. rw (drop_of_length-le l {i = i} k)) (λ k. rw (drop_of_length-le r {i = j} k) (and-false (holds (drop i l) x y))) h)

-- ---- parallel
module _ {n1 n2 : ℕ} {l r : List Pair} {i j : ℕ} {b : List ℕ} (m : Merging either max n1 n2 l r i j b) (some : i + j < length l + length r) {p q : Pair} (ep : p ≡ at l i) (eq : q ≡ at r j) where
  tops2 : ((p.p1.0 ≡ (at l i).p1.0) × ((at l (i + 1)).p1.0 ≤ p.p1.0)) × ((q.p1.0 ≡ (at r j).p1.0) × ((at r (j + 1)).p1.0 ≤ q.p1.0))
  tops2 = (next-top m.form-left i ep, next-top m.form-right j eq)

  -- the pair with the larger p1 stands in its list
  module _ (h : q.p1.0 ≤ p.p1.0) where
    left-some : i < length l
    left-some =
        ⊎_elim (λ le. absurd (omega (arith, m.in_left, next-none m.form-left i ep le, next-in m.form-right j eq (omega (arith, m.in_left))))) (λ lt. lt) (order (length l) i)

    left-low : p.p1.0 ≤ max (at l i).p1.0 (at r j).p1.0
    left-low = omega (arith, tops2)

    pub left-puttable : Puttable b p
    left-puttable = collects-puttable m.collects p (next-in m.form-left i ep left-some) left-low

    pub parallel-left : {b' : List ℕ} → PutIn b p b' → Merging either max n1 n2 l r (i + 1) j b'
    parallel-left s =
        record {
          form-left = m.form-left;
          form-right = m.form-right;
          in_left = omega (arith, left-some);
          in_right = m.in_right;
          collects = collects-more m.collects p (next-in m.form-left i ep left-some) left-low s
              (λ x y. rw (next-split m.form-left i ep left-some) (either-pass p (drop (i + 1) l) (drop j r) x y)) (omega (arith, tops2));
        }

  module _ (h : p.p1.0 < q.p1.0) where
    right-some : j < length r
    right-some = ⊎_elim (λ le. absurd (omega (arith, next-none m.form-right j eq le))) (λ lt. lt) (order (length r) j)

    right-low : q.p1.0 ≤ max (at l i).p1.0 (at r j).p1.0
    right-low = omega (arith, tops2)

    pub right-puttable : Puttable b q
    right-puttable = collects-puttable m.collects q (next-in m.form-right j eq right-some) right-low

    pub parallel-right : {b' : List ℕ} → PutIn b q b' → Merging either max n1 n2 l r i (j + 1) b'
    parallel-right s =
        record {
          form-left = m.form-left;
          form-right = m.form-right;
          in_left = m.in_left;
          in_right = omega (arith, right-some);
          collects = collects-more m.collects q (next-in m.form-right j eq right-some) right-low s
              (λ x y. rw (next-split m.form-right j eq right-some) (either-pass-right q (drop i l) (drop (j + 1) r) x y)) (omega (arith, tops2));
        }

-- both lists are at their ends
pub parallel-done : {n1 n2 : ℕ} {l r : List Pair} {i j : ℕ} {b : List ℕ} → Merging either max n1 n2 l r i j b → length l + length r ≤ i + j → b ≡ front_bytes n1 n2 (l ++ r)
parallel-done {n1} {n2} {l} {r} {i} {j} m h =
    collects-all m.collects (l ++ r) (append-within n1 n2 l r m.form-left.within m.form-right.within) (λ x y. any_append (λ p. holds_at p x y) l r)
    (λ x y. rw (drop_of_length-le l {i = i} (omega (arith, m.in_right)), drop_of_length-le r {i = j} (omega (arith, m.in_left))))
