-- A record that is built pair by pair: what `put` leaves of it.
use mathlib.Core.Path.{◌≡◌, sym, ap, ap₂, ◌∙◌, subst}
use mathlib.Core.Logic.{⊎_elim}
use mathlib.Core.Bool.{true, false, true≢false}
use mathlib.Core.List.Memᴰ
use mathlib.Core.List.{List, [], ◌∷◌, ◌++◌, append_assoc}
use Prim.Native.Nat.{ℕ, suc, ◌+◌, ◌-◌, ◌*◌, ◌≤◌, ◌<◌}
use native.Mathlib.Omega.{arith}
use lib.ListN.{length, get_or, take, drop, length-append, length-set, take-append-drop}
use lib.Seq.{take-append_seam, length-take-le, take-suc, take_all, get_or-take}
use Rattle.limits.specs.Limits.{max_class}
use Rattle.laws.specs.Tests.{T_true, order}
use Rattle.laws.specs.Members.{◌∈◌, here}
use Rattle.laws.specs.Parts.{set-two, drop-two}
use Rattle.front.specs.declared.Pair.{Pair}
use Rattle.front.specs.Pair.{pair_of, covers, dominates}
use Rattle.front.specs.Front.{front, Falls, AtMost}
use Rattle.front.specs.Steps.{RecordForm}
use Rattle.front.proofs.Pairs.{Above, covers-is, dominates-is}
use Rattle.front.proofs.Fronts.{form-short}
use Rattle.record.specs.Record.{record_size1, record_size2, pair_count, flat, listed, record_bytes, front_bytes, longest}
use Rattle.record.specs.Steps.{pair_at}
use Rattle.buffer.specs.Steps.{record_in, stored, Puttable}
use Rattle.record.proofs.Bytes.{flat-length, flat_append, take-flat, pair-at, listed-length, record-whole}
use Rattle.record.proofs.Records.{IsRecord, record_is}
use Rattle.buffer.proofs.Puts.{put_first, put-covered, put-over, put-form, put-behind}

-- the bytes b begin with the record of l
pub record Begins (n1 n2 : ℕ) (l : List Pair) (b : List ℕ) : Type 0 where
  pub rest : List ℕ
  pub bytes : b ≡ record_bytes n1 n2 l ++ rest

module _ {n1 n2 : ℕ} {l : List Pair} {b : List ℕ} (g : Begins n1 n2 l b) where
  pub begins-in : record_in b ≡ record_bytes n1 n2 l
  begins-in =
      let e : 3 + 2 * length l ≡ length (record_bytes n1 n2 l) = omega (arith, flat-length l) in
      ap record_in g.bytes ∙ ap (λ n. take n (record_bytes n1 n2 l ++ g.rest)) e ∙ take-append_seam (record_bytes n1 n2 l) g.rest

  -- a pair stored at a place cuts the list behind it
  pub begins-stored : (at : ℕ) (p : Pair) → at ≤ length l → 5 + 2 * at ≤ length b → Begins n1 n2 (take at l ++ (p ∷ [])) (stored b at p)
  begins-stored at p h room =
      let old = flat l ++ g.rest in
      let front-part = n1 ∷ n2 ∷ (at + 1) ∷ flat (take at l) in
      let n = 2 * at in
      let long : n + 1 < length old = omega (arith, ap length g.bytes) in
      let split : old ≡ flat (take at l) ++ (get_or old n 0 ∷ get_or old (n + 1) 0 ∷ drop (n + 2) old) =
      sym (take-append-drop n old) ∙ ap₂ ◌++◌ (take-flat l at g.rest h) (drop-two old n 0 long) in
      let size : at + 1 ≡ length (take at l ++ (p ∷ [])) = omega (arith, length-append (take at l) (p ∷ []), length-take-le at l h) in
      record {
        rest = drop (n + 2) old;
        bytes =
            ap (λ m. stored m at p) (g.bytes ∙ ap (λ r. n1 ∷ n2 ∷ length l ∷ r) split)
            ∙ set-two front-part (get_or old n 0) (get_or old (n + 1) 0) (drop (n + 2) old) p.p1.0 p.p2.0 (3 + 2 * at) (omega (arith, flat-length (take at l), length-take-le at l h))
            ∙ ap₂ (λ k r. n1 ∷ n2 ∷ k ∷ r) size (sym (append_assoc (flat (take at l)) (p.p1.0 ∷ p.p2.0 ∷ []) (drop (n + 2) old)) ∙ ap (λ r. r ++ drop (n + 2) old) (sym (flat_append (take at l) (p ∷ []))));
      }

pub stored-long : (b : List ℕ) (at : ℕ) (p : Pair) → length (stored b at p) ≡ length b
stored-long b at p = simp length-set

-- the last pair of a list, and those before it
snoc_of : (l : List Pair) (d : Pair) → 0 < length l → take (length l - 1) l ++ (get_or l (length l - 1) d ∷ []) ≡ l
snoc_of l d h =
    let e : suc (length l - 1) ≡ length l = omega arith in
    sym (take-suc l (length l - 1) d (omega arith)) ∙ ap (λ n. take n l) e ∙ take_all (length l) l (omega arith)

-- ---- the cases of `put`: the bytes b begin with the record r, and become b'
module _ {r : List ℕ} {p : Pair} (q : Puttable r p) where
  abbrev l : List Pair
  l = listed r

  abbrev n1 : ℕ
  n1 = record_size1 r

  abbrev n2 : ℕ
  n2 = record_size2 r

  is : IsRecord r
  is = (record_is r).0 q.good

  module _ (b : List ℕ) (e : record_in b ≡ r) (long : length b ≡ longest) where
    begins : Begins n1 n2 l b
    begins =
        record {
          rest = drop (3 + 2 * pair_count b) b;
          bytes = sym (take-append-drop (3 + 2 * pair_count b) b) ∙ ap (λ x. x ++ drop (3 + 2 * pair_count b) b) (e ∙ record-whole r is.long);
        }

    size : length l ≡ pair_count b
    size = listed-length r is.long ∙ ap pair_count (sym e) ∙ get_or-take (3 + 2 * pair_count b) b 2 0 (omega arith)

    pub few : pair_count b ≤ max_class + 1
    few = omega (arith, size, form-short n1 n2 l is.form, is.small1)

    -- the record after p is stored at a place
    after : (at : ℕ) {b' : List ℕ} → at ≤ pair_count b → at ≤ max_class → take at l ++ (p ∷ []) ≡ front n1 n2 (l ++ (p ∷ [])) → b' ≡ stored b at p → record_in b' ≡ front_bytes n1 n2 (l ++ (p ∷ []))
    after at h k f g = ap record_in g ∙ begins-in (begins-stored begins at p (omega (arith, size)) (omega (arith, long))) ∙ ap (record_bytes n1 n2) f

    pub wrote-first : pair_count b ≡ 0 → {b' : List ℕ} → b' ≡ stored b 0 p → record_in b' ≡ front_bytes n1 n2 (l ++ (p ∷ []))
    wrote-first z = after 0 (omega arith) (omega arith) (none l (size ∙ z))
      where
        none : (m : List Pair) → length m ≡ 0 → p ∷ [] ≡ front n1 n2 (m ++ (p ∷ []))
        none [] e = put_first p q.inside
        none (x ∷ m) e = absurd (omega arith)

    -- the last pair, which `put` reads
    module _ (some : 0 < pair_count b) {last : Pair} (read : last ≡ pair_at b (pair_count b - 1)) where
      abbrev before : List Pair
      before = take (length l - 1) l

      last-is : last ≡ get_or l (length l - 1) (pair_of 0 0)
      last-is =
          let i = pair_count b - 1 in
          let n = 3 + 2 * pair_count b in
          read ∙ sym (ap₂ pair_of (get_or-take n b (3 + 2 * i) 0 (omega arith)) (get_or-take n b (4 + 2 * i) 0 (omega arith))) ∙ ap (λ x. pair_at x i) e ∙ pair-at r i is.long
          ∙ ap (λ k. get_or l (k - 1) (pair_of 0 0)) (sym size)

      whole : before ++ (last ∷ []) ≡ l
      whole = ap (λ z. before ++ (z ∷ [])) last-is ∙ snoc_of l (pair_of 0 0) (omega (arith, size))

      form-split : RecordForm n1 n2 (before ++ (last ∷ []))
      form-split = subst (λ m. RecordForm n1 n2 m) (sym whole) is.form

      lower : p.p1.0 ≤ last.p1.0
      lower = q.least last (subst (λ m. last ∈ m) whole (Memᴰ.append_right before here))

      pub wrote_nothing : covers last p ≡ true → r ≡ front_bytes n1 n2 (l ++ (p ∷ []))
      wrote_nothing t =
          let c = (covers-is last p).0 ((T_true (covers last p)).1 t) in
          record-whole r is.long ∙ ap (record_bytes n1 n2) (subst (λ m. m ≡ front n1 n2 (m ++ (p ∷ []))) whole (put-covered before last p form-split q.inside lower c))

      pub wrote-over : dominates p last ≡ true → {b' : List ℕ} → b' ≡ stored b (pair_count b - 1) p → record_in b' ≡ front_bytes n1 n2 (l ++ (p ∷ []))
      wrote-over t =
          let c = (dominates-is p last).0 ((T_true (dominates p last)).1 t) in
          after (pair_count b - 1) (omega arith) (omega (arith, few))
          (ap (λ k. take (k - 1) l ++ (p ∷ [])) (sym size) ∙ subst (λ m. before ++ (p ∷ []) ≡ front n1 n2 (m ++ (p ∷ []))) whole (put-over before last p form-split q.inside lower c))

      module _ (t : covers last p ≡ false) (u : dominates p last ≡ false) where
        falls : Falls last p
        falls =
            let c : AtMost p last → ⊥ = λ h. true≢false (sym ((T_true (covers last p)).0 ((covers-is last p).1 h)) ∙ t) in
            let d : Above p last → ⊥ = λ h. true≢false (sym ((T_true (dominates p last)).0 ((dominates-is p last).1 h)) ∙ u) in
            let up : last.p2.0 < p.p2.0 = ⊎_elim (λ le. absurd (c (lower, le))) (λ lt. lt) (order p.p2.0 last.p2.0) in
            (⊎_elim (λ le. absurd (d (le, omega arith, omega arith))) (λ lt. lt) (order last.p1.0 p.p1.0), up)

        pub room : pair_count b ≤ max_class
        room =
            let s = form-short n1 n2 ((before ++ (last ∷ [])) ++ (p ∷ [])) (put-form before last p form-split q.inside lower falls) in
            omega (arith, s, ap length whole, length-append (before ++ (last ∷ [])) (p ∷ []), size, is.small1)

        pub wrote-behind : {b' : List ℕ} → b' ≡ stored b (pair_count b) p → record_in b' ≡ front_bytes n1 n2 (l ++ (p ∷ []))
        wrote-behind =
            after (pair_count b) (omega arith) room
            (ap (λ k. k ++ (p ∷ [])) (take_all (pair_count b) l (omega (arith, size))) ∙ subst (λ m. m ++ (p ∷ []) ≡ front n1 n2 (m ++ (p ∷ []))) whole (put-behind before last p form-split q.inside lower falls))
