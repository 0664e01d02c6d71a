-- The test of number 12 says that the bytes list a front in record form.
use mathlib.Core.Path.{◌≡◌, sym, ap, ◌∙◌, subst}
use mathlib.Core.Logic.{◌↔◌, ⊎_elim}
use mathlib.Core.Bool.{◌&&◌}
use mathlib.Core.List.Memᴰ
use mathlib.Core.List.{List, [], ◌∷◌}
use Prim.Native.Nat.{ℕ, ◌+◌, ◌*◌, ◌≤◌, min}
use native.Mathlib.Omega.{arith}
use lib.Dec.{T, leb, ltb, eqb, leb→le, le→leb, ltb→lt, lt→ltb, eqb→eq, eqb_refl}
use lib.ListN.{length}
use Rattle.limits.specs.Limits.{max_class}
use Rattle.laws.specs.Tests.{T_and}
use Rattle.laws.specs.Members.{here, all, all_are}
use Rattle.laws.specs.Pairwise.{Pairwise}
use Rattle.front.specs.declared.Pair.{Pair}
use Rattle.front.specs.Front.{front, Within, Falls}
use Rattle.front.specs.Steps.{RecordForm}
use Rattle.front.proofs.Pairs.{numbers}
use Rattle.front.proofs.Fronts.{front-form, form-front, form-short}
use Rattle.record.specs.Record.{record_size1, record_size2, pair_count, listed, record_bytes, in_range, follows, falls_from, falling, is_record, ListsFront}
use Rattle.record.proofs.Bytes.{paired-flat, flat-length, listed-length, record-whole}

pub range-is : (n1 n2 : ℕ) (p : Pair) → T (in_range n1 n2 p) ↔ Within n1 n2 p
range-is n1 n2 p =
    let x = p.p1.0 in
    let y = p.p2.0 in
    let e = T_and (leb 1 x && leb x (n1 + 1)) (leb 1 y && leb y (n2 + 1)) in
    let f = T_and (leb 1 x) (leb x (n1 + 1)) in
    let g = T_and (leb 1 y) (leb y (n2 + 1)) in (
      λ t.
          let i = f.0 (e.0 t).0 in
          let j = g.0 (e.0 t).1 in
          omega (arith, leb→le 1 x i.0, leb→le x (n1 + 1) i.1, leb→le 1 y j.0, leb→le y (n2 + 1) j.1),
      λ w. e.1 (f.1 (le→leb 1 x w.low1, le→leb x (n1 + 1) (omega arith)), g.1 (le→leb 1 y w.low2, le→leb y (n2 + 1) (omega arith))),
    )

follows_is : (p q : Pair) → T (follows p q) ↔ Falls p q
follows_is p q =
    let e = T_and (ltb q.p1.0 p.p1.0) (ltb p.p2.0 q.p2.0) in (
      λ t. (ltb→lt q.p1.0 p.p1.0 (e.0 t).0, ltb→lt p.p2.0 q.p2.0 (e.0 t).1),
      λ h. e.1 (lt→ltb q.p1.0 p.p1.0 h.0, lt→ltb p.p2.0 q.p2.0 h.1),
    )

-- each pair follows the one before it: then it follows every earlier one
pub from_is : (p : Pair) (l : List Pair) → T (falls_from p l) ↔ Pairwise Falls (p ∷ l)
from_is p [] = (λ t. (λ q m. elim m [ ], tt), λ w. tt)
from_is p (q ∷ l) =
    let e = T_and (follows p q) (falls_from q l) in
    let r = from_is q l in (
      λ t.
          let h = (follows_is p q).0 (e.0 t).0 in
          let w = r.0 (e.0 t).1 in
          (λ x m. ⊎_elim (λ i. omega (arith, numbers i)) (λ k. omega (arith, w.0 x k)) (Memᴰ.cases_cons m), w),
      λ w. e.1 ((follows_is p q).1 (w.0 q here), r.1 w.1),
    )

pub falling-is : (l : List Pair) → T (falling l) ↔ Pairwise Falls l
falling-is [] = (λ t. tt, λ w. tt)
falling-is (p ∷ l) = from_is p l

-- what the test says
pub record IsRecord (b : List ℕ) : Type 0 where
  pub small1 : record_size1 b ≤ max_class
  pub small2 : record_size2 b ≤ max_class
  pub long : length b ≡ 3 + 2 * pair_count b
  pub form : RecordForm (record_size1 b) (record_size2 b) (listed b)

pub record_is : (b : List ℕ) → T (is_record b) ↔ IsRecord b
record_is b =
    let n1 = record_size1 b in
    let n2 = record_size2 b in
    let k = pair_count b in
    let l = listed b in
    let b1 = leb n1 max_class && leb n2 max_class in
    let b2 = eqb (length b) (3 + 2 * k) && leb k (min n1 n2 + 1) in
    let b3 = all (in_range n1 n2) l && falling l in
    let e = T_and (b1 && b2) b3 in
    let f = T_and b1 b2 in
    let g1 = T_and (leb n1 max_class) (leb n2 max_class) in
    let g2 = T_and (eqb (length b) (3 + 2 * k)) (leb k (min n1 n2 + 1)) in
    let g3 = T_and (all (in_range n1 n2) l) (falling l) in (
      λ t.
          let h = f.0 (e.0 t).0 in
          let i = g1.0 h.0 in
          let j = g3.0 (e.0 t).1 in
          record {
            small1 = leb→le n1 max_class i.0;
            small2 = leb→le n2 max_class i.1;
            long = eqb→eq (length b) (3 + 2 * k) (g2.0 h.1).0;
            form = record {
              within = λ p m. (range-is n1 n2 p).0 ((all_are (in_range n1 n2) l).0 j.0 p m);
              falls = (falling-is l).0 j.1;
            };
          },
      λ r.
          e.1 (
            f.1 (
              g1.1 (le→leb n1 max_class r.small1, le→leb n2 max_class r.small2),
              g2.1 (
                subst (λ n. T (eqb (length b) n)) r.long (eqb_refl (length b)),
                le→leb k (min n1 n2 + 1) (omega (arith, form-short n1 n2 l r.form, listed-length b r.long)),
              ),
            ),
            g3.1 ((all_are (in_range n1 n2) l).1 (λ p m. (range-is n1 n2 p).1 (r.form.within p m)), (falling-is l).1 r.form.falls),
          ),
    )

-- k is at most the smaller class size, plus one
pub record-few : (b : List ℕ) → IsRecord b → pair_count b ≤ min (record_size1 b) (record_size2 b) + 1
record-few b r = omega (arith, form-short (record_size1 b) (record_size2 b) (listed b) r.form, listed-length b r.long)

-- the record of a list in record form is one
pub form-is-record : (n1 n2 : ℕ) (l : List Pair) → n1 ≤ max_class → n2 ≤ max_class → RecordForm n1 n2 l → IsRecord (record_bytes n1 n2 l)
form-is-record n1 n2 l h k r =
    record { small1 = h; small2 = k; long = omega (arith, flat-length l); form = subst (λ m. RecordForm n1 n2 m) (sym (paired-flat l)) r }

-- NUMBER 12: bytes pass the test exactly when they list a front in record form
pub record-front : (b : List ℕ) → T (is_record b) ↔ ListsFront b
record-front b = (
  λ t.
      let r = (record_is b).0 t in
      record {
        n1 = record_size1 b;
        n2 = record_size2 b;
        pairs = listed b;
        small1 = r.small1;
        small2 = r.small2;
        within = r.form.within;
        bytes = record-whole b r.long ∙ ap (record_bytes (record_size1 b) (record_size2 b)) (sym (form-front (record_size1 b) (record_size2 b) (listed b) r.form));
      },
  λ f. (record_is b).1 (subst IsRecord (sym f.bytes) (form-is-record f.n1 f.n2 (front f.n1 f.n2 f.pairs) f.small1 f.small2 (front-form f.n1 f.n2 f.pairs))),
)
