-- The laws of series and parallel over records: those of lists in record form, carried to bytes.
use mathlib.Core.Path.{◌≡◌, refl, sym, ap, ap₂, ◌∙◌, subst}
use mathlib.Core.List.{List}
use Prim.Native.Nat.{ℕ}
use native.Mathlib.Omega.{arith}
use Rattle.front.specs.declared.Pair.{Pair}
use Rattle.front.specs.Front.{front, holds, minima, series_front, parallel_front}
use Rattle.front.specs.Steps.{RecordForm}
use Rattle.front.proofs.Fronts.{front-form, form-same}
use Rattle.record.specs.Record.{record_size1, record_size2, listed, record_bytes, front_bytes, record_holds}
use Rattle.record.proofs.Bytes.{paired-flat, record-whole}
use Rattle.record.proofs.Records.{record_is, form-is-record, record-few}
use Rattle.compose.specs.Compose.{series_bytes, parallel_bytes}
use Rattle.compose.specs.Laws.{Sized, Laws}
use Rattle.front.proofs.Joins.{union}
use Rattle.front.proofs.Joins as joins

module _ {n1 n2 : ℕ} where
  form : {x : List ℕ} → Sized n1 n2 x → RecordForm n1 n2 (listed x)
  form {x} s = rw (← s.one, ← s.two) ((record_is x).0 s.is).form

  whole : {x : List ℕ} → Sized n1 n2 x → x ≡ record_bytes n1 n2 (listed x)
  whole {x} s = record-whole x ((record_is x).0 s.is).long ∙ ap₂ (λ a b. record_bytes a b (listed x)) s.one s.two

  module _ {x : List ℕ} (s : Sized n1 n2 x) where
    -- the record of a front of the same sizes
    front-sized : (l : List Pair) → Sized n1 n2 (front_bytes n1 n2 l)
    front-sized l =
        let r = (record_is x).0 s.is in
        record {
          is = (record_is (front_bytes n1 n2 l)).1 (form-is-record n1 n2 (front n1 n2 l) (omega (arith, r.small1, s.one)) (omega (arith, r.small2, s.two)) (front-form n1 n2 l));
          one = refl;
          two = refl;
        }

    -- what a call writes whose pairs are the front of f's: f is `minima` for series and `union` for parallel
    module _ (f : List Pair → List Pair → List Pair) (y : List ℕ) where
      abbrev bytes_by : List ℕ
      bytes_by = front_bytes (record_size1 x) (record_size2 x) (f (listed x) (listed y))

      joined_is : bytes_by ≡ front_bytes n1 n2 (f (listed x) (listed y))
      joined_is = ap₂ (λ a b. front_bytes a b (f (listed x) (listed y))) s.one s.two

      joined-sized : Sized n1 n2 bytes_by
      joined-sized = subst (Sized n1 n2) (sym joined_is) (front-sized (f (listed x) (listed y)))

      joined-lists : listed bytes_by ≡ front n1 n2 (f (listed x) (listed y))
      joined-lists = ap listed joined_is ∙ paired-flat (front n1 n2 (f (listed x) (listed y)))

  -- THE LAWS hold of any three records of the same class sizes
  pub laws : {x y z : List ℕ} → Sized n1 n2 x → Sized n1 n2 y → Sized n1 n2 z → Laws n1 n2 x y z
  laws {x} {y} {z} sx sy sz =
      let l = listed x in
      let m = listed y in
      let k = listed z in
      let wl = (form sx).within in
      let wm = (form sy).within in
      let wk = (form sz).within in
      let bytes = record_bytes n1 n2 in
      record {
        series-sized = joined-sized sx minima y;
        parallel-sized = joined-sized sx union y;
        series-holds = λ a b. ap (λ r. holds r a b) (joined-lists sx minima y) ∙ joins.series-holds n1 n2 l m wl wm a b;
        parallel-holds = λ a b. ap (λ r. holds r a b) (joined-lists sx union y) ∙ joins.parallel-holds n1 n2 l m wl wm a b;
        series-comm = joined_is sx minima y ∙ ap bytes (joins.series-comm n1 n2 l m wl wm) ∙ sym (joined_is sy minima x);
        parallel-comm = joined_is sx union y ∙ ap bytes (joins.parallel-comm n1 n2 l m wl wm) ∙ sym (joined_is sy union x);
        series-assoc = joined_is (joined-sized sx minima y) minima z ∙ ap (λ r. bytes (series_front n1 n2 r k)) (joined-lists sx minima y) ∙ ap bytes (joins.series-assoc n1 n2 l m wl wm k wk)
            ∙ ap (λ r. bytes (series_front n1 n2 l r)) (sym (joined-lists sy minima z)) ∙ sym (joined_is sx minima (series_bytes y z));
        parallel-assoc = joined_is (joined-sized sx union y) union z ∙ ap (λ r. bytes (parallel_front n1 n2 r k)) (joined-lists sx union y) ∙ ap bytes (joins.parallel-assoc n1 n2 l m wl wm k wk)
            ∙ ap (λ r. bytes (parallel_front n1 n2 l r)) (sym (joined-lists sy union z)) ∙ sym (joined_is sx union (parallel_bytes y z));
        series-self = joined_is sx minima x ∙ ap bytes (joins.series-self n1 n2 l (form sx)) ∙ sym (whole sx);
        parallel-self = joined_is sx union x ∙ ap bytes (joins.parallel-self n1 n2 l (form sx)) ∙ sym (whole sx);
        series-over-parallel = joined_is sx minima (parallel_bytes y z) ∙ ap (λ r. bytes (series_front n1 n2 l r)) (joined-lists sy union z) ∙ ap bytes (joins.series-over-parallel n1 n2 l m wl wm k wk)
            ∙ ap₂ (λ r t. bytes (parallel_front n1 n2 r t)) (sym (joined-lists sx minima y)) (sym (joined-lists sx minima z)) ∙ sym (joined_is (joined-sized sx minima y) union (series_bytes x z));
        parallel-over-series = joined_is sx union (series_bytes y z) ∙ ap (λ r. bytes (parallel_front n1 n2 l r)) (joined-lists sy minima z) ∙ ap bytes (joins.parallel-over-series n1 n2 l m wl wm k wk)
            ∙ ap₂ (λ r t. bytes (series_front n1 n2 r t)) (sym (joined-lists sx union y)) (sym (joined-lists sx union z)) ∙ sym (joined_is (joined-sized sx union y) minima (parallel_bytes x z));
        equal = (
          λ e a b _ _. ap (λ r. record_holds r a b) e,
          λ h. whole sx ∙ ap bytes ((form-same n1 n2 l m (form sx) (form sy)).1 h) ∙ sym (whole sy),
        );
        short = omega (arith, record-few x ((record_is x).0 sx.is), sx.one, sx.two);
      }
