-- A front collected pair by pair, p1 never rising: the pairs so far and what is still to come hold where the whole does.
use mathlib.Core.Path.{◌≡◌, refl, sym, ap, ◌∙◌, subst}
use mathlib.Core.Logic.{⊎_elim}
use mathlib.Core.Bool.{Bool, false, ◌||◌, or-false, or_assoc}
use mathlib.Core.List.Memᴰ
use mathlib.Core.List.{List, [], ◌∷◌, ◌++◌}
use Prim.Native.Nat.{ℕ, ◌≤◌}
use native.Mathlib.Omega.{arith}
use Rattle.limits.specs.Limits.{max_class}
use Rattle.laws.specs.Members.{◌∈◌, any_append}
use Rattle.front.specs.declared.Pair.{Pair}
use Rattle.front.specs.Pair.{holds_at}
use Rattle.front.specs.Front.{holds, front, Within, AllWithin}
use Rattle.front.specs.Steps.{RecordForm}
use Rattle.front.proofs.Pairs.{numbers}
use Rattle.front.proofs.Fronts.{front-are, front-form, front-holds, form-same}
use Rattle.front.proofs.Joins.{append-within}
use Rattle.record.specs.Record.{record_size1, record_size2, listed, record_bytes, front_bytes}
use Rattle.buffer.specs.Steps.{Puttable}
use Rattle.record.proofs.Bytes.{paired-flat}
use Rattle.record.proofs.Records.{IsRecord, record_is, form-is-record}

-- where something holds, told at each (a, b)
abbrev pub Where : Type 0
Where = ℕ → ℕ → Bool

-- the record b has collected some of `whole`; `rest` is to come, with no p1 above `top`
pub record Collects (n1 n2 : ℕ) (whole rest : Where) (top : ℕ) (b : List ℕ) : Type 0 where
  pub small1 : n1 ≤ max_class
  pub small2 : n2 ≤ max_class
  pub done : List Pair
  pub is : b ≡ record_bytes n1 n2 done
  pub form : RecordForm n1 n2 done
  pub holding : (x y : ℕ) → whole x y ≡ (holds done x y || rest x y)
  pub above : (q : Pair) → q ∈ done → top ≤ q.p1.0

-- nothing is collected yet
pub collects-none : {n1 n2 : ℕ} {whole : Where} {top : ℕ} {b : List ℕ} → n1 ≤ max_class → n2 ≤ max_class → b ≡ record_bytes n1 n2 [] → Collects n1 n2 whole whole top b
collects-none h k e =
    record {
      small1 = h;
      small2 = k;
      done = [];
      is = e;
      form = record { within = λ p m. elim m [ ]; falls = tt };
      holding = λ x y. refl;
      above = λ q m. elim m [ ];
    }

module _ {n1 n2 : ℕ} {whole rest : Where} {top : ℕ} {b : List ℕ} (c : Collects n1 n2 whole rest top b) where
  listed-done : listed b ≡ c.done
  listed-done = ap listed c.is ∙ paired-flat c.done

  pub collects-record : IsRecord b
  collects-record = subst IsRecord (sym c.is) (form-is-record n1 n2 c.done c.small1 c.small2 c.form)

  module _ (p : Pair) (w : Within n1 n2 p) (low : p.p1.0 ≤ top) where
    pub collects-puttable : Puttable b p
    collects-puttable =
        record {
          good = (record_is b).1 collects-record;
          inside = subst (λ r. Within (record_size1 r) (record_size2 r) p) (sym c.is) w;
          least = λ q m. omega (arith, c.above q (subst (λ l. q ∈ l) listed-done m));
        }

    -- one pair more: what `put` leaves
    pub collects-more : {next : Where} {top' : ℕ} {b' : List ℕ} → b' ≡ front_bytes (record_size1 b) (record_size2 b) (listed b ++ (p ∷ []))
        → ((x y : ℕ) → rest x y ≡ (holds_at p x y || next x y)) → top' ≤ p.p1.0 → Collects n1 n2 whole next top' b'
    collects-more {next} {top'} {b'} e step lower =
        let m = c.done ++ (p ∷ []) in
        let all = append-within n1 n2 c.done (p ∷ []) c.form.within (λ q i. subst (λ x. Within n1 n2 x) (sym (Memᴰ.eq_of_singleton i)) w) in
        record {
          small1 = c.small1;
          small2 = c.small2;
          done = front n1 n2 m;
          is = e ∙ ap (λ d. front_bytes (record_size1 b) (record_size2 b) (d ++ (p ∷ []))) listed-done ∙ ap (λ r. front_bytes (record_size1 r) (record_size2 r) m) c.is;
          form = front-form n1 n2 m;
          holding = λ x y.
              c.holding x y ∙ ap (λ t. holds c.done x y || t) (step x y) ∙ sym (or_assoc (holds c.done x y) (holds_at p x y) (next x y))
              ∙ ap (λ t. holds c.done x y || t || next x y) (sym (or-false (holds_at p x y))) ∙ ap (λ t. t || next x y) (sym (any_append (λ q. holds_at q x y) c.done (p ∷ [])))
              ∙ ap (λ t. t || next x y) (sym (front-holds n1 n2 m all x y));
          above = λ q i.
              ⊎_elim (λ k. omega (arith, c.above q k)) (λ k. omega (arith, numbers (Memᴰ.eq_of_singleton k))) (Memᴰ.append_cases c.done ((front-are n1 n2 m all q).0 i).0);
        }

  -- nothing is to come: the record is that of any list that holds where the whole does
  pub collects-all : (l : List Pair) → AllWithin n1 n2 l → ((x y : ℕ) → holds l x y ≡ whole x y) → ((x y : ℕ) → rest x y ≡ false) → b ≡ front_bytes n1 n2 l
  collects-all l w is none =
      c.is
      ∙ ap (record_bytes n1 n2) ((form-same n1 n2 c.done (front n1 n2 l) c.form (front-form n1 n2 l)).1 (λ x y _ _.
      sym (front-holds n1 n2 l w x y ∙ is x y ∙ c.holding x y ∙ ap (λ t. holds c.done x y || t) (none x y) ∙ or-false (holds c.done x y))))
