-- Tests in two stages: what the first ones settle, the later ones do not change.
use mathlib.Core.Path.{◌≡◌, refl, sym, ap, ◌∙◌, subst}
use mathlib.Core.Bool.{Bool, true, false, not, cond}
use mathlib.Core.List.Memᴰ
use mathlib.Core.List.{List, [], ◌∷◌, ◌++◌, append-nil}
use Prim.Native.Nat.{ℕ}
use lib.Dec.{T, eqb, eqb_refl}
use Rattle.laws.specs.Tests.{T_and, T_not}
use Rattle.laws.specs.First.{first-none}
use Rattle.laws.specs.Members.{◌∈◌, all}
use Rattle.answer.specs.Outcome.{Outcome, success, refused, outcome}

-- a refusal is never a success
pub refused-apart : (n : ℕ) (v : List ℕ) → refused n ≡ success v → ⊥
refused-apart n v e = subst tell e tt
  where
    tell : Outcome → Type 0
    tell (success v) = ⊥
    tell (refused n) = Unit

pub refused-same : {m n : ℕ} → refused m ≡ refused n → m ≡ n
refused-same e = ap number e
  where
    number : Outcome → ℕ
    number (success v) = 0
    number (refused n) = n

-- the values of a success are those of the call
pub outcome-values : (ts : List (ℕ × Bool)) (v w : List ℕ) → outcome ts v ≡ success w → v ≡ w
outcome-values [] v w e = success-same e
  where
    success-same : {v w : List ℕ} → success v ≡ success w → v ≡ w
    success-same e = ap told e
      where
        told : Outcome → List ℕ
        told (success v) = v
        told (refused n) = []
outcome-values (t ∷ ts) v w e = go t.1 e (outcome-values ts v w)
  where
    go : (b : Bool) → cond b (refused t.0) (outcome ts v) ≡ success w → (outcome ts v ≡ success w → v ≡ w) → v ≡ w
    go true f r = absurd (refused-apart t.0 w f)
    go false f r = r f

-- a success says that every test is false, and the other way about
pub outcome-tests : (ts : List (ℕ × Bool)) (v : List ℕ) {w : List ℕ} → outcome ts v ≡ success w → (t : ℕ × Bool) → t ∈ ts → t.1 ≡ false
outcome-tests ts v {w} e = (first-none refused (success v) (λ n. refused-apart n v) ts).0 (e ∙ ap success (sym (outcome-values ts v w e)))

pub outcome-success : (ts : List (ℕ × Bool)) (v : List ℕ) → ((t : ℕ × Bool) → t ∈ ts → t.1 ≡ false) → outcome ts v ≡ success v
outcome-success ts v h = (first-none refused (success v) (λ n. refused-apart n v) ts).1 h

-- a number that no test of a list has is not answered
abbrev pub other_numbers : ℕ → List (ℕ × Bool) → Bool
other_numbers n ts = all (λ t. not (eqb t.0 n)) ts

pub outcome-never : (n : ℕ) (ts : List (ℕ × Bool)) (v : List ℕ) → T (other_numbers n ts) → outcome ts v ≡ refused n → ⊥
outcome-never n [] v h e = refused-apart n v (sym e)
outcome-never n (t ∷ ts) v h e = let k = (T_and (not (eqb t.0 n)) (other_numbers n ts)).0 h in go t.1 k.0 e (outcome-never n ts v k.1)
  where
    go : (b : Bool) → T (not (eqb t.0 n)) → cond b (refused t.0) (outcome ts v) ≡ refused n → (outcome ts v ≡ refused n → ⊥) → ⊥
    go true k f r = (T_not (eqb t.0 n)).0 k (subst (λ m. T (eqb t.0 m)) (refused-same f) (eqb_refl t.0))
    go false k f r = r f

-- a refusal by the first tests is the answer
pub outcome-refused : (ts us : List (ℕ × Bool)) (v w : List ℕ) (n : ℕ) → outcome ts v ≡ refused n → outcome (ts ++ us) w ≡ refused n
outcome-refused [] us v w n e = absurd (refused-apart n v (sym e))
outcome-refused (t ∷ ts) us v w n e = go t.1 e (outcome-refused ts us v w n)
  where
    go : (b : Bool) → cond b (refused t.0) (outcome ts v) ≡ refused n → (outcome ts v ≡ refused n → outcome (ts ++ us) w ≡ refused n) → cond b (refused t.0) (outcome (ts ++ us) w) ≡ refused n
    go true f r = f
    go false f r = r f

-- once the first tests are false, the others decide
pub outcome-passed : (ts us : List (ℕ × Bool)) (v w : List ℕ) {u : List ℕ} → outcome ts v ≡ success u → outcome (ts ++ us) w ≡ outcome us w
outcome-passed [] us v w e = refl
outcome-passed (t ∷ ts) us v w {u} e = go t.1 e (λ f. outcome-passed ts us v w f)
  where
    go : (b : Bool) → cond b (refused t.0) (outcome ts v) ≡ success u → (outcome ts v ≡ success u → outcome (ts ++ us) w ≡ outcome us w) → cond b (refused t.0) (outcome (ts ++ us) w) ≡ outcome us w
    go true f r = absurd (refused-apart t.0 u f)
    go false f r = r f

-- a success says that the first tests passed
pub outcome-first : (ts us : List (ℕ × Bool)) (v w : List ℕ) {u : List ℕ} → outcome (ts ++ us) v ≡ success u → outcome ts w ≡ success w
outcome-first ts us v w e = outcome-success ts w (λ t m. outcome-tests (ts ++ us) v e t (Memᴰ.append_left us m))

-- the same tests, of a call with other values
pub refused_as : (ts : List (ℕ × Bool)) (v w : List ℕ) (n : ℕ) → outcome ts v ≡ refused n → outcome ts w ≡ refused n
refused_as ts v w n e = subst (λ (l : List (ℕ × Bool)). outcome l w ≡ refused n) (append-nil ts) (outcome-refused ts [] v w n e)

pub success-as : (ts : List (ℕ × Bool)) (v w : List ℕ) {u : List ℕ} → outcome ts v ≡ success u → outcome ts w ≡ success w
success-as ts v w e = outcome-success ts w (outcome-tests ts v e)
