-- One node more, in place: the old weights are read and the new ones written from the left, with what the last one sent in hand. Assumes nothing.
use mathlib.Core.Path.{◌≡◌, refl, sym, ap, ◌∙◌}
use mathlib.Core.List.{List, [], ◌∷◌, ◌++◌}
use Prim.Native.Nat.{ℕ, zero, suc, ◌+◌, ◌-◌, ◌≤◌, ◌<◌}
use native.Mathlib.Nat.{not-suc-le-zero, le_of_suc-le-suc, add_comm}
use native.Mathlib.Numerals.{add-one}
use native.Mathlib.Omega.{arith}
use lib.ListN.{length, get_or, set, take, drop, length-append, length-drop, get_or-eq_default}
use lib.Seq.{get_or-take, length-take-le, take_all, take_at, drop-append-add, drop-drop}
use Rattle.chance.specs.Chance.{sends, leaves, spread, weights}
use Rattle.chance.proofs.Weights.{spread-first, spread-next, spread-length, weights-length, weight-most}

-- d with its first l replaced by those of s
abbrev pub over : ℕ → List ℕ → List ℕ → List ℕ
over l s d = take l s ++ drop l d

over-store : (l : ℕ) (s d : List ℕ) → l < length s → l < length d → set (over l s d) l (get_or s l 0) ≡ over (suc l) s d
over-store l [] d h k = absurd (not-suc-le-zero h)
over-store l (y ∷ s) [] h k = absurd (not-suc-le-zero k)
over-store zero (y ∷ s) (x ∷ d) h k = refl
over-store (suc l) (y ∷ s) (x ∷ d) h k = ap (λ r. y ∷ r) (over-store l s d (le_of_suc-le-suc h) (le_of_suc-le-suc k))

over-get : (l : ℕ) (s d : List ℕ) → l < length s → l < length d → get_or (over l s d) l 0 ≡ get_or d l 0
over-get l [] d h k = absurd (not-suc-le-zero h)
over-get l (y ∷ s) [] h k = absurd (not-suc-le-zero k)
over-get zero (y ∷ s) (x ∷ d) h k = refl
over-get (suc l) (y ∷ s) (x ∷ d) h k = over-get l s d (le_of_suc-le-suc h) (le_of_suc-le-suc k)

over-length : (l : ℕ) (s d : List ℕ) → l ≤ length s → l ≤ length d → length (over l s d) ≡ length d
over-length l s d h k = rw (length-append (take l s) (drop l d), length-take-le l s h, length-drop l d) (omega arith)

-- what comes to the place l from the one before
abbrev pub inflow : ℕ → List ℕ → ℕ → ℕ
inflow p ws zero = 0
inflow p ws (suc l) = sends p (get_or ws l 0)

spread_at : (p : ℕ) (ws : List ℕ) (l : ℕ) → get_or (spread p 0 ws) l 0 ≡ leaves p (get_or ws l 0) + inflow p ws l
spread_at p ws zero = spread-first p 0 ws
spread_at p ws (suc l) = spread-next p 0 ws l ∙ add_comm _ _

-- the loop at the place l: of m old weights in d, l are done
pub record Partway (p m : ℕ) (d out : List ℕ) (carry l : ℕ) : Type 0 where
  -- l of them are done
  pub low : l ≤ m
  -- the new weights in front, the old ones behind
  pub done : out ≡ over l (spread p 0 (take m d)) d
  -- what the last one sent
  pub hand : carry ≡ inflow p (take m d) l

module _ (p m : ℕ) (d : List ℕ) (fits : m < length d) where
  new-length : length (spread p 0 (take m d)) ≡ suc m
  new-length = spread-length p 0 (take m d) ∙ ap suc (length-take-le m d (omega arith))

  pub begin : Partway p m d d 0 0
  begin = record { low = omega arith; done = refl; hand = refl }

  module _ {out : List ℕ} {carry l : ℕ} (w : Partway p m d out carry l) where
    pub long : length out ≡ length d
    long = rw w.done (over-length l (spread p 0 (take m d)) d (omega (arith, new-length, w.low)) (omega (arith, w.low)))

    module _ (more : l < m) where
      old : get_or out l 0 ≡ get_or (take m d) l 0
      old = rw w.done (over-get l (spread p 0 (take m d)) d (omega (arith, new-length)) (omega arith) ∙ sym (get_or-take m d l 0 more))

      pub value : (s : ℕ) → s ≡ sends p (get_or out l 0) → get_or out l 0 - s + carry ≡ get_or (spread p 0 (take m d)) l 0
      value s e = rw (spread_at p (take m d) l, ← old, e, w.hand)

      pub turn : (s : ℕ) → s ≡ sends p (get_or out l 0) → Partway p m d (set out l (get_or out l 0 - s + carry)) s (l + 1)
      turn s e =
          record {
            low = omega arith;
            done = rw (value s e, w.done, add-one l) (over-store l (spread p 0 (take m d)) d (omega (arith, new-length)) (omega arith));
            hand = rw (add-one l, ← old) e;
          }

  at-end : {out : List ℕ} {carry : ℕ} → Partway p m d out carry m → set out m carry ≡ spread p 0 (take m d) ++ drop (m + 1) d
  at-end {out} {carry} w =
      let e : carry ≡ get_or (spread p 0 (take m d)) m 0 = rw (spread_at p (take m d) m, none) (w.hand ∙ omega arith) in
      rw (e, w.done) (over-store m (spread p 0 (take m d)) d (omega (arith, new-length)) fits ∙ rw (take_all (suc m) (spread p 0 (take m d)) (omega (arith, new-length)), add-one m))
    where
      none : get_or (take m d) m 0 ≡ 0
      none = get_or-eq_default (take m d) 0 {n = m} (omega (arith, length-take-le m d (omega arith)))

  pub finish : {out : List ℕ} {carry l : ℕ} → Partway p m d out carry l → m ≤ l → set out m carry ≡ spread p 0 (take m d) ++ drop (m + 1) d
  finish {l = l} w h = let e : l ≡ m = omega (arith, w.low) in at-end (rw e at w)

-- ---- the loop over the nodes: i of them are done
module _ (p i : ℕ) (d : List ℕ) (fits : i < length d) where
  abbrev held : List ℕ
  held = weights p i ++ drop (suc i) d

  pub held-length : length held ≡ length d
  held-length = rw (length-append (weights p i) (drop (suc i) d), weights-length p i, length-drop (suc i) d) (omega arith)

  held-take : take (i + 1) held ≡ weights p i
  held-take = take_at (weights p i) (drop (suc i) d) (i + 1) (omega (arith, weights-length p i))

  held-drop : drop (i + 1 + 1) held ≡ drop (suc (i + 1)) d
  held-drop =
      let e : i + 1 + 1 ≡ length (weights p i) + 1 = omega (arith, weights-length p i) in
      let f : suc i + 1 ≡ suc (i + 1) = omega arith in
      rw (e, drop-append-add (weights p i) (drop (suc i) d) 1, ← f) (drop-drop 1 (suc i) d)

  module _ {out : List ℕ} (e : out ≡ held) where
    pub node-fits : p ≤ 1000000 → (l : ℕ) → get_or (spread p 0 (take (i + 1) out)) l 0 ≤ 10000000
    node-fits small l = rw (e, held-take) (weight-most p small (suc i) l)

    pub node : spread p 0 (take (i + 1) out) ++ drop (i + 1 + 1) out ≡ weights p (i + 1) ++ drop (suc (i + 1)) d
    node = rw (e, held-take, held-drop, add-one i)
