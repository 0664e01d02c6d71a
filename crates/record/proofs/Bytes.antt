-- Pairs as bytes and back.
use mathlib.Core.Path.{◌≡◌, refl, sym, ap, ap₂}
use mathlib.Core.List.{List, [], ◌∷◌, ◌++◌}
use Prim.Native.Nat.{ℕ, zero, suc, ◌+◌, ◌*◌, ◌≤◌}
use native.Mathlib.Omega.{arith}
use lib.ListN.{length, get_or, take}
use Rattle.front.specs.declared.Pair.{Pair}
use Rattle.front.specs.Pair.{pair_of}
use Rattle.record.specs.Record.{record_size1, record_size2, pair_count, paired, flat, listed, record_bytes}
use Rattle.record.specs.Steps.{pair_at}

pub paired-flat : (l : List Pair) → paired (flat l) ≡ l
paired-flat [] = refl
paired-flat (p ∷ l) = ap (λ m. p ∷ m) (paired-flat l)

pub flat-paired : (b : List ℕ) (k : ℕ) → length b ≡ 2 * k → flat (paired b) ≡ b
flat-paired [] k e = refl
flat-paired (x ∷ []) k e = absurd (omega arith)
flat-paired (x ∷ y ∷ b) zero e = absurd (omega arith)
flat-paired (x ∷ y ∷ b) (suc k) e = ap (λ m. x ∷ y ∷ m) (flat-paired b k (omega arith))

pub flat-length : (l : List Pair) → length (flat l) ≡ 2 * length l
flat-length [] = refl
flat-length (p ∷ l) = omega (arith, flat-length l)

pub flat_append : (l m : List Pair) → flat (l ++ m) ≡ flat l ++ flat m
flat_append [] m = refl
flat_append (p ∷ l) m = ap (λ r. p.p1.0 ∷ p.p2.0 ∷ r) (flat_append l m)

-- the bytes of the first pairs
pub take-flat : (l : List Pair) (i : ℕ) (rest : List ℕ) → i ≤ length l → take (2 * i) (flat l ++ rest) ≡ flat (take i l)
take-flat l zero rest h = refl
take-flat [] (suc i) rest h = absurd (omega arith)
take-flat (p ∷ l) (suc i) rest h =
    let e : 2 * suc i ≡ suc (suc (2 * i)) = omega arith in
    rw e (ap (λ m. p.p1.0 ∷ p.p2.0 ∷ m) (take-flat l i rest (omega arith)))

pub paired_at : (b : List ℕ) (k i : ℕ) → length b ≡ 2 * k → pair_of (get_or b (2 * i) 0) (get_or b (2 * i + 1) 0) ≡ get_or (paired b) i (pair_of 0 0)
paired_at [] k i e = refl
paired_at (x ∷ []) k i e = absurd (omega arith)
paired_at (x ∷ y ∷ b) zero i e = absurd (omega arith)
paired_at (x ∷ y ∷ b) (suc k) zero e = refl
paired_at (x ∷ y ∷ b) (suc k) (suc i) e =
    let f : 2 * suc i ≡ suc (suc (2 * i)) = omega arith in
    let g : 2 * suc i + 1 ≡ suc (suc (2 * i + 1)) = omega arith in
    rw (g, f) (paired_at b k i (omega arith))

pub paired-length : (b : List ℕ) (k : ℕ) → length b ≡ 2 * k → length (paired b) ≡ k
paired-length b k e = omega (arith, flat-length (paired b), ap length (flat-paired b k e))

-- ---- a slice that is as long as its count says
-- its pair at a place is the one that it lists, and (0, 0) past the last
pub pair-at : (b : List ℕ) (i : ℕ) → length b ≡ 3 + 2 * pair_count b → pair_at b i ≡ get_or (listed b) i (pair_of 0 0)
pair-at [] i e = absurd (omega arith)
pair-at (x ∷ []) i e = absurd (omega arith)
pair-at (x ∷ y ∷ []) i e = absurd (omega arith)
pair-at (x ∷ y ∷ k ∷ b) i e =
    let f : 3 + 2 * i ≡ suc (suc (suc (2 * i))) = omega arith in
    let g : 4 + 2 * i ≡ suc (suc (suc (2 * i + 1))) = omega arith in
    rw (f, g) (paired_at b k i (omega arith))

-- it lists as many pairs as its count says
pub listed-length : (b : List ℕ) → length b ≡ 3 + 2 * pair_count b → length (listed b) ≡ pair_count b
listed-length [] e = absurd (omega arith)
listed-length (x ∷ []) e = absurd (omega arith)
listed-length (x ∷ y ∷ []) e = absurd (omega arith)
listed-length (x ∷ y ∷ k ∷ b) e = paired-length b k (omega arith)

-- it is its sizes, its count and its pairs
pub record-whole : (b : List ℕ) → length b ≡ 3 + 2 * pair_count b → b ≡ record_bytes (record_size1 b) (record_size2 b) (listed b)
record-whole [] e = absurd (omega arith)
record-whole (x ∷ []) e = absurd (omega arith)
record-whole (x ∷ y ∷ []) e = absurd (omega arith)
record-whole (x ∷ y ∷ k ∷ b) e = ap₂ (λ n r. x ∷ y ∷ n ∷ r) (sym (paired-length b k (omega arith))) (sym (flat-paired b k (omega arith)))
