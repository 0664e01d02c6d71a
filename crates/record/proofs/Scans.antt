-- The loop that tests the pairs of a record: what is left to test from a place on.
use mathlib.Core.Path.{◌≡◌, refl, sym, ◌∙◌}
use mathlib.Core.Bool.{Bool, true, false, ◌&&◌, and-false}
use mathlib.Core.List.{List}
use Prim.Native.Nat.{ℕ, suc, ◌+◌, ◌*◌, ◌<◌}
use native.Mathlib.Omega.{arith}
use native.Mathlib.Numerals.{add-one}
use lib.ListN.{length, get_or, drop}
use lib.Seq.{drop-cons, drop-length}
use Rattle.laws.specs.Members.{all}
use Rattle.front.specs.declared.Pair.{Pair}
use Rattle.front.specs.Pair.{pair_of}
use Rattle.record.specs.Record.{pair_count, listed, in_range, follows, falls_from}
use Rattle.record.specs.Steps.{pair_at}
use Rattle.record.proofs.Bytes.{pair-at, listed-length}

-- what is left to test from place i on, after the pair `last`
abbrev pub fit_from : ℕ → ℕ → List Pair → Pair → ℕ → Bool
fit_from n1 n2 l last i = all (in_range n1 n2) (drop i l) && falls_from last (drop i l)

-- the pair at place i, which the code reads, and whether it fits
pub fit_next : (n1 n2 : ℕ) (b : List ℕ) (last : Pair) (i : ℕ) → length b ≡ 3 + 2 * pair_count b → i < pair_count b → {p : Pair} → p ≡ pair_at b i → {t : Bool}
    → t ≡ (in_range n1 n2 p && follows last p) → fit_from n1 n2 (listed b) last i ≡ (t && fit_from n1 n2 (listed b) p (i + 1))
fit_next n1 n2 b last i long h {p = p} e f =
    let l = listed b in
    let q = get_or l i (pair_of 0 0) in
    let m = drop (suc i) l in
    let inside : i < length l = omega (arith, listed-length b long) in
    let g : p ≡ q = e ∙ pair-at b i long in
    rw (f, add-one i, drop-cons l i (pair_of 0 0) inside, g) (swap (in_range n1 n2 q) (all (in_range n1 n2) m) (follows last q) (falls_from q m))
  where
    swap : (a b c d : Bool) → ((a && b) && (c && d)) ≡ ((a && c) && (b && d))
    swap true true c d = refl
    swap true false c d = sym (and-false c)
    swap false b c d = refl

pub fit-last : (n1 n2 : ℕ) (l : List Pair) (last : Pair) (i : ℕ) → i ≡ length l → fit_from n1 n2 l last i ≡ true
fit-last n1 n2 l last i e = rw (e, drop-length)
