-- A front record as bytes (document 01, "Positions, routes and the search"): n1, n2, k, then k pairs of bytes.
use Rattle.std.specs.Prelude.{◌≡◌, Bool, true, ◌&&◌, List, [], ◌∷◌, ℕ, ◌+◌, ◌*◌, ◌≤◌, min, leb, ltb, eqb, length, get_or, drop}
use Rattle.limits.specs.Limits.{max_class}
use Rattle.laws.specs.Members.{all}
use Rattle.front.specs.declared.Pair.{Pair}
use Rattle.front.specs.Pair.{pair_of}
use Rattle.front.specs.Front.{holds, front, AllWithin}

-- ---- the parts of a record
abbrev pub record_size1 : List ℕ → ℕ
record_size1 b = get_or b 0 0

abbrev pub record_size2 : List ℕ → ℕ
record_size2 b = get_or b 1 0

-- k
abbrev pub pair_count : List ℕ → ℕ
pair_count b = get_or b 2 0

-- bytes taken two by two, and back
abbrev pub paired : List ℕ → List Pair
paired [] = []
paired (x ∷ []) = []
paired (x ∷ y ∷ b) = pair_of x y ∷ paired b

abbrev pub flat : List Pair → List ℕ
flat [] = []
flat (p ∷ l) = p.p1.0 ∷ p.p2.0 ∷ flat l

-- the pairs that a record lists
abbrev pub listed : List ℕ → List Pair
listed b = paired (drop 3 b)

-- the record that lists the pairs of l, and the record of l's front
abbrev pub record_bytes : ℕ → ℕ → List Pair → List ℕ
record_bytes n1 n2 l = n1 ∷ n2 ∷ length l ∷ flat l

abbrev pub front_bytes : ℕ → ℕ → List Pair → List ℕ
front_bytes n1 n2 l = record_bytes n1 n2 (front n1 n2 l)

-- the most bytes that a record has: 3, and 2 for each pair, of which there are at most one more than the smaller class has nodes
abbrev pub longest : ℕ
longest = 3 + 2 * (max_class + 1)

-- a record holds at (a, b) where one of its pairs does
abbrev pub record_holds : List ℕ → ℕ → ℕ → Bool
record_holds r a b = holds (listed r) a b

-- ---- THE TEST OF A RECORD (01: number 12 is "not a front record")
-- p1 lies in 1 to n1 + 1, p2 in 1 to n2 + 1
abbrev pub in_range : ℕ → ℕ → Pair → Bool
in_range n1 n2 p = leb 1 p.p1.0 && leb p.p1.0 (n1 + 1) && (leb 1 p.p2.0 && leb p.p2.0 (n2 + 1))

-- p1 strictly falling, p2 strictly rising
abbrev pub follows : Pair → Pair → Bool
follows p q = ltb q.p1.0 p.p1.0 && ltb p.p2.0 q.p2.0

abbrev pub falls_from : Pair → List Pair → Bool
falls_from p [] = true
falls_from p (q ∷ l) = follows p q && falls_from q l

abbrev pub falling : List Pair → Bool
falling [] = true
falling (p ∷ l) = falls_from p l

abbrev pub is_record : List ℕ → Bool
is_record b =
    (leb (record_size1 b) max_class && leb (record_size2 b) max_class)
    && (eqb (length b) (3 + 2 * pair_count b) && leb (pair_count b) (min (record_size1 b) (record_size2 b) + 1))
    && (all (in_range (record_size1 b) (record_size2 b)) (listed b) && falling (listed b))

-- what the test says: the bytes list the front of some pairs, in record form, for class sizes at most 64
pub record ListsFront (b : List ℕ) : Type 0 where
  pub n1 : ℕ
  pub n2 : ℕ
  pub pairs : List Pair
  pub small1 : n1 ≤ max_class
  pub small2 : n2 ≤ max_class
  pub within : AllWithin n1 n2 pairs
  pub bytes : b ≡ front_bytes n1 n2 pairs
