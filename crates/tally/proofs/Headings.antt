-- The words in front of a tally's cells: the one proof that knows them.
use mathlib.Core.Path.{◌≡◌, refl, sym, ap, ap₂, ◌∙◌}
use mathlib.Core.List.{List, [], ◌∷◌, ◌++◌, append_assoc}
use Prim.Native.Nat.{ℕ, ◌+◌, ◌*◌, ◌≤◌, ◌<◌}
use native.Mathlib.Omega.{arith}
use lib.ListN.{length, get_or, set, take, drop, replicate, length-append, length-drop, take-append-drop, replicate-append-replicate}
use lib.Seq.{take_at, get_or-append-add, get_or-drop, drop-drop}
use Rattle.soundness.specs.Tally.{head_words, rounds_place, score_place, tally_size1, tally_size2, rounds, tally_score, width, words, cell, cell_sum}
use Rattle.soundness.proofs.Totals.{total-same, total-none}
use Rattle.cells.specs.Cells.{cell_rows}
use Rattle.tally.specs.Words.{heading, tally_of}
use Rattle.cells.proofs.Tables.{table-length, table-zero, table_at, table_same, table-take}

-- the head with any score: that of the cells c is their `heading`
abbrev pub head_of : ℕ → ℕ → ℕ → ℕ → List ℕ
head_of n1 n2 m s = n1 ∷ n2 ∷ m ∷ s ∷ []

head-length : (n1 n2 m s : ℕ) → length (head_of n1 n2 m s) ≡ head_words
head-length n1 n2 m s = refl

-- of a tally that has it
head-of : (t : List ℕ) → head_words ≤ length t → take head_words t ≡ head_of (tally_size1 t) (tally_size2 t) (rounds t) (tally_score t)
head-of [] h = absurd (omega arith)
head-of (x ∷ []) h = absurd (omega arith)
head-of (x ∷ y ∷ []) h = absurd (omega arith)
head-of (x ∷ y ∷ z ∷ []) h = absurd (omega arith)
head-of (x ∷ y ∷ z ∷ s ∷ t) h = refl

-- M stored, the score stored and read, and the sizes of a new tally
head-rounds : (n1 n2 m s k : ℕ) (l : List ℕ) → set (head_of n1 n2 m s ++ l) rounds_place k ≡ head_of n1 n2 k s ++ l
head-rounds n1 n2 m s k l = refl

pub head-score : (n1 n2 m s k : ℕ) (l : List ℕ) → set (head_of n1 n2 m s ++ l) score_place k ≡ head_of n1 n2 m k ++ l
head-score n1 n2 m s k l = refl

pub score-at : (n1 n2 m s : ℕ) (l : List ℕ) → (score_place < length (head_of n1 n2 m s ++ l)) × (get_or (head_of n1 n2 m s ++ l) score_place 0 ≡ s)
score-at n1 n2 m s l = (omega arith, refl)

head-sizes : (n1 n2 : ℕ) (l : List ℕ) → set (set (replicate head_words 0 ++ l) 0 n1) 1 n2 ≡ head_of n1 n2 0 0 ++ l
head-sizes n1 n2 l = refl

-- ---- what follows
pub counted : (t : List ℕ) (m : ℕ) → head_words ≤ length t → take head_words (set t rounds_place m) ≡ head_of (tally_size1 t) (tally_size2 t) m (tally_score t)
counted t m h =
    let new = head_of (tally_size1 t) (tally_size2 t) m (tally_score t) in
    ap (λ x. take head_words (set x rounds_place m)) (sym (take-append-drop head_words t) ∙ ap (λ x. x ++ drop head_words t) (head-of t h))
    ∙ ap (take head_words) (head-rounds (tally_size1 t) (tally_size2 t) (rounds t) (tally_score t) m (drop head_words t)) ∙ take_at new (drop head_words t) head_words (head-length (tally_size1 t) (tally_size2 t) m (tally_score t))

pub tally-length : (n1 n2 m : ℕ) (c : ℕ → ℕ → ℕ) → length (tally_of n1 n2 m c) ≡ words n1 n2
tally-length n1 n2 m c = length-append (heading n1 n2 m c) (cell_rows (n1 + 1) (width n2) c) ∙ omega (arith, head-length n1 n2 m (cell_sum n1 n2 c), table-length (n1 + 1) (width n2) c)

pub tally-cell : (n1 n2 m : ℕ) (c : ℕ → ℕ → ℕ) (l : List ℕ) (l1 l2 : ℕ) → l1 ≤ n1 → l2 ≤ n2 → cell (tally_of n1 n2 m c ++ l) l1 l2 ≡ c l1 l2
tally-cell n1 n2 m c l l1 l2 h k =
    let i = l1 * width n2 + l2 in
    let cells = cell_rows (n1 + 1) (width n2) c ++ l in
    ap (λ x. get_or x (head_words + i) 0) (append_assoc (heading n1 n2 m c) (cell_rows (n1 + 1) (width n2) c) l) ∙ ap (λ x. get_or (heading n1 n2 m c ++ cells) (x + i) 0) (sym (head-length n1 n2 m (cell_sum n1 n2 c)))
    ∙ get_or-append-add (heading n1 n2 m c) cells i 0 ∙ table_at (n1 + 1) (width n2) c l1 l2 l (omega arith) (omega arith)

-- the same M and the same cells
pub tally-by : (n1 n2 : ℕ) {m k : ℕ} (c d : ℕ → ℕ → ℕ) → m ≡ k → ((l1 l2 : ℕ) → l1 ≤ n1 → l2 ≤ n2 → c l1 l2 ≡ d l1 l2) → tally_of n1 n2 m c ≡ tally_of n1 n2 k d
tally-by n1 n2 {m} {k} c d e h =
    ap (λ x. head_of n1 n2 x (cell_sum n1 n2 c) ++ cell_rows (n1 + 1) (width n2) c) e
    ∙ ap₂ (λ s y. head_of n1 n2 k s ++ y) (total-same n1 n2 c d h) (table_same (n1 + 1) (width n2) c d (λ i j p q. h i j (omega arith) (omega arith)))

-- zeros and two sizes are a tally of no rounds
pub tally-new : (n1 n2 : ℕ) (t : List ℕ) → let none : ℕ → ℕ → ℕ = λ l1 l2. 0 in
    set (set (replicate (words n1 n2) 0 ++ drop (words n1 n2) t) 0 n1) 1 n2 ≡ tally_of n1 n2 0 none ++ drop (length (tally_of n1 n2 0 none)) t
tally-new n1 n2 t =
    let none : ℕ → ℕ → ℕ = λ l1 l2. 0 in
    let k = (n1 + 1) * width n2 in
    let cells = cell_rows (n1 + 1) (width n2) none in
    let past = drop (words n1 n2) t in
    ap (λ x. set (set (x ++ past) 0 n1) 1 n2) (sym (replicate-append-replicate head_words k 0) ∙ ap (λ x. replicate head_words 0 ++ x) (sym (table-zero (n1 + 1) (width n2))))
    ∙ ap (λ x. set (set x 0 n1) 1 n2) (append_assoc (replicate head_words 0) cells past) ∙ head-sizes n1 n2 (cells ++ past)
    ∙ ap (λ s. head_of n1 n2 0 s ++ (cells ++ past)) (sym (total-none n1 n2)) ∙ sym (append_assoc (heading n1 n2 0 none) cells past)
    ∙ ap (λ x. tally_of n1 n2 0 none ++ drop x t) (sym (tally-length n1 n2 0 none))

-- ---- a tally whose score is the sum is told by its sizes, M, its cells and the words past them
pub tally-same : (n1 n2 m : ℕ) (c : ℕ → ℕ → ℕ) (l t : List ℕ) → tally_size1 t ≡ n1 → tally_size2 t ≡ n2 → rounds t ≡ m → tally_score t ≡ cell_sum (tally_size1 t) (tally_size2 t) (cell t)
    → words n1 n2 ≤ length t → ((l1 l2 : ℕ) → l1 ≤ n1 → l2 ≤ n2 → c l1 l2 ≡ cell t l1 l2) → l ≡ drop (words n1 n2) t → tally_of n1 n2 m c ++ l ≡ t
tally-same n1 n2 m c l t e f g total room cells past =
    let w = width n2 in
    append_assoc (heading n1 n2 m c) (cell_rows (n1 + 1) w c) l
    ∙ ap₂ ◌++◌ (sym (head-of t (omega arith) ∙ head-same (cell t) e f g total (total-same n1 n2 c (cell t) cells)))
    (ap₂ ◌++◌ (table_same (n1 + 1) w c (λ i j. get_or (drop head_words t) (i * w + j) 0) at ∙ table-take (n1 + 1) w (drop head_words t) (omega (arith, length-drop head_words t)))
    (past ∙ sym (drop-drop ((n1 + 1) * w) head_words t)) ∙ take-append-drop ((n1 + 1) * w) (drop head_words t))
    ∙ take-append-drop head_words t
  where
    head-same : {a b k s : ℕ} (d : ℕ → ℕ → ℕ) → a ≡ n1 → b ≡ n2 → k ≡ m → s ≡ cell_sum a b d → cell_sum n1 n2 c ≡ cell_sum n1 n2 d → head_of a b k s ≡ heading n1 n2 m c
    head-same d e f g q h = rw (q, e, f, g, h) refl

    at : (i j : ℕ) → i < n1 + 1 → j < width n2 → c i j ≡ get_or (drop head_words t) (i * width n2 + j) 0
    at i j h k = cells i j (omega arith) (omega arith) ∙ ap (λ n. get_or t (head_words + (i * width n + j)) 0) f ∙ sym (get_or-drop head_words t (i * width n2 + j) 0)
