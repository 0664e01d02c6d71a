-- What the converter writes, by the numbers that the code has at hand.
use mathlib.Core.Path.{◌≡◌, sym, ap, ◌∙◌, subst}
use mathlib.Core.List.{List, [], ◌∷◌, ◌++◌}
use Prim.Native.Nat.{ℕ, ◌+◌, ◌-◌, ◌*◌, ◌/◌, ◌≤◌}
use native.Mathlib.Omega.{arith}
use lib.ListN.{length}
use Rattle.limits.specs.Limits.{arc_size, max_nodes, max_file, trailer_size}
use Rattle.laws.specs.Members.{◌∈◌}
use Rattle.answer.specs.Outcome.{Outcome, success, outcome}
use Rattle.orders.specs.Order.{count}
use Rattle.slices.specs.Bytes.{part_at, words_bytes}
use Rattle.parts.specs.Study.{round_size}
use Rattle.sections.specs.File.{trailer_at, trailer, nodes_of}
use Rattle.sections.specs.declared.Trailer.{Trailer}
use Rattle.writer.proofs.Answers.{bytes-length, given-small}
use Rattle.writer.specs.Writer.{trailer_words}
use Rattle.convert.specs.Old.{old_arc_size, old_arcs, old_rounds}
use Rattle.convert.specs.Convert.{with_kinds, by_places, converted, convert_tests, convert_bytes}
use Rattle.convert.specs.Steps.{NodesBelow}
use Rattle.convert.proofs.Converts.{fits, nodes-long, arcs-long, rounds-long, entries-long, places-long, rounds-below, writer-passes}
use Rattle.convert.proofs.Stages.{rounds-size, rounds-part}

-- sections and trailer as the writer has them
bytes_same : (f nodes arcs rounds words : List ℕ) → nodes ≡ nodes_of f → arcs ≡ old_arcs f → rounds ≡ old_rounds f → words ≡ trailer_words (converted f)
    → nodes ++ with_kinds arcs ++ by_places nodes rounds ++ words_bytes words ≡ convert_bytes f
bytes_same f nodes arcs rounds words a b c d = rw (a, b, c, d)

-- eight numbers, one by one
words_same : {a b c d x y : ℕ} (s t m : ℕ) {p q : ℕ} → a ≡ b → c ≡ d → x ≡ y → p ≡ q → {i j : ℕ} → i ≡ j
    → a ∷ c ∷ m ∷ s ∷ t ∷ x ∷ p ∷ i ∷ [] ≡ b ∷ d ∷ m ∷ s ∷ t ∷ y ∷ q ∷ j ∷ []
words_same s t m e f g h k = rw (e, f, g, h, k)

module _ (f : List ℕ) (e : outcome (convert_tests f) (0 ∷ []) ≡ success (0 ∷ [])) where
  abbrev n : ℕ
  n = (trailer f).nodes

  abbrev a : ℕ
  a = arc_size * (trailer f).arcs

  abbrev r : ℕ
  r = (trailer f).rounds * round_size (nodes_of f)

  long-is : length (convert_bytes f) ≡ n + a + r + trailer_size
  long-is = bytes-length (converted f) ∙ omega (arith, nodes-long f e, entries-long f e, places-long f e)

  long-small : n + a + r + trailer_size ≤ max_file
  long-small = omega (arith, given-small (converted f) (writer-passes f e), nodes-long f e, entries-long f e, places-long f e)

  words_are : (h : Trailer) (dm : ℕ) → h ≡ trailer f → dm ≡ r
      → h.nodes ∷ h.arcs ∷ h.rounds ∷ h.source ∷ h.target ∷ (h.nodes + (arc_size * h.arcs + dm)) ∷ (arc_size * h.arcs + dm) ∷ dm ∷ [] ≡ trailer_words (converted f)
  words_are h dm eh ed =
      let t = trailer f in
      let l = entries-long f e in
      let k = places-long f e in
      let q : t.arcs ≡ length (with_kinds (old_arcs f)) / arc_size = omega (arith, l) in
      rw (eh, ed) (words_same t.source t.target t.rounds (sym (nodes-long f e)) q (omega (arith, nodes-long f e, l, k)) (omega (arith, l, k)) (sym k))

-- what the code has at hand: the trailer, the node bytes, how many of them are of each class, and what the tests found, which passed
module _ (f : List ℕ) (h : Trailer) (nodes : List ℕ) (n1 n2 : ℕ) (found : Outcome) (eh : h ≡ trailer f) (en : nodes ≡ nodes_of f) (e1 : n1 ≡ count 1 nodes) (e2 : n2 ≡ count 2 nodes)
    (ef : found ≡ outcome (convert_tests f) (0 ∷ [])) (e : found ≡ success (0 ∷ [])) where
  pub code_passed : outcome (convert_tests f) (0 ∷ []) ≡ success (0 ∷ [])
  code_passed = sym ef ∙ e

  one : n1 ≡ count 1 (nodes_of f)
  one = e1 ∙ ap (count 1) en

  two : n2 ≡ count 2 (nodes_of f)
  two = e2 ∙ ap (count 2) en

  size : h.rounds * (n1 + n2) ≡ (trailer f).rounds * round_size (nodes_of f)
  size = rounds-size f h n1 n2 eh one two

  pub code-end : h.nodes + (arc_size * h.arcs + h.rounds * (n1 + n2)) + trailer_size ≡ length (convert_bytes f)
  code-end = omega (arith, long-is f code_passed, size, ap (λ (t : Trailer). t.nodes) eh, ap (λ (t : Trailer). t.arcs) eh)

  pub code-small : h.nodes + (arc_size * h.arcs + h.rounds * (n1 + n2)) + trailer_size ≤ max_file
  code-small = omega (arith, long-small f code_passed, code-end, long-is f code_passed)

  -- the sections, with all rounds as one part
  module _ (arcs rounds : List ℕ) (ea : arcs ≡ old_arcs f) (er : rounds ≡ part_at (trailer_at f - (trailer f).dm + 0 * (h.rounds * (n1 + n2))) (h.rounds * (n1 + n2)) f) where
    same : rounds ≡ old_rounds f
    same = er ∙ rounds-part f h n1 n2 eh one two

    pub code-nodes : length nodes ≤ max_nodes
    code-nodes = omega (arith, ap length en, nodes-long f code_passed, (fits f code_passed).nodes-most)

    pub code_below : NodesBelow (length nodes) rounds
    code_below v m = omega (arith, ap length en, rounds-below f code_passed v (subst (λ l. v ∈ l) same m))

    pub code-length : length nodes + arc_size * (length arcs / old_arc_size) + length rounds + trailer_size ≡ h.nodes + (arc_size * h.arcs + h.rounds * (n1 + n2)) + trailer_size
    code-length =
        omega (arith, ap length en, ap length ea, ap length same, nodes-long f code_passed, arcs-long f code_passed, rounds-long f code_passed, size, ap (λ (t : Trailer). t.nodes) eh, ap (λ (t : Trailer). t.arcs) eh)

    pub code_bytes : (words : List ℕ)
        → words ≡ h.nodes ∷ h.arcs ∷ h.rounds ∷ h.source ∷ h.target ∷ (h.nodes + (arc_size * h.arcs + h.rounds * (n1 + n2))) ∷ (arc_size * h.arcs + h.rounds * (n1 + n2)) ∷ (h.rounds * (n1 + n2)) ∷ []
        → nodes ++ with_kinds arcs ++ by_places nodes rounds ++ words_bytes words ≡ convert_bytes f
    code_bytes words ew = bytes_same f nodes arcs rounds words en ea same (ew ∙ words_are f code_passed h _ eh size)
