-- The converter's tests in stages: the trailer, nodes, arcs, rounds.
use mathlib.Core.Path.{◌≡◌, sym, ap, ap₂, ◌∙◌}
use mathlib.Core.Bool.{Bool, cond, not, ◌&&◌}
use mathlib.Core.List.{List, [], ◌∷◌, ◌++◌, append-nil}
use Prim.Native.Nat.{ℕ, ◌+◌, ◌-◌, ◌*◌, ◌≤◌}
use native.Mathlib.Omega.{arith}
use borrow.Author.Tests.{ltb-false, le-ltb}
use lib.Dec.{ltb}
use lib.ListN.{length, take, drop, length-take, length-drop}
use Rattle.limits.specs.Limits.{max_nodes, max_rounds, max_class, max_round_size}
use Rattle.laws.specs.Members.{all, here, there}
use Rattle.laws.specs.Tests.{or-none}
use Rattle.answer.proofs.Outcomes.{outcome-tests, outcome-refused, outcome-passed}
use Rattle.answer.specs.Outcome.{Outcome, success, refused, outcome}
use Rattle.orders.specs.Order.{count, is_order_of}
use Rattle.slices.specs.Bytes.{part_at}
use Rattle.parts.specs.Study.{pieces, round_size}
use Rattle.parts.specs.Tests.{bad_classes, bad_sizes, part_tests}
use Rattle.sections.specs.declared.Trailer.{Trailer}
use Rattle.sections.specs.File.{trailer_at, trailer, nodes_of}
use Rattle.study.proofs.Trailers.{Fits, trailer-fits}
use Rattle.study.specs.Calls.{trailer_tests}
use Rattle.convert.specs.Old.{old_arc_size, old_arcs, old_rounds, old_bad_arcs, old_part_tests, old_bad_rounds}
use Rattle.convert.specs.Convert.{bad_old_orders, convert_tests}

-- ---- nodes and arcs
module _ (N : ℕ) (nodes arcs : List ℕ) where
  abbrev node_tests : List (ℕ × Bool)
  node_tests = (5, bad_classes nodes) ∷ (6, bad_sizes nodes) ∷ []

  abbrev arc_tests : List (ℕ × Bool)
  arc_tests = (8, old_bad_arcs N arcs) ∷ []

  -- a study without arcs has the tests of nodes alone
  no-arcs : outcome (part_tests N nodes []) (0 ∷ []) ≡ outcome node_tests (0 ∷ [])
  no-arcs = ap (λ l. cond (bad_classes nodes) (refused 5) (cond (bad_sizes l) (refused 6) (success (0 ∷ [])))) (append-nil nodes)

  pub nodes-refused : (n : ℕ) → outcome (part_tests N nodes []) (0 ∷ []) ≡ refused n → refused n ≡ outcome (old_part_tests N nodes arcs) (0 ∷ [])
  nodes-refused n e = sym (outcome-refused node_tests arc_tests (0 ∷ []) (0 ∷ []) n (sym no-arcs ∙ e))

  pub nodes-passed : outcome (part_tests N nodes []) (0 ∷ []) ≡ success (0 ∷ []) → (b : Bool) → b ≡ old_bad_arcs N arcs
      → cond b (refused 8) (success (0 ∷ [])) ≡ outcome (old_part_tests N nodes arcs) (0 ∷ [])
  nodes-passed e b q = sym (outcome-passed node_tests arc_tests (0 ∷ []) (0 ∷ []) (sym no-arcs ∙ e) ∙ ap (λ t. cond t (refused 8) (success (0 ∷ []))) (sym q))

-- ---- the rounds, by the numbers that the code has at hand
module _ (f : List ℕ) (h : Trailer) (n1 n2 : ℕ) (eh : h ≡ trailer f) (e1 : n1 ≡ count 1 (nodes_of f)) (e2 : n2 ≡ count 2 (nodes_of f)) where
  pub rounds-size : h.rounds * (n1 + n2) ≡ (trailer f).rounds * round_size (nodes_of f)
  rounds-size = rw (eh, e1, e2)

  -- all rounds as one part
  pub rounds-part : part_at (trailer_at f - (trailer f).dm + 0 * (h.rounds * (n1 + n2))) (h.rounds * (n1 + n2)) f ≡ old_rounds f
  rounds-part =
      let z : trailer_at f - (trailer f).dm + 0 * (h.rounds * (n1 + n2)) ≡ trailer_at f - (trailer f).dm = omega arith in
      ap₂ (λ at n. part_at at n f) z rounds-size

  pub eleven : (nodes bytes : List ℕ) → nodes ≡ nodes_of f → bytes ≡ old_rounds f
      → not (all (λ x. is_order_of 1 nodes (take n1 x) && is_order_of 2 nodes (drop n1 x)) (pieces h.rounds (n1 + n2) bytes)) ≡ bad_old_orders f
  eleven nodes bytes en eb = rw (en, eb, eh, e1, e2)

-- ---- THE STAGES
module _ (f : List ℕ) where
  abbrev pub first_tests : List (ℕ × Bool)
  first_tests = trailer_tests old_arc_size (length f) (trailer f)

  abbrev pub next_tests : List (ℕ × Bool)
  next_tests = old_part_tests (trailer f).nodes (nodes_of f) (old_arcs f)

  abbrev last_tests : List (ℕ × Bool)
  last_tests = (9, old_bad_rounds f) ∷ (11, bad_old_orders f) ∷ []

  -- ---- the first stage
  pub first-refused : (n : ℕ) → outcome first_tests (0 ∷ []) ≡ refused n → refused n ≡ outcome (convert_tests f) (0 ∷ [])
  first-refused n e = sym (outcome-refused first_tests (next_tests ++ last_tests) (0 ∷ []) (0 ∷ []) n e)

  module _ (e : outcome first_tests (0 ∷ []) ≡ success (0 ∷ [])) where
    pub first_fits : Fits old_arc_size (length f) (trailer f)
    first_fits = trailer-fits old_arc_size (length f) (trailer f) (outcome-tests first_tests (0 ∷ []) e)

    pub nodes-length : length (nodes_of f) ≡ (trailer f).nodes
    nodes-length =
        let at = trailer_at f - (trailer f).dn in
        omega (arith, length-take (trailer f).nodes (drop at f), length-drop at f, first_fits.long, first_fits.dn-at, first_fits.nodes-room)

    -- ---- the second, as the code makes its tests
    pub same_parts : (nodes arcs : List ℕ) → nodes ≡ nodes_of f → arcs ≡ old_arcs f → outcome (old_part_tests (length nodes) nodes arcs) (0 ∷ []) ≡ outcome next_tests (0 ∷ [])
    same_parts nodes arcs en ea = rw (en, ea, nodes-length)

    behind : outcome (convert_tests f) (0 ∷ []) ≡ outcome (next_tests ++ last_tests) (0 ∷ [])
    behind = outcome-passed first_tests (next_tests ++ last_tests) (0 ∷ []) (0 ∷ []) e

    pub next-refused : (n : ℕ) → outcome next_tests (0 ∷ []) ≡ refused n → refused n ≡ outcome (convert_tests f) (0 ∷ [])
    next-refused n g = sym (behind ∙ outcome-refused next_tests last_tests (0 ∷ []) (0 ∷ []) n g)

    module _ (g : outcome next_tests (0 ∷ []) ≡ success (0 ∷ [])) where
      pub next-sizes : (count 1 (nodes_of f) ≤ max_class) × (count 2 (nodes_of f) ≤ max_class)
      next-sizes =
          let l = nodes_of f in
          let x = or-none (ltb max_class (count 1 l)) (ltb max_class (count 2 l)) (outcome-tests next_tests (0 ∷ []) g (6, bad_sizes l) (there here)) in
          (ltb-false max_class (count 1 l) x.0, ltb-false max_class (count 2 l) x.1)

      -- ---- the last
      pub last-stage : (h : Trailer) (n1 n2 : ℕ) → h ≡ trailer f → n1 ≡ count 1 (nodes_of f) → n2 ≡ count 2 (nodes_of f)
          → outcome (convert_tests f) (0 ∷ []) ≡ cond (ltb h.dm (h.rounds * (n1 + n2))) (refused 9) (cond (bad_old_orders f) (refused 11) (success (0 ∷ [])))
      last-stage h n1 n2 eh e1 e2 = behind ∙ outcome-passed next_tests last_tests (0 ∷ []) (0 ∷ []) g ∙ sym (rw (eh, e1, e2))

  -- what the code has at hand: the trailer, the bytes of nodes and arcs, how many nodes are of each class, what the first stage found, which passed, and the second
  module _ (t : Trailer) (nodes arcs : List ℕ) (n1 n2 : ℕ) (found next : Outcome) (eh : t ≡ trailer f) (en : nodes ≡ nodes_of f) (ea : arcs ≡ old_arcs f) (e1 : n1 ≡ count 1 nodes) (e2 : n2 ≡ count 2 nodes)
      (ef : found ≡ outcome (trailer_tests old_arc_size (length f) t) (0 ∷ [])) (p : found ≡ success (0 ∷ [])) (en2 : next ≡ outcome (old_part_tests (length nodes) nodes arcs) (0 ∷ [])) where
    begun : outcome first_tests (0 ∷ []) ≡ success (0 ∷ [])
    begun = ap (λ h. outcome (trailer_tests old_arc_size (length f) h) (0 ∷ [])) (sym eh) ∙ sym ef ∙ p

    second : outcome next_tests (0 ∷ []) ≡ next
    second = sym (en2 ∙ same_parts begun nodes arcs en ea)

    pub code-refused : (n : ℕ) → next ≡ refused n → refused n ≡ outcome (convert_tests f) (0 ∷ [])
    code-refused n q = next-refused begun n (second ∙ q)

    one : n1 ≡ count 1 (nodes_of f)
    one = e1 ∙ ap (count 1) en

    two : n2 ≡ count 2 (nodes_of f)
    two = e2 ∙ ap (count 2) en

    module _ (q : next ≡ success (0 ∷ [])) where
      pub code-few : (length nodes ≤ max_nodes) × (length nodes ≤ max_nodes) × (n1 + n2 ≤ max_round_size) × (t.rounds ≤ max_rounds)
      code-few =
          let nodes-few : length nodes ≤ max_nodes = omega (arith, ap length en, nodes-length begun, (first_fits begun).nodes-most) in
          (nodes-few, nodes-few, omega (arith, one, two, next-sizes begun (second ∙ q)), omega (arith, ap (λ (h : Trailer). h.rounds) eh, (first_fits begun).rounds-most))

      -- the last stage, of all rounds as one part
      pub code-last : (bytes : List ℕ) (bad : Bool) → bytes ≡ part_at (trailer_at f - (trailer f).dm + 0 * (t.rounds * (n1 + n2))) (t.rounds * (n1 + n2)) f
          → bad ≡ not (all (λ x. is_order_of 1 nodes (take n1 x) && is_order_of 2 nodes (drop n1 x)) (pieces t.rounds (n1 + n2) bytes)) → t.rounds * (n1 + n2) ≤ t.dm
          → cond bad (refused 11) (success (0 ∷ [])) ≡ outcome (convert_tests f) (0 ∷ [])
      code-last bytes bad eb er h =
          sym (last-stage begun (second ∙ q) t n1 n2 eh one two ∙ rw (le-ltb t.dm (t.rounds * (n1 + n2)) h, sym (er ∙ eleven f t n1 n2 eh one two nodes bytes en (eb ∙ rounds-part f t n1 n2 eh one two))))
