-- The converter (document 02, S-4): what it writes, answers and leaves. It reads every file as an old one (Old.antt).
use Rattle.std.specs.Prelude.{Bool, not, List, [], ◌∷◌, ◌++◌, map, ℕ}
use Rattle.laws.specs.Members.{all}
use Rattle.answer.specs.Outcome.{Outcome, fill_answer, fill_out}
use Rattle.orders.specs.Order.{place_in_class}
use Rattle.sections.specs.File.{trailer, nodes_of}
use Rattle.writer.specs.Writer.{Given, given, study_bytes}
use Rattle.convert.specs.Old.{old_arcs, old_rounds, old_study_of, old_tests, old_is_round}

-- "with kind 0 throughout": pairs of bytes, from and to, become entries of kind 0
abbrev pub with_kinds : List ℕ → List ℕ
with_kinds [] = []
with_kinds (x ∷ []) = []
with_kinds (x ∷ y ∷ b) = x ∷ y ∷ 0 ∷ with_kinds b

-- "Rounds name a member by its place in the class": node numbers become places
abbrev pub by_places : List ℕ → List ℕ → List ℕ
by_places nodes round = map (place_in_class nodes) round

-- the old study in the new form, all its rounds at once; N, M, s and t stay
abbrev pub converted : List ℕ → Given
converted f =
    given (nodes_of f) (with_kinds (old_arcs f)) (by_places (nodes_of f) (old_rounds f)) (trailer f).source (trailer f).target (trailer f).rounds

-- "laid out as the writer does"
abbrev pub convert_bytes : List ℕ → List ℕ
convert_bytes f = study_bytes (converted f)

-- "11 over all rounds": an order of some round is not each node of its class once
abbrev pub bad_old_orders : List ℕ → Bool
bad_old_orders f = not (all (old_is_round (nodes_of f)) (old_study_of f).rounds)

-- THE CONVERTER: "It tests by the old 1 to 9 without 7, then 11 over all rounds, then 15. On success it returns the length written"
abbrev pub convert_tests : List ℕ → List (ℕ × Bool)
convert_tests f = old_tests f ++ (11, bad_old_orders f) ∷ []

abbrev pub convert_answer : List ℕ → ℕ → Outcome
convert_answer f room = fill_answer (convert_tests f) (convert_bytes f) room

abbrev pub convert_out : List ℕ → List ℕ → List ℕ
convert_out f out = fill_out (convert_tests f) (convert_bytes f) out
