-- `writer::write_study` writes only when no number is left.
use mathlib.Core.Path.{◌≡◌, refl, sym, ap, ◌∙◌}
use mathlib.Core.List.{[], ◌∷◌}
use native.Mathlib.Omega.{arith}
use Rattle.answer.specs.Outcome.{success, outcome, done}
use Rattle.answer.proofs.Fills.{fill-refused, fill-delivered, deliver-short, deliver-done}
use Rattle.slices.proofs.Placing.{placed_first}
use Rattle.writer.specs.Writer.{Given, given, given_tests, study_bytes}
use Rattle.writer.proofs.Answers.{bytes-length}
use Rattle.writer.proofs.write_study.Goals as goal

pub returns-in-Err : goal.returns-in-Err
returns-in-Err c =
    let of : Given = let a = c.args in given a.nodes.now a.arcs.now a.rounds.now a.source a.target a.total in
    let both = fill-refused (given_tests (of)) (study_bytes (of)) c.args.out.now _ (sym c.test_given.ensures ∙ ap done c.in-Err.is) in record { answer = both.0; slice = both.1 }

pub returns-then-out-end : goal.returns-then-out-end
returns-then-out-end c =
    let of : Given = let a = c.args in given a.nodes.now a.arcs.now a.rounds.now a.source a.target a.total in
    let passed : outcome (given_tests (of)) (0 ∷ []) ≡ success (0 ∷ []) = sym c.test_given.ensures ∙ ap done c.in_default.is in
    let both = fill-delivered (given_tests (of)) (study_bytes (of)) c.args.out.now (passed) refl (deliver-short (study_bytes (of)) c.args.out.now (omega (arith, bytes-length (of)))) in record { answer = both.0; slice = both.1 }

pub returns : goal.returns
returns c =
    let of : Given = let a = c.args in given a.nodes.now a.arcs.now a.rounds.now a.source a.target a.total in
    let passed : outcome (given_tests (of)) (0 ∷ []) ≡ success (0 ∷ []) = sym c.test_given.ensures ∙ ap done c.in_default.is in
    let out = c.args.out.now in
    let both = fill-delivered (given_tests (of)) (study_bytes (of)) out (passed) refl
    (deliver-done (study_bytes (of)) out (omega (arith, bytes-length (of))) _ (sym (bytes-length (of))) (c.lay_out.ensures ∙ placed_first (study_bytes (of)) out)) in record { answer = both.0; slice = both.1 }
