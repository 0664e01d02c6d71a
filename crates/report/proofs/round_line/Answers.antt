-- `report::round_line` searches a round, and adds its front.
use mathlib.Core.Path.{◌≡◌, refl, sym, ap, ◌∙◌}
use mathlib.Core.List.{[], ◌∷◌}
use lib.ListN.{take, replicate}
use lib.Seq.{length-take-le}
use Rattle.answer.specs.Outcome.{success, refused, number_of, written}
use Rattle.record.specs.Record.{longest}
use Rattle.search.specs.Search.{search_bytes}
use Rattle.tally.specs.Calls.{add_out}
use Rattle.lines.specs.Text.{front_line, refused_line}
use Rattle.lines.specs.Report.{round_answer}
use Rattle.report.proofs.Rounds.{found-bytes, found-fits, found-record}
use Rattle.report.proofs.round_line.Goals as goal

pub slice_bounds-record-end : goal.slice_bounds-record-end
slice_bounds-record-end c =
    let answered : round_answer c.args.file.now c.args.round ≡ success (c.in-Ok.n ∷ []) = sym c.search.ensures.answer ∙ ap written c.in-Ok.is in
    found-fits c.args.file.now c.args.round (replicate longest 0) c.search.new.out c.in-Ok.n answered c.search.ensures.slice

pub slice_bounds-add_front-end : goal.slice_bounds-add_front-end
slice_bounds-add_front-end c =
    let answered : round_answer c.args.file.now c.args.round ≡ success (c.in-Ok.n ∷ []) = sym c.search.ensures.answer ∙ ap written c.in-Ok.is in
    sym (length-take-le c.in-Ok.n c.search.new.out (found-fits c.args.file.now c.args.round (replicate longest 0) c.search.new.out c.in-Ok.n answered c.search.ensures.slice))

pub add_front-requires : goal.add_front-requires
add_front-requires c =
    let answered : round_answer c.args.file.now c.args.round ≡ success (c.in-Ok.n ∷ []) = sym c.search.ensures.answer ∙ ap written c.in-Ok.is in
    found-record c.args.file.now c.args.round (replicate longest 0) c.search.new.out c.in-Ok.n answered c.search.ensures.slice

pub returns-in-Err : goal.returns-in-Err
returns-in-Err c =
    let m = c.from.ensures in
    let k = c.refused_line.ensures in
    let a : round_answer c.args.file.now c.args.round ≡ refused (number_of c.in-Err.r) = sym c.search.ensures.answer ∙ ap written c.in-Err.is in
    record {
      told = (rw a (k ∙ ap refused_line m), rw a refl);
      tally = rw a refl;
    }

pub returns-in-Ok : goal.returns-in-Ok
returns-in-Ok c =
    let answered : round_answer c.args.file.now c.args.round ≡ success (c.in-Ok.n ∷ []) = sym c.search.ensures.answer ∙ ap written c.in-Ok.is in
    let k = c.add_front.ensures in
    let bytes : take c.in-Ok.n c.search.new.out ≡ search_bytes c.args.file.now c.args.round =
    found-bytes c.args.file.now c.args.round (replicate longest 0) c.search.new.out c.in-Ok.n answered c.search.ensures.slice in
    record {
      told = (rw answered (k.line ∙ ap (front_line c.args.round) bytes), rw answered refl);
      tally = rw answered (k.tally ∙ ap (λ x. add_out x c.args.tally.now) bytes);
    }
