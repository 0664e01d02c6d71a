-- `medlarbrace_open` passes on what opening answers, as seven words.
use mathlib.Core.Path.{◌≡◌, sym, ap, ◌∙◌}
use lib.ListN.{length}
use Rattle.answer.specs.Outcome.{Outcome, success, opened, filled, header_values}
use Rattle.study.specs.Calls.{open_values, open_answer}
use Rattle.medlarbrace.specs.Interface.{code}
use Rattle.medlarbrace.proofs.Opened.{header-small, header-short, header-fits, header-filled, header_refused}
use Rattle.medlarbrace.proofs.files.medlarbrace_open.Goals as goal

pub returns-then-header-lt7 : goal.returns-then-header-lt7
returns-then-header-lt7 c =
    let opens : open_answer c.args.file.now ≡ success (header_values c.in-Ok.h) = sym c.open_study.ensures ∙ ap opened c.in-Ok.is in
    let a = c.args in
    let e = header-short a.file.now _ (opens) (length a.header.now) c.if-header-lt7.true in
    record { code = c.from.ensures ∙ sym (ap code e); slice = sym (ap (λ (t : Outcome). filled t (open_values a.file.now) a.header.now) e) }

pub returns-else-header-lt7 : goal.returns-else-header-lt7
returns-else-header-lt7 c =
    let opens : open_answer c.args.file.now ≡ success (header_values c.in-Ok.h) = sym c.open_study.ensures ∙ ap opened c.in-Ok.is in
    let a = c.args in
    let h = c.if-header-lt7.false in
    record { code = sym (ap code (header-fits a.file.now _ (opens) (length a.header.now) h)); slice = c.put_header.ensures ∙ sym (header-filled a.file.now _ (opens) a.header.now h) }

pub returns-in-Err : goal.returns-in-Err
returns-in-Err c = let a = c.args in
    let e = header_refused a.file.now _ (sym c.open_study.ensures ∙ ap opened c.in-Err.is) (length a.header.now) in
    record { code = c.from-in-Err.ensures ∙ sym (ap code e); slice = sym (ap (λ (t : Outcome). filled t (open_values a.file.now) a.header.now) e) }

pub put_header-requires : goal.put_header-requires
put_header-requires c =
    let opens : open_answer c.args.file.now ≡ success (header_values c.in-Ok.h) = sym c.open_study.ensures ∙ ap opened c.in-Ok.is in
    record { room = c.if-header-lt7.false; limits = header-small c.args.file.now _ opens }
