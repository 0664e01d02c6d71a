-- `lines::pairs` writes pair after pair.
use mathlib.Core.List.{◌++◌}
use mathlib.Core.Path.{◌≡◌, ap, ◌∙◌}
use native.Mathlib.Omega.{arith}
use lib.ListN.{length, take}
use lib.Seq.{take-length}
use Rattle.laws.specs.Members.{concat_map}
use Rattle.front.specs.Pair.{pair_of}
use Rattle.record.specs.Record.{listed}
use Rattle.record.proofs.Bytes.{listed-length}
use Rattle.record.proofs.Records.{record_is}
use Rattle.cells.proofs.Peaks.{pair-in}
use Rattle.lines.specs.Text.{pair_text}
use Rattle.lines.proofs.Texts.{text-more, few-pairs}
use Rattle.lines.proofs.pairs.Goals as goal

pub pair-requires : goal.pair-requires
pair-requires c = omega (arith, few-pairs c.args.«record».now c.requires.1)

pub loop-i-preserved : goal.loop-i-preserved
loop-i-preserved c =
    let r = c.args.«record».now in
    let l = c.loop-i in
    let i = pair-in r ((record_is r).0 c.requires.1) l.i (omega (arith, l.invariant.2)) in (
      text-more pair_text (listed r) l.i (pair_of 0 0) c.args.line.now.bytes l.line.bytes c.pair.new.line.bytes i.2 l.invariant.0 (c.pair.ensures.text ∙ ap (λ p. l.line.bytes ++ pair_text p) (c.pair_at.ensures ∙ i.0)),
      omega (arith, c.pair.ensures.room),
      l.invariant.2,
    )

pub returns-clause-text : goal.returns-clause-text
returns-clause-text c =
    let r = c.args.«record».now in
    let l = c.loop-i in
    let e : l.i ≡ length (listed r) = omega (arith, l.invariant.2, listed-length r ((record_is r).0 c.requires.1).long) in
    l.invariant.0 ∙ ap (λ x. c.args.line.now.bytes ++ concat_map pair_text x) (ap (λ n. take n (listed r)) e ∙ take-length (listed r))

pub returns-clause-room : goal.returns-clause-room
returns-clause-room c = omega (arith, few-pairs c.args.«record».now c.requires.1)
