-- `record::pairs_fit`: the pair at i decides, or those behind it do.
use mathlib.Core.Path.{sym, ◌∙◌}
use native.Mathlib.Omega.{arith}
use Rattle.record.specs.Record.{listed}
use Rattle.record.proofs.Scans.{fit_next, fit-last}
use Rattle.record.proofs.Bytes.{listed-length}
use Rattle.record.proofs.valid.pairs_fit.Goals as goal

pub returns-then-not-fits : goal.returns-then-not-fits
returns-then-not-fits c =
    let l = c.loop-i in
    sym (l.invariant ∙ fit_next c.args.n1 c.args.n2 c.args.bytes.now l.last l.i c.requires.2 (omega arith) c.pair_at-p.ensures c.fits.ensures ∙ rw c.if-not-fits.true)

pub loop-i-preserved : goal.loop-i-preserved
loop-i-preserved c =
    let l = c.loop-i in
    l.invariant ∙ fit_next c.args.n1 c.args.n2 c.args.bytes.now l.last l.i c.requires.2 (omega arith) c.pair_at-p.ensures c.fits.ensures ∙ rw c.if-not-fits.false

pub returns : goal.returns
returns c =
    let l = c.loop-i in
    sym (l.invariant ∙ fit-last c.args.n1 c.args.n2 (listed c.args.bytes.now) l.last l.i (omega (arith, listed-length c.args.bytes.now c.requires.2)))
