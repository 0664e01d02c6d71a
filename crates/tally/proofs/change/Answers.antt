-- `tally::change` changes M, lends the cells to `change_rows`, and changes the score by what that counts.
use mathlib.Core.Path.{◌≡◌, ap, ap₂, ◌∙◌}
use mathlib.Core.List.{◌++◌}
use Prim.Native.Nat.{◌-◌}
use lib.ListN.{length, take, drop}
use borrow.Rule.Slice.PartMut.{put_mid}
use Rattle.laws.specs.Parts.{tail-part}
use Rattle.record.specs.Record.{record_size1, record_size2}
use Rattle.soundness.specs.Tally.{head_words, tally_size1, tally_size2, rounds}
use Rattle.cells.specs.Steps.{changed_word, held_cells, changed_cells}
use Rattle.tally.proofs.Changes.{put-tail, change-long, change-cells, half, change-out}
use Rattle.tally.proofs.change.Goals as goal

pub change_rows-n-requires : goal.change_rows-n-requires
change_rows-n-requires c =
    let a = c.args in
    let h = c.read_head-head.ensures in
    rw (tail-part c.change_word.new.tally head_words, c.change_word.ensures, h.0, h.1) (change-cells a.up a.down a.«record».now a.tally.now c.requires (changed_word a.up a.down (rounds a.tally.now)))

pub returns : goal.returns
returns c =
    let words_are : let a = c.args in let w = c.change_word.new.tally in
    put_mid head_words (length w - head_words) w c.change_rows-n.new.cells ≡ half a.up a.down a.«record».now a.tally.now c.requires =
    let a = c.args in
    let r = a.«record».now in
    let m = changed_word a.up a.down (rounds a.tally.now) in
    let w = c.change_word.new.tally in
    let h = c.read_head-head.ensures in
    put-tail head_words w c.change_rows-n.new.cells (changed_cells a.up a.down r (record_size1 r) (record_size2 r) (drop head_words w)) (rw c.change_word.ensures (change-long a.up a.down r a.tally.now c.requires m)) (rw (tail-part w head_words, h.0, h.1) at c.change_rows-n.ensures.slice)
    ∙ ap (λ x. take head_words x ++ changed_cells a.up a.down r (record_size1 r) (record_size2 r) (drop head_words x)) c.change_word.ensures in
    let count-is : let a = c.args in c.change_rows-n.result ≡ held_cells a.«record».now (tally_size1 a.tally.now) (tally_size2 a.tally.now) =
    let h = c.read_head-head.ensures in
    c.change_rows-n.ensures.count ∙ ap₂ (held_cells c.args.«record».now) (h.0 ∙ c.requires.fits.one) (h.1 ∙ c.requires.fits.two) in
    let a = c.args in
    let w = c.change_word.new.tally in
    c.change_word-2.ensures ∙ change-out a.up a.down a.«record».now a.tally.now c.requires (put_mid head_words (length w - head_words) w c.change_rows-n.new.cells) c.change_rows-n.result (words_are) (count-is)
