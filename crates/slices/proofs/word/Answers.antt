-- `slices::word` reads its four bytes from a part.
use mathlib.Core.Path.{◌≡◌, ap}
use Prim.Native.Nat.{ℕ}
use native.Mathlib.Omega.{arith}
use lib.ListN.{get_or}
use Rattle.slices.specs.Bytes.{part_at}
use Rattle.slices.proofs.Words.{word-part}
use Rattle.slices.proofs.word.Goals as goal

pub returns : goal.returns
returns c = let a = c.args in
    let p = c.part-four in
    let g : (j : ℕ) → get_or p.result.now j 0 ≡ get_or (part_at a.at 4 a.bytes.now) j 0 = λ j. ap (λ b. get_or b j 0) p.ensures.bytes in
    omega (arith, word-part a.at a.bytes.now, g 0, g 1, g 2, g 3)
