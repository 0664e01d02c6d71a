-- `slices::part` ends where the slice does.
use mathlib.Core.Path.{◌≡◌, refl, sym, ap, ◌∙◌}
use Prim.Native.Nat.{◌+◌, ◌-◌}
use native.Mathlib.Omega.{arith}
use lib.ListN.{drop_of_length-le, length, take, drop, length-take, length-drop}
use lib.Seq.{take-nil, take_all}
use Rattle.laws.specs.Parts.{tail-part}
use Rattle.slices.proofs.Placing.{moved}
use Rattle.slices.proofs.part.Goals as goal

pub returns-then-bytes-at : goal.returns-then-bytes-at
returns-then-bytes-at c = let a = c.args in
    record { bytes = sym (ap (take a.count) (drop_of_length-le a.bytes.now {i = a.at} (omega arith)) ∙ take-nil a.count); place = (refl, omega (arith, moved 0 a.bytes.ref_ptr.1), omega (arith, moved 0 a.bytes.ref_ptr.1)) }

pub returns-then-count-bytes : goal.returns-then-count-bytes
returns-then-count-bytes c = let a = c.args in
    let e : a.at + a.count - a.at ≡ a.count = omega arith in
    record { bytes = ap (λ n. take n (drop a.at a.bytes.now)) e; place = (refl, omega (arith, moved a.at a.bytes.ref_ptr.1), omega (arith, moved a.at a.bytes.ref_ptr.1, length-take (a.at + a.count - a.at) (drop a.at a.bytes.now), length-drop a.at a.bytes.now)) }

pub returns : goal.returns
returns c = let a = c.args in
    record { bytes = tail-part a.bytes.now a.at ∙ sym (take_all a.count (drop a.at a.bytes.now) (omega (arith, length-drop a.at a.bytes.now))); place = (refl, omega (arith, moved a.at a.bytes.ref_ptr.1), omega (arith, moved a.at a.bytes.ref_ptr.1, length-take (length a.bytes.now - a.at) (drop a.at a.bytes.now), length-drop a.at a.bytes.now)) }
