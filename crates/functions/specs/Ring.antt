-- THE SAMPLE RING (document 01, R2) through the C interface: medlarbrace_search run on the machine.
use Rattle.std.specs.Prelude.{◌≡◌, [], ◌∷◌}
use mir.Val.{vint}
use Rattle.std.specs.Int.{w32}
use Rattle.samples.specs.Table.{ring_file, ten, eight}
use Rattle.runs.specs.Arguments.{u8, u64, block}
use Rattle.runs.specs.Run.{Held, Ends}
use Rattle.functions.specs.Functions.{search_function}

pub record RingFunctions : Type 0 where
  -- lent the ring's file, ten bytes of room and a length of 0 it ends and returns 0: the file is as it was, the room holds the record and its own tenth byte,
  -- the length is 9
  pub ran : ∥ ((e : Ends [] (search_function ring_file 0 ten 0)) × (e.value ≡ vint w32 0)
      × Held e.memory 2 (block u8 ring_file ∷ block u8 (2 ∷ 2 ∷ 3 ∷ 3 ∷ 1 ∷ 2 ∷ 2 ∷ 1 ∷ 3 ∷ 9 ∷ []) ∷ block u64 (9 ∷ []) ∷ [])) ∥₁
  -- lent eight bytes of room it returns 15: file, room and length are as they were
  pub ran-short : ∥ ((e : Ends [] (search_function ring_file 0 eight 7)) × (e.value ≡ vint w32 15)
      × Held e.memory 2 (block u8 ring_file ∷ block u8 eight ∷ block u64 (7 ∷ []) ∷ [])) ∥₁
