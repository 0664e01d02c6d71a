-- The sample ring through medlarbrace_search, by evaluation (samples) and by what the function says.
use mathlib.Core.Path.{◌≡◌, ap, ap₂, subst, ◌∙◌}
use mathlib.Core.Logic.{∥∥₁_map}
use mathlib.Core.List.{List, []}
use Prim.Native.Nat.{ℕ}
use native.Mathlib.Omega.{arith}
use lib.ListN.{length}
use mir.Syntax.{w32}
use mir.Val.{vint}
use Rattle.answer.specs.Outcome.{Outcome, filled}
use Rattle.search.specs.Search.{search_answer, search_bytes, search_out}
use Rattle.medlarbrace.specs.Interface.{code}
use Rattle.samples.specs.Table.{ring_file, ten, eight, table}
use Rattle.runs.specs.Run.{Held, Ends}
use Rattle.runs.proofs.Bytes.{all_bytes, bytes-by}
use Rattle.functions.specs.Functions.{search_function}
use Rattle.functions.specs.Ring.{RingFunctions}
use Rattle.functions.proofs.Says.{search-left, search-said, every-function}

-- a run on the ring's file returns the answer's number, and leaves what is left
shown : (s : List ℕ) (k : ℕ) (a : Outcome) (left : List ℕ) → search_answer ring_file 0 (length s) ≡ a → search_out ring_file 0 s ≡ left
    → (e : Ends [] (search_function ring_file 0 s k)) → (e.value ≡ vint w32 (code a)) × Held e.memory 2 (search-left ring_file k left a)
shown s k a left h o e =
    let said = search-said ring_file 0 s k [] e in
    (said.0 ∙ ap (λ x. vint w32 (code x)) h, subst (Held e.memory 2) (ap₂ (search-left ring_file k) o h) said.1)

pub ring-functions : RingFunctions
unfolding all_bytes
ring-functions =
    record {
      ran = ∥∥₁_map ((every-function.search-ends ring_file 0 ten 0).ends [] tt ((bytes-by ring_file tt, omega arith), (omega arith, ((bytes-by ten tt, omega arith), (omega arith, tt)))))
          (λ e. let k = shown ten 0 _ _ table.r2-answer table.r2-out e in (e, k.0, k.1));
      ran-short = ∥∥₁_map ((every-function.search-ends ring_file 0 eight 7).ends [] tt ((bytes-by ring_file tt, omega arith), (omega arith, ((bytes-by eight tt, omega arith), (omega arith, tt)))))
          (λ e. let k = shown eight 7 _ eight table.r2-short (ap (λ (a : Outcome). filled a (search_bytes ring_file 0) eight) table.r2-short) e in (e, k.0, k.1));
    }
