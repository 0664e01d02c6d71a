-- WHAT IT IS THAT A CALL ENDS on the machine (`AlwaysEnds`): nothing is asked of its arguments, and for all that a machine can hold the function's own
-- code, run from a memory that holds them and anything else, ends, and makes a call with these arguments; the memory of every lent slice then holds what
-- that call left, all else what it held.
use Rattle.std.specs.Prelude.{◌≡◌, true, List, [], ◌∷◌, ◌++◌, ℕ, suc, ◌+◌, length}
use Rattle.std.proofs.Math.Option.{some}
use mir.Mem.{Cell}
use mir.Val.{Val}
use prog.Memory.{Memory, size, align, enc, load_m}
use prog.Machine.{done as ended}
use prog.Routine.{Routine, step}
use contract.Lifetimes.{Lfts}
use denote.Triple.End.{Outs}
use denote.Triple.Walked.{Fit as LastsFit}
use borrow.Fn.Kinds.{ParamKind, ResultKind, GoodsP, In, Out, res_t, ended_of, stays, slots, kepts}
use Rattle.runs.specs.Call.{Call, after}
use Rattle.runs.specs.Arguments.{Elem, Of, ty, val, Small, Block, block, All, SliceFits}
use Rattle.runs.specs.Arguments.{Arg, number, real, shared, mutable, place, Result, value, part, Fit, lent, values, kinds, kind, Names, args_of}

-- ---- BEFORE: a block's elements side by side, as the machine stores them (an integer with its lowest byte first); every block may be written
abbrev pub cells : (e : Elem) → List (Of e) → List Cell
cells e [] = []
cells e (x ∷ xs) = enc (ty e) (val e x) ++ cells e xs

abbrev pub blocks : List Block → Memory
blocks [] = []
blocks (block e xs ∷ bs) = some (align (ty e), cells e xs, true) ∷ blocks bs

-- a memory with any other blocks in it, and behind them what is lent, from block `at` on. (The kit's memory begins with two blocks of its own, empty here.)
abbrev pub other_blocks : List Block → Memory
other_blocks others = some (1, [], true) ∷ some (1, [], true) ∷ blocks others

abbrev pub at : List Block → ℕ
at others = length (other_blocks others)

abbrev pub memory_before : {n : ℕ} → List Block → List (Arg n) → Memory
memory_before others us = other_blocks others ++ blocks (lent us)

-- ---- AFTER: what is loaded from block b, one element after another from byte o on, is xs
abbrev pub Holds : Memory → (e : Elem) → ℕ → ℕ → List (Of e) → Type 0
Holds σ e b o [] = Unit
Holds σ e b o (x ∷ xs) = (load_m σ (ty e) b o ≡ some (val e x)) × Holds σ e b (o + size (ty e)) xs

-- so for each of these, in blocks b, b + 1, ..
abbrev pub Held : Memory → ℕ → List Block → Type 0
Held σ b [] = Unit
Held σ b (block e xs ∷ bs) = Holds σ e b 0 xs × Held σ (suc b) bs

-- a machine can hold each element of these
abbrev pub Smalls : List Block → Type 0
Smalls [] = Unit
Smalls (block e xs ∷ bs) = All (Small e) xs × Smalls bs

-- what is left: by the call's parameters when it returned (`after`), what each slice and each reference holds
abbrev pub left : {n : ℕ} (κs : Lfts n) (us : List (Arg n)) → Outs κs (slots (kinds us)) (kepts (kinds us)) → List Block
left κs [] x = []
left κs (number w y ∷ us) x = left κs us x.1
left κs (real f y ∷ us) x = left κs us x.1
left κs (shared e j ok xs ∷ us) x = block e x.0.now ∷ left κs us x.1
left κs (mutable e j ok xs ∷ us) x = block e x.0.now ∷ left κs us x.1
left κs (place e j ok y ∷ us) x = block e (x.0.now ∷ []) ∷ left κs us x.1

-- a slice that is handed back lies in memory, and a machine can hold it
abbrev pub Lies : {n : ℕ} (κs : Lfts n) (r : Result n) → (res_t (kind r) κs).Denot → Memory → Type 0
Lies κs (value r) x σ = Unit
Lies κs (part e j ok) x σ = Holds σ e x.ref_ptr.0 x.ref_ptr.1 x.now × SliceFits e x.now

-- ---- A RUN: how many lifetimes, the arguments and the kind of result; the contract (its `requires`, its `ensures`); the code
pub record Run : Type 3 where
  pub lifetimes : ℕ
  pub args : List (Arg lifetimes)
  pub result : Result lifetimes
  pub asks : In lifetimes (kinds args)
  pub promise : Out lifetimes (kinds args) (kind result)
  pub routine : Routine

-- the same, one after another
abbrev pub run : (n : ℕ) (us : List (Arg n)) (r : Result n) → In n (kinds us) → Out n (kinds us) (kind r) → Routine → Run
run n us r asks promise routine = record { lifetimes = n; args = us; result = r; asks = asks; promise = promise; routine = routine }

-- the call that it makes
abbrev pub CallOf : Run → Type 0
CallOf c = Call c.lifetimes (kinds c.args) (kind c.result) c.promise

-- what the kit's rules tell a function and its caller of a call beside the contract: arguments and result are values of their types, and the `&mut` slices
-- have as many elements at the return as before
pub record Possible {n : ℕ} {ps : List (ParamKind n)} {r : ResultKind n} {promise : Out n ps r} (c : Call n ps r promise) : Type 0 where
  pub good : GoodsP c.lifetimes ps c.args
  pub fit : LastsFit (ended_of n ps r) (stays ps) c.lifetimes c.args c.last
  pub ok : r.is.Ok c.lifetimes c.result

-- IT ENDS, in a memory with these other blocks
pub record Ends (others : List Block) (c : Run) : Type 0 where
  -- from the start, which holds them and what is lent, the code, with no other thread beside it (`step`), returns with some fuel a value and a memory
  pub others-began : Held (memory_before others c.args) 2 others
  pub began : Held (memory_before others c.args) (at others) (lent c.args)
  pub fuel : ℕ
  pub value : Val
  pub memory : Memory
  pub returns : step c.routine fuel (values (at others) c.args) (memory_before others c.args) ≡ ended (value, memory)
  -- (whatever the fuel, it ends in no other way)
  pub only : (k : ℕ) (v : Val) (σ : Memory)
      → step c.routine k (values (at others) c.args) (memory_before others c.args) ≡ ended (v, σ) → (v ≡ value) × (σ ≡ memory)
  -- and so makes a call with these arguments
  pub made : CallOf c
  pub names : Names c.args
  pub args_are : made.args ≡ args_of made.lifetimes (at others) c.args names
  pub possible : Possible made
  -- the value is that of the call's result; the memory holds what the call left (which a machine can hold again), what it hands back, and the
  -- other blocks as they were
  pub value-is : (kind c.result).is.Is made.lifetimes made.result (value ∷ [])
  pub memory-is : Held memory (at others) (left made.lifetimes c.args (after made))
  pub fits-again : Smalls (left made.lifetimes c.args (after made))
  pub result-lies : Lies made.lifetimes c.result made.result memory
  pub others-kept : Held memory 2 others

-- IT ALWAYS ENDS
pub record AlwaysEnds (c : Run) : Type 0 where
  -- nothing is asked of a caller: the contract's `requires` hold of these arguments, whatever the blocks, the lifetimes and the logic's names
  pub free : (b : ℕ) (κs : Lfts c.lifetimes) (γs : Names c.args) → c.asks κs (args_of κs b c.args γs)
  -- wherever a machine can hold the arguments and the other blocks (fuel and memory merely exist)
  pub ends : (others : List Block) → Smalls others → Fit c.args → ∥ Ends others c ∥₁

-- wherever its call is such, every lent block holds what it held
abbrev pub Keeps : (c : Run) → (CallOf c → Type 0) → Type 0
Keeps c Such = (others : List Block) (e : Ends others c) → Such e.made → Held e.memory (at others) (lent c.args)
