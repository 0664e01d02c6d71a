-- A CALL that was made and returned: what it was given, what it answered, what it left, and that it kept its contract. No more is known of it.
-- (The parameters' kinds and the contract are those that the checker makes of a function: kinds/specs/Kinds.antt says where they stand.)
use Rattle.std.specs.Prelude.{List, ℕ}
use contract.Lifetimes.{Lfts}
use denote.Triple.Clauses.{Lasts, AtExit, at_exit}
use borrow.Fn.Kinds.{ParamKind, ResultKind, Dens, Out, res_t, ended_of}

-- n lifetimes, parameters ps, result r, and the contract; `last` is what the slices that the function may write (`&mut`) hold when it returns
pub record Call (n : ℕ) (ps : List (ParamKind n)) (r : ResultKind n) (promise : Out n ps r) : Type 0 where
  pub lifetimes : Lfts n
  pub args : Dens lifetimes ps
  pub result : (res_t r lifetimes).Denot
  pub last : Lasts (ended_of n ps r) lifetimes args
  pub kept : promise lifetimes args result (at_exit (ended_of n ps r) lifetimes args last)

-- its parameters when it returned: by the kit's `at_exit` a slice that it may only read (`&`) is as it was
abbrev pub after : {n : ℕ} {ps : List (ParamKind n)} {r : ResultKind n} {promise : Out n ps r} → (c : Call n ps r promise)
    → AtExit (ended_of n ps r) c.lifetimes
after {n} {ps} {r} c = at_exit (ended_of n ps r) c.lifetimes c.args c.last
