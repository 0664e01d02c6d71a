-- THE CODE of a function. A library is a list of crates, each with its name and a table: the code of each of its functions, by the function's symbol
-- (the checker makes the tables, of the code that it compiles). `code_of` is what a call does on the machine that holds a library and nothing else: it
-- runs the code that the library has under the call's symbol, and each call in that code likewise.
use prog.Linked.{World, in_world}
use prog.LinkedThreads.{tie_t}
use prog.Routine.{Callee, Routine}

abbrev pub Library : Type 0
Library = World

abbrev pub code_of : Library → Callee → Routine
code_of library call = tie_t (in_world library) call
