-- What the kit proves of a function holds of its code in a library. The kit says it of each environment that has the function's code and the code of all
-- that it calls (`Wired`), and the machine that holds a library is one for each function that the library has so (`HasT`).
use mathlib.Core.Bool.{true}
use prog.Linked.{in_world}
use prog.LinkedThreads.{tie_t, HasT, has-wired_t, tie_t-follows, tie_t-threads}
use prog.Wired.{Code, Wired}
use contract.Running.{within}
use borrow.Fn.World.{World, w₀}
use Rattle.runs.specs.Library.{Library}

-- the closed model, with that machine
abbrev pub holding : Library → World
holding library = record { M = w₀.M; 𝓤 = w₀.𝓤; 𝓛 = w₀.𝓛; 𝓜 = w₀.𝓜; 𝓡 = within w₀.𝓤 w₀.𝓛.H w₀.𝓜 w₀.𝓡 (tie_t (in_world library)) }

pub wired : (library : Library) (c : Code) → HasT (in_world library) true c → Wired (tie_t (in_world library)) c
wired library c has =
    has-wired_t (in_world library) (tie_t (in_world library)) (tie_t-follows (in_world library)) (tie_t-threads (in_world library)) c has
