-- The functions of the C interface: the general lemma (runs/proofs/General.antt) at each, and its contract at the run's own arguments (`told`).
use mathlib.Core.Path.{◌≡◌, refl, sym, ap, subst, ◌∙◌}
use mathlib.Core.List.{List, [], ◌∷◌}
use Prim.Native.Nat.{ℕ}
use lib.ListN.{length, get_or}
use mir.Syntax.{w32}
use mir.Val.{Val, vunit, vbool, vint, vfloat, vptr, vstruct, vcode}
use mir.Syntax.{Callee}
use prog.Routine.{Routine, any_callee}
use contract.Running.{tables_of}
use borrow.Fn.World.{World}
use native.Mathlib.Omega.{arith}
use Rattle.answer.specs.Outcome.{Outcome, success, refused, filled}
use Rattle.answer.proofs.Outcomes.{outcome-never}
use Rattle.answer.proofs.Fills.{fill-never}
use Rattle.study.specs.Calls.{open_values, check_tests, round_tests}
use Rattle.search.specs.Search.{search_answer, search_bytes}
use Rattle.compose.specs.Compose.{series_answer, series_bytes, parallel_answer, parallel_bytes}
use Rattle.writer.specs.Writer.{Given, given_tests, write_answer, study_bytes}
use Rattle.convert.specs.Convert.{convert_tests, convert_bytes, convert_answer}
use Rattle.tally.specs.Words.{tally_of}
use Rattle.tally.specs.Calls.{new_answer, added, add_answer, removed, remove_answer, score_answer}
use Rattle.chance.specs.Chance.{weights}
use Rattle.weights.specs.Calls.{ageing_answer, weights_answer}
use Rattle.reliability.specs.Calls.{rate_answer}
use Rattle.medlarbrace.specs.Interface.{value_left, header_tests, header_answer, place_values, place_answer}
use Rattle.medlarbrace.proofs.Opened.{round-placed}
use Rattle.runs.specs.Arguments.{u8, u32, u64, Block, block, lent}
use Rattle.runs.specs.Library.{code_of}
use Rattle.runs.specs.Run.{at, Held, Run, AlwaysEnds}
use Rattle.runs.proofs.General.{always, told}
use Rattle.runs.proofs.Library.{holding, wired}
use Rattle.kinds.specs.Kinds as call
use Rattle.medlarbrace.proofs.files.medlarbrace_open.Reads as opening-reads
use Rattle.medlarbrace.proofs.files.medlarbrace_open.Met as opening-met
use Rattle.medlarbrace.proofs.files.medlarbrace_open.Symbol as opening-symbol
use Rattle.medlarbrace.proofs.files.medlarbrace_round.Reads as lookup-reads
use Rattle.medlarbrace.proofs.files.medlarbrace_round.Met as lookup-met
use Rattle.medlarbrace.proofs.files.medlarbrace_round.Symbol as lookup-symbol
use Rattle.medlarbrace.proofs.files.medlarbrace_search.Reads as search-reads
use Rattle.medlarbrace.proofs.files.medlarbrace_search.Met as search-met
use Rattle.medlarbrace.proofs.files.medlarbrace_search.Symbol as search-symbol
use Rattle.medlarbrace.proofs.records.medlarbrace_series.Reads as series-reads
use Rattle.medlarbrace.proofs.records.medlarbrace_series.Met as series-met
use Rattle.medlarbrace.proofs.records.medlarbrace_series.Symbol as series-symbol
use Rattle.medlarbrace.proofs.records.medlarbrace_parallel.Reads as parallel-reads
use Rattle.medlarbrace.proofs.records.medlarbrace_parallel.Met as parallel-met
use Rattle.medlarbrace.proofs.records.medlarbrace_parallel.Symbol as parallel-symbol
use Rattle.medlarbrace.proofs.tallies.medlarbrace_tally_new.Reads as new-reads
use Rattle.medlarbrace.proofs.tallies.medlarbrace_tally_new.Met as new-met
use Rattle.medlarbrace.proofs.tallies.medlarbrace_tally_new.Symbol as new-symbol
use Rattle.medlarbrace.proofs.tallies.medlarbrace_tally_add.Reads as add_reads
use Rattle.medlarbrace.proofs.tallies.medlarbrace_tally_add.Met as add-met
use Rattle.medlarbrace.proofs.tallies.medlarbrace_tally_add.Symbol as add-symbol
use Rattle.medlarbrace.proofs.tallies.medlarbrace_tally_remove.Reads as remove-reads
use Rattle.medlarbrace.proofs.tallies.medlarbrace_tally_remove.Met as remove-met
use Rattle.medlarbrace.proofs.tallies.medlarbrace_tally_remove.Symbol as remove-symbol
use Rattle.medlarbrace.proofs.tallies.medlarbrace_tally_score.Reads as score-reads
use Rattle.medlarbrace.proofs.tallies.medlarbrace_tally_score.Met as score-met
use Rattle.medlarbrace.proofs.tallies.medlarbrace_tally_score.Symbol as score-symbol
use Rattle.medlarbrace.proofs.tallies.medlarbrace_ageing.Reads as ageing-reads
use Rattle.medlarbrace.proofs.tallies.medlarbrace_ageing.Met as ageing-met
use Rattle.medlarbrace.proofs.tallies.medlarbrace_ageing.Symbol as ageing-symbol
use Rattle.medlarbrace.proofs.tallies.medlarbrace_weights.Reads as weights-reads
use Rattle.medlarbrace.proofs.tallies.medlarbrace_weights.Met as weights-met
use Rattle.medlarbrace.proofs.tallies.medlarbrace_weights.Symbol as weights-symbol
use Rattle.medlarbrace.proofs.tallies.medlarbrace_reliability.Reads as reliability-reads
use Rattle.medlarbrace.proofs.tallies.medlarbrace_reliability.Met as reliability-met
use Rattle.medlarbrace.proofs.tallies.medlarbrace_reliability.Symbol as reliability-symbol
use Rattle.medlarbrace.proofs.files.medlarbrace_write.Reads as writer-reads
use Rattle.medlarbrace.proofs.files.medlarbrace_write.Met as writer-met
use Rattle.medlarbrace.proofs.files.medlarbrace_write.Symbol as writer-symbol
use Rattle.medlarbrace.proofs.files.medlarbrace_convert.Reads as converter-reads
use Rattle.medlarbrace.proofs.files.medlarbrace_convert.Met as converter-met
use Rattle.medlarbrace.proofs.files.medlarbrace_convert.Symbol as converter-symbol
use Rattle.functions.specs.Functions.{c_library, open_function, round_function, search_function, series_function, parallel_function, new_function, add_function, remove_function, score_function, ageing_function, weights_function, reliability_function, write_function, convert_function, Says, KeepsUnless0, NeverReturns, EveryFunction}
use Rattle.functions.proofs.Linked.{Tables, opening-linked, lookup-linked, search-linked, series-linked, parallel-linked, new-linked, add-linked, remove-linked, score-linked, ageing-linked, weights-linked, reliability-linked, writer-linked, converter-linked}

-- the machine that holds the library
abbrev machine : World
machine = holding c_library

abbrev code : Callee → Routine
code = code_of c_library

-- which has the table of each crate
tables : Tables c_library
tables = record { has-answer = refl; has-front = refl; has-slices = refl; has-record = refl; has-buffer = refl; has-compose = refl; has-orders = refl; has-parts = refl; has-sections = refl; has-study = refl; has-writer = refl; has-convert = refl; has-soundness = refl; has-weights = refl; has-reliability = refl; has-chains = refl; has-members = refl; has-relax = refl; has-labels = refl; has-sweep = refl; has-search = refl; has-cells = refl; has-tally = refl; has-medlarbrace = refl }

-- the machine's value is the number that was returned
returned : {v : Val} {n m : ℕ} → v ∷ [] ≡ vint w32 n ∷ [] → n ≡ m → v ≡ vint w32 m
returned {v} e h = ap (λ vs. get_or vs 0 v) e ∙ ap (vint w32) h

-- what a function says and leaves, as the call has it
likewise : (c : Run) (left : List ℕ → Outcome → List Block) (a o : Outcome) (s t : List ℕ) → a ≡ o → s ≡ t → Says c o (left t o) → Says c a (left s a)
likewise c left a o s t e h = rw (e, h) (λ says. says)

-- a function that leaves these blocks where it answers a, and on a refusal what was lent
keeps : (c : Run) (left : Outcome → List Block) → ((n : ℕ) → left (refused n) ≡ lent c.args) → (a : Outcome) → Says c a (left a) → KeepsUnless0 c
keeps c left same (success v) says others e h = absurd (h (says others e).0)
keeps c left same (refused n) says others e h = subst (Held e.memory (at others)) (same n) (says others e).1

-- a function whose call never answers a number other than 0 never returns it
number_of : Val → ℕ
number_of (vint w n) = n
number_of vunit = 0
number_of (vbool b) = 0
number_of (vfloat w x) = 0
number_of (vptr b i) = 0
number_of (vstruct vs) = 0
number_of (vcode c) = 0

never : (c : Run) (n : ℕ) (a : Outcome) (blocks : List Block) → (0 ≡ n → ⊥) → Says c a blocks → (a ≡ refused n → ⊥) → NeverReturns n c
unfolding number_of
never c n (success v) blocks other says h others e q = other (ap number_of (sym (says others e).0 ∙ q))
never c n (refused m) blocks other says h others e q = h (ap (λ v. refused (number_of v)) (sym (says others e).0 ∙ q))

-- ---- medlarbrace_open
opening-ends : (f header : List ℕ) → AlwaysEnds (open_function f header)
unfolding tables_of
opening-ends f header =
    always (open_function f header) (opening-reads.known machine (λ i. code opening-symbol.name) any_callee (code opening-symbol.name) refl (opening-met.met machine.𝓤 machine.𝓛 machine.𝓜 machine.𝓡 (wired c_library opening-symbol.code (opening-linked c_library tables)))) (λ κs. tt) (λ b κs γs. tt)

abbrev opening-left : List ℕ → List ℕ → Outcome → List Block
opening-left f header a = block u8 f ∷ block u32 (filled a (open_values f) header) ∷ []

opening-said : (f header : List ℕ) → let a = header_answer f (length header) in Says (open_function f header) a (opening-left f header a)
opening-said f header others e =
    let d = told (open_function f header) e in
    (returned e.value-is.0 d.kept.0, rw (← d.kept.1) d.memory-is)

-- ---- medlarbrace_round
lookup-ends : (f : List ℕ) (r start count : ℕ) → AlwaysEnds (round_function f r start count)
unfolding tables_of
lookup-ends f r start count =
    always (round_function f r start count) (lookup-reads.known machine (λ i. code lookup-symbol.name) any_callee (code lookup-symbol.name) refl (lookup-met.met machine.𝓤 machine.𝓛 machine.𝓜 machine.𝓡 (wired c_library lookup-symbol.code (lookup-linked c_library tables)))) (λ κs. tt) (λ b κs γs. tt)

abbrev lookup-left : List ℕ → ℕ → ℕ → ℕ → Outcome → List Block
lookup-left f r start count a = block u8 f ∷ block u64 (value_left 0 a start ∷ []) ∷ block u64 (value_left 1 a count ∷ []) ∷ []

lookup-said : (f : List ℕ) (r start count : ℕ) → let a = place_answer f r in Says (round_function f r start count) a (lookup-left f r start count a)
lookup-said f r start count others e =
    let d = told (round_function f r start count) e in
    (returned e.value-is.0 d.kept.0, rw (← d.kept.1.0, ← d.kept.1.1) d.memory-is)

-- ---- medlarbrace_search
search-ends : (f : List ℕ) (r : ℕ) (out : List ℕ) (k : ℕ) → AlwaysEnds (search_function f r out k)
unfolding tables_of
search-ends f r out k =
    always (search_function f r out k) (search-reads.known machine (λ i. code search-symbol.name) any_callee (code search-symbol.name) refl (search-met.met machine.𝓤 machine.𝓛 machine.𝓜 machine.𝓡 (wired c_library search-symbol.code (search-linked c_library tables)))) (λ κs. tt) (λ b κs γs. tt)

abbrev pub search-left : List ℕ → ℕ → List ℕ → Outcome → List Block
search-left f k s a = block u8 f ∷ block u8 s ∷ block u64 (value_left 0 a k ∷ []) ∷ []

pub search-said : (f : List ℕ) (r : ℕ) (out : List ℕ) (k : ℕ) → let a = search_answer f r (length out) in Says (search_function f r out k) a (search-left f k (filled a (search_bytes f r) out) a)
search-said f r out k others e =
    let d = told (search_function f r out k) e in
    (returned e.value-is.0 d.kept.0, rw (← d.kept.1.0, ← d.kept.1.1) d.memory-is)

-- ---- medlarbrace_series
series-ends : (y z out : List ℕ) (k : ℕ) → AlwaysEnds (series_function y z out k)
unfolding tables_of
series-ends y z out k =
    always (series_function y z out k) (series-reads.known machine (λ i. code series-symbol.name) any_callee (code series-symbol.name) refl (series-met.met machine.𝓤 machine.𝓛 machine.𝓜 machine.𝓡 (wired c_library series-symbol.code (series-linked c_library tables)))) (λ κs. tt) (λ b κs γs. tt)

abbrev series-left : List ℕ → List ℕ → ℕ → List ℕ → Outcome → List Block
series-left y z k s a = block u8 y ∷ block u8 z ∷ block u8 s ∷ block u64 (value_left 0 a k ∷ []) ∷ []

series-said : (y z out : List ℕ) (k : ℕ) → let a = series_answer y z (length out) in Says (series_function y z out k) a (series-left y z k (filled a (series_bytes y z) out) a)
series-said y z out k others e =
    let d = told (series_function y z out k) e in
    (returned e.value-is.0 d.kept.0, rw (← d.kept.1.0, ← d.kept.1.1) d.memory-is)

-- ---- medlarbrace_parallel
parallel-ends : (y z out : List ℕ) (k : ℕ) → AlwaysEnds (parallel_function y z out k)
unfolding tables_of
parallel-ends y z out k =
    always (parallel_function y z out k) (parallel-reads.known machine (λ i. code parallel-symbol.name) any_callee (code parallel-symbol.name) refl (parallel-met.met machine.𝓤 machine.𝓛 machine.𝓜 machine.𝓡 (wired c_library parallel-symbol.code (parallel-linked c_library tables)))) (λ κs. tt) (λ b κs γs. tt)

parallel-said : (y z out : List ℕ) (k : ℕ) → let a = parallel_answer y z (length out) in Says (parallel_function y z out k) a (series-left y z k (filled a (parallel_bytes y z) out) a)
parallel-said y z out k others e =
    let d = told (parallel_function y z out k) e in
    (returned e.value-is.0 d.kept.0, rw (← d.kept.1.0, ← d.kept.1.1) d.memory-is)

-- ---- medlarbrace_tally_new
new-ends : (n1 n2 : ℕ) (t : List ℕ) → AlwaysEnds (new_function n1 n2 t)
unfolding tables_of
new-ends n1 n2 t =
    always (new_function n1 n2 t) (new-reads.known machine (λ i. code new-symbol.name) any_callee (code new-symbol.name) refl (new-met.met machine.𝓤 machine.𝓛 machine.𝓜 machine.𝓡 (wired c_library new-symbol.code (new-linked c_library tables)))) (λ κs. tt) (λ b κs γs. tt)

abbrev new-left : List ℕ → Outcome → List Block
new-left s a = block u32 s ∷ []

new-said : (n1 n2 : ℕ) (t : List ℕ) → let a = new_answer n1 n2 (length t) in Says (new_function n1 n2 t) a (new-left (filled a (tally_of n1 n2 0 (λ l1 l2. 0)) t) a)
new-said n1 n2 t others e =
    let d = told (new_function n1 n2 t) e in
    (returned e.value-is.0 d.kept.0, rw (← d.kept.1) d.memory-is)

-- ---- medlarbrace_tally_add
add-ends : (x t : List ℕ) → AlwaysEnds (add_function x t)
unfolding tables_of
add-ends x t =
    always (add_function x t) (add_reads.known machine (λ i. code add-symbol.name) any_callee (code add-symbol.name) refl (add-met.met machine.𝓤 machine.𝓛 machine.𝓜 machine.𝓡 (wired c_library add-symbol.code (add-linked c_library tables)))) (λ κs. tt) (λ b κs γs. tt)

abbrev add_left : List ℕ → List ℕ → Outcome → List Block
add_left x s a = block u8 x ∷ block u32 s ∷ []

add-said : (x t : List ℕ) → let a = add_answer x t in Says (add_function x t) a (add_left x (filled a (added x t) t) a)
add-said x t others e =
    let d = told (add_function x t) e in
    (returned e.value-is.0 d.kept.0, rw (← d.kept.1) d.memory-is)

-- ---- medlarbrace_tally_remove, whose slices are add's
remove-ends : (x t : List ℕ) → AlwaysEnds (remove_function x t)
unfolding tables_of
remove-ends x t =
    always (remove_function x t) (remove-reads.known machine (λ i. code remove-symbol.name) any_callee (code remove-symbol.name) refl (remove-met.met machine.𝓤 machine.𝓛 machine.𝓜 machine.𝓡 (wired c_library remove-symbol.code (remove-linked c_library tables)))) (λ κs. tt) (λ b κs γs. tt)

remove-said : (x t : List ℕ) → let a = remove_answer x t in Says (remove_function x t) a (add_left x (filled a (removed x t) t) a)
remove-said x t others e =
    let d = told (remove_function x t) e in
    (returned e.value-is.0 d.kept.0, rw (← d.kept.1) d.memory-is)

-- ---- medlarbrace_tally_score
score-ends : (t : List ℕ) (s : ℕ) → AlwaysEnds (score_function t s)
unfolding tables_of
score-ends t s =
    always (score_function t s) (score-reads.known machine (λ i. code score-symbol.name) any_callee (code score-symbol.name) refl (score-met.met machine.𝓤 machine.𝓛 machine.𝓜 machine.𝓡 (wired c_library score-symbol.code (score-linked c_library tables)))) (λ κs. tt) (λ b κs γs. tt)

abbrev score-left : List ℕ → ℕ → Outcome → List Block
score-left t s a = block u32 t ∷ block u32 (value_left 0 a s ∷ []) ∷ []

score-said : (t : List ℕ) (s : ℕ) → let a = score_answer t in Says (score_function t s) a (score-left t s a)
score-said t s others e =
    let d = told (score_function t s) e in
    (returned e.value-is.0 d.kept.0, rw (← d.kept.1) d.memory-is)

-- ---- medlarbrace_ageing
ageing-ends : (y chance : ℕ) → AlwaysEnds (ageing_function y chance)
unfolding tables_of
ageing-ends y chance =
    always (ageing_function y chance) (ageing-reads.known machine (λ i. code ageing-symbol.name) any_callee (code ageing-symbol.name) refl (ageing-met.met machine.𝓤 machine.𝓛 machine.𝓜 machine.𝓡 (wired c_library ageing-symbol.code (ageing-linked c_library tables)))) (λ κs. tt) (λ b κs γs. tt)

abbrev ageing-left : ℕ → ℕ → Outcome → List Block
ageing-left y chance a = block u32 (value_left 0 a chance ∷ []) ∷ []

ageing-said : (y chance : ℕ) → let a = ageing_answer y in Says (ageing_function y chance) a (ageing-left y chance a)
ageing-said y chance others e =
    let d = told (ageing_function y chance) e in
    (returned e.value-is.0 d.kept.0, rw (← d.kept.1) d.memory-is)

-- ---- medlarbrace_weights
weights-ends : (n p : ℕ) (out : List ℕ) → AlwaysEnds (weights_function n p out)
unfolding tables_of
weights-ends n p out =
    always (weights_function n p out) (weights-reads.known machine (λ i. code weights-symbol.name) any_callee (code weights-symbol.name) refl (weights-met.met machine.𝓤 machine.𝓛 machine.𝓜 machine.𝓡 (wired c_library weights-symbol.code (weights-linked c_library tables)))) (λ κs. tt) (λ b κs γs. tt)

weights-said : (n p : ℕ) (out : List ℕ) → let a = weights_answer n p (length out) in Says (weights_function n p out) a (new-left (filled a (weights p n) out) a)
weights-said n p out others e =
    let d = told (weights_function n p out) e in
    (returned e.value-is.0 d.kept.0, rw (← d.kept.1) d.memory-is)

-- ---- medlarbrace_reliability
reliability-ends : (t : List ℕ) (p1 p2 s m r : ℕ) → AlwaysEnds (reliability_function t p1 p2 s m r)
unfolding tables_of
reliability-ends t p1 p2 s m r =
    always (reliability_function t p1 p2 s m r) (reliability-reads.known machine (λ i. code reliability-symbol.name) any_callee (code reliability-symbol.name) refl (reliability-met.met machine.𝓤 machine.𝓛 machine.𝓜 machine.𝓡 (wired c_library reliability-symbol.code (reliability-linked c_library tables)))) (λ κs. tt) (λ b κs γs. tt)

abbrev reliability-left : List ℕ → ℕ → ℕ → ℕ → ℕ → ℕ → Outcome → List Block
reliability-left t p1 p2 s m r a = block u32 t ∷ block u64 (value_left 0 a s ∷ []) ∷ block u64 (value_left 1 a m ∷ []) ∷ block u64 (value_left 2 a r ∷ []) ∷ []

reliability-said : (t : List ℕ) (p1 p2 s m r : ℕ) → let a = rate_answer t p1 p2 in Says (reliability_function t p1 p2 s m r) a (reliability-left t p1 p2 s m r a)
reliability-said t p1 p2 s m r others e =
    let d = told (reliability_function t p1 p2 s m r) e in
    (returned e.value-is.0 d.kept.0, rw (← d.kept.1.0, ← d.kept.1.1.0, ← d.kept.1.1.1) d.memory-is)

-- ---- medlarbrace_write
writer-ends : (g : Given) (out : List ℕ) (k : ℕ) → AlwaysEnds (write_function g out k)
unfolding tables_of
writer-ends g out k =
    always (write_function g out k) (writer-reads.known machine (λ i. code writer-symbol.name) any_callee (code writer-symbol.name) refl (writer-met.met machine.𝓤 machine.𝓛 machine.𝓜 machine.𝓡 (wired c_library writer-symbol.code (writer-linked c_library tables)))) (λ κs. tt) (λ b κs γs. tt)

abbrev writer-left : Given → ℕ → List ℕ → Outcome → List Block
writer-left g k s a = block u8 g.nodes ∷ block u8 g.arcs ∷ block u8 g.rounds ∷ block u8 s ∷ block u64 (value_left 0 a k ∷ []) ∷ []

writer-said : (g : Given) (out : List ℕ) (k : ℕ) → let a = write_answer g (length out) in Says (write_function g out k) a (writer-left g k (filled a (study_bytes g) out) a)
writer-said g out k others e =
    let d = told (write_function g out k) e in
    (returned e.value-is.0 d.kept.0, rw (← d.kept.1.0, ← d.kept.1.1) d.memory-is)

-- ---- medlarbrace_convert; its blocks are a search's
converter-ends : (f out : List ℕ) (k : ℕ) → AlwaysEnds (convert_function f out k)
unfolding tables_of
converter-ends f out k =
    always (convert_function f out k) (converter-reads.known machine (λ i. code converter-symbol.name) any_callee (code converter-symbol.name) refl (converter-met.met machine.𝓤 machine.𝓛 machine.𝓜 machine.𝓡 (wired c_library converter-symbol.code (converter-linked c_library tables)))) (λ κs. tt) (λ b κs γs. tt)

converter-said : (f out : List ℕ) (k : ℕ) → let a = convert_answer f (length out) in Says (convert_function f out k) a (search-left f k (filled a (convert_bytes f) out) a)
converter-said f out k others e =
    let d = told (convert_function f out k) e in
    (returned e.value-is.0 d.kept.0, rw (← d.kept.1.0, ← d.kept.1.1) d.memory-is)

-- THE THEOREM
pub every-function : EveryFunction
every-function =
    record {
      opening-ends = opening-ends;
      lookup-ends = lookup-ends;
      search-ends = search-ends;
      series-ends = series-ends;
      parallel-ends = parallel-ends;
      new-ends = new-ends;
      add-ends = add-ends;
      remove-ends = remove-ends;
      score-ends = score-ends;
      ageing-ends = ageing-ends;
      weights-ends = weights-ends;
      reliability-ends = reliability-ends;
      writer-ends = writer-ends;
      converter-ends = converter-ends;
      search-says = λ c k. likewise (search_function (call.search_file c) (call.search_round c) (call.search_lent c) k) (search-left (call.search_file c) k) (call.search_result c) _ (call.search_left c) _ c.kept.0 c.kept.1 (search-said (call.search_file c) (call.search_round c) (call.search_lent c) k);
      series-says = λ c k. likewise (series_function (call.series_first c) (call.series_second c) (call.series_lent c) k) (series-left (call.series_first c) (call.series_second c) k) (call.series_result c) _ (call.series_left c) _ c.kept.0 c.kept.1 (series-said (call.series_first c) (call.series_second c) (call.series_lent c) k);
      parallel-says = λ c k. likewise (parallel_function (call.parallel_first c) (call.parallel_second c) (call.parallel_lent c) k) (series-left (call.parallel_first c) (call.parallel_second c) k) (call.parallel_result c) _ (call.parallel_left c) _ c.kept.0 c.kept.1 (parallel-said (call.parallel_first c) (call.parallel_second c) (call.parallel_lent c) k);
      new-says = λ c. likewise (new_function (call.new_size1 c) (call.new_size2 c) (call.new_lent c)) new-left (call.new_result c) _ (call.new_left c) _ c.kept.0 c.kept.1 (new-said (call.new_size1 c) (call.new_size2 c) (call.new_lent c));
      add-says = λ c. likewise (add_function (call.add_record c) (call.add_lent c)) (add_left (call.add_record c)) (call.add_result c) _ (call.add_left c) _ c.kept.0 c.kept.1 (add-said (call.add_record c) (call.add_lent c));
      remove-says = λ c. likewise (remove_function (call.remove_record c) (call.remove_lent c)) (add_left (call.remove_record c)) (call.remove_result c) _ (call.remove_left c) _ c.kept.0 c.kept.1 (remove-said (call.remove_record c) (call.remove_lent c));
      score-says = λ c s. rw c.kept (score-said (call.score_tally c) s);
      ageing-says = λ c chance. rw c.kept (ageing-said (call.ageing_age c) chance);
      weights-says = λ c. likewise (weights_function (call.weights_nodes c) (call.weights_chance c) (call.weights_lent c)) new-left (call.weights_result c) _ (call.weights_left c) _ c.kept.0 c.kept.1 (weights-said (call.weights_nodes c) (call.weights_chance c) (call.weights_lent c));
      reliability-says = λ c s m r. rw c.kept (reliability-said (call.rate_tally c) (call.rate_chance1 c) (call.rate_chance2 c) s m r);
      writer-says = λ c k. likewise (write_function (call.write_given c) (call.write_lent c) k) (writer-left (call.write_given c) k) (call.write_result c) _ (call.write_left c) _ c.kept.0 c.kept.1 (writer-said (call.write_given c) (call.write_lent c) k);
      converter-says = λ c k. likewise (convert_function (call.convert_file c) (call.convert_lent c) k) (search-left (call.convert_file c) k) (call.convert_result c) _ (call.convert_left c) _ c.kept.0 c.kept.1 (converter-said (call.convert_file c) (call.convert_lent c) k);
      opening-says = opening-said;
      lookup-says = lookup-said;
      lookup-placed = λ c start count h. let p = round-placed (call.lookup_file c) (call.lookup_round c) start count h in (p.0, c.kept.0 ∙ sym p.1);
      opening-keeps = λ f header. keeps (open_function f header) (opening-left f header) (λ i. refl) (header_answer f (length header)) (opening-said f header);
      lookup-keeps = λ f r start count. keeps (round_function f r start count) (lookup-left f r start count) (λ i. refl) (place_answer f r) (lookup-said f r start count);
      search-keeps = λ f r out k. keeps (search_function f r out k) (λ a. search-left f k (filled a (search_bytes f r) out) a) (λ i. refl) (search_answer f r (length out)) (search-said f r out k);
      series-keeps = λ y z out k. keeps (series_function y z out k) (λ a. series-left y z k (filled a (series_bytes y z) out) a) (λ i. refl) (series_answer y z (length out)) (series-said y z out k);
      parallel-keeps = λ y z out k. keeps (parallel_function y z out k) (λ a. series-left y z k (filled a (parallel_bytes y z) out) a) (λ i. refl) (parallel_answer y z (length out)) (parallel-said y z out k);
      new-keeps = λ n1 n2 t. keeps (new_function n1 n2 t) (λ a. new-left (filled a (tally_of n1 n2 0 (λ l1 l2. 0)) t) a) (λ i. refl) (new_answer n1 n2 (length t)) (new-said n1 n2 t);
      add-keeps = λ x t. keeps (add_function x t) (λ a. add_left x (filled a (added x t) t) a) (λ i. refl) (add_answer x t) (add-said x t);
      remove-keeps = λ x t. keeps (remove_function x t) (λ a. add_left x (filled a (removed x t) t) a) (λ i. refl) (remove_answer x t) (remove-said x t);
      score-keeps = λ t s. keeps (score_function t s) (score-left t s) (λ i. refl) (score_answer t) (score-said t s);
      ageing-keeps = λ y chance. keeps (ageing_function y chance) (ageing-left y chance) (λ i. refl) (ageing_answer y) (ageing-said y chance);
      weights-keeps = λ n p out. keeps (weights_function n p out) (λ a. new-left (filled a (weights p n) out) a) (λ i. refl) (weights_answer n p (length out)) (weights-said n p out);
      reliability-keeps = λ t p1 p2 s m r. keeps (reliability_function t p1 p2 s m r) (reliability-left t p1 p2 s m r) (λ i. refl) (rate_answer t p1 p2) (reliability-said t p1 p2 s m r);
      opening-7 = λ f header.
          let a = header_answer f (length header) in
          never (open_function f header) 7 a (opening-left f header a) (λ e. absurd (omega (arith, e))) (opening-said f header) (outcome-never 7 (header_tests f (length header)) (open_values f) tt);
      lookup-7 = λ f r start count.
          let a = place_answer f r in
          never (round_function f r start count) 7 a (lookup-left f r start count a) (λ e. absurd (omega (arith, e))) (lookup-said f r start count) (outcome-never 7 (check_tests f r) (place_values f r) tt);
      search-7 = λ f r out k.
          let b = search_bytes f r in
          let a = search_answer f r (length out) in
          never (search_function f r out k) 7 a (search-left f k (filled a b out) a) (λ e. absurd (omega (arith, e))) (search-said f r out k) (fill-never 7 (round_tests f r) b (length out) tt);
      writer-7 = λ g out k.
          let b = study_bytes g in
          let a = write_answer g (length out) in
          never (write_function g out k) 7 a (writer-left g k (filled a b out) a) (λ e. absurd (omega (arith, e))) (writer-said g out k) (fill-never 7 (given_tests g) b (length out) tt);
      converter-7 = λ f out k.
          let b = convert_bytes f in
          let a = convert_answer f (length out) in
          never (convert_function f out k) 7 a (search-left f k (filled a b out) a) (λ e. absurd (omega (arith, e))) (converter-said f out k) (fill-never 7 (convert_tests f) b (length out) tt);
      converter-keeps = λ f out k. keeps (convert_function f out k) (λ a. search-left f k (filled a (convert_bytes f) out) a) (λ i. refl) (convert_answer f (length out)) (converter-said f out k);
      writer-keeps = λ g out k. keeps (write_function g out k) (λ a. writer-left g k (filled a (study_bytes g) out) a) (λ i. refl) (write_answer g (length out)) (writer-said g out k);
    }
