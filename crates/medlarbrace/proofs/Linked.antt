-- The crate's functions as a table, each by its symbol with its code; and that a library with this table has the code of those functions that other
-- crates call, with the code of all that they call, if it has what they call of other crates (`Below`).
use mathlib.Core.Bool.{true}
use prog.Linked.{Tree, World, Holds, in_world}
use prog.LinkedThreads.{HasT}
use Rattle.medlarbrace.proofs.TheLink as the_link
use Rattle.medlarbrace.proofs.files.medlarbrace_convert.Symbol as files-medlarbrace_convert
use Rattle.medlarbrace.proofs.files.medlarbrace_open.Symbol as files-medlarbrace_open
use Rattle.medlarbrace.proofs.files.medlarbrace_round.Symbol as files-medlarbrace_round
use Rattle.medlarbrace.proofs.files.medlarbrace_search.Symbol as files-medlarbrace_search
use Rattle.medlarbrace.proofs.files.medlarbrace_write.Symbol as files-medlarbrace_write
use Rattle.medlarbrace.proofs.records.medlarbrace_parallel.Symbol as records-medlarbrace_parallel
use Rattle.medlarbrace.proofs.records.medlarbrace_series.Symbol as records-medlarbrace_series
use Rattle.medlarbrace.proofs.tallies.medlarbrace_ageing.Symbol as tallies-medlarbrace_ageing
use Rattle.medlarbrace.proofs.tallies.medlarbrace_reliability.Symbol as tallies-medlarbrace_reliability
use Rattle.medlarbrace.proofs.tallies.medlarbrace_tally_add.Symbol as tallies-medlarbrace_tally_add
use Rattle.medlarbrace.proofs.tallies.medlarbrace_tally_new.Symbol as tallies-medlarbrace_tally_new
use Rattle.medlarbrace.proofs.tallies.medlarbrace_tally_remove.Symbol as tallies-medlarbrace_tally_remove
use Rattle.medlarbrace.proofs.tallies.medlarbrace_tally_score.Symbol as tallies-medlarbrace_tally_score
use Rattle.medlarbrace.proofs.tallies.medlarbrace_weights.Symbol as tallies-medlarbrace_weights

abbrev pub table : Tree
table = the_link.table

abbrev pub Below : World → Type 0
Below = the_link.Below

pub files-medlarbrace_convert-linked : (W : World) → Holds W "medlarbrace" table → Below W → HasT (in_world W) true files-medlarbrace_convert.code
files-medlarbrace_convert-linked = the_link.linked-medlarbrace::files::medlarbrace_convert

pub files-medlarbrace_open-linked : (W : World) → Holds W "medlarbrace" table → Below W → HasT (in_world W) true files-medlarbrace_open.code
files-medlarbrace_open-linked = the_link.linked-medlarbrace::files::medlarbrace_open

pub files-medlarbrace_round-linked : (W : World) → Holds W "medlarbrace" table → Below W → HasT (in_world W) true files-medlarbrace_round.code
files-medlarbrace_round-linked = the_link.linked-medlarbrace::files::medlarbrace_round

pub files-medlarbrace_search-linked : (W : World) → Holds W "medlarbrace" table → Below W → HasT (in_world W) true files-medlarbrace_search.code
files-medlarbrace_search-linked = the_link.linked-medlarbrace::files::medlarbrace_search

pub files-medlarbrace_write-linked : (W : World) → Holds W "medlarbrace" table → Below W → HasT (in_world W) true files-medlarbrace_write.code
files-medlarbrace_write-linked = the_link.linked-medlarbrace::files::medlarbrace_write

pub records-medlarbrace_parallel-linked : (W : World) → Holds W "medlarbrace" table → Below W → HasT (in_world W) true records-medlarbrace_parallel.code
records-medlarbrace_parallel-linked = the_link.linked-medlarbrace::records::medlarbrace_parallel

pub records-medlarbrace_series-linked : (W : World) → Holds W "medlarbrace" table → Below W → HasT (in_world W) true records-medlarbrace_series.code
records-medlarbrace_series-linked = the_link.linked-medlarbrace::records::medlarbrace_series

pub tallies-medlarbrace_ageing-linked : (W : World) → Holds W "medlarbrace" table → Below W → HasT (in_world W) true tallies-medlarbrace_ageing.code
tallies-medlarbrace_ageing-linked = the_link.linked-medlarbrace::tallies::medlarbrace_ageing

pub tallies-medlarbrace_reliability-linked : (W : World) → Holds W "medlarbrace" table → Below W → HasT (in_world W) true tallies-medlarbrace_reliability.code
tallies-medlarbrace_reliability-linked = the_link.linked-medlarbrace::tallies::medlarbrace_reliability

pub tallies-medlarbrace_tally_add-linked : (W : World) → Holds W "medlarbrace" table → Below W → HasT (in_world W) true tallies-medlarbrace_tally_add.code
tallies-medlarbrace_tally_add-linked = the_link.linked-medlarbrace::tallies::medlarbrace_tally_add

pub tallies-medlarbrace_tally_new-linked : (W : World) → Holds W "medlarbrace" table → Below W → HasT (in_world W) true tallies-medlarbrace_tally_new.code
tallies-medlarbrace_tally_new-linked = the_link.linked-medlarbrace::tallies::medlarbrace_tally_new

pub tallies-medlarbrace_tally_remove-linked : (W : World) → Holds W "medlarbrace" table → Below W → HasT (in_world W) true tallies-medlarbrace_tally_remove.code
tallies-medlarbrace_tally_remove-linked = the_link.linked-medlarbrace::tallies::medlarbrace_tally_remove

pub tallies-medlarbrace_tally_score-linked : (W : World) → Holds W "medlarbrace" table → Below W → HasT (in_world W) true tallies-medlarbrace_tally_score.code
tallies-medlarbrace_tally_score-linked = the_link.linked-medlarbrace::tallies::medlarbrace_tally_score

pub tallies-medlarbrace_weights-linked : (W : World) → Holds W "medlarbrace" table → Below W → HasT (in_world W) true tallies-medlarbrace_weights.code
tallies-medlarbrace_weights-linked = the_link.linked-medlarbrace::tallies::medlarbrace_weights
