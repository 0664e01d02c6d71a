-- The limits of a study (document 01, "The study file"; 02, S-4), and the sizes of the parts of a study file.
use Rattle.std.specs.Prelude.{List, ℕ, ◌+◌, ◌*◌, ◌/◌, length}

-- N, the nodes of a study
abbrev pub min_nodes : ℕ
min_nodes = 2

abbrev pub max_nodes : ℕ
max_nodes = 160

-- A, its arc entries, and the bytes of each: from, to, kind
abbrev pub max_arcs : ℕ
max_arcs = 1024

abbrev pub arc_size : ℕ
arc_size = 3

-- kinds are 0 to 5
abbrev pub max_kind : ℕ
max_kind = 5

-- how many entries these bytes are
abbrev pub arc_count : List ℕ → ℕ
arc_count arcs = length arcs / arc_size

-- M, the rounds of a study or of a tally
abbrev pub max_rounds : ℕ
max_rounds = 100000

-- n1 and n2, the members of a class, nodes and arcs; and the last position, which stands for no member of it
abbrev pub max_class : ℕ
max_class = 64

abbrev pub max_position : ℕ
max_position = max_class + 1

-- n1 + n2, the bytes of a round
abbrev pub max_round_size : ℕ
max_round_size = 2 * max_class

-- the bytes of a file, and of its trailer
abbrev pub max_file : ℕ
max_file = 16777216

abbrev pub trailer_size : ℕ
trailer_size = 32
