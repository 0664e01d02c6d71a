-- What holds of an old file f that is converted (document 02, S-4): "A converter rewrites each old study whose orders are all good, with kind 0 throughout,
-- laid out as the writer does, and its fronts are equal to the old ones."
use Rattle.std.specs.Prelude.{◌≡◌, Bool, false, List, ℕ, ◌+◌, ◌*◌, ◌<◌, length}
use Rattle.limits.specs.Limits.{arc_size, trailer_size}
use Rattle.laws.specs.Members.{◌∈◌}
use Rattle.parts.specs.Study.{Entry, study_arcs, round_size}
use Rattle.sections.specs.File.{trailer, nodes_of, study_of}
use Rattle.writer.specs.Writer.{given_tests}
use Rattle.writer.specs.ReadBack.{ReadsBack}
use Rattle.search.specs.Search.{search_bytes}
use Rattle.convert.specs.Old.{old_study_of, old_search_bytes}
use Rattle.convert.specs.Convert.{converted, convert_bytes}

pub record ConvertClaims (f : List ℕ) : Type 0 where
  -- no test of the writer refuses the converted study: the bytes are what the writer writes for it
  pub writable : (t : ℕ × Bool) → t ∈ given_tests (converted f) → t.1 ≡ false
  -- so the new file opens, its sections are those of the converted study, and each of its rounds is good
  pub reads-back : ReadsBack (converted f) (convert_bytes f)
  -- its length: N + 3A + M × (n1 + n2) + 32
  pub long : length (convert_bytes f) ≡ (trailer f).nodes + arc_size * (trailer f).arcs + (trailer f).rounds * round_size (nodes_of f) + trailer_size
  -- its arcs are the old ones, and of kind 0
  pub arcs : study_arcs (study_of (convert_bytes f)) ≡ (old_study_of f).arcs
  pub kinds : (x : Entry) → x ∈ (study_of (convert_bytes f)).entries → x.kind ≡ 0
  -- THE FRONTS: each round's record is byte-equal to the old one
  pub fronts : (r : ℕ) → r < (trailer f).rounds → search_bytes (convert_bytes f) r ≡ old_search_bytes f r
