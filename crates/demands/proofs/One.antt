-- DEMAND 1: each call by its own contract.
use mathlib.Core.Path.{◌≡◌, refl, sym, ap, ◌∙◌}
use mathlib.Core.List.{[], ◌∷◌}
use Prim.Native.Nat.{ℕ, ◌+◌, ◌-◌, ◌*◌}
use lib.Dec.{ltb}
use lib.ListN.{length}
use Rattle.answer.proofs.Outcomes.{refused-apart}
use Rattle.slices.specs.Bytes.{part_at}
use Rattle.parts.specs.Study.{round_size}
use Rattle.sections.specs.File.{trailer_at, trailer, elements_of, study_of}
use Rattle.study.specs.Calls.{open_tests, open_values, check_tests, round_tests}
use Rattle.study.proofs.Lookups.{round-part, round-found, lookup-refused}
use Rattle.compose.specs.Compose.{series_bytes, parallel_bytes, record_tests}
use Rattle.search.specs.Search.{search_bytes}
use Rattle.soundness.specs.Tally.{tally_score}
use Rattle.tally.specs.Calls.{new_tests, add_tests, remove_tests, score_tests}
use Rattle.weights.specs.Calls.{weights_tests}
use Rattle.reliability.specs.Calls.{rate_tests}
use Rattle.writer.specs.Writer.{study_bytes, given_tests}
use Rattle.convert.specs.Convert.{convert_tests, convert_bytes}
use Rattle.kinds.specs.Kinds as call
use Rattle.demands.specs.Terms.{First, None, RoundRecord, RowRecord, SideRecord}
use Rattle.demands.specs.Demands.{Demand1}
use Rattle.demands.proofs.Numbers.{first-is, none_is, answers, fills}
use Rattle.demands.proofs.Fronts.{record-one, round-record, row-record, side-record}
use Rattle.demands.proofs.Leaves as leave
use Rattle.demands.proofs.Made as make
use Rattle.kinds.proofs.Ends as end
use Rattle.demands.proofs.Keeps as keep
use Rattle.demands.proofs.Outside.{open-same, check-same, lookup-same, search-same, search-out-same, convert-same, convert-out-same, report-same}

-- ---- lookup
lookup : (c : call.LookupCall) → let f = call.lookup_file c in let n = round_size (elements_of f) in
    None (check_tests f (call.lookup_round c)) → call.lookup_result c ≡ part_at (trailer_at f - (trailer f).dm + call.lookup_round c * n) n f
lookup c none =
    let f = call.lookup_file c in
    let r = call.lookup_round c in
    let o = (none_is (check_tests f r) (open_values f) (open_values f)).1 (none, refl) in
    c.kept.0 ∙ round-found f (open_values f) r o ∙ sym (round-part f (open_values f) r o)

lookup-bad : (c : call.LookupCall) (n : ℕ) → First (check_tests (call.lookup_file c) (call.lookup_round c)) n → call.lookup_result c ≡ []
lookup-bad c n h =
    let f = call.lookup_file c in
    let r = call.lookup_round c in
    c.kept.0 ∙ sym (lookup-refused f r n ((first-is (check_tests f r) (0 ∷ []) n).1 h))

-- THE THEOREM
pub demand1 : Demand1
demand1 =
    record {
      opening = λ c. answers (open_tests (call.open_file c)) (open_values (call.open_file c)) (call.open_result c) c.kept;
      check = λ c. answers (check_tests (call.check_file c) (call.check_round c)) (0 ∷ []) (call.check_result c) c.kept;
      lookup = lookup;
      lookup-bad = lookup-bad;
      lookup-inside = λ c. c.kept.1;
      search = λ c.
          let f = call.search_file c in
          let r = call.search_round c in
          fills (round_tests f r) (search_bytes f r) (RoundRecord (study_of f) r) (length (call.search_lent c)) (round-record f r) (λ n x h. record-one h (round-record f r n))
          (call.search_result c) c.kept.0;
      row = λ c.
          let y = call.series_first c in
          let z = call.series_second c in
          fills (record_tests y z) (series_bytes y z) (RowRecord y z) (length (call.series_lent c)) (row-record y z) (λ n x h. record-one h (row-record y z n)) (call.series_result c) c.kept.0;
      side = λ c.
          let y = call.parallel_first c in
          let z = call.parallel_second c in
          fills (record_tests y z) (parallel_bytes y z) (SideRecord y z) (length (call.parallel_lent c)) (side-record y z) (λ n x h. record-one h (side-record y z n)) (call.parallel_result c)
          c.kept.0;
      fresh = λ c. answers (new_tests (call.new_size1 c) (call.new_size2 c) (length (call.new_lent c))) (0 ∷ []) (call.new_result c) c.kept.0;
      add = λ c. answers (add_tests (call.add_record c) (call.add_lent c)) (0 ∷ []) (call.add_result c) c.kept.0;
      remove = λ c. answers (remove_tests (call.remove_record c) (call.remove_lent c)) (0 ∷ []) (call.remove_result c) c.kept.0;
      score = λ c. answers (score_tests (call.score_tally c)) (tally_score (call.score_tally c) ∷ []) (call.score_result c) c.kept;
      ageing = λ c. let y = call.ageing_age c in answers ((14, ltb 30 y) ∷ []) _ (call.ageing_result c) c.kept;
      weighing = λ c. answers (weights_tests (call.weights_nodes c) (call.weights_chance c) (length (call.weights_lent c))) (0 ∷ []) (call.weights_result c) c.kept.0;
      reliability = λ c. answers (rate_tests (call.rate_tally c) (call.rate_chance1 c) (call.rate_chance2 c)) _ (call.rate_result c) c.kept;
      writer = λ c.
          let g = call.write_given c in
          fills (given_tests g) (study_bytes g) (λ x. x ≡ study_bytes g) (length (call.write_lent c)) (λ n. refl) (λ n x h. h) (call.write_result c) c.kept.0;
      converter = λ c.
          let f = call.convert_file c in
          fills (convert_tests f) (convert_bytes f) (λ x. x ≡ convert_bytes f) (length (call.convert_lent c)) (λ n. refl) (λ n x h. h) (call.convert_result c) c.kept.0;
      opening-ignores = λ c d s. c.kept ∙ open-same s ∙ sym d.kept;
      check-ignores = λ c d s e. c.kept ∙ check-same s e ∙ sym d.kept;
      lookup-ignores = λ c d s e. c.kept.0 ∙ lookup-same s e ∙ sym d.kept.0;
      search-ignores = λ c d s e l. (c.kept.0 ∙ search-same s e (ap length l) ∙ sym d.kept.0, c.kept.1 ∙ search-out-same s e l ∙ sym d.kept.1);
      converter-ignores = λ c d s l. (c.kept.0 ∙ convert-same s (ap length l) ∙ sym d.kept.0, c.kept.1 ∙ convert-out-same s l ∙ sym d.kept.1);
      report-ignores = λ f g s. report-same s;
      apart = refused-apart;
      search-leaves = leave.search-leaves;
      row-leaves = leave.row-leaves;
      side-leaves = leave.side-leaves;
      fresh-leaves = leave.fresh-leaves;
      add-leaves = leave.add-leaves;
      remove-leaves = leave.remove-leaves;
      weighing-leaves = leave.weighing-leaves;
      writer-leaves = leave.writer-leaves;
      converter-leaves = leave.converter-leaves;
      opening-reads = λ c. refl;
      check-reads = λ c. refl;
      lookup-reads = λ c. refl;
      search-reads = λ c. refl;
      row_reads = λ c. (refl, refl);
      side-reads = λ c. (refl, refl);
      add_reads = λ c. refl;
      remove-reads = λ c. refl;
      score-reads = λ c. refl;
      reliability-reads = λ c. refl;
      writer-reads = λ c. refl;
      converter-reads = λ c. refl;
      opening-made = make.opening-made;
      check-made = make.check-made;
      lookup-made = make.lookup-made;
      search-made = make.search-made;
      row_made = make.row_made;
      side-made = make.side-made;
      fresh-made = make.fresh-made;
      add-made = make.add-made;
      remove-made = make.remove-made;
      score-made = make.score-made;
      ageing-made = make.ageing-made;
      weighing-made = make.weights-made;
      reliability-made = make.reliability-made;
      writer-made = make.writer-made;
      converter-made = make.converter-made;
      opening-ends = end.opening-ends;
      check-ends = end.check-ends;
      lookup-ends = end.lookup-ends;
      search-ends = end.search-ends;
      row_ends = end.row_ends;
      side-ends = end.side-ends;
      fresh-ends = end.fresh-ends;
      add-ends = end.add-ends;
      remove-ends = end.remove-ends;
      score-ends = end.score-ends;
      ageing-ends = end.ageing-ends;
      weighing-ends = end.weighing-ends;
      reliability-ends = end.reliability-ends;
      writer-ends = end.writer-ends;
      converter-ends = end.converter-ends;
      opening-keeps = keep.opening-keeps;
      check-keeps = keep.check-keeps;
      lookup-keeps = keep.lookup-keeps;
      search-keeps = keep.search-keeps;
      row_keeps = keep.row_keeps;
      side-keeps = keep.side-keeps;
      fresh_keeps = keep.fresh_keeps;
      add-keeps = keep.add-keeps;
      remove-keeps = keep.remove-keeps;
      score-keeps = keep.score-keeps;
      weighing-keeps = keep.weighing-keeps;
      reliability-keeps = keep.reliability-keeps;
      writer-keeps = keep.writer-keeps;
      converter-keeps = keep.converter-keeps;
      lookup-lies = keep.lookup-lies;
    }
