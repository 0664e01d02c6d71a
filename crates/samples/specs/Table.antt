-- Document 01's table of cases ("The sample ring and its neighbours") in the form of 02, S-4, by evaluation of the definitions that the contracts cite.
use Rattle.std.specs.Prelude.{◌≡◌, refl, true, false, List, [], ◌∷◌, ◌++◌, ℕ, ◌*◌, replicate}
use Rattle.std.proofs.Common.{true≢false}
use Rattle.answer.specs.Outcome.{success, refused}
use Rattle.slices.specs.Bytes.{word_at}
use Rattle.sections.specs.File.{trailer}
use Rattle.study.specs.Calls.{bad_orders, open_answer, check_answer, lookup_part}
use Rattle.writer.specs.Writer.{Given, given, study_bytes, write_answer, write_out}
use Rattle.record.specs.Record.{is_record, record_holds}
use Rattle.search.specs.Search.{search_answer, search_out}
use Rattle.convert.specs.Convert.{convert_answer, convert_out}
use Rattle.chance.specs.Chance.{sum_e, scale_d}
use Rattle.soundness.specs.Tally.{cell, state_answer}
use Rattle.tally.specs.Calls.{new_out, add_answer, add_out}
use Rattle.weights.specs.Calls.{weights_answer, weights_out}
use Rattle.reliability.specs.Calls.{rate_answer}
use Rattle.lines.specs.Text.{ascii, decimal}
use Rattle.lines.specs.Report.{report_lines, report_text, SentOf}
use Rattle.compose.specs.Compose.{series_answer, series_out, parallel_answer, parallel_out}

-- "Nodes 0 to 5 of classes 0, 0, 1, 1, 2, 2; s 0, t 1; arcs 0 2, 2 4, 4 1, 0 3, 3 1, 0 5, 5 1", of kind 0, with one round
abbrev pub ring_nodes : List ℕ
ring_nodes = 0 ∷ 0 ∷ 1 ∷ 1 ∷ 2 ∷ 2 ∷ []

abbrev pub ring_arcs : List ℕ
ring_arcs = 0 ∷ 2 ∷ 0 ∷ 2 ∷ 4 ∷ 0 ∷ 4 ∷ 1 ∷ 0 ∷ 0 ∷ 3 ∷ 0 ∷ 3 ∷ 1 ∷ 0 ∷ 0 ∷ 5 ∷ 0 ∷ 5 ∷ 1 ∷ 0 ∷ []

abbrev pub ring_with : List ℕ → Given
ring_with round = given ring_nodes ring_arcs round 0 1 1

-- its study file: nodes, arcs, the round 1 0 1 0 (each class's second member fails first), then the eight numbers of the trailer
abbrev pub ring_file : List ℕ
ring_file =
    0 ∷ 0 ∷ 1 ∷ 1 ∷ 2 ∷ 2 ∷ 0 ∷ 2 ∷ 0 ∷ 2 ∷ 4 ∷ 0 ∷ 4 ∷ 1 ∷ 0 ∷ 0 ∷ 3 ∷ 0 ∷ 3 ∷ 1 ∷ 0 ∷ 0 ∷ 5 ∷ 0 ∷ 5 ∷ 1 ∷ 0 ∷ 1 ∷ 0 ∷ 1 ∷ 0
    ∷ 6 ∷ 0 ∷ 0 ∷ 0 ∷ 7 ∷ 0 ∷ 0 ∷ 0 ∷ 1 ∷ 0 ∷ 0 ∷ 0 ∷ 0 ∷ 0 ∷ 0 ∷ 0 ∷ 1 ∷ 0 ∷ 0 ∷ 0
    ∷ 31 ∷ 0 ∷ 0 ∷ 0 ∷ 25 ∷ 0 ∷ 0 ∷ 0 ∷ 4 ∷ 0 ∷ 0 ∷ 0 ∷ []

-- its old study file (01's R1): two bytes an arc, the round 3 2 5 4 by node numbers
abbrev pub old_ring_file : List ℕ
old_ring_file =
    0 ∷ 0 ∷ 1 ∷ 1 ∷ 2 ∷ 2 ∷ 0 ∷ 2 ∷ 2 ∷ 4 ∷ 4 ∷ 1 ∷ 0 ∷ 3 ∷ 3 ∷ 1 ∷ 0 ∷ 5 ∷ 5 ∷ 1 ∷ 3 ∷ 2 ∷ 5 ∷ 4
    ∷ 6 ∷ 0 ∷ 0 ∷ 0 ∷ 7 ∷ 0 ∷ 0 ∷ 0 ∷ 1 ∷ 0 ∷ 0 ∷ 0 ∷ 0 ∷ 0 ∷ 0 ∷ 0 ∷ 1 ∷ 0 ∷ 0 ∷ 0
    ∷ 24 ∷ 0 ∷ 0 ∷ 0 ∷ 18 ∷ 0 ∷ 0 ∷ 0 ∷ 4 ∷ 0 ∷ 0 ∷ 0 ∷ []

-- the ring without arcs, and two nodes of class 0 with an arc between them
abbrev pub no_arcs : List ℕ
no_arcs = study_bytes (given ring_nodes [] (1 ∷ 0 ∷ 1 ∷ 0 ∷ []) 0 1 1)

abbrev pub one_arc : List ℕ
one_arc = study_bytes (given (0 ∷ 0 ∷ []) (0 ∷ 1 ∷ 0 ∷ []) [] 0 1 1)

-- the ring with three rounds, of which the second has an order that is none; two nodes and no round
abbrev pub bad_second : Given
bad_second = given ring_nodes ring_arcs (1 ∷ 0 ∷ 1 ∷ 0 ∷ 1 ∷ 1 ∷ 1 ∷ 0 ∷ 0 ∷ 1 ∷ 0 ∷ 1 ∷ []) 0 1 3

abbrev pub no_rounds : List ℕ
no_rounds = study_bytes (given (0 ∷ 0 ∷ []) (0 ∷ 1 ∷ 0 ∷ []) [] 0 1 0)

-- the ring's record, the record that R3 and R4 join it with, and an empty front
abbrev pub ring : List ℕ
ring = 2 ∷ 2 ∷ 3 ∷ 3 ∷ 1 ∷ 2 ∷ 2 ∷ 1 ∷ 3 ∷ []

abbrev pub other : List ℕ
other = 2 ∷ 2 ∷ 1 ∷ 2 ∷ 3 ∷ []

abbrev pub empty : List ℕ
empty = 2 ∷ 2 ∷ 0 ∷ []

-- a new tally for the ring, with a word to spare, and R2's record added
abbrev pub ring_tally : List ℕ
ring_tally = add_out ring (new_out 2 2 (9 ∷ 9 ∷ 9 ∷ 9 ∷ 9 ∷ 9 ∷ 9 ∷ 9 ∷ 9 ∷ 9 ∷ 9 ∷ 9 ∷ 9 ∷ 7 ∷ []))

-- output slices of ten bytes, and of eight: too few for the ring's record
abbrev pub ten : List ℕ
ten = 9 ∷ 9 ∷ 9 ∷ 9 ∷ 9 ∷ 9 ∷ 9 ∷ 9 ∷ 9 ∷ 9 ∷ []

abbrev pub eight : List ℕ
eight = 9 ∷ 9 ∷ 9 ∷ 9 ∷ 9 ∷ 9 ∷ 9 ∷ 9 ∷ []

pub record Table : Type 0 where
  -- R1 written: 63 bytes, dN 31, dA 25, dM 4
  pub r1-answer : write_answer (ring_with (1 ∷ 0 ∷ 1 ∷ 0 ∷ [])) 63 ≡ success (63 ∷ [])
  -- in a slice of 67 the four bytes behind them stay
  pub r1-out : write_out (ring_with (1 ∷ 0 ∷ 1 ∷ 0 ∷ [])) (replicate 67 9) ≡ ring_file ++ 9 ∷ 9 ∷ 9 ∷ 9 ∷ []
  pub r1-bytes : study_bytes (ring_with (1 ∷ 0 ∷ 1 ∷ 0 ∷ [])) ≡ ring_file
  pub r1-dn : (trailer ring_file).dn ≡ 31
  pub r1-da : (trailer ring_file).da ≡ 25
  pub r1-dm : (trailer ring_file).dm ≡ 4
  -- and read back: N 6, A 7, M 1, s 0, t 1, n1 2, n2 2; its one round
  pub r1-opens : open_answer ring_file ≡ success (6 ∷ 7 ∷ 1 ∷ 0 ∷ 1 ∷ 2 ∷ 2 ∷ [])
  pub r1-round : lookup_part ring_file 0 ≡ 1 ∷ 0 ∷ 1 ∷ 0 ∷ []
  pub r1-orders : bad_orders ring_file 0 ≡ false
  pub r1-ten : check_answer ring_file 1 ≡ refused 10
  pub r1-short : write_answer (ring_with (1 ∷ 0 ∷ 1 ∷ 0 ∷ [])) 62 ≡ refused 15
  pub r1-stays : write_out (ring_with (1 ∷ 0 ∷ 1 ∷ 0 ∷ [])) (replicate 62 9) ≡ replicate 62 9
  -- the old R1 through the converter: the same 63 bytes
  pub r1-converts : convert_answer old_ring_file 63 ≡ success (63 ∷ [])
  pub r1-converted : convert_out old_ring_file (replicate 67 9) ≡ ring_file ++ 9 ∷ 9 ∷ 9 ∷ 9 ∷ []
  pub r1-converts-short : convert_answer old_ring_file 62 ≡ refused 15
  pub r1-converts-stays : convert_out old_ring_file (replicate 62 9) ≡ replicate 62 9
  -- R2 front record: 2 2 3 3 1 2 2 1 3. It holds at (2, 0), not at (2, 1)
  pub r2-answer : search_answer ring_file 0 10 ≡ success (9 ∷ [])
  pub r2-out : search_out ring_file 0 ten ≡ 2 ∷ 2 ∷ 3 ∷ 3 ∷ 1 ∷ 2 ∷ 2 ∷ 1 ∷ 3 ∷ 9 ∷ []
  pub r2-ten : search_answer ring_file 1 0 ≡ refused 10
  pub r2-short : search_answer ring_file 0 8 ≡ refused 15
  pub r2-record : is_record ring ≡ true
  pub r2-holds : record_holds ring 2 0 ≡ true
  pub r2-fails : record_holds ring 2 1 ≡ false
  -- R3 row: pairs (2, 2), (1, 3); the three bytes behind them stay
  pub r3-answer : series_answer ring other 10 ≡ success (7 ∷ [])
  pub r3-out : series_out ring other ten ≡ 2 ∷ 2 ∷ 2 ∷ 2 ∷ 2 ∷ 1 ∷ 3 ∷ 9 ∷ 9 ∷ 9 ∷ []
  -- R4 side: (3, 1), (2, 3)
  pub r4-answer : parallel_answer ring other 10 ≡ success (7 ∷ [])
  pub r4-out : parallel_out ring other ten ≡ 2 ∷ 2 ∷ 2 ∷ 3 ∷ 1 ∷ 2 ∷ 3 ∷ 9 ∷ 9 ∷ 9 ∷ []
  -- R5 row with an empty front: empty; side: R2
  pub r5-row-answer : series_answer ring empty 10 ≡ success (3 ∷ [])
  pub r5-side-answer : parallel_answer ring empty 10 ≡ success (9 ∷ [])
  pub r5-row : series_out ring empty ten ≡ 2 ∷ 2 ∷ 0 ∷ 9 ∷ 9 ∷ 9 ∷ 9 ∷ 9 ∷ 9 ∷ 9 ∷ []
  pub r5-side : parallel_out ring empty ten ≡ 2 ∷ 2 ∷ 3 ∷ 3 ∷ 1 ∷ 2 ∷ 2 ∷ 1 ∷ 3 ∷ 9 ∷ []
  -- R6 weights, n = 2, p = 333,333: 4,444,449; 4,444,443; 1,111,108
  pub r6-answer : weights_answer 2 333333 4 ≡ success (0 ∷ [])
  pub r6-out : weights_out 2 333333 (9 ∷ 9 ∷ 9 ∷ 9 ∷ []) ≡ 4444449 ∷ 4444443 ∷ 1111108 ∷ 9 ∷ []
  -- R7 both chances 500,000: S = 68,750,000,000,000, M = 1, R = 6,875,000; of R2's record in a new tally
  pub r7-tally : ring_tally ≡ 2 ∷ 2 ∷ 1 ∷ 6 ∷ 0 ∷ 0 ∷ 1 ∷ 0 ∷ 1 ∷ 1 ∷ 1 ∷ 1 ∷ 1 ∷ 7 ∷ []
  pub r7 : rate_answer ring_tally 500000 500000 ≡ success (68750000000000 ∷ 1 ∷ 6875000 ∷ [])
  -- where R is exact: 10^7 × E = R × D
  pub r7-exact : 10000000 * sum_e 2 2 500000 500000 (cell ring_tally) ≡ 6875000 * scale_d 2 2
  -- R8 the reporting program, given R1's file, prints whole
  pub r8 : report_text ring_file ≡ ascii "sizes 2 2 rounds 1\nfront 0: 3,1 2,2 1,3\ncount 0: 0 0 1\ncount 1: 0 1 1\ncount 2: 1 1 1\n"
  -- a whole receipt for it is one for five lines
  pub r8-sent : SentOf (report_lines ring_file) 5 true
  -- "none at opening": empty input, and one byte too many
  pub r8-empty : report_text [] ≡ ascii "refused 1\n"
  pub r8-long : report_text (replicate 65537 0) ≡ ascii "refused 1\n"
  -- "those before its own at a bad round": the second of three
  pub r8-bad : report_text (study_bytes bad_second) ≡ ascii "sizes 2 2 rounds 3\nfront 0: 3,1 2,2 1,3\nrefused 11\n"
  -- "an empty front prints none"; no rounds, no fronts
  pub r8-none : report_text no_arcs ≡ ascii "sizes 2 2 rounds 1\nfront 0: none\ncount 0: 0 0 0\ncount 1: 0 0 0\ncount 2: 0 0 0\n"
  pub r8-no-rounds : report_text no_rounds ≡ ascii "sizes 0 0 rounds 0\ncount 0: 0\n"
  -- R9 round 1 1 1 0: 11
  pub r9 : write_answer (ring_with (1 ∷ 1 ∷ 1 ∷ 0 ∷ [])) 63 ≡ refused 11
  pub r9-search : search_answer (study_bytes (ring_with (1 ∷ 1 ∷ 1 ∷ 0 ∷ []))) 0 10 ≡ refused 11
  -- R10 no arcs: record 2 2 0
  pub r10-answer : search_answer no_arcs 0 10 ≡ success (3 ∷ [])
  pub r10 : search_out no_arcs 0 ten ≡ 2 ∷ 2 ∷ 0 ∷ 9 ∷ 9 ∷ 9 ∷ 9 ∷ 9 ∷ 9 ∷ 9 ∷ []
  -- R11 chance 1,000,000 accepted, 1,000,001 gives 14
  pub r11-weights : weights_answer 2 1000000 3 ≡ success (0 ∷ [])
  pub r11-weights-14 : weights_answer 2 1000001 0 ≡ refused 14
  pub r11-rate : rate_answer ring_tally 1000000 1000000 ≡ success (100000000000000 ∷ 1 ∷ 10000000 ∷ [])
  pub r11-rate-14 : rate_answer [] 0 1000001 ≡ refused 14
  -- the formula itself, with 0^0 = 1: every node works, and E = D
  pub r11-exact : sum_e 2 2 1000000 1000000 (cell ring_tally) ≡ scale_d 2 2
  -- R12 n1 = n2 = 0 and arc 0 1: record 0 0 1 1 1
  pub r12-answer : search_answer one_arc 0 10 ≡ success (5 ∷ [])
  pub r12 : search_out one_arc 0 ten ≡ 0 ∷ 0 ∷ 1 ∷ 1 ∷ 1 ∷ 9 ∷ 9 ∷ 9 ∷ 9 ∷ 9 ∷ []
  -- the numbers: 12 before 13, 13 before 15, 15 last; p1 may be n1 + 1 and no more; no spare byte
  pub n12 : series_answer (1 ∷ 1 ∷ 0 ∷ 0 ∷ []) ring 0 ≡ refused 12
  pub n13 : series_answer (1 ∷ 1 ∷ 0 ∷ []) ring 0 ≡ refused 13
  pub n15 : series_answer ring other 6 ≡ refused 15
  pub n15-stays : series_out ring other (9 ∷ 9 ∷ 9 ∷ 9 ∷ 9 ∷ 9 ∷ []) ≡ 9 ∷ 9 ∷ 9 ∷ 9 ∷ 9 ∷ 9 ∷ []
  pub top : is_record (1 ∷ 2 ∷ 1 ∷ 2 ∷ 3 ∷ []) ≡ true
  pub above : is_record (1 ∷ 2 ∷ 1 ∷ 3 ∷ 3 ∷ []) ≡ false
  pub zero : is_record (1 ∷ 2 ∷ 1 ∷ 0 ∷ 3 ∷ []) ≡ false
  pub twice : is_record (2 ∷ 2 ∷ 2 ∷ 2 ∷ 2 ∷ 2 ∷ 2 ∷ []) ≡ false
  pub large : is_record (65 ∷ 0 ∷ 0 ∷ []) ≡ false
  -- the numbers of a tally: with four words a size above 64 is 22, however short the slice; 22 before 24 and 25
  pub n21 : state_answer (64 ∷ 64 ∷ 0 ∷ 0 ∷ []) ≡ refused 21
  pub n21-head : state_answer (65 ∷ 0 ∷ 0 ∷ []) ≡ refused 21
  pub n22 : state_answer (65 ∷ 0 ∷ 0 ∷ 0 ∷ []) ≡ refused 22
  pub n22-rounds : add_answer (0 ∷ 0 ∷ 0 ∷ []) (0 ∷ 0 ∷ 100001 ∷ 0 ∷ 0 ∷ []) ≡ refused 22
  pub n22-fall : rate_answer (1 ∷ 0 ∷ 1 ∷ 1 ∷ 1 ∷ 0 ∷ []) 0 0 ≡ refused 22
  pub n22-score : rate_answer (1 ∷ 0 ∷ 1 ∷ 2 ∷ 0 ∷ 1 ∷ []) 0 0 ≡ refused 22
  pub n23 : add_answer ring (0 ∷ 0 ∷ 100000 ∷ 0 ∷ 0 ∷ []) ≡ refused 23
  pub n24 : add_answer (0 ∷ 0 ∷ 0 ∷ []) (0 ∷ 0 ∷ 100000 ∷ 0 ∷ 0 ∷ []) ≡ refused 24
  pub n25 : rate_answer (0 ∷ 0 ∷ 0 ∷ 0 ∷ 0 ∷ []) 0 0 ≡ refused 25
  pub n99999 : add_answer (0 ∷ 0 ∷ 0 ∷ []) (0 ∷ 0 ∷ 99999 ∷ 99999 ∷ 99999 ∷ []) ≡ success (0 ∷ [])

pub table : Table
unfolding word_at decimal
table =
    record {
      r1-answer = refl;
      r1-out = refl;
      r1-bytes = refl;
      r1-dn = refl;
      r1-da = refl;
      r1-dm = refl;
      r1-opens = refl;
      r1-round = refl;
      r1-orders = refl;
      r1-ten = refl;
      r1-short = refl;
      r1-stays = refl;
      r1-converts = refl;
      r1-converted = refl;
      r1-converts-short = refl;
      r1-converts-stays = refl;
      r2-answer = refl;
      r2-out = refl;
      r2-ten = refl;
      r2-short = refl;
      r2-record = refl;
      r2-holds = refl;
      r2-fails = refl;
      r3-answer = refl;
      r3-out = refl;
      r4-answer = refl;
      r4-out = refl;
      r5-row-answer = refl;
      r5-side-answer = refl;
      r5-row = refl;
      r5-side = refl;
      r6-answer = refl;
      r6-out = refl;
      r7-tally = refl;
      r7 = refl;
      r7-exact = refl;
      r8 = refl;
      r8-sent = record { all = λ w. refl; failed = λ w. absurd (true≢false w) };
      r8-empty = refl;
      r8-long = refl;
      r8-bad = refl;
      r8-none = refl;
      r8-no-rounds = refl;
      r9 = refl;
      r9-search = refl;
      r10-answer = refl;
      r10 = refl;
      r11-weights = refl;
      r11-weights-14 = refl;
      r11-rate = refl;
      r11-rate-14 = refl;
      r11-exact = refl;
      r12-answer = refl;
      r12 = refl;
      n12 = refl;
      n13 = refl;
      n15 = refl;
      n15-stays = refl;
      top = refl;
      above = refl;
      zero = refl;
      twice = refl;
      large = refl;
      n21 = refl;
      n21-head = refl;
      n22 = refl;
      n22-rounds = refl;
      n22-fall = refl;
      n22-score = refl;
      n23 = refl;
      n24 = refl;
      n25 = refl;
      n99999 = refl;
    }
