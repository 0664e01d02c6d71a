-- DEMAND 2: rounds, tallies, reliability, and a written study read back.
use mathlib.Core.Path.{◌≡◌, sym, ap, subst, ◌∙◌}
use mathlib.Core.Logic.{◌↔◌, ⊎_elim}
use mathlib.Core.Bool.{Bool, false}
use mathlib.Core.List.{List, [], ◌∷◌}
use Prim.Native.Nat.{ℕ, ◌+◌, ◌*◌, ◌≤◌, ◌<◌}
use lib.Dec.{T}
use lib.ListN.{length, take}
use Rattle.laws.specs.Members.{◌∈◌}
use Rattle.answer.specs.Outcome.{success, refused}
use Rattle.record.specs.Record.{is_record, record_holds}
use Rattle.slices.specs.Bytes.{part_at}
use Rattle.parts.specs.Study.{Study, round_size}
use Rattle.sections.specs.File.{study_of}
use Rattle.study.specs.Calls.{bad_orders, open_answer, open_values, check_tests, check_answer, lookup_part, round_tests}
use Rattle.study.proofs.Lookups.{number-bad}
use Rattle.writer.specs.Writer.{Given, given_elements, meant, study_bytes, given_tests, write_answer, write_out}
use Rattle.writer.specs.ReadBack.{given_values, ReadsBack}
use Rattle.writer.proofs.Reading.{write-reads-back}
use Rattle.answer.proofs.Fills.{fill-wrote}
use Rattle.answer.proofs.Outcomes.{refused_as}
use Rattle.network.specs.Round.{study_size1, study_size2, RoundHolds}
use Rattle.search.specs.Search.{search_bytes}
use Rattle.search.proofs.Claims.{claims}
use Rattle.chance.specs.Chance.{sum_e, scale_d}
use Rattle.soundness.specs.Tally.{tally_size1, tally_size2, rounds, cell}
use Rattle.plan.specs.Calls.{Searched}
use Rattle.plan.proofs.Told.{handed-part, search-wrote, search-passed}
use Rattle.survival.specs.Calls.{Rating}
use Rattle.survival.proofs.Tallies as tally
use Rattle.kinds.specs.Kinds as call
use Rattle.demands.specs.Terms.{None, RoundRecord, Wrote}
use Rattle.demands.specs.Demands.{Demand2}
use Rattle.demands.proofs.Numbers.{none_is, none_in, none-append, first-none}
use Rattle.demands.proofs.Fronts.{record-lists, round-record}
use Rattle.demands.proofs.One.{demand1}
use Rattle.demands.proofs.Plenty.{tally-made}

-- ---- rounds
module _ (f : List ℕ) (r : ℕ) (x : List ℕ) (s : Searched f r x) where
  wrote : x ≡ search_bytes f r
  wrote = search-wrote f r x s

  passed : (t : ℕ × Bool) → t ∈ round_tests f r → t.1 ≡ false
  passed = search-passed f r x s

  round-front : RoundRecord (study_of f) r x
  round-front = subst (RoundRecord (study_of f) r) (sym wrote) (round-record f r (none_in (round_tests f r) passed))

  round-is-record : T (is_record x)
  round-is-record = subst (λ y. T (is_record y)) (sym wrote) (claims f r passed).is-record

  removal : (a b : ℕ) → a ≤ study_size1 (study_of f) → b ≤ study_size2 (study_of f) → T (record_holds x a b) ↔ RoundHolds (study_of f) r a b
  removal a b h k = rw wrote ((claims f r passed).removal a b h k)

-- ---- reliability
never-above : (t : List ℕ) (p1 p2 s m r : ℕ) → Rating t p1 p2 s m r → let n1 = tally_size1 t in let n2 = tally_size2 t in r * rounds t * scale_d n1 n2 ≤ 10000000 * sum_e n1 n2 p1 p2 (cell t)
never-above t p1 p2 s m r a = let n = tally.rated t p1 p2 s m r a in subst (λ i. r * i * scale_d (tally_size1 t) (tally_size2 t) ≤ 10000000 * sum_e (tally_size1 t) (tally_size2 t) p1 p2 (cell t)) n.0 n.1.rate-low

below-by-less : (t : List ℕ) (p1 p2 s m r : ℕ) → Rating t p1 p2 s m r → let n1 = tally_size1 t in let n2 = tally_size2 t in
    10000000 * sum_e n1 n2 p1 p2 (cell t) < (r + (n1 + n2) + 1) * rounds t * scale_d n1 n2
below-by-less t p1 p2 s m r a =
    let n = tally.rated t p1 p2 s m r a in
    subst (λ i. 10000000 * sum_e (tally_size1 t) (tally_size2 t) p1 p2 (cell t) < (r + (tally_size1 t + tally_size2 t) + 1) * i * scale_d (tally_size1 t) (tally_size2 t)) n.0 n.1.rate-high

-- ---- a written study
module _ (g : Given) (f : List ℕ) (w : Wrote g f) where
  written-answer : write_answer g (length (call.write_lent w.made)) ≡ success (w.handed.size ∷ [])
  written-answer = rw (← w.given_is) (sym w.made.kept.0 ∙ w.handed.success-is)

  file-is : f ≡ study_bytes g
  file-is =
      let s = call.write_lent w.made in
      let l : call.write_left w.made ≡ write_out g s = rw (← w.given_is) w.made.kept.1 in
      handed-part w.handed ∙ ap (take w.handed.size) l ∙ fill-wrote (given_tests g) (study_bytes g) s w.handed.size written-answer

  back : ReadsBack g f
  back = subst (ReadsBack g) (sym file-is) (write-reads-back g (call.write_lent w.made) (w.handed.size ∷ []) written-answer)

  opens : (c : call.OpenCall) → call.open_file c ≡ f → call.open_result c
      ≡ success (given_values g)
  opens c e = c.kept ∙ ap open_answer e ∙ back.opens

  checks : (c : call.CheckCall) → call.check_file c ≡ f
      → (call.check_round c < g.total → call.check_result c ≡ success (0 ∷ [])) × (g.total ≤ call.check_round c → call.check_result c ≡ refused 10)
  checks c e =
      let r = call.check_round c in
      let k = c.kept ∙ ap (λ i. check_answer i r) e in
      (λ h. k ∙ back.check r h, λ h. k ∙ refused_as (check_tests f r) (open_values f) (0 ∷ []) 10 (number-bad f _ back.opens r h))

  looks-up : (c : call.LookupCall) → call.lookup_file c ≡ f → call.lookup_round c < g.total
      → call.lookup_result c ≡ part_at (call.lookup_round c * round_size (given_elements g)) (round_size (given_elements g)) g.rounds
  looks-up c e h = let r = call.lookup_round c in c.kept.0 ∙ ap (λ i. lookup_part i r) e ∙ back.round r h

  pub round-passes : (r : ℕ) → r < g.total → None (round_tests f r)
  round-passes r h = (none-append (check_tests f r) ((11, bad_orders f r) ∷ [])).1 (((none_is (check_tests f r) (0 ∷ []) (0 ∷ [])).0 (back.check r h)).0, (subst T (back.orders r h), tt))

  searches : (c : call.SearchCall) → call.search_file c ≡ f → call.search_round c < g.total → (n : ℕ) → call.search_result c ≡ refused n → n ≡ 15
  searches c e h n q =
      let r = call.search_round c in
      ⊎_elim (λ k. absurd (first-none (round_tests (call.search_file c) r) n k (subst (λ i. None (round_tests i r)) (sym e) (round-passes r h)))) (λ k. k.1) (((demand1.search c).number n).0 q)

  finds : (r : ℕ) (x : List ℕ) → Searched f r x → RoundRecord (meant g) r x
  finds r x s = subst (λ (st : Study). RoundRecord st r x) back.study (round-front f r x s)

-- THE THEOREM
pub demand2 : Demand2
demand2 =
    record {
      exact = λ f r x s. record-lists (round-front f r x s);
      front = λ f r x s. (round-front f r x s, round-is-record f r x s);
      removal = removal;
      sizes = λ n1 n2 xs t w. tally.sizes (tally.run n1 n2 xs t w);
      many = λ n1 n2 xs t w. tally.many (tally.run n1 n2 xs t w);
      cells = λ n1 n2 xs t w. tally.cells (tally.run n1 n2 xs t w);
      sound = λ n1 n2 xs t w. tally.sound (tally.run n1 n2 xs t w);
      studies = λ n1 n2 qs xs t w. tally.studies qs (tally.run n1 n2 xs t w);
      counts = λ n1 n2 qs xs t w. tally.counts qs (tally.run n1 n2 xs t w);
      tallied = tally-made;
      never-above = never-above;
      below-by-less = below-by-less;
      near = tally.rated;
      near-rounds = λ n1 n2 qs xs t w. tally.near-rounds qs (tally.run n1 n2 xs t w);
      spells = λ g f w. (back g f w).study;
      opens = opens;
      checks = checks;
      looks-up = looks-up;
      searches = searches;
      finds = finds;
    }
