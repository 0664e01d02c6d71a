-- THE GENERAL LEMMA (`always`, at the end): a routine that meets its contract ends, on any arguments that a machine can hold, and makes the call.
-- The way: every slice of the start is lent to the call; the kit's adequacy gives the run; then every slice is taken back.
use mathlib.Core.Path.{◌≡◌, refl, ap, subst}
use mathlib.Core.Logic.{∥∥₁_prop, ∥∥₁_elim, ∥∥₁_map}
use mathlib.Core.List.{List, [], ◌∷◌}
use Prim.Native.Nat.{ℕ}
use mir.Val.{Val}
use base.Logic.{SProp, ent, sep, ex, emp, via, comm∗, assoc∗, assoc', mono_l, mono_r, fst∗, snd∗, id⊢}
use base.Fml.{Fml}
use prog.Memory.{Memory}
use prog.Machine.{done as ended}
use prog.Routine.{any_callee, ends-one, step}
use prog.How.{Solo}
use types.Logic.{sem}
use contract.Monad.{fact}
use contract.Closed.{real⁺_strict}
use contract.Running.{tables, MachineTables}
use contract.Lifetimes.{Lfts, AllOutlive}
use contract.Adequate.{Satisfies, sat_ex∗}
use denote.RattleType.{flat}
use denote.Signature.{types_at}
use denote.Triple.Clauses.{Lasts, at_exit}
use denote.Triple.End.{outs}
use denote.Triple.Statement.{Contract, Triple}
use denote.Triple.Walked.{Fit as LastsFit}
use denote.Triple.Adequate.{adequate}
use borrow.Fn.World.{World, w₀}
use borrow.Fn.Plain.{known_of}
use borrow.Fn.Kinds.{ResultKind, Dens, res_t, os_r, slots, kepts, ended_of, stays}
use Rattle.runs.specs.Arguments.{Block, Arg, Result, value, part, Fit, lent, values, kinds, kind, Names, args_of}
use Rattle.runs.specs.Run.{at, memory_before, Held, Smalls, left, Lies, Run, CallOf, Ends, AlwaysEnds}
use Rattle.runs.proofs.Start.{AllOwned, started}
use Rattle.runs.proofs.Args.{Times, times, full, vals, passed, good, Final}
use Rattle.runs.proofs.Lend.{both, weaken, opens, shown, with_fact, alive, begun, over, Passed, Kept, lending, Said, back, all-loaded, part_held}

module _ (ω : World) where
  abbrev Pr : Type 2
  Pr = SProp ω.𝓤

  abbrev ◌⊢◌ : Pr → Pr → Type 1
  P ⊢ Q = ent ω.𝓤 P Q

  abbrev ◌∗◌ : Pr → Pr → Pr
  P ∗ Q = sep ω.𝓤 P Q

  infix 26 ◌⊢◌
  infixr 35 ◌∗◌
  abbrev none : Pr
  none = emp ω.𝓤

  abbrev means : Fml → Pr
  means P = sem ω.𝓛 P

  abbrev ◌⊨◌ : Memory → Pr → Type 1
  σ ⊨ P = Satisfies ω.𝓤 ω.𝓛.H ω.𝓜 σ P

  infix 26 ◌⊨◌
  -- the result lies in memory, while the lifetimes last
  lies : {n : ℕ} (r : Result n) (αs : Times n) (σ : Memory) (x : (res_t (kind r) (times n αs)).Denot) (v : Val) → σ ⊨ alive ω n αs ∗ means ((res_t (kind r) (times n αs)).own_val x (v ∷ [])) → ∥ Lies (times n αs) r x σ ∥₁
  lies (value r) αs σ x v s = ∣ tt ∣₁
  lies {n} (part e j ok) αs σ x v s = part_held ω n αs σ e j ok x v s

  module _ (c : Run) where
    abbrev n : ℕ
    n = c.lifetimes

    abbrev us : List (Arg n)
    us = c.args

    abbrev r : ResultKind n
    r = kind c.result

    -- a machine on which every name means the routine, and that the routine meets the contract there
    abbrev tabled : MachineTables ω.𝓤 ω.𝓛.H ω.𝓜
    tabled = tables ω.𝓤 ω.𝓛.H ω.𝓜 ω.𝓡 (λ k. c.routine)

    abbrev Known : Contract ω.𝓤
    Known = known_of ω.𝓛 n (kinds us) r c.asks c.promise

    abbrev pub Meets : Type 1
    Meets = Triple ω.𝓤 (tabled.C any_callee) Known

    -- what is asked of the signature and of the contract: that the lifetimes meet the bounds, and that the arguments meet the `requires`
    abbrev pub Bounded : Type 0
    Bounded = (κs : Lfts n) → AllOutlive n (os_r r) κs

    abbrev pub Asked : Type 0
    Asked = (b : ℕ) (κs : Lfts n) (γs : Names us) → c.asks κs (args_of κs b us γs)

  -- no status of the process is allowed, and no other thread runs: the machine's run is the call's alone
  module _ (strict : ((s : ℕ) → ω.𝓡.allowed s → ⊥) × Solo ω.𝓤 ω.𝓡.how) (c : Run) (meets : Meets c) (fit : Fit c.args) (others : List Block) (small : Smalls others) (others-began : Held (memory_before others c.args) 2 others) (began : Held (memory_before others c.args) (at others) (lent c.args)) (bounds : Bounded c) (asked : Asked c) where
    module _ (αs : Times (n c)) (γs : Names (us c)) where
      abbrev κs : Lfts (n c)
      κs = times (n c) αs

      abbrev a : Dens κs (kinds (us c))
      a = args_of κs (at others) (us c) γs

      abbrev bound : (Known c).Ghost
      bound = ((κs, full (n c), bounds κs, a, vals κs (at others) (us c)), tt)

      abbrev Res : Type 0
      Res = (res_t (r c) κs).Denot

      abbrev Is : Res → Val → Type 0
      Is x v = (r c).is.Is κs x (v ∷ [])

      abbrev Facts : Res → Final κs (at others) (us c) γs → Type 0
      Facts x ws = LastsFit (ended_of (n c) (kinds (us c)) (r c)) (stays (kinds (us c))) κs a ws × c.promise κs a x (at_exit (ended_of (n c) (kinds (us c)) (r c)) κs a ws)

      abbrev Runs : ℕ → Val → Memory → Type 0
      Runs k v σ = step c.routine k (flat (types_at (slots (kinds (us c))) κs) (vals κs (at others) (us c))) (memory_before others (us c)) ≡ ended (v, σ)

      -- what it leaves, by what is bound at the return
      abbrev left_by : Final κs (at others) (us c) γs → List Block
      left_by ws = left κs (us c) (outs κs (slots (kinds (us c))) (kepts (kinds (us c))) a ws)

      -- the call that the run made
      made : (x : Res) (ws : Final κs (at others) (us c) γs) → Facts x ws → CallOf c
      made x ws p = record { lifetimes = κs; args = a; result = x; last = ws; kept = p.1 }

      returned : (k : ℕ) (v : Val) (σ : Memory) → Runs k v σ → step c.routine k (values (at others) (us c)) (memory_before others (us c)) ≡ ended (v, σ)
      returned k v σ e = subst (λ vs. step c.routine k vs (memory_before others (us c)) ≡ ended (v, σ)) (passed κs (at others) (us c)) e

      done-so : (k : ℕ) (v : Val) (σ : Memory) → Runs k v σ → (x : Res) (ws : Final κs (at others) (us c) γs) → Facts x ws → Is x v → Lies κs c.result x σ
          → Held σ (at others) (left_by ws) × Smalls (left_by ws) → Held σ 2 others → Ends others c
      unfolding made
      done-so k v σ e x ws p q y m o = record {
        others-began = others-began;
        began = began;
        fuel = k;
        value = v;
        memory = σ;
        returns = returned k v σ e;
        only = λ k' v' σ' h.
            let one = ends-one c.routine (values (at others) (us c)) (memory_before others (us c)) (v', σ') (v, σ) (k', h) (k, returned k v σ e) in
            (ap (λ y. y.0) one, ap (λ y. y.1) one);
        made = made x ws p;
        names = γs;
        args_are = refl;
        possible = record { good = good κs (at others) (us c) γs fit; fit = p.0; ok = ((r c).laws _ ω.𝓤 ω.𝓛).ok κs x (v ∷ []) q };
        value-is = q;
        memory-is = m.0;
        fits-again = m.1;
        result-lies = y;
        others-kept = o;
      }

      -- what there is at the return, beside what the lender kept
      abbrev Last : Val → Res → Final κs (at others) (us c) γs → Pr
      Last v x ws = (Said ω (n c) αs (at others) (us c) γs ws ∗ fact ω.𝓤 (Facts x ws)) ∗ alive ω (n c) αs ∗ means ((res_t (r c) κs).own_val x (v ∷ []))

      abbrev Lent : Pr
      Lent = Kept ω κs (at others) (us c) γs

      abbrev Others : Pr
      Others = AllOwned ω 2 others

      abbrev Aside : Pr
      Aside = Lent ∗ Others

      -- from the return on: what was said is read, the result is read, the slices are taken back
      finish : (k : ℕ) (v : Val) (σ : Memory) → Runs k v σ → σ ⊨ (Known c).post bound v ∗ Aside → ∥ Ends others c ∥₁
      finish k v σ e s =
          ∥∥₁_elim (opens ω σ (λ (x : Res). ex ω.𝓤 (Last v x)) Aside (id⊢ ω.𝓤 ((Known c).post bound v)) s) ∥∥₁_prop (λ x.
          ∥∥₁_elim (sat_ex∗ ω.𝓤 ω.𝓛.H ω.𝓜 σ (Last v x.0) Aside x.1) ∥∥₁_prop (λ z.
          let Tokens = alive ω (n c) αs in
          let Front = Said ω (n c) αs (at others) (us c) γs z.0 in
          let Fact = fact ω.𝓤 (Facts x.0 z.0) in
          let Own = means ((res_t (r c) κs).own_val x.0 (v ∷ [])) in
          let Back = Tokens ∗ Own in
          let here = weaken ω σ (fst∗ ω.𝓤 (Last v x.0 z.0) Aside) z.1 in
          let last = weaken ω σ (snd∗ ω.𝓤 (Front ∗ Fact) Back) here in
          ∥∥₁_elim (shown ω σ (Facts x.0 z.0) (via ω.𝓤 (Front ∗ Fact) (fst∗ ω.𝓤 (Front ∗ Fact) Back) (snd∗ ω.𝓤 Front Fact)) here) ∥∥₁_prop (λ p.
          ∥∥₁_elim (shown ω σ (Is x.0 v) (via ω.𝓤 Own (snd∗ ω.𝓤 Tokens Own) (((r c).laws _ ω.𝓤 ω.𝓛).seen κs x.0 (v ∷ []))) last) ∥∥₁_prop (λ q.
          ∥∥₁_elim (lies c.result αs σ x.0 v last) ∥∥₁_prop (λ y.
          ∥∥₁_elim (all-loaded ω σ others 2 (weaken ω σ (via ω.𝓤 Aside (snd∗ ω.𝓤 (Last v x.0 z.0) Aside) (snd∗ ω.𝓤 Lent Others)) z.1)) ∥∥₁_prop (λ o.
          ∥∥₁_map (back ω (n c) αs σ (us c) (at others) γs z.0 (over ω (n c) αs σ (Front ∗ Lent) (weaken ω σ
          (via ω.𝓤 ((Front ∗ Tokens) ∗ Lent) (mono_l ω.𝓤 Lent (both ω (fst∗ ω.𝓤 Front Fact) (fst∗ ω.𝓤 Tokens Own)))
          (via ω.𝓤 ((Tokens ∗ Front) ∗ Lent) (mono_l ω.𝓤 Lent (comm∗ ω.𝓤 Front Tokens)) (assoc∗ ω.𝓤 Tokens Front Lent))) (weaken ω σ (mono_r ω.𝓤 (Last v x.0 z.0) (fst∗ ω.𝓤 Lent Others)) z.1)))) (λ m.
          done-so k v σ e x.0 z.0 p q y m o)))))))

      -- from the entry on
      entered : memory_before others (us c) ⊨ (Passed ω κs (at others) (us c) γs ∗ Aside) ∗ alive ω (n c) αs → ∥ Ends others c ∥₁
      entered s =
          let Tokens = alive ω (n c) αs in
          let In = Passed ω κs (at others) (us c) γs in
          ∥∥₁_elim (adequate ω.𝓤 ω.𝓛.H ω.𝓜 (tabled c) strict any_callee (Known c) meets bound (memory_before others (us c)) Aside (weaken ω (memory_before others (us c))
          (via ω.𝓤 (Tokens ∗ In ∗ Aside) (comm∗ ω.𝓤 (In ∗ Aside) Tokens)
          (via ω.𝓤 ((Tokens ∗ In) ∗ Aside) (assoc' ω.𝓤 Tokens In Aside) (mono_l ω.𝓤 Aside (with_fact ω (c.asks κs a) (Tokens ∗ In) (asked (at others) κs γs))))) s)) ∥∥₁_prop (λ t.
          finish t.0 t.1 t.2 t.3 t.4)

    pub ends : ∥ Ends others c ∥₁
    ends =
        let Lot = AllOwned ω (at others) (lent (us c)) in
        let Rest = AllOwned ω 2 others in
        let σ = memory_before others (us c) in
        ∥∥₁_elim (begun ω (n c) σ (Lot ∗ Rest ∗ none) (started ω others (us c) small fit)) ∥∥₁_prop (λ b.
        let Tokens = alive ω (n c) b.0 in
        ∥∥₁_elim (lending ω (times (n c) b.0) σ (us c) (at others) (Rest ∗ Tokens) fit (weaken ω σ
        (via ω.𝓤 ((Lot ∗ Rest ∗ none) ∗ Tokens) (comm∗ ω.𝓤 Tokens (Lot ∗ Rest ∗ none))
        (via ω.𝓤 ((Lot ∗ Rest) ∗ Tokens) (mono_l ω.𝓤 Tokens (mono_r ω.𝓤 Lot (fst∗ ω.𝓤 Rest none))) (assoc∗ ω.𝓤 Lot Rest Tokens))) b.1)) ∥∥₁_prop (λ l.
        let In = Passed ω (times (n c) b.0) (at others) (us c) l.0 in
        let Back = Kept ω (times (n c) b.0) (at others) (us c) l.0 in
        entered b.0 l.0 (weaken ω σ
        (via ω.𝓤 (((In ∗ Back) ∗ Rest) ∗ Tokens) (assoc' ω.𝓤 (In ∗ Back) Rest Tokens) (mono_l ω.𝓤 Tokens (assoc∗ ω.𝓤 In Back Rest))) l.1)))

-- ---- THE GENERAL LEMMA, at the closed model: nothing of the logic is left in what it shows.
-- `meets` is the function's `Reads.known` at its own `Met.met`. `bounds` is `tt` where the signature bounds no lifetime, `asked` where the contract has no `requires`.
pub always : (c : Run) (meets : Meets w₀ c) (bounds : Bounded w₀ c) (asked : Asked w₀ c) → AlwaysEnds c
always c meets bounds asked = record { free = asked; ends = ran }
  where
    ran : (others : List Block) → Smalls others → Fit c.args → ∥ Ends others c ∥₁
    ran others small fit =
        let Lot = AllOwned w₀ (at others) (lent c.args) in
        let Rest = AllOwned w₀ 2 others in
        let none = emp w₀.𝓤 in
        let σ = memory_before others c.args in
        let s = started w₀ others c.args small fit in
        ∥∥₁_elim (all-loaded w₀ σ (lent c.args) (at others) (weaken w₀ σ (fst∗ w₀.𝓤 Lot (sep w₀.𝓤 Rest none)) s)) ∥∥₁_prop (λ began.
        ∥∥₁_elim (all-loaded w₀ σ others 2 (weaken w₀ σ (via w₀.𝓤 (sep w₀.𝓤 Rest none) (snd∗ w₀.𝓤 Lot (sep w₀.𝓤 Rest none)) (fst∗ w₀.𝓤 Rest none)) s)) ∥∥₁_prop (λ others-began.
        ends w₀ real⁺_strict c meets fit others small others-began began bounds asked))

-- ---- what a run's call says of the run's own arguments: its contract, and what the memory holds
pub record Told (others : List Block) (c : Run) (e : Ends others c) : Type 0 where
  pub last : Lasts (ended_of c.lifetimes (kinds c.args) (kind c.result)) e.made.lifetimes (args_of e.made.lifetimes (at others) c.args e.names)
  pub kept : c.promise e.made.lifetimes (args_of e.made.lifetimes (at others) c.args e.names) e.made.result
      (at_exit (ended_of c.lifetimes (kinds c.args) (kind c.result)) e.made.lifetimes (args_of e.made.lifetimes (at others) c.args e.names) last)
  pub memory-is : Held e.memory (at others) (left e.made.lifetimes c.args
      (at_exit (ended_of c.lifetimes (kinds c.args) (kind c.result)) e.made.lifetimes (args_of e.made.lifetimes (at others) c.args e.names) last))

pub told : {others : List Block} (c : Run) (e : Ends others c) → Told others c e
told {others} c e =
    let κs = e.made.lifetimes in
    let ended = ended_of c.lifetimes (kinds c.args) (kind c.result) in
    let t = subst (λ (a : Dens κs (kinds c.args)). (last : Lasts ended κs a) × c.promise κs a e.made.result (at_exit ended κs a last)
    × Held e.memory (at others) (left κs c.args (at_exit ended κs a last))) e.args_are (e.made.last, e.made.kept, e.memory-is) in
    record { last = t.0; kept = t.1; memory-is = t.2 }
