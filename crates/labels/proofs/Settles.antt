-- Settled labels: the source's label says where the network holds; and where no label stands yet.
use mathlib.Core.Path.{◌≡◌, ap, subst}
use mathlib.Core.Logic.{◌↔◌, ⊎_elim}
use mathlib.Core.List.{List}
use Prim.Native.Nat.{ℕ, ◌+◌, ◌≤◌, ◌<◌}
use native.Mathlib.Omega.{arith}
use lib.Dec.{T}
use lib.ListN.{length, get_or}
use Rattle.limits.specs.Limits.{max_position}
use Rattle.laws.specs.Tests.{order}
use Rattle.front.specs.Front.{holds}
use Rattle.network.specs.Walk.{route_pairs}
use Rattle.chains.specs.Steps.{to_at, max_elements}
use Rattle.relax.specs.Steps.{Graph, Laid, graph_network, Settled, start}
use Rattle.relax.proofs.Labels.{relaxed-hold}
use Rattle.relax.proofs.Arcs.{arcs-out}

pub settled-hold : {f : Graph} {a : ℕ} {d wait : List ℕ} → Settled f a d wait → a ≤ f.n1 → (b : ℕ) → T (holds (route_pairs (graph_network f)) a b) ↔ (b < get_or d f.source 0)
settled-hold {f} {a} {d} s h =
    relaxed-hold (graph_network f) a (λ v. get_or d v 0) s.held
    (record {
      s-in = λ p. ⊎_elim (λ le. absurd (omega (arith, s.clear le f.source))) (λ lt. omega arith) (order (start f) a);
      at-t = λ i. s.at-t (omega (arith, i));
      by-arc = λ _ k m e.
          let r = arcs-out f.arcs k m in
          omega (arith, s.relaxed r.0 r.1 (subst (λ x. a < get_or f.entry x 0) r.3 e), ap (λ x. get_or f.cap x 0) r.2, ap (λ x. get_or d x 0) r.2, ap (λ x. get_or d x 0) r.3);
    })

-- nothing is labelled while an end is shut
pub at_first : {f : Graph} {a : ℕ} {d wait : List ℕ} → Laid f → start f ≤ a → length f.entry ≤ length d → length d ≤ max_elements → max_position + 1 ≤ length wait → ((v : ℕ) → get_or d v 0 ≡ 0) → ((c : ℕ) → get_or wait c 0 ≡ 0) → Settled f a d wait
at_first {f} o b g h k z y =
    record {
      laid = o;
      long = g;
      short = h;
      long-wait = k;
      held = λ v p. absurd (omega (arith, z v));
      at-t = λ c. absurd (omega arith);
      clear = λ _. z;
      marked = λ c w pos e. absurd (omega (arith, y c));
      relaxed = λ j c e. omega (arith, z (to_at f.arcs j));
    }
