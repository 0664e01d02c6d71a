-- The sweep collects the front: what is collected and what lies below x hold where the network does.
use mathlib.Core.Path.{◌≡◌, refl, sym, subst}
use mathlib.Core.Logic.{◌↔◌, ◌⊎◌, inl, inr, ⊎_elim}
use mathlib.Core.Bool.{false, ◌||◌}
use mathlib.Core.List.{List, [], ◌∷◌, ◌++◌}
use Prim.Native.Nat.{ℕ, suc, ◌≤◌, ◌<◌}
use native.Mathlib.Omega.{arith}
use lib.Dec.{T, ltb, ltb→lt, lt→ltb}
use Rattle.laws.specs.Tests.{T-ext, T_and, T-or, order}
use Rattle.front.specs.Pair.{pair_of, holds_at}
use Rattle.front.specs.Front.{holds, Within, AllWithin}
use Rattle.front.proofs.Pairs.{holds-is}
use Rattle.front.proofs.Fronts.{holds-fewer}
use Rattle.record.specs.Record.{record_size1, record_size2, listed, front_bytes}
use Rattle.buffer.specs.Steps.{Puttable}
use Rattle.buffer.proofs.Collects.{Collects, collects-puttable, collects-more, collects-all}
use Rattle.network.specs.Walk.{route_pairs}
use Rattle.relax.specs.Steps.{Graph, graph_network}
use Rattle.sweep.specs.Steps.{whole, held_below}

module _ (f : Graph) where
  pub held-below-is : (x a b : ℕ) → T (held_below f x a b) ↔ ((a < x) × T (whole f a b))
  held-below-is x a b =
      let e = T_and (ltb a x) (whole f a b) in
      (λ t. (ltb→lt a x (e.0 t).0, (e.0 t).1), λ k. e.1 (lt→ltb a x k.0, k.1))

  -- y is how many failures of class 2 the network stands after a of class 1
  abbrev pub Height : ℕ → ℕ → Type 0
  Height a y = (b : ℕ) → T (whole f a b) ↔ (b < y)

  -- at and above x all is collected
  module _ {x : ℕ} {buf : List ℕ} (c : Collects f.n1 f.n2 (whole f) (held_below f x) x buf) where
    out : (u v : ℕ) → T (whole f u v) → T (holds c.done u v) ⊎ (u < x)
    out u v t = ⊎_elim inl (λ k. inr ((held-below-is x u v).0 k).0) ((T-or (holds c.done u v) (held_below f x u v)).0 (subst T (c.holding u v) t))

    into : (u v : ℕ) → T (holds c.done u v) → T (whole f u v)
    into u v t = subst T (sym (c.holding u v)) ((T-or (holds c.done u v) (held_below f x u v)).1 (inl t))

    module _ (a y last : ℕ) (is : x ≡ suc a) (now : Height a y) (old : Height x last) where
      -- the height stays: nothing is to be collected
      pub same-height : y ≤ last → Collects f.n1 f.n2 (whole f) (held_below f a) a buf
      same-height h =
          record {
            small1 = c.small1;
            small2 = c.small2;
            done = c.done;
            is = c.is;
            form = c.form;
            holding = λ u v. T-ext (whole f u v) (holds c.done u v || held_below f a u v) (
              λ t. (T-or (holds c.done u v) (held_below f a u v)).1 (at u v t),
              λ t. ⊎_elim (into u v) (λ k. ((held-below-is a u v).0 k).1) ((T-or (holds c.done u v) (held_below f a u v)).0 t),
            );
            above = λ q m. omega (arith, c.above q m);
          }
        where
          at : (u v : ℕ) → T (whole f u v) → T (holds c.done u v) ⊎ T (held_below f a u v)
          at u v t =
              ⊎_elim
              (λ (le : a ≤ u).
              ⊎_elim inl
              (λ lt.
              let e : u ≡ a = omega arith in
              let b : v < last = omega (arith, (now v).0 (subst (λ k. T (whole f k v)) e t)) in
              ⊎_elim (λ d. inl (holds-fewer c.done u x v v (omega arith) (omega arith) d)) (λ n. absurd (omega arith)) (out x v ((old v).1 b))) (out u v t))
              (λ lt. inr ((held-below-is a u v).1 (lt, t))) (order a u)

      -- the height rises: the pair (x, y) is put
      module _ (rise : last < y) (w : Within f.n1 f.n2 (pair_of x y)) where
        pub rise-puttable : Puttable buf (pair_of x y)
        rise-puttable = collects-puttable c (pair_of x y) w (omega arith)

        pub rise-height : {buf' : List ℕ} → buf' ≡ front_bytes (record_size1 buf) (record_size2 buf) (listed buf ++ (pair_of x y ∷ []))
            → Collects f.n1 f.n2 (whole f) (held_below f a) a buf'
        rise-height e =
            collects-more c (pair_of x y) w (omega arith) e
            (λ u v. T-ext (held_below f x u v) (holds_at (pair_of x y) u v || held_below f a u v) (
              λ t. (T-or (holds_at (pair_of x y) u v) (held_below f a u v)).1 (at u v ((held-below-is x u v).0 t)),
              λ t. (held-below-is x u v).1 (⊎_elim (from u v) (λ k. let q = (held-below-is a u v).0 k in (omega (arith, q.0), q.1)) ((T-or (holds_at (pair_of x y) u v) (held_below f a u v)).0 t)),
            ))
            (omega arith)
          where
            at : (u v : ℕ) → (u < x) × T (whole f u v) → T (holds_at (pair_of x y) u v) ⊎ T (held_below f a u v)
            at u v k =
                ⊎_elim
                (λ (le : a ≤ u). let e : u ≡ a = omega (arith, k.0) in inl ((holds-is (pair_of x y) u v).1 (k.0, (now v).0 (subst (λ n. T (whole f n v)) e k.1))))
                (λ lt. inr ((held-below-is a u v).1 (lt, k.1))) (order a u)

            from : (u v : ℕ) → T (holds_at (pair_of x y) u v) → (u < x) × T (whole f u v)
            from u v t = let k = (holds-is (pair_of x y) u v).0 t in (k.0, holds-fewer (route_pairs (graph_network f)) u a v v (omega (arith, k.0)) (omega arith) ((now v).1 k.1))

  -- nothing lies below 0: the record is the front
  pub all-collected : {buf : List ℕ} → Collects f.n1 f.n2 (whole f) (held_below f 0) 0 buf → AllWithin f.n1 f.n2 (route_pairs (graph_network f)) → buf ≡ front_bytes f.n1 f.n2 (route_pairs (graph_network f))
  all-collected c w = collects-all c (route_pairs (graph_network f)) w (λ x y. refl) (λ u v. none u v)
    where
      none : (u v : ℕ) → held_below f 0 u v ≡ false
      none u v = T-ext (held_below f 0 u v) false (λ t. absurd (omega (arith, ((held-below-is 0 u v).0 t).0)), λ t. absurd t)
