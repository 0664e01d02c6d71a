-- How many of a list, by a statement of each: fronts that hold, rounds that direct removal finds joined.
use Rattle.std.specs.Prelude.{◌≡◌, ◌⊎◌, List, [], ◌∷◌, ℕ, suc, ◌-◌}
use Rattle.sections.specs.File.{study_of}
use Rattle.network.specs.Round.{RoundHolds}

-- n members of the list satisfy P
abbrev pub Count : {A : Type 0} → (A → Type 0) → List A → ℕ → Type 0
Count P [] n = n ≡ 0
Count P (x ∷ xs) n = (P x × ((m : ℕ) × (n ≡ suc m) × Count P xs m)) ⊎ ((P x → ⊥) × Count P xs n)

-- direct removal finds the round, of a study file, joined with the last l1 and l2 of its orders working
abbrev pub HoldsWith : ℕ → ℕ → ℕ → ℕ → List ℕ × ℕ → Type 0
HoldsWith n1 n2 l1 l2 q = RoundHolds (study_of q.0) q.1 (n1 - l1) (n2 - l2)
