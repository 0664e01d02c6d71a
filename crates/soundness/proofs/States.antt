-- Numbers 21 and 22 of a tally, as the code comes to them.
use mathlib.Core.Path.{◌≡◌, sym, ◌∙◌}
use mathlib.Core.Bool.{true, false, not, ◌&&◌, ◌||◌}
use mathlib.Core.List.{List, [], ◌∷◌}
use Prim.Native.Nat.{ℕ, ◌≤◌, ◌+◌, ◌*◌}
use native.Mathlib.Omega.{arith}
use lib.Dec.{leb, ltb}
use lib.ListN.{length, drop}
use borrow.Author.Tests.{le-leb, le-ltb, ltb-false, not-false}
use Rattle.laws.specs.Sums.{product-most}
use Rattle.limits.specs.Limits.{max_rounds, max_class}
use Rattle.laws.specs.Tests.{or-none}
use Rattle.laws.specs.Members.{here, there}
use Rattle.answer.specs.Outcome.{success, refused}
use Rattle.answer.proofs.Outcomes.{outcome-tests}
use Rattle.soundness.specs.Tally.{head_words, tally_size1, tally_size2, rounds, tally_score, words, lacks_room, is_sound, Sound, state_tests, state_answer}
use Rattle.soundness.specs.Steps.{is_fair}
use Rattle.soundness.proofs.Sounds.{fair-code, sound-is}

-- the cells of any tally
pub cells-most : (n1 n2 : ℕ) → n1 ≤ max_class → n2 ≤ max_class → (n1 + 1) * (n2 + 1) ≤ (max_class + 1) * (max_class + 1)
cells-most n1 n2 h k = product-most (n1 + 1) (n2 + 1) (max_class + 1) (max_class + 1) (omega arith) (omega arith)

pub neither : (a b : ℕ) → ltb max_class a || ltb max_class b ≡ false → (a ≤ max_class) × (b ≤ max_class)
neither a b e = let k = or-none (ltb max_class a) (ltb max_class b) e in (ltb-false max_class a k.0, ltb-false max_class b k.1)

module _ (t : List ℕ) where
  unsound : lacks_room t ≡ false → is_sound t ≡ false → state_answer t ≡ refused 22
  unsound e f = rw (e, f)

  module _ (long : head_words ≤ length t) where
    module _ (small : ltb max_class (tally_size1 t) || ltb max_class (tally_size2 t) ≡ false) where
      pub sizes : (tally_size1 t ≤ max_class) × (tally_size2 t ≤ max_class)
      sizes = neither (tally_size1 t) (tally_size2 t) small

      module _ (room : words (tally_size1 t) (tally_size2 t) ≤ length t) where
        roomy : lacks_room t ≡ false
        roomy = rw (le-ltb (length t) head_words long, le-leb (tally_size1 t) max_class sizes.0, le-leb (tally_size2 t) max_class sizes.1, le-ltb (length t) (words (tally_size1 t) (tally_size2 t)) room)

        module _ (few : rounds t ≤ max_rounds) where
          tested : is_sound t ≡ is_fair (drop head_words t) (tally_size1 t) (tally_size2 t) (rounds t) (tally_score t)
          tested = rw (le-leb (tally_size1 t) max_class sizes.0, le-leb (tally_size2 t) max_class sizes.1, le-leb (rounds t) max_rounds few) (sym (fair-code t sizes.0 sizes.1 few))

          pub unfair : is_fair (drop head_words t) (tally_size1 t) (tally_size2 t) (rounds t) (tally_score t) ≡ false → state_answer t ≡ refused 22
          unfair e = unsound roomy (tested ∙ e)

          pub good : is_fair (drop head_words t) (tally_size1 t) (tally_size2 t) (rounds t) (tally_score t) ≡ true → state_answer t ≡ success (0 ∷ [])
          good e = rw (roomy, tested ∙ e)

-- ---- what a good state says
module _ (t : List ℕ) (fine : state_answer t ≡ success (0 ∷ [])) where
  pub state-sound : Sound t
  state-sound = (sound-is t).0 (not-false (is_sound t) (outcome-tests (state_tests t) (0 ∷ []) fine (22, not (is_sound t)) (there here)))

  has_room : lacks_room t ≡ false
  has_room = outcome-tests (state_tests t) (0 ∷ []) fine (21, lacks_room t) here

  pub state-long : head_words ≤ length t
  state-long = ltb-false (length t) head_words (or-none (ltb (length t) head_words) (leb (tally_size1 t) max_class && leb (tally_size2 t) max_class && ltb (length t) (words (tally_size1 t) (tally_size2 t))) has_room).0

  pub state-room : words (tally_size1 t) (tally_size2 t) ≤ length t
  state-room =
      ltb-false (length t) (words (tally_size1 t) (tally_size2 t))
      (rw (le-leb (tally_size1 t) max_class state-sound.small1, le-leb (tally_size2 t) max_class state-sound.small2) at
      (or-none (ltb (length t) head_words) (leb (tally_size1 t) max_class && leb (tally_size2 t) max_class && ltb (length t) (words (tally_size1 t) (tally_size2 t))) has_room).1)
