-- Calls that were made one after another, refused ones in between: what a call handed on, and plans that were built.
use Rattle.std.specs.Prelude.{◌≡◌, List, [], ◌∷◌, ℕ, take}
use Rattle.answer.specs.Outcome.{Outcome, success, refused}
use Rattle.kinds.specs.Kinds as call
use Rattle.plan.specs.Plan.{Plan, searched, series, parallel}

-- A CALL IN VAIN: it was lent the slice s, was refused, and left u
pub data Vain : List ℕ → List ℕ → Type 0 where
  search : (c : call.SearchCall) (n : ℕ) → call.search_result c ≡ refused n → Vain (call.search_lent c) (call.search_left c)
  row : (c : call.SeriesCall) (n : ℕ) → call.series_result c ≡ refused n → Vain (call.series_lent c) (call.series_left c)
  side : (c : call.ParallelCall) (n : ℕ) → call.parallel_result c ≡ refused n → Vain (call.parallel_lent c) (call.parallel_left c)
  fresh : (c : call.NewCall) (n : ℕ) → call.new_result c ≡ refused n → Vain (call.new_lent c) (call.new_left c)
  add : (c : call.AddCall) (n : ℕ) → call.add_result c ≡ refused n → Vain (call.add_lent c) (call.add_left c)
  remove : (c : call.RemoveCall) (n : ℕ) → call.remove_result c ≡ refused n → Vain (call.remove_lent c) (call.remove_left c)
  weigh : (c : call.WeightsCall) (n : ℕ) → call.weights_result c ≡ refused n → Vain (call.weights_lent c) (call.weights_left c)
  write : (c : call.WriteCall) (n : ℕ) → call.write_result c ≡ refused n → Vain (call.write_lent c) (call.write_left c)
  convert : (c : call.ConvertCall) (n : ℕ) → call.convert_result c ≡ refused n → Vain (call.convert_lent c) (call.convert_left c)

-- A SLICE THROUGH CALLS IN VAIN, any number of them: it was s, each call was lent it as the one before left it, and now it is u
pub data Through : List ℕ → List ℕ → Type 0 where
  none : {s : List ℕ} → Through s s
  next : {s u w : List ℕ} → Vain s u → Through u w → Through s w

-- a call succeeded and left a slice, which calls in vain may have been lent since; x is what the call wrote, as the slice has it now
pub record Handed (answer : Outcome) (left x : List ℕ) : Type 0 where
  pub size : ℕ
  pub success-is : answer ≡ success (size ∷ [])
  pub slice : List ℕ
  pub through : Through left slice
  pub part-is : x ≡ take size slice

-- SEARCH of round r of the file f handed on x
pub record Searched (f : List ℕ) (r : ℕ) (x : List ℕ) : Type 0 where
  pub made : call.SearchCall
  pub file-is : call.search_file made ≡ f
  pub round_is : call.search_round made ≡ r
  pub handed : Handed (call.search_result made) (call.search_left made) x

-- SERIES (01: row) and PARALLEL (01: side) of the records y and z handed on x
pub record RowJoined (y z x : List ℕ) : Type 0 where
  pub made : call.SeriesCall
  pub first-is : call.series_first made ≡ y
  pub second_is : call.series_second made ≡ z
  pub handed : Handed (call.series_result made) (call.series_left made) x

pub record SideJoined (y z x : List ℕ) : Type 0 where
  pub made : call.ParallelCall
  pub first-is : call.parallel_first made ≡ y
  pub second_is : call.parallel_second made ≡ z
  pub handed : Handed (call.parallel_result made) (call.parallel_left made) x

-- A PLAN BUILT from its parts up, each call of its own successful; x is its front record
abbrev pub Built : Plan → List ℕ → Type 0
Built (searched f r) x = Searched f r x
Built (series p q) x = (y : List ℕ) × (z : List ℕ) × Built p y × Built q z × RowJoined y z x
Built (parallel p q) x = (y : List ℕ) × (z : List ℕ) × Built p y × Built q z × SideJoined y z x

-- two plans have the same front, however they were built
abbrev pub SameFront : Plan → Plan → Type 0
SameFront p q = (x y : List ℕ) → Built p x → Built q y → x ≡ y
