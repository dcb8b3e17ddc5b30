-- What serving a request makes of a target and of the response area. Assumes nothing.
use Rattle.std.specs.Prelude.{◌≡◌, ℕ, cond, List, length, Ok, Err, Result, nat_lt}
use Rattle.reader.specs.declared.refusal.Refusal.{Refusal}
use Rattle.reader.specs.declared.refusal.Refusal.TheVariants.{ResponseArea}
use Rattle.bus.specs.Meaning.{Answer, granted}
use Rattle.responses.specs.Writing.{smallest_area}
use Rattle.rules.specs.Runs.{Snapshot}
use Rattle.rules.specs.Scenes.{Outcome, refuse, grant, book_after}

-- how many bytes were stored, or why none
abbrev pub told : Outcome → Result ℕ Refusal
told (refuse r) = Err r
told (grant bytes b) = Ok (length bytes)

-- the same as a call's answer
abbrev pub answer_told : Result ℕ Refusal → Answer
answer_told (Ok n) = granted
answer_told (Err r) = Err r

-- too small a response area is refused before all else, with its length
abbrev pub in_area : List ℕ → Outcome → Outcome
in_area area o = cond (nat_lt (length area) smallest_area) (refuse (ResponseArea (length area))) o

-- an outcome, from one target to the next
pub record Serves {B A : Type 0} (x : Snapshot B A) (o : Outcome) (answer : Result ℕ Refusal) (y : Snapshot B A) : Type 0 where
  pub answered : answer ≡ told o
  pub bus : y.bus ≡ x.bus
  pub list : y.list ≡ x.list
  pub book : y.book ≡ book_after x.book o
