-- What answering an exchange makes of it, of the target and of the response area. Assumes nothing.
use Rattle.std.specs.Prelude.{◌≡◌, ℕ, cond, List, length, Ok, Err, Result, ◌==◌, nat_lt}
use Rattle.reader.specs.Requests.{request_in}
use Rattle.reader.specs.declared.refusal.Refusal.{Refusal}
use Rattle.reader.specs.declared.refusal.Refusal.TheVariants.{RequestLength, ResponseArea}
use Rattle.reader.specs.declared.request.Request.{Request}
use Rattle.bus.specs.Meaning.{BusModel}
use Rattle.access.specs.Meaning.{AccessModel}
use Rattle.responses.specs.Writing.{smallest_area}
use Rattle.rules.specs.Runs.{Snapshot, Step, scene}
use Rattle.rules.specs.Scenes.{Outcome, refuse, book_after, stored}
use Rattle.rules.specs.Serving.{outcome}
use Rattle.rules.specs.declared.calls.Call.TheVariants.{Request as Asked}
use Rattle.agent.specs.Exchanges.{answered_with}
use Rattle.management.specs.Serving.{told, answer_told}
use Rattle.agent.specs.declared.exchange.Signalled.{Signalled}
use Rattle.agent.specs.declared.exchange.Answered.{Answered}

-- the request to be served; before all other tests come its length and then that of the response area
abbrev pub checked : List ℕ → List ℕ → Result Request Refusal
checked bytes area =
    cond (length bytes == 32) (cond (nat_lt (length area) smallest_area) (Err (ResponseArea (length area))) (Ok (request_in bytes))) (
    Err (RequestLength (length bytes))
    )

-- its rule, or the refusal of an area
abbrev pub outcome_of : Result Request Refusal → (Request → Outcome) → Outcome
outcome_of (Ok q) rule = rule q
outcome_of (Err refusal) rule = refuse refusal

-- a request that is served moves the exchange on, whatever its status; the refusal of an area leaves it signalled
abbrev pub after_answer : Signalled → Result Request Refusal → (Request → Outcome) → Result (Answered × Result ℕ Refusal) (Refusal × Signalled)
after_answer s (Ok q) rule = Ok (answered_with s q (told (rule q)), told (rule q))
after_answer s (Err refusal) rule = Err (refusal, s)

module _ {B A N : Type 0} (m : BusModel B) (n : AccessModel A N) where
  -- the rule of a request from a node
  abbrev pub rule : Snapshot B A → Signalled → Request → Outcome
  rule x s = outcome (scene m n x) s.source

  -- from one target and response area to the next; a request that is served is a step of the target
  pub record Answers (s : Signalled) (bytes area : List ℕ) (x : Snapshot B A) (r : Result (Answered × Result ℕ Refusal) (Refusal × Signalled)) (y : Snapshot B A) (after : List ℕ) : Type 0 where
    pub answer : r ≡ after_answer s (checked bytes area) (rule x s)
    pub bus : y.bus ≡ x.bus
    pub list : y.list ≡ x.list
    pub book : y.book ≡ book_after x.book (outcome_of (checked bytes area) (rule x s))
    pub response : after ≡ stored area (outcome_of (checked bytes area) (rule x s))
    pub step : (q : Request) → checked bytes area ≡ Ok q → Step m n x (Asked s.source q) (answer_told (told (rule x s q))) y
