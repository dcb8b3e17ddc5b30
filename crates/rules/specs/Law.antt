-- The law over every run. Assumes nothing.
use Rattle.std.specs.Prelude.{ℕ, List}
use Rattle.bus.specs.Meaning.{BusModel}
use Rattle.access.specs.Meaning.{AccessModel}
use Rattle.rules.specs.Claims.{Claims, ClaimsHold}
use Rattle.rules.specs.HandleClaims.{HandleClaims, HandlesHold}
use Rattle.rules.specs.Holds.{HoldsKept, HoldsKeptIn}
use Rattle.rules.specs.Runs.{Snapshot, Event, Run, now_at}

-- from which targets runs begin, and how many ticks a hold lasts
pub record Law {B A N : Type 0} (Begins : Snapshot B A → Type 0) (ticks : ℕ → ℕ) (m : BusModel B) (n : AccessModel A N) : Type 0 where
  pub claims : ClaimsHold Begins m n
  pub handles : HandlesHold Begins m n
  pub holds : HoldsKept Begins ticks m n

module _ {B A N : Type 0} (ticks : ℕ → ℕ) (m : BusModel B) (n : AccessModel A N) where
  -- at one moment, after a history of events; so many ticks a hold lasts
  pub record LawAfter (start : Snapshot B A) (history : List (Event B A N)) : Type 0 where
    pub claims : Claims (n.admits (now_at start history).list) (now_at start history).book.logins
    pub handles : HandleClaims (m.shows (now_at start history).bus) (now_at start history).book.logins (now_at start history).book.handles
    pub holds : HoldsKeptIn ticks n start history

  -- after every run from such a target
  abbrev pub LawAfterRuns : (Snapshot B A → Type 0) → Type 0
  LawAfterRuns Begins = (start : Snapshot B A) → Begins start → (history : List (Event B A N)) → Run m n start history → LawAfter start history
