-- Calls made one after another, from a new target on. Assumes nothing.
use Rattle.std.specs.Prelude.{◌≡◌, ◌+◌, List, ◌++◌, map, reverse}
use Rattle.bus.specs.Meaning.{Answer, BusModel}
use Rattle.access.specs.Meaning.{AccessModel}
use Rattle.rules.specs.Law.{LawAfter}
use Rattle.rules.specs.Runs.{Snapshot, Event, Run, now_at}
use Rattle.rules.specs.declared.calls.Call.{Call}

module _ {B A N : Type 0} (m : BusModel B) (n : AccessModel A N) where
  -- these calls got these answers, and led from one target to another
  pub record Plays (start : Snapshot B A) (calls : List (Call N)) (answers : List Answer) (end : Snapshot B A) : Type 0 where
    -- the newest first
    pub history : List (Event B A N)
    pub ran : Run m n start history
    pub called : map (λ e. e.call) history ≡ reverse calls
    pub answered : map (λ e. e.answer) history ≡ reverse answers
    pub ends : now_at start history ≡ end

  -- and the law held after every front part of them
  pub record LawAbiding (start : Snapshot B A) (calls : List (Call N)) (answers : List Answer) (end : Snapshot B A) : Type 0 where
    pub played : Plays start calls answers end
    pub law : (later earlier : List (Event B A N)) → played.history ≡ later ++ earlier → LawAfter (λ hold. hold + 2) m n start earlier
