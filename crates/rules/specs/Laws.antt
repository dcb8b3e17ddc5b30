-- What a call leaves alone. Assumes nothing.
use Rattle.std.specs.Prelude.{◌≡◌, ℕ, ◌+◌, Bool, true, false, List, ◌≢◌}
use Rattle.reader.specs.declared.ids.NodeId.{NodeId}
use Rattle.reader.specs.declared.request.Request.{Request}
use Rattle.bus.specs.Meaning.{Answer, BusModel}
use Rattle.access.specs.Meaning.{AccessModel}
use Rattle.logins.specs.Logins.{reserved}
use Rattle.logins.specs.Rows.{row_at}
use Rattle.rules.specs.Holds.{Kind, kind, reconnects}
use Rattle.rules.specs.Runs.{Snapshot, Step}
use Rattle.rules.specs.Scenes.{Scene, Outcome, answer_of, book_after, stored}
use Rattle.rules.specs.Serving.{outcome}
use Rattle.rules.specs.declared.calls.Call.{Call}
use Rattle.rules.specs.declared.calls.Call.TheVariants.{Request as Asked}

-- the tables and the response area stay as they were
pub record Unchanged (s : Scene) (o : Outcome) : Type 0 where
  pub tables : book_after s.book o ≡ s.book
  pub area : (bytes : List ℕ) → stored bytes o ≡ bytes

-- wherever a request is answered so
abbrev pub ChangesNothing : Answer → Type 0
ChangesNothing a = (s : Scene) (source : NodeId) (q : Request) → answer_of (outcome s source q) ≡ a → Unchanged s (outcome s source q)

module _ {B A N : Type 0} (m : BusModel B) (n : AccessModel A N) where
  -- no call but one of this kind makes a login reserved
  abbrev pub ReservesOnly : Kind → Type 0
  ReservesOnly k = (x : Snapshot B A) (call : Call N) (a : Answer) (y : Snapshot B A) → Step m n x call a y → (kind call ≢ k)
      → (slot : ℕ) → reserved (row_at x.book.logins slot) ≡ false → reserved (row_at y.book.logins slot) ≡ false

  -- a request leaves a reserved login as it is, where it is a granted reconnect of it or where it is not
  abbrev pub LeavesReserved : Bool → Type 0
  LeavesReserved reconnected = (x : Snapshot B A) (source : NodeId) (q : Request) (a : Answer) (y : Snapshot B A) → Step m n x (Asked source q) a y
      → (slot : ℕ) → reconnects {N = N} (slot + 1) (Asked source q) a ≡ reconnected → reserved (row_at x.book.logins slot) ≡ true
      → row_at y.book.logins slot ≡ row_at x.book.logins slot
