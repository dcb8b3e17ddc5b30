-- Every call as a step, and every order of calls as a run, over any bus and any access list. Assumes nothing.
use Rattle.std.specs.Prelude.{◌≡◌, true, List, [], ◌∷◌}
use Rattle.bus.specs.Meaning.{Answer, granted, BusModel}
use Rattle.access.specs.Meaning.{AccessModel}
use Rattle.tables.specs.Books.{Book, new_book}
use Rattle.tables.specs.Events.{was_reset, net_updated, ticking_so, tick_counted, access_changed}
use Rattle.rules.specs.Scenes.{Scene, answer_of, book_after}
use Rattle.rules.specs.Serving.{outcome}
use Rattle.rules.specs.declared.calls.Call.{Call}
use Rattle.rules.specs.declared.calls.Call.TheVariants.{Request, BusReset, NetUpdate, Gap, Tick, AccessChange, BusNote, AccessNote}

-- a target at one moment: its bus, its access list, and its tables
pub record Snapshot (B A : Type 0) : Type 0 where
  pub bus : B
  pub list : A
  pub book : Book

module _ {B A N : Type 0} (m : BusModel B) (n : AccessModel A N) where
  -- what a request meets there
  abbrev pub scene : Snapshot B A → Scene
  scene x = record { own = m.own x.bus; shows = m.shows x.bus; admits = n.admits x.list; book = x.book }

  -- bus and list as they were
  pub record SameBelow (x y : Snapshot B A) : Type 0 where
    pub bus : y.bus ≡ x.bus
    pub list : y.list ≡ x.list

  -- one call: a request by its rule; an event by what the model makes of the bus or the list, and what that makes of the tables;
  -- a note by the model, the tables staying
  abbrev pub Step : Snapshot B A → Call N → Answer → Snapshot B A → Type 0
  Step x (Request source q) a y =
      (a ≡ answer_of (outcome (scene x) source q)) × SameBelow x y × (y.book ≡ book_after x.book (outcome (scene x) source q))
  Step x BusReset a y = (a ≡ granted) × m.Resets x.bus y.bus × (y.list ≡ x.list) × (y.book ≡ was_reset (m.shows y.bus) x.book)
  Step x NetUpdate a y = (a ≡ granted) × m.Updates x.bus y.bus × (y.list ≡ x.list) × (y.book ≡ net_updated x.book)
  Step x Gap a y = (a ≡ granted) × SameBelow x y × (y.book ≡ ticking_so x.book true)
  Step x Tick a y = (a ≡ granted) × SameBelow x y × (y.book ≡ tick_counted x.book)
  Step x AccessChange a y =
      (a ≡ granted) × n.Changes x.list y.list × (y.bus ≡ x.bus) × (y.book ≡ access_changed (n.admits y.list) x.book)
  Step x (BusNote node e) a y = m.Notes x.bus node e a y.bus × (y.list ≡ x.list) × (y.book ≡ x.book)
  Step x (AccessNote note) a y = n.Notes x.list note a y.list × (y.bus ≡ x.bus) × (y.book ≡ x.book)

-- a call with its answer, and the target after it
pub record Event (B A N : Type 0) : Type 0 where
  pub call : Call N
  pub answer : Answer
  pub after : Snapshot B A

-- the target after a history of events, the newest first
abbrev pub now_at : {B A N : Type 0} → Snapshot B A → List (Event B A N) → Snapshot B A
now_at start [] = start
now_at start (e ∷ es) = e.after

-- each event is a step from the target before it
abbrev pub Run : {B A N : Type 0} → BusModel B → AccessModel A N → Snapshot B A → List (Event B A N) → Type 0
Run m n start [] = Unit {0}
Run m n start (e ∷ es) = Run m n start es × Step m n (now_at start es) e.call e.answer e.after

-- a new target has empty tables, over a bus and a list in whatever state
abbrev pub New : {B A : Type 0} → Snapshot B A → Type 0
New start = start.book ≡ new_book
