-- A target as the rules see it. Assumes nothing.
use Rattle.tables.specs.Books.{new_book}
use Rattle.rules.specs.Runs.{Snapshot}
use Rattle.agent.specs.declared.target.Target.{Target}

-- its bus, its access list and its tables; N is the list's own type of notes
abbrev pub snapshot_of : {B A N : Type 0} → Target B A N → Snapshot B A
snapshot_of t = Rattle.management.specs.Parts.snapshot_of t.agent

-- a new target, over a bus and a list in whatever state
abbrev pub new_snapshot : {B A : Type 0} → B → A → Snapshot B A
new_snapshot bus list = record { bus = bus; list = list; book = new_book }
