-- What a request meets, as the rules see it. Assumes nothing.
use Rattle.tables.specs.Books.{book_of}
use Rattle.rules.specs.Runs.{Snapshot}
use Rattle.management.specs.declared.parts.ManagementAgent.{ManagementAgent}

-- the bus, the access list and the tables; N is the list's own type of notes
abbrev pub snapshot_of : {B A N : Type 0} → ManagementAgent B A N → Snapshot B A
snapshot_of a = record { bus = a.bus; list = a.list; book = book_of a.tables }
