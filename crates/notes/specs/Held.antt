-- The entries of a table that are in use, and those of the two tables of notes. Assumes nothing.
use Rattle.std.specs.Prelude.{ℕ, List, take}
use Rattle.notes.specs.declared.noting.Notes.{Notes}
use Rattle.notes.specs.declared.slots.Table.{Table}
use Rattle.notes.specs.Tables.{Noting}

abbrev pub held : {E : Type 0} {size : ℕ} → Table E size → List E
held t = take t.count t.entries

abbrev pub noting : {E : Type 0} {size : ℕ} → Notes (Table E size) → Noting E
noting n = record { current = held n.current; noted = held n.noted }
