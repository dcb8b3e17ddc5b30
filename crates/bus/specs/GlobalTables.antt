-- A table of global IDs with their EUI-64s, as a list of entries in the order of noting. Assumes nothing.
use Rattle.std.specs.Prelude.{ℕ, Bool, not, List, Some, None, Option, ◌==◌}
use Rattle.reader.specs.declared.ids.NodeId.{NodeId}
use Rattle.reader.specs.declared.ids.Eui64.{Eui64}
use Rattle.reader.specs.Ids.{none_eui}
use Rattle.notes.specs.Answers.{Answer}
use Rattle.notes.specs.Tables as notes
use Rattle.bus.specs.declared.entries.Entry.{Entry}
use Rattle.bus.specs.Meaning.{somebody}

-- how many entries there may be
abbrev pub table_size : ℕ
table_size = 32

-- whether an entry is for a node ID
abbrev pub is_at : Entry → NodeId → Bool
is_at e i = e.node.0 == i.0

-- whom an entry has; one of all ones would be nobody
abbrev pub whom : Option Entry → Option Eui64
whom (Some e) = somebody e.eui
whom None = None

-- whom the table has at a node ID
abbrev pub listed : List Entry → NodeId → Option Eui64
listed es i = whom (notes.listed is_at es i)

-- the entries for other node IDs
abbrev pub others : List Entry → NodeId → List Entry
others es i = notes.others is_at es i

-- one more entry, if there is a place for it
abbrev pub push_answer : List Entry → Answer
push_answer es = notes.push_answer table_size es

-- a note of nobody needs no place; any other needs one beside the entries for other node IDs
abbrev pub table_answer : List Entry → NodeId → Eui64 → Answer
table_answer es i e = notes.table_answer is_at table_size es i (not (none_eui e))

-- the entry that a note leaves: none where nobody is noted
abbrev pub new_entry : NodeId → Eui64 → List Entry
new_entry i e = notes.new_entry (record { node = i; eui = e }) (not (none_eui e))

-- the table after a note
abbrev pub table_after : List Entry → NodeId → Eui64 → List Entry
table_after es i e = notes.table_after is_at table_size es i (record { node = i; eui = e }) (not (none_eui e))
