-- A local bus: what it holds, and what a reset, a net update and a note make of that. Assumes nothing.
use Rattle.std.specs.Prelude.{◌≡◌, List, replicate, Option}
use Rattle.std.specs.Option.{unwrap_or}
use Rattle.reader.specs.declared.ids.NodeId.{NodeId}
use Rattle.reader.specs.declared.ids.Eui64.{Eui64}
use Rattle.bus.specs.declared.local.LocalBus.{LocalBus}
use Rattle.bus.specs.Meaning.{BusModel, Answer, nobody}
use Rattle.bus.specs.Finding.{node_id, local_of}
use Rattle.bus.specs.Places.{seated, seat_answer, seat_after}

-- its own EUI-64, who is shown at the 63 places, and who is noted for the next topology
pub record LocalTables : Type 0 where
  pub eui : Eui64
  pub shown : List Eui64
  pub noted : List Eui64

abbrev pub local_tables : LocalBus → LocalTables
local_tables b = record { eui = b.eui; shown = b.places.current.euis; noted = b.places.noted.euis }

-- a new one shows nobody, and has nobody noted
abbrev pub new_local : Eui64 → LocalTables
new_local eui = record { eui = eui; shown = replicate 63 nobody; noted = replicate 63 nobody }

-- it stands where it shows its own EUI-64, and else nowhere
abbrev pub local_own : LocalTables → NodeId
local_own t = unwrap_or (local_of (seated t.shown) t.eui) (node_id 0xFFFF)

-- after a reset or a net update it shows what is noted, and the notes last
abbrev pub local_settled : LocalTables → LocalTables
local_settled t = record { eui = t.eui; shown = t.noted; noted = t.noted }

-- a note seats an EUI-64, or nobody, at a node ID of the next topology
abbrev pub local_answer : LocalTables → NodeId → Option Eui64 → Answer
local_answer t i e = seat_answer t.noted i (unwrap_or e nobody)

abbrev pub local_noted : LocalTables → NodeId → Option Eui64 → LocalTables
local_noted t i e = record { eui = t.eui; shown = t.shown; noted = seat_after t.noted i (unwrap_or e nobody) }

abbrev pub local_model : BusModel LocalBus
local_model = record {
  own = λ b. local_own (local_tables b);
  shows = λ b. seated b.places.current.euis;
  Resets = λ b c. local_tables c ≡ local_settled (local_tables b);
  Updates = λ b c. local_tables c ≡ local_settled (local_tables b);
  Notes = λ b i e a c. (a ≡ local_answer (local_tables b) i e) × (local_tables c ≡ local_noted (local_tables b) i e);
}
