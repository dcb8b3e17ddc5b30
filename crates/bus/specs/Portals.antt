-- A portal over any bus: what it adds to the bus below, and what each event makes of it. Assumes nothing.
use Rattle.std.specs.Prelude.{◌≡◌, cond, List, [], Some, None, MatchBool, Option}
use Rattle.std.specs.Option.{unwrap_or}
use Rattle.reader.specs.declared.ids.NodeId.{NodeId}
use Rattle.reader.specs.declared.ids.Eui64.{Eui64}
use Rattle.reader.specs.Ids.{global}
use Rattle.notes.specs.Held.{held}
use Rattle.bus.specs.declared.entries.Entry.{Entry}
use Rattle.bus.specs.declared.portal.Portal.{Portal}
use Rattle.bus.specs.Meaning.{BusModel, Answer, nobody}
use Rattle.bus.specs.GlobalTables.{listed, table_answer, table_after}

-- the global IDs that it adds now, and those noted for the next net update
pub record PortalTables : Type 0 where
  pub shown : List Entry
  pub noted : List Entry

abbrev pub portal_tables : {B : Type 0} → Portal B → PortalTables
portal_tables p = record { shown = held p.globals.current; noted = held p.globals.noted }

-- a new one adds nothing
abbrev pub new_portal : PortalTables
new_portal = record { shown = []; noted = [] }

-- the first answer, or where there is none the second
abbrev pub or_else : Option Eui64 → Option Eui64 → Option Eui64
or_else (Some e) o = Some e
or_else None o = o

-- at a global ID its own entry, and else what the bus below shows
abbrev pub portal_shows : List Entry → (NodeId → Option Eui64) → NodeId → Option Eui64
portal_shows es below i = cond (global i) (or_else (listed es i) (below i)) (below i)

-- after a net update it adds what is noted, and the notes last
abbrev pub portal_updated : PortalTables → PortalTables
portal_updated t = record { shown = t.noted; noted = t.noted }

-- a note of a global ID is for the next net update
abbrev pub portal_answer : PortalTables → NodeId → Option Eui64 → Answer
portal_answer t i e = table_answer t.noted i (unwrap_or e nobody)

abbrev pub portal_noted : PortalTables → NodeId → Option Eui64 → PortalTables
portal_noted t i e = record { shown = t.shown; noted = table_after t.noted i (unwrap_or e nobody) }

-- resets, net updates and all other notes go below
abbrev pub portal_model : {B : Type 0} → BusModel B → BusModel (Portal B)
portal_model m = record {
  own = λ p. m.own p.below;
  shows = λ p. portal_shows (portal_tables p).shown (m.shows p.below);
  Resets = λ p q. m.Resets p.below q.below × (portal_tables q ≡ portal_tables p);
  Updates = λ p q. m.Updates p.below q.below × (portal_tables q ≡ portal_updated (portal_tables p));
  Notes = λ p i e a q. MatchBool (global i)
      ((q.below ≡ p.below) × (a ≡ portal_answer (portal_tables p) i e) × (portal_tables q ≡ portal_noted (portal_tables p) i e))
      (m.Notes p.below i e a q.below × (portal_tables q ≡ portal_tables p));
}
