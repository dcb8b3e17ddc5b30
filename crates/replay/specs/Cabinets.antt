-- A cabinet as plain data, and what each call makes of it: a portal over a local bus, and a stop list over a pair table. Assumes nothing.
use Rattle.std.specs.Prelude.{ℕ, Bool, true, cond, List, [], ◌∷◌, Option}
use Rattle.reader.specs.declared.ids.NodeId.{NodeId}
use Rattle.reader.specs.declared.ids.Eui64.{Eui64}
use Rattle.reader.specs.Ids.{global}
use Rattle.bus.specs.Places.{seated}
use Rattle.bus.specs.LocalBuses.{LocalTables, local_tables, new_local, local_own, local_settled, local_answer, local_noted}
use Rattle.bus.specs.Portals.{PortalTables, portal_tables, new_portal, portal_shows, portal_updated, portal_answer, portal_noted}
use Rattle.bus.specs.declared.local.LocalBus.{LocalBus}
use Rattle.bus.specs.declared.portal.Portal.{Portal}
use Rattle.bus.specs.Meaning.{Answer, granted}
use Rattle.access.specs.Tables.{Noting}
use Rattle.access.specs.Pairs.{pair_tables, new_pairs, pair_settled, pair_answer, pair_noted, pair_admits}
use Rattle.access.specs.Stops.{stop_tables, new_stops, stop_settled, stop_answer, stop_noted, stop_admits}
use Rattle.access.specs.declared.pairs.Pair.{Pair}
use Rattle.access.specs.declared.pairs.PairNote.{PairNote}
use Rattle.access.specs.declared.pairs.PairTable.{PairTable}
use Rattle.access.specs.declared.stops.StopList.{StopList}
use Rattle.access.specs.declared.stops.StopNote.{StopNote}
use Rattle.access.specs.declared.stops.StopNote.TheVariants.{Stop, Below}
use Rattle.tables.specs.Books.{Book, new_book}
use Rattle.tables.specs.Events.{was_reset, net_updated, ticking_so, tick_counted, access_changed}
use Rattle.rules.specs.Runs.{Snapshot}
use Rattle.rules.specs.Scenes.{Scene, answer_of, book_after}
use Rattle.rules.specs.Serving.{outcome}
use Rattle.rules.specs.declared.calls.Call.{Call}
use Rattle.rules.specs.declared.calls.Call.TheVariants.{Request, BusReset, NetUpdate, Gap, Tick, AccessChange, BusNote, AccessNote}

-- the tables of the local bus, of the portal over it, of the pairs, of the stops over them, and of logins and handles
pub record Cabinet : Type 0 where
  pub local : LocalTables
  pub portal : PortalTables
  pub pairs : Noting Pair
  pub stops : Noting Eui64
  pub book : Book

-- a new one is the node with EUI-64 1, and empty
abbrev pub new_cabinet : Cabinet
new_cabinet = record { local = new_local (record { 0 = 1 }); portal = new_portal; pairs = new_pairs; stops = new_stops; book = new_book }

-- a target that has this bus and this list, as data
abbrev pub cabinet_of : Snapshot (Portal LocalBus) (StopList PairTable) → Cabinet
cabinet_of x =
    record {
      local = local_tables x.bus.below;
      portal = portal_tables x.bus;
      pairs = pair_tables x.list.below;
      stops = stop_tables x.list;
      book = x.book;
    }

-- whom its bus shows, and whom its list admits
abbrev pub shows : LocalTables → PortalTables → NodeId → Option Eui64
shows local portal = portal_shows portal.shown (seated local.shown)

abbrev pub admits : Noting Pair → Noting Eui64 → Eui64 → ℕ → Bool
admits pairs stops = stop_admits stops (pair_admits pairs)

-- what a request meets there
abbrev pub scene : Cabinet → Scene
scene c = record { own = local_own c.local; shows = shows c.local c.portal; admits = admits c.pairs c.stops; book = c.book }

-- what a call of it says
abbrev pub CabinetCall : Type 0
CabinetCall = Call (StopNote PairNote)

-- notes of a global ID are the portal's, all others the local bus's
abbrev pub bus_note_answer : Cabinet → NodeId → Option Eui64 → Answer
bus_note_answer c node e = cond (global node) (portal_answer c.portal node e) (local_answer c.local node e)

abbrev pub list_note_answer : Cabinet → StopNote PairNote → Answer
list_note_answer c (Stop e stopped) = stop_answer c.stops e stopped
list_note_answer c (Below n) = pair_answer c.pairs n

-- the answer to a call
abbrev pub answer : Cabinet → CabinetCall → Answer
answer c (Request source q) = answer_of (outcome (scene c) source q)
answer c BusReset = granted
answer c NetUpdate = granted
answer c Gap = granted
answer c Tick = granted
answer c AccessChange = granted
answer c (BusNote node e) = bus_note_answer c node e
answer c (AccessNote n) = list_note_answer c n

abbrev pub with_book : Cabinet → Book → Cabinet
with_book c b = record { local = c.local; portal = c.portal; pairs = c.pairs; stops = c.stops; book = b }

-- the cabinet after a bus that was reset or updated, and after a list that was changed
abbrev pub with_bus : Cabinet → LocalTables → PortalTables → Book → Cabinet
with_bus c local portal b = record { local = local; portal = portal; pairs = c.pairs; stops = c.stops; book = b }

abbrev pub with_list : Cabinet → Noting Pair → Noting Eui64 → Book → Cabinet
with_list c pairs stops b = record { local = c.local; portal = c.portal; pairs = pairs; stops = stops; book = b }

abbrev pub bus_noted : Cabinet → NodeId → Option Eui64 → Cabinet
bus_noted c node e =
    cond (global node) (with_bus c c.local (portal_noted c.portal node e) c.book) (with_bus c (local_noted c.local node e) c.portal c.book)

abbrev pub list_noted : Cabinet → StopNote PairNote → Cabinet
list_noted c (Stop e stopped) = with_list c c.pairs (stop_noted c.stops e stopped) c.book
list_noted c (Below n) = with_list c (pair_noted c.pairs n) c.stops c.book

-- the cabinet after a call
abbrev pub after : Cabinet → CabinetCall → Cabinet
after c (Request source q) = with_book c (book_after c.book (outcome (scene c) source q))
after c BusReset = with_bus c (local_settled c.local) c.portal (was_reset (shows (local_settled c.local) c.portal) c.book)
after c NetUpdate = with_bus c (local_settled c.local) (portal_updated c.portal) (net_updated c.book)
after c Gap = with_book c (ticking_so c.book true)
after c Tick = with_book c (tick_counted c.book)
after c AccessChange =
    with_list c (pair_settled c.pairs) (stop_settled c.stops) (access_changed (admits (pair_settled c.pairs) (stop_settled c.stops)) c.book)
after c (BusNote node e) = bus_noted c node e
after c (AccessNote n) = list_noted c n

-- the answers to calls in their order
abbrev pub answers : Cabinet → List CabinetCall → List Answer
answers c [] = []
answers c (call ∷ calls) = answer c call ∷ answers (after c call) calls
