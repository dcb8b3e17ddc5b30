-- What notes are for: they are the next topology, and stay noted when it has come. Assumes nothing.
use Rattle.std.specs.Prelude.{◌≡◌, true, false, Some, None, Err, Option, ◌≢◌}
use Rattle.std.specs.Option.{unwrap_or}
use Rattle.reader.specs.declared.ids.NodeId.{NodeId}
use Rattle.reader.specs.declared.ids.Eui64.{Eui64}
use Rattle.reader.specs.declared.refusal.Refusal.{Refusal}
use Rattle.reader.specs.Ids.{local, global, none_eui}
use Rattle.bus.specs.declared.local.LocalBus.{LocalBus}
use Rattle.bus.specs.declared.portal.Portal.{Portal}
use Rattle.bus.specs.Meaning.{BusModel, Answer, granted, nobody}
use Rattle.bus.specs.Places.{seated}
use Rattle.bus.specs.Portals.{portal_tables, portal_shows, portal_model}

-- a bus on which `next b` is the next topology that was noted on b
pub record Follows {B : Type 0} (m : BusModel B) (next : B → NodeId → Option Eui64) : Type 0 where
  -- a net update brings all of it, a reset its local IDs, and both leave the notes
  pub update_shows_next : (b c : B) → m.Updates b c → m.shows c ≡ next b
  pub reset_shows_next : (b c : B) → m.Resets b c → (i : NodeId) → local i ≡ true → m.shows c i ≡ next b i
  pub update_keeps_notes : (b c : B) → m.Updates b c → next c ≡ next b
  pub reset_keeps_notes : (b c : B) → m.Resets b c → next c ≡ next b
  -- a granted note says who is next at its ID, no note says it of another ID, and a refused one says nothing
  pub note_of_somebody : (b c : B) (i : NodeId) (e : Eui64) → m.Notes b i (Some e) granted c → none_eui e ≡ false → next c i ≡ Some e
  pub note_of_nobody : (b c : B) (i : NodeId) → m.Notes b i None granted c → local i ≡ true → next c i ≡ None
  pub note_of_another : (b c : B) (i : NodeId) (e : Option Eui64) (a : Answer) → m.Notes b i e a c → (j : NodeId) → (j.0 ≢ i.0) → next c j ≡ next b j
  pub refused_note : (b c : B) (i : NodeId) (e : Option Eui64) (r : Refusal) → m.Notes b i e (Err r) c → next c ≡ next b

abbrev pub local_next : LocalBus → NodeId → Option Eui64
local_next b = seated b.places.noted.euis

abbrev pub portal_next : {B : Type 0} → (B → NodeId → Option Eui64) → Portal B → NodeId → Option Eui64
portal_next next p = portal_shows (portal_tables p).noted (next p.below)

-- a portal on a bus that follows its notes follows its own and those below; nobody noted at a global ID leaves it to the bus below
pub record PortalFollows {B : Type 0} (m : BusModel B) (next : B → NodeId → Option Eui64) : Type 0 where
  pub notes : Follows (portal_model m) (portal_next next)
  pub taken_out : (p q : Portal B) (i : NodeId) (e : Option Eui64) (a : Answer)
      → (portal_model m).Notes p i e a q → global i ≡ true → none_eui (unwrap_or e nobody) ≡ true → (a ≡ granted) × (portal_next next q i ≡ next q.below i)

abbrev pub PortalsFollow : {B : Type 0} → BusModel B → Type 0
PortalsFollow {B} m = (next : B → NodeId → Option Eui64) → Follows m next → PortalFollows m next
