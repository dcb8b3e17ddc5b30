-- What a bus means, what its events make of it, and what every bus owes. Assumes nothing.
use Rattle.std.specs.Prelude.{◌≡◌, true, false, cond, ◌||◌, Some, None, Option}
use Rattle.reader.specs.declared.ids.NodeId.{NodeId}
use Rattle.reader.specs.declared.ids.Eui64.{Eui64}
use Rattle.reader.specs.Ids.{none_id, local, broadcast, global, none_eui}
pub use Rattle.notes.specs.Answers.{Answer, granted, if_granted}

-- an EUI-64 of all ones is nobody
abbrev pub nobody : Eui64
nobody = record { 0 = 0xFFFF_FFFF_FFFF_FFFF }

abbrev pub somebody : Eui64 → Option Eui64
somebody e = cond (none_eui e) None (Some e)

-- The meaning of a bus: its own ID, and for each node ID an EUI-64 or nobody. Then what a bus reset,
-- a net update and a note (node ID, EUI-64 or nobody, answer) make of one bus: another, after them.
pub record BusModel (B : Type 0) : Type 1 where
  pub own : B → NodeId
  pub shows : B → NodeId → Option Eui64
  pub Resets : B → B → Type 0
  pub Updates : B → B → Type 0
  pub Notes : B → NodeId → Option Eui64 → Answer → B → Type 0

-- What every bus owes. Node IDs have 16 bits; at larger numbers, which no code meets, the laws bind the model just the same.
pub record Lawful {B : Type 0} (m : BusModel B) : Type 0 where
  pub own_is_local_or_none : (b : B) → (local (m.own b) || none_id (m.own b)) ≡ true
  pub none_shows_nobody : (b : B) (i : NodeId) → none_id i ≡ true → m.shows b i ≡ None
  pub broadcast_shows_nobody : (b : B) (i : NodeId) → broadcast i ≡ true → m.shows b i ≡ None
  pub all_ones_is_not_shown : (b : B) (i : NodeId) (e : Eui64) → m.shows b i ≡ Some e → none_eui e ≡ false
  pub local_ids_show_apart : (b : B) (i j : NodeId) (e : Eui64)
      → (local i ≡ true) × (m.shows b i ≡ Some e) → (local j ≡ true) × (m.shows b j ≡ Some e) → i ≡ j
  pub reset_keeps_globals : (b c : B) → m.Resets b c → (i : NodeId) → global i ≡ true → m.shows c i ≡ m.shows b i
  pub note_keeps_own : (b c : B) (i : NodeId) (e : Option Eui64) (a : Answer) → m.Notes b i e a c → m.own c ≡ m.own b
  pub note_keeps_shown : (b c : B) (i : NodeId) (e : Option Eui64) (a : Answer) → m.Notes b i e a c → m.shows c ≡ m.shows b
