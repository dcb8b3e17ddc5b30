-- The next topology of any bus, as a note and a reset make it. Assumes nothing.
use Rattle.std.specs.Prelude.{◌≡◌, Option}
use Rattle.reader.specs.declared.ids.NodeId.{NodeId}
use Rattle.reader.specs.declared.ids.Eui64.{Eui64}
use Rattle.bus.specs.Meaning.{BusModel, Answer}

-- some bus between the two was left by the note and then reset; `after` shows `who` at the noted ID
pub record ShownAfterReset {B : Type 0} (m : BusModel B) (before : B) (i : NodeId) (e who : Option Eui64) (after : B) : Type 0 where
  pub answer : Answer
  pub between : B
  pub noted : m.Notes before i e answer between
  pub was_reset : m.Resets between after
  pub shown : who ≡ m.shows after i
