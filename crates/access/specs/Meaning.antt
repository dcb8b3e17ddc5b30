-- What an access list means, what its events make of it, and what every access list owes. Assumes nothing.
use Rattle.std.specs.Prelude.{◌≡◌, ℕ, Bool}
use Rattle.reader.specs.declared.ids.Eui64.{Eui64}
use Rattle.bus.specs.Meaning.{Answer}

-- The meaning of an access list: the set of pairs of EUI-64 and unit that it admits. Then what an access
-- change and a note (with its answer) make of one list: another, after them. N is its type of notes.
pub record AccessModel (A N : Type 0) : Type 1 where
  pub admits : A → Eui64 → ℕ → Bool
  pub Changes : A → A → Type 0
  pub Notes : A → N → Answer → A → Type 0

-- What every access list owes: a note, granted or refused, leaves the set. A change may make it any set.
pub record Lawful {A N : Type 0} (m : AccessModel A N) : Type 0 where
  pub note_keeps_admitted : (a b : A) (n : N) (r : Answer) → m.Notes a n r b → m.admits b ≡ m.admits a
