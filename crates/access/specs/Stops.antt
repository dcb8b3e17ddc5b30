-- A stop list over any access list: what it takes out, and what each event makes of it. Assumes nothing.
use Rattle.std.specs.Prelude.{◌≡◌, ℕ, Bool, cond, not, ◌&&◌, is_some, Err, ◌==◌}
use Rattle.reader.specs.declared.ids.Eui64.{Eui64}
use Rattle.reader.specs.declared.refusal.Refusal.TheVariants.{OutOfRange}
use Rattle.reader.specs.Ids.{none_eui}
use Rattle.notes.specs.Answers.{Answer, granted}
use Rattle.notes.specs.Held.{noting}
use Rattle.access.specs.declared.stops.StopList.{StopList}
use Rattle.access.specs.declared.stops.StopNote.{StopNote}
use Rattle.access.specs.declared.stops.StopNote.TheVariants.{Stop, Below}
use Rattle.access.specs.Meaning.{AccessModel}
use Rattle.access.specs.Tables.{Noting, listed, new_tables, settled, note_answer, noted_in}

-- how many EUI-64s there may be
abbrev pub stop_places : ℕ
stop_places = 16

abbrev pub same_eui : Eui64 → Eui64 → Bool
same_eui e f = e.0 == f.0

-- nobody cannot be stopped
abbrev pub stop_range : Eui64 → Answer
stop_range e = cond (none_eui e) (Err (OutOfRange e.0)) granted

abbrev pub stop_tables : {A : Type 0} → StopList A → Noting Eui64
stop_tables a = noting a.stopped

-- a new one stops nobody, and has nobody noted
abbrev pub new_stops : Noting Eui64
new_stops = new_tables

abbrev pub stop_settled : Noting Eui64 → Noting Eui64
stop_settled t = settled t

abbrev pub stop_answer : Noting Eui64 → Eui64 → Bool → Answer
stop_answer t e stopped = note_answer same_eui stop_places (stop_range e) t e stopped

abbrev pub stop_noted : Noting Eui64 → Eui64 → Bool → Noting Eui64
stop_noted t e stopped = noted_in same_eui stop_places (stop_range e) t e e stopped

abbrev pub is_stopped : Noting Eui64 → Eui64 → Bool
is_stopped t e = is_some (listed same_eui t.current e)

-- it admits whom the list below admits and it does not stop
abbrev pub stop_admits : Noting Eui64 → (Eui64 → ℕ → Bool) → Eui64 → ℕ → Bool
stop_admits t below e u = not (is_stopped t e) && below e u

-- a stop is noted here, and any other note goes below
abbrev pub StopNotes : {A N : Type 0} → AccessModel A N → StopList A → StopNote N → Answer → StopList A → Type 0
StopNotes m a (Stop e stopped) r b = (b.below ≡ a.below) × (r ≡ stop_answer (stop_tables a) e stopped) × (stop_tables b ≡ stop_noted (stop_tables a) e stopped)
StopNotes m a (Below n) r b = m.Notes a.below n r b.below × (stop_tables b ≡ stop_tables a)

-- at an access change the list below changes too
abbrev pub stop_model : {A N : Type 0} → AccessModel A N → AccessModel (StopList A) (StopNote N)
stop_model m = record {
  admits = λ a. stop_admits (stop_tables a) (m.admits a.below);
  Changes = λ a b. m.Changes a.below b.below × (stop_tables b ≡ stop_settled (stop_tables a));
  Notes = StopNotes m;
}
