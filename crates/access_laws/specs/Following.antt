-- What notes are for: they are the next set, and stay noted when it has come. Assumes nothing.
use Rattle.std.specs.Prelude.{◌≡◌, ℕ, Bool, false, not, ◌&&◌, Err, ◌≢◌}
use Rattle.reader.specs.declared.ids.Eui64.{Eui64}
use Rattle.reader.specs.declared.refusal.Refusal.{Refusal}
use Rattle.reader.specs.Ids.{none_eui}
use Rattle.notes.specs.Answers.{Answer, granted}
use Rattle.access.specs.declared.pairs.PairNote.{PairNote}
use Rattle.access.specs.declared.pairs.PairTable.{PairTable}
use Rattle.access.specs.declared.makers.MakerNote.{MakerNote}
use Rattle.access.specs.declared.makers.MakerList.{MakerList}
use Rattle.access.specs.declared.stops.StopList.{StopList}
use Rattle.access.specs.declared.stops.StopNote.TheVariants.{Stop, Below}
use Rattle.access.specs.Meaning.{AccessModel}
use Rattle.notes.specs.Tables.{settled}
use Rattle.access.specs.Pairs.{same_pair, noted_pair, pair_tables, pair_admits, pair_model}
use Rattle.access.specs.Makers.{maker_of, in_mask, maker_tables, maker_admits, maker_model}
use Rattle.access.specs.Stops.{same_eui, stop_tables, stop_admits, stop_model}

-- a list on which `next a` is the set that was noted on a
pub record Follows {A N : Type 0} (m : AccessModel A N) (next : A → Eui64 → ℕ → Bool) : Type 0 where
  -- an access change brings it, and leaves the notes; a refused note says nothing
  pub change_admits_next : (a b : A) → m.Changes a b → m.admits b ≡ next a
  pub change_keeps_notes : (a b : A) → m.Changes a b → next b ≡ next a
  pub refused_note : (a b : A) (n : N) (r : Refusal) → m.Notes a n (Err r) b → next b ≡ next a

-- whom a pair table admits when its notes come true
abbrev pub pair_next : PairTable → Eui64 → ℕ → Bool
pair_next a = pair_admits (settled (pair_tables a))

-- a granted note says whether its pair is next, and no note says it of another
pub record PairNotes : Type 0 where
  pub note_of_pair : (a b : PairTable) (n : PairNote) → pair_model.Notes a n granted b → pair_next b n.eui_64 n.unit ≡ n.admitted
  pub note_of_another : (a b : PairTable) (n : PairNote) (r : Answer) → pair_model.Notes a n r b
      → (e : Eui64) (u : ℕ) → same_pair (noted_pair n) (record { eui = e; unit = u }) ≡ false → pair_next b e u ≡ pair_next a e u

abbrev pub maker_next : MakerList → Eui64 → ℕ → Bool
maker_next a = maker_admits (settled (maker_tables a))

-- a granted note says which units its maker's EUI-64s have next, and no note says it of another maker's
pub record MakerNotes : Type 0 where
  pub note_of_maker : (a b : MakerList) (n : MakerNote) → maker_model.Notes a n granted b
      → (e : Eui64) (u : ℕ) → n.maker ≡ maker_of e → none_eui e ≡ false → maker_next b e u ≡ in_mask n.units u
  pub note_of_another : (a b : MakerList) (n : MakerNote) (r : Answer) → maker_model.Notes a n r b
      → (e : Eui64) (u : ℕ) → (n.maker ≢ maker_of e) → maker_next b e u ≡ maker_next a e u

abbrev pub stop_next : {A : Type 0} → (A → Eui64 → ℕ → Bool) → StopList A → Eui64 → ℕ → Bool
stop_next next a = stop_admits (settled (stop_tables a)) (next a.below)

-- a granted stop says whether its EUI-64 has any unit next, no stop says it of another, and a note below says what it says there
pub record StopFollows {A N : Type 0} (m : AccessModel A N) (next : A → Eui64 → ℕ → Bool) : Type 0 where
  pub notes : Follows (stop_model m) (stop_next next)
  pub note_of_stop : (a b : StopList A) (e : Eui64) (stopped : Bool) → (stop_model m).Notes a (Stop e stopped) granted b
      → (u : ℕ) → stop_next next b e u ≡ (not stopped && next a.below e u)
  pub note_of_another : (a b : StopList A) (e : Eui64) (stopped : Bool) (r : Answer) → (stop_model m).Notes a (Stop e stopped) r b
      → (f : Eui64) (u : ℕ) → same_eui e f ≡ false → stop_next next b f u ≡ stop_next next a f u
  pub note_below : (a b : StopList A) (n : N) (r : Answer) → (stop_model m).Notes a (Below n) r b
      → stop_next next b ≡ stop_admits (settled (stop_tables a)) (next b.below)

abbrev pub StopsFollow : {A N : Type 0} → AccessModel A N → Type 0
StopsFollow {A} m = (next : A → Eui64 → ℕ → Bool) → Follows m next → StopFollows m next
