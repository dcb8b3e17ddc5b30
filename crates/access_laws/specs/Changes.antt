-- Whom any access list admits next, as a note and an access change make it. Assumes nothing.
use Rattle.std.specs.Prelude.{◌≡◌, ℕ, Bool, not, ◌&&◌, nat_le}
use Rattle.reader.specs.declared.ids.Eui64.{Eui64}
use Rattle.reader.specs.Ids.{none_eui}
use Rattle.notes.specs.Answers.{Answer}
use Rattle.access.specs.declared.pairs.PairNote.{PairNote}
use Rattle.access.specs.Meaning.{AccessModel}
use Rattle.access.specs.Pairs.{same_pair, noted_pair}
use Rattle.access.specs.Stops.{same_eui}

-- some list between the two was left by the note and then changed; `after` says `admitted` of the EUI-64 and the unit
pub record AdmittedAfterChange {A N : Type 0} (m : AccessModel A N) (before : A) (n : N) (e : Eui64) (u : ℕ) (admitted : Bool) (after : A) : Type 0 where
  pub answer : Answer
  pub between : A
  pub noted : m.Notes before n answer between
  pub changed : m.Changes between after
  pub admits : admitted ≡ m.admits after e u

-- the one pair that a note puts in, if it may be noted and its EUI-64 is not stopped
abbrev pub first_admitted : PairNote → Eui64 → Eui64 → ℕ → Bool
first_admitted n stopped e u =
    n.admitted && same_pair (noted_pair n) (record { eui = e; unit = u }) && nat_le u 3 && not (none_eui e) && not (same_eui stopped e)
