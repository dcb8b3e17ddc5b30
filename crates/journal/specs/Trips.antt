-- What comes back from writing and then reading, and from reading and then writing. Assumes nothing.
use Rattle.std.specs.Prelude.{◌≡◌, ℕ, ◌<◌, cond, ◌⊎◌, List, [], ◌++◌, length, drop, Some, None, Ok, Err, Option, Result}
use Rattle.reader.specs.declared.refusal.Refusal.{Refusal}
use Rattle.reader.specs.declared.refusal.Refusal.TheVariants.{JournalTooLong}
use Rattle.journal.specs.Entries.{Entry, journal_code}
use Rattle.journal.specs.Journals.{fits, Reads}

-- the same entries if they fitted the area, else none and the refusal
pub record ReadBack (es : List Entry) (area : List ℕ) (back : List Entry) (refusal : Option Refusal) : Type 0 where
  pub same : back ≡ cond (fits es area) es []
  pub refused : refusal ≡ cond (fits es area) None (Some (JournalTooLong (length (journal_code es))))

-- the same bytes and then what the area held there; a refusal is the reader's, or the area is too short
abbrev pub WrittenBack : List ℕ → List ℕ → Result ℕ Refusal → List ℕ → Type 0
WrittenBack bs before (Ok n) after = (n ≡ length bs) × (after ≡ bs ++ drop (length bs) before)
WrittenBack bs before (Err refusal) after =
    (after ≡ before)
    × (((es : List Entry) × Reads bs es (Some refusal)) ⊎ ((length before < length bs) × (refusal ≡ JournalTooLong (length bs))))
