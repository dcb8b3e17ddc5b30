-- What a journal that was read or written is. Assumes nothing.
use Rattle.std.specs.Prelude.{◌≡◌, ℕ, ◌+◌, ◌<◌, ◌≤◌, Bool, cond, ◌&&◌, ◌⊎◌, List, [], ◌∷◌, ◌++◌, length, drop, Some, None, Ok, Err, Option, Result, ◌==◌, nat_le}
use Rattle.reader.specs.Refusals.{number}
use Rattle.reader.specs.declared.refusal.Refusal.{Refusal}
use Rattle.reader.specs.declared.refusal.Refusal.TheVariants.{MalformedRecord, JournalTooLong}
use Rattle.journal.specs.Entries.{Entry, journal_code, Within, NoEntry}

-- no journal has more bytes
abbrev pub longest_journal : ℕ
longest_journal = 65536

-- every entry has its fields within their widths
abbrev pub AllWithin : List Entry → Type 0
AllWithin [] = Unit {0}
AllWithin (e ∷ es) = Within e × AllWithin es

-- read to the end: the bytes are those of the entries
pub record Whole (bs : List ℕ) (es : List Entry) : Type 0 where
  pub short : length bs ≤ longest_journal
  pub front : bs ≡ journal_code es
  pub within : AllWithin es

-- read up to a place where bytes are left and no entry stands
pub record Broken (bs : List ℕ) (es : List Entry) (refusal : Refusal) : Type 0 where
  pub short : length bs ≤ longest_journal
  pub rest : List ℕ
  pub front : bs ≡ journal_code es ++ rest
  pub within : AllWithin es
  pub left : 0 < length rest
  pub absent : NoEntry rest
  pub place : refusal ≡ MalformedRecord (length (journal_code es))

-- too long: nothing is read
pub record Long (bs : List ℕ) (es : List Entry) (refusal : Refusal) : Type 0 where
  pub long : longest_journal < length bs
  pub none : es ≡ []
  pub value : refusal ≡ JournalTooLong (length bs)

-- what comes of reading these bytes
abbrev pub Reads : List ℕ → List Entry → Option Refusal → Type 0
Reads bs es None = Whole bs es
Reads bs es (Some refusal) = Broken bs es refusal ⊎ Long bs es refusal

-- the count of a record that is refused after n others; a journal that is too long has none
abbrev pub end_count : ℕ → Refusal → ℕ
end_count n refusal = cond (number refusal == 40) 0 (n + 1)

-- where reading stopped after n records, and why
abbrev pub ending : ℕ → Option Refusal → Option (ℕ × Refusal)
ending n None = None
ending n (Some refusal) = Some (end_count n refusal, refusal)

-- a journal fits an area that holds all its bytes, if it is not too long
abbrev pub fits : List Entry → List ℕ → Bool
fits es area = nat_le (length (journal_code es)) longest_journal && nat_le (length (journal_code es)) (length area)

-- the number of bytes, or a refusal with it
abbrev pub written_answer : List Entry → List ℕ → Result ℕ Refusal
written_answer es area = cond (fits es area) (Ok (length (journal_code es))) (Err (JournalTooLong (length (journal_code es))))

-- the journal and then what the area held there, or the area as it was
abbrev pub written_area : List Entry → List ℕ → List ℕ
written_area es area = cond (fits es area) (journal_code es ++ drop (length (journal_code es)) area) area
