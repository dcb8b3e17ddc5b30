-- The listing of a journal that is run through a new cabinet. Assumes nothing.
use Rattle.std.specs.Prelude.{◌≡◌, ℕ, ◌+◌, List, [], ◌∷◌, ◌++◌, length, Some, None, Ok, Err, codes, decimal, Option, Result}
use Rattle.reader.specs.Refusals.{number}
use Rattle.reader.specs.declared.refusal.Refusal.{Refusal}
use Rattle.bus.specs.Meaning.{Answer}
use Rattle.agent.specs.Exchanges.{status_of}
use Rattle.journal.specs.Entries.{Entry}
use Rattle.journal.specs.Journals.{Reads, ending}
use Rattle.replay.specs.Cabinets.{Cabinet, CabinetCall, new_cabinet, answer, after}
use Rattle.replay.specs.Calls.{call_of}

-- what a record is answered, and the cabinet after it; one that is no call leaves it
abbrev pub drawn : Cabinet → Result CabinetCall Refusal → Answer
drawn c (Ok call) = answer c call
drawn c (Err refusal) = Err refusal

abbrev pub after_record : Cabinet → Result CabinetCall Refusal → Cabinet
after_record c (Ok call) = after c call
after_record c (Err refusal) = c

-- a number for each record: 0 if it is granted, else that of the refusal
abbrev pub numbers : Cabinet → List Entry → List ℕ
numbers c [] = []
numbers c (e ∷ es) = status_of (drawn c (call_of e)) ∷ numbers (after_record c (call_of e)) es

-- the count, a space, the number, and a line feed
abbrev pub line_text : ℕ → ℕ → List ℕ
line_text count n = decimal count ++ (codes " " ++ (decimal n ++ codes "\n"))

-- a line for each number, counted from k on
abbrev pub lines_text : ℕ → List ℕ → List ℕ
lines_text k [] = []
lines_text k (n ∷ ns) = line_text k n ++ lines_text (k + 1) ns

-- a line that says why reading stopped, with the count of the record at which it did
abbrev pub ending_text : Option (ℕ × Refusal) → List ℕ
ending_text None = []
ending_text (Some p) = line_text p.0 (number p.1)

-- the same after n records
abbrev pub end_text : ℕ → Option Refusal → List ℕ
end_text n refusal = ending_text (ending n refusal)

-- the listing of some bytes: a line for each record that was read, and one that says why no more was
pub record Listed (bytes text : List ℕ) : Type 0 where
  pub read : List Entry
  pub refusal : Option Refusal
  pub reads : Reads bytes read refusal
  pub lines : text ≡ lines_text 1 (numbers new_cabinet read) ++ end_text (length read) refusal
