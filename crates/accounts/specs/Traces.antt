-- The trace of a journal that is run through a new cabinet. Assumes nothing.
use Rattle.std.specs.Prelude.{◌≡◌, ℕ, ◌+◌, cond, List, [], ◌++◌, length, Some, None, codes, decimal, Option, ◌==◌}
use Rattle.std.specs.Result.{result_err}
use Rattle.reader.specs.Refusals.{number, value}
use Rattle.reader.specs.declared.refusal.Refusal.{Refusal}
use Rattle.tables.specs.Books.{Book}
use Rattle.journal.specs.Entries.{Entry}
use Rattle.journal.specs.Journals.{Reads}
use Rattle.replay.specs.Cabinets.{Cabinet, new_cabinet}
use Rattle.replay.specs.Calls.{call_of}
use Rattle.replay.specs.Driving.{response_bytes, effect}
use Rattle.replay.specs.Listings.{after_record}
use Rattle.replay.specs.declared.driving.Effect.{Effect}
use Rattle.accounts.specs.Journeys.{after_all, told_all}
use Rattle.effects.specs.Trace.{trace_text}

-- the cabinet after a record
abbrev pub after_entry : Cabinet → Entry → Cabinet
after_entry c e = after_record c (call_of e)

-- what is told of a record that comes to a cabinet: by its count, what it is, what comes of it, and the tables after it
abbrev pub record_text : (ℕ → Entry → Effect → Book → List ℕ) → ℕ → Cabinet → Entry → List ℕ
record_text text count c e = text count e (effect c e) (after_entry c e).book

-- the bytes of a status block
abbrev pub status_bytes : Option (List ℕ) → List ℕ
status_bytes (Some block) = block
status_bytes None = []

abbrev pub effect_text : ℕ → Effect → Book → List ℕ
effect_text count e book = trace_text count (result_err e.answer) (response_bytes e) (status_bytes e.status) book

-- what a record did to a cabinet, and its tables after it
abbrev pub record_trace : ℕ → Cabinet → Entry → List ℕ
record_trace = record_text (λ count e did book. effect_text count did book)

-- why reading stopped, after n records: a malformed record has a count and leaves the tables, too long a journal has neither
abbrev pub end_trace : ℕ → Option Refusal → Book → List ℕ
end_trace n None book = []
end_trace n (Some refusal) book =
    cond (number refusal == 40) (codes "0 40 - " ++ (decimal (value refusal) ++ codes "\n")) (trace_text (n + 1) (Some refusal) [] [] book)

-- a line for each record that was read, and one that says why no more was
pub record Traced (bytes text : List ℕ) : Type 0 where
  pub read : List Entry
  pub refusal : Option Refusal
  pub reads : Reads bytes read refusal
  pub lines : text ≡ told_all after_entry record_trace 1 new_cabinet read ++ end_trace (length read) refusal (after_all after_entry new_cabinet read).book
