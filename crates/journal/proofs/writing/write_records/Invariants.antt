-- The records so far stand at the front.
use Rattle.std.proofs.Common.{take}
use Rattle.journal.specs.Areas.{Wrote}
use Rattle.journal.specs.Entries.{entries, journal_code}
use Rattle.journal.proofs.writing.write_records.Given as goal

abbrev pub invariant-loop-record : goal.invariant-loop-record
invariant-loop-record l = Wrote l.initial.cursor l.cursor (journal_code (entries (take l.record-index l.records)))
