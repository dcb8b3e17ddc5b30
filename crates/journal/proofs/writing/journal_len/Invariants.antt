-- The bytes of the records so far.
use Rattle.std.proofs.Common.{◌≡◌, ◌*◌, ◌≤◌, length, take}
use Rattle.journal.specs.Entries.{entries, journal_code}
use Rattle.journal.specs.Journals.{AllWithin}
use Rattle.journal.proofs.writing.journal_len.Given as goal

abbrev pub invariant-loop-record : goal.invariant-loop-record
invariant-loop-record l =
    (l.total ≡ length (journal_code (entries (take l.record-index l.records))))
    × AllWithin (entries (take l.record-index l.records))
    × (l.total ≤ 46 * l.record-index)
