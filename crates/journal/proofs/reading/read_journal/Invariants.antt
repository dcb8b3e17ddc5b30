-- What was read, and then the rest, are the bytes; the rest grows shorter.
use Rattle.std.proofs.Common.{◌≤◌, length, vec_items}
use Rattle.journal.specs.Entries.{entries}
use Rattle.journal.specs.Journals.{longest_journal}
use Rattle.journal.proofs.Journals.{SoFar}
use Rattle.journal.proofs.reading.read_journal.Given as goal

abbrev pub invariant-loop-rest : goal.invariant-loop-rest
invariant-loop-rest l = (length l.bytes ≤ longest_journal) × SoFar l.bytes (entries (vec_items l.records)) l.rest

abbrev pub decreases-loop-rest : goal.decreases-loop-rest
decreases-loop-rest l = length l.rest
