-- The lines so far, and then those of the records and the answers that are left.
use Rattle.std.proofs.Common.{◌≡◌, ◌+◌, ◌++◌, drop, string_bytes}
use Rattle.journal.specs.Entries.{entries}
use Rattle.replay.specs.Drawing.{numbers_from}
use Rattle.replay.specs.Listings.{lines_text}
use Rattle.replay.proofs.listing.lines.Given as goal

abbrev pub invariant-loop-k : goal.invariant-loop-k
invariant-loop-k l =
    string_bytes l.text ++ lines_text (l.k + 1) (numbers_from l.left (entries (drop l.k l.records))) ≡ lines_text 1 (numbers_from l.answers (entries l.records))
