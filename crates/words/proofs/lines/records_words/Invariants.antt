-- The lines so far, and then those of the records that are left.
use Rattle.std.proofs.Common.{◌≡◌, ◌+◌, ◌++◌, drop, string_bytes}
use Rattle.journal.specs.Entries.{entries}
use Rattle.words.specs.Lines.{lines_text}
use Rattle.words.proofs.lines.records_words.Given as goal

abbrev pub invariant-loop-k : goal.invariant-loop-k
invariant-loop-k l = string_bytes l.text ++ lines_text (l.k + 1) (entries (drop l.k l.records)) ≡ lines_text 1 (entries l.records)
