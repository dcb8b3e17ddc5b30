-- The calls so far, and then those of the records that are left.
use Rattle.std.proofs.Common.{◌≡◌, ◌++◌, drop, vec_items}
use Rattle.journal.specs.Entries.{entries}
use Rattle.replay.specs.Calls.{calls_of}
use Rattle.replay.proofs.calls.calls_of.Given as goal

abbrev pub invariant-loop-record : goal.invariant-loop-record
invariant-loop-record l = vec_items l.calls ++ calls_of (entries (drop l.record-index l.records)) ≡ calls_of (entries l.records)
