-- The lines so far, and then those of the records that are left; and what these make of the cabinet.
use Rattle.std.proofs.Common.{◌≡◌, ◌+◌, ◌++◌, drop, string_bytes}
use Rattle.journal.specs.Entries.{entries}
use Rattle.replay.specs.Driving.{data_of}
use Rattle.accounts.specs.Journeys.{after_all, told_all}
use Rattle.accounts.specs.Traces.{after_entry, record_text}
use Rattle.accounts.proofs.records.told_records.Given as goal

abbrev pub invariant-loop-k : goal.invariant-loop-k
invariant-loop-k g l =
    (string_bytes l.text ++ told_all after_entry (record_text (g.T.Telling.text l.telling)) (l.k + 1) (data_of l.cabinet) (entries (drop l.k l.records)) ≡ told_all after_entry (record_text (g.T.Telling.text l.telling)) 1 (data_of l.initial.cabinet) (entries l.records))
    × (after_all after_entry (data_of l.cabinet) (entries (drop l.k l.records)) ≡ after_all after_entry (data_of l.initial.cabinet) (entries l.records))
