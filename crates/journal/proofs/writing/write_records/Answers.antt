-- One record behind another.
use Rattle.std.proofs.Common.{refl}
use Rattle.journal.proofs.Journals.{room_left, wrote_more}
use Rattle.journal.proofs.writing.write_records.Goals as goal

pub record-requires : goal.record-requires
record-requires c = room_left c.args.records.now c.loop-record.record-index _ c.loop-record-test.true _ c.loop-record.cursor c.loop-record.invariant refl c.requires

pub loop-record-preserved : goal.loop-record-preserved
loop-record-preserved c =
    wrote_more c.args.records.now c.loop-record.record-index _ c.loop-record-test.true _ c.loop-record.cursor c.loop-record.invariant refl c.requires c.record.new.self c.record.ensures
