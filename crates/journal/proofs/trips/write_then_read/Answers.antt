-- The front of the area is the journal, and reads back as its records.
use Rattle.std.proofs.Common.{vec_items, arith}
use Rattle.std.proofs.lemmas.Result.{IfOk-weaker}
use Rattle.journal.specs.Entries.{entries}
use Rattle.journal.proofs.Again.{answered, front_is, read_again}
use Rattle.journal.proofs.trips.write_then_read.Goals as goal

pub returns-in-Ok : goal.returns-in-Ok
returns-in-Ok c =
    let es = entries c.args.records.now in
    let told = c.in-Ok.ensures in
    let h = answered es c.args.area.now c.in-Ok.end told.value in
    let front = front_is es c.args.area.now c.write_journal.new.area c.in-Ok.end _ h told.after (omega arith) in
    IfOk-weaker c.read_journal.result _ _ (λ j. read_again es c.args.area.now _ h.held front told.within h.short (entries (vec_items j.records)) j.refusal) c.read_journal.ensures
