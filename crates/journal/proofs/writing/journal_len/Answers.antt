-- One record more; a slice of records is too short in memory for its bytes to pass 64 bits.
use Rattle.std.proofs.Common.{◌≡◌, List, length, take, ap, ◌∙◌, subst, arith}
use Rattle.std.proofs.lemmas.List.{take_all}
use Rattle.journal.specs.Entries.{entries, journal_code}
use Rattle.journal.specs.Journals.{AllWithin}
use Rattle.journal.specs.declared.record.Record.{Record}
use Rattle.journal.proofs.Journals.{total_more, within_more}
use Rattle.journal.proofs.writing.journal_len.Goals as goal

pub overflow_add-total : goal.overflow_add-total
overflow_add-total c = omega arith

pub loop-record-preserved : goal.loop-record-preserved
loop-record-preserved c =
    let i = c.loop-record.record-index in
    let rs = c.args.records.now in (
      total_more rs i _ c.loop-record-test.true c.loop-record.total c.record_len-total.result c.loop-record.invariant.0 c.record_len-total.ensures.value,
      within_more rs i _ c.loop-record-test.true c.loop-record.invariant.1 c.record_len-total.ensures.within,
      omega arith,
    )

pub returns : goal.returns
returns c =
    let rs = c.args.records.now in
    let all : take c.loop-record.record-index rs ≡ rs = take_all c.loop-record.record-index rs c.loop-record-test.false in
    record {
      value = c.loop-record.invariant.0 ∙ ap (λ (z : List Record). length (journal_code (entries z))) all;
      within = subst (λ (z : List Record). AllWithin (entries z)) all c.loop-record.invariant.1;
    }
