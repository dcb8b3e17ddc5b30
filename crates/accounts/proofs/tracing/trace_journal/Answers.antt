use Rattle.std.proofs.Common.{vec_items, rules}
use Rattle.journal.specs.Entries.{entries}
use Rattle.accounts.proofs.tracing.trace_journal.Goals as goal

pub returns : goal.returns
returns c =
    record {
      read = entries (vec_items c.in_ok-journal.journal.records);
      refusal = c.in_ok-journal.journal.refusal;
      reads = c.in_ok-journal.ensures;
      lines = search rules;
    }
