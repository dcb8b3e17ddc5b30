use Rattle.std.proofs.Common.{vec_items, rules}
use Rattle.journal.specs.Entries.{entries}
use Rattle.words.proofs.lines.journal_words.Goals as goal

pub returns : goal.returns
returns c =
    let rs = vec_items c.in_ok-journal.journal.records in
    record {
      read = entries rs;
      refusal = c.in_ok-journal.journal.refusal;
      reads = c.in_ok-journal.ensures;
      words = search rules;
    }
