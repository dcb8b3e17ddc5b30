use Rattle.std.proofs.Common.{refl, ◌∙◌, arith, length-set}
use Rattle.tables.proofs.Sweeps.{written_more}
use Rattle.tables.proofs.entries.Places.change_each.Goals as goal

pub loop-entry-init : goal.loop-entry-init
loop-entry-init g c = record { long = c.args.self.now.size; written = record { done = λ k l. absurd (omega arith); rest = λ k l. refl } }

pub invariant_of-self : goal.invariant_of-self
invariant_of-self g c = record { size = c.loop-entry.invariant.long; turn = c.args.self.now.turn; narrow = c.args.self.now.narrow }

pub loop-entry-preserved : goal.loop-entry-preserved
loop-entry-preserved g c =
    record {
      long = length-set _ _ _ ∙ c.loop-entry.invariant.long;
      written = written_more _ _ _ _ _ _ _ (omega arith) c.step.ensures c.loop-entry.invariant.written;
    }

pub returns-clause-entries : goal.returns-clause-entries
returns-clause-entries g c = λ k l. c.loop-entry.invariant.written.done k (omega arith)
