use Rattle.rules.proofs.HandleRunning.{handles_hold}
use Rattle.rules.proofs.Holding.{holds_kept, holds_kept_in}
use Rattle.rules.proofs.Running.{claims_hold}
use Rattle.rules.proofs.laws.law_holds_over_every_run.Goals as goal

pub returns-clause-law : goal.returns-clause-law
returns-clause-law g c =
    record {
      claims = claims_hold g.B.Bus.model g.A.Access.model g.met.A.Access.lawful;
      handles = handles_hold g.B.Bus.model g.A.Access.model g.met.B.Bus.lawful;
      holds = holds_kept g.B.Bus.model g.A.Access.model g.met.B.Bus.lawful;
    }

pub returns-clause-after : goal.returns-clause-after
returns-clause-after g c start new history run =
    record {
      claims = claims_hold g.B.Bus.model g.A.Access.model g.met.A.Access.lawful start new history run;
      handles = handles_hold g.B.Bus.model g.A.Access.model g.met.B.Bus.lawful start new history run;
      holds = holds_kept_in g.B.Bus.model g.A.Access.model g.met.B.Bus.lawful start new history run;
    }
