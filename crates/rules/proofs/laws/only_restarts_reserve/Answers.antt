use Rattle.rules.proofs.HoldSteps.{reserves_none}
use Rattle.rules.proofs.laws.only_restarts_reserve.Goals as goal

pub returns : goal.returns
returns g c = λ x call a y step e slot. reserves_none g.B.Bus.model g.A.Access.model g.met.B.Bus.lawful slot x call a y step e
