use Rattle.rules.proofs.HoldSteps.{calmed}
use Rattle.rules.proofs.laws.only_its_reconnect_touches_a_reserved_login.Goals as goal

pub returns : goal.returns
returns g c = λ x source q a y step slot p h. (calmed g.B.Bus.model g.A.Access.model g.met.B.Bus.lawful slot x y source q a step p).stays h
