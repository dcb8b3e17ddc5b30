use Rattle.std.proofs.Common.{ap, ◌∙◌, subst}
use Rattle.rules.specs.Runs.{scene}
use Rattle.rules.specs.Scenes.{Outcome, stored}
use Rattle.rules.specs.Serving.{outcome}
use Rattle.management.specs.Serving.{Serves}
use Rattle.agent.specs.Targets.{snapshot_of}
use Rattle.agent.proofs.Answering.{in_area_fits}
use Rattle.agent.proofs.answer.LinkGuard.serve.Goals as goal

pub returns : goal.returns
returns g c =
    let x = snapshot_of c.args.target.now in
    let y = snapshot_of c.serve.new.self in
    let area = c.args.response.now in
    let e = in_area_fits area (outcome (scene g.B.Bus.model g.A.Access.model x) c.args.source c.args.request.now) c.requires.smallest_area_in_bounds in
    record {
      served = subst (λ (o : Outcome). Serves x o c.serve.result y) e c.serve.ensures.served;
      area = c.serve.ensures.area ∙ ap (stored area) e;
      step = c.serve.ensures.step c.requires.smallest_area_in_bounds;
    }
