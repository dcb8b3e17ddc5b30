use Rattle.std.proofs.Common.{◌≡◌, ap, ◌∙◌}
use Rattle.agent.specs.Targets.{new_snapshot}
use Rattle.replay.specs.Cabinets.{Cabinet, new_cabinet, cabinet_of, answers}
use Rattle.replay.proofs.Runs.{run_answers}
use Rattle.replay.proofs.cabinet.answers.Goals as goal

pub returns : goal.returns
returns c =
    let bus = c.new_bus-bus.ensures in
    let list = c.new_list-list.ensures in
    let start = new_snapshot c.new_bus-bus.result c.new_list-list.result in
    let new : cabinet_of start ≡ new_cabinet =
    λ i. record { local = bus.local i; portal = bus.portal i; pairs = list.pairs i; stops = list.stops i; book = new_cabinet.book } in
    let played = c.in_ok-played.ensures.played in
    run_answers start played.history played.ran c.args.calls.now _ played.called played.answered ∙ ap (λ (z : Cabinet). answers z c.args.calls.now) new
