use Rattle.std.proofs.Common.{sym, ap, ◌∙◌}
use Rattle.agent.specs.Targets.{snapshot_of}
use Rattle.replay.specs.Driving.{data_of}
use Rattle.replay.specs.Listings.{drawn, after_record}
use Rattle.replay.proofs.Steps.{steps_told}
use Rattle.replay.proofs.driving.Cabinet.make.Goals as goal

pub returns : goal.returns
returns c =
    let before = data_of c.args.self.now in
    let call = c.in_ok-call.field-0 in
    let told = steps_told (snapshot_of c.args.self.now.target) call c.make.result (snapshot_of c.make.new.self) c.make.ensures in
    record {
      answer = told.answered ∙ sym (ap (drawn before) c.in_ok-call.was);
      after = told.changed ∙ sym (ap (after_record before) c.in_ok-call.was);
    }
