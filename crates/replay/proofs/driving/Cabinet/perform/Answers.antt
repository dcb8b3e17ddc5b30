use Rattle.std.proofs.Common.{Result, ap, ◌∙◌}
use Rattle.reader.specs.declared.refusal.Refusal.{Refusal}
use Rattle.replay.specs.Cabinets.{CabinetCall}
use Rattle.replay.specs.Driving.{data_of, quiet}
use Rattle.replay.specs.Listings.{drawn, after_record}
use Rattle.replay.proofs.Performing.{other_record}
use Rattle.replay.proofs.driving.Cabinet.perform.Goals as goal

pub returns : goal.returns
returns c =
    let before = data_of c.args.self.now in
    record {
      effect = c.quiet.ensures ∙ ap quiet c.make.ensures.answer ∙ ap (λ (r : Result CabinetCall Refusal). quiet (drawn before r)) c.call_of.ensures
          ∙ other_record before c.args.record c.in_default.not-Request;
      after = c.make.ensures.after ∙ ap (after_record before) c.call_of.ensures;
    }
