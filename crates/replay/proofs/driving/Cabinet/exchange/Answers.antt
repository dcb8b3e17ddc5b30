use Rattle.std.proofs.Common.{◌≡◌, Err, ap, ◌∙◌, rules}
use Rattle.agent.specs.Targets.{snapshot_of}
use Rattle.replay.specs.Driving.{data_of, told_effect}
use Rattle.replay.proofs.Performing.{turned_away, performed}
use Rattle.replay.proofs.driving.Cabinet.exchange.Goals as goal

pub returns-in_err-signalled : goal.returns-in_err-signalled
returns-in_err-signalled c =
    let away = turned_away (data_of c.args.self.now) c.args.source c.args.orb_address c.args.orb.now c.in_err-signalled.field-0.0 c.in_err-signalled.ensures in
    let given : c.from_residual.result ≡ Err c.in_err-signalled.field-0.0 = search rules in
    record { effect = ap told_effect given ∙ away.0; after = away.1 }

pub returns : goal.returns
returns c =
    let done =
    performed c.args.source c.args.orb_address c.args.orb.now c.told-orb c.in_ok-signalled.signalled c.in_ok-signalled.ensures (snapshot_of c.args.self.now.target) (snapshot_of c.answer.new.target) c.answer.new.response c.answer.result c.answer.ensures.answers c.unwrap-answer.result.0 c.unwrap-answer.result.1 c.close-status.result c.unwrap-answer.ensures c.close-status.ensures in
    record { effect = done.0; after = done.1 }
