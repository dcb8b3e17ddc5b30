use Rattle.replay.proofs.Steps.{steps_told}
use Rattle.replay.proofs.laws.data_tell_every_step.Goals as goal

pub returns : goal.returns
returns c = steps_told
