use Rattle.rules.proofs.Refusals.{refusal_changes_nothing}
use Rattle.rules.proofs.laws.refusal_changes_nothing.Goals as goal

pub returns : goal.returns
returns c = refusal_changes_nothing
