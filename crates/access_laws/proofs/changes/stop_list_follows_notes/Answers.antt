-- The law of a stop list's notes.
use Rattle.access_laws.proofs.StopFollows.{stop_follows}
use Rattle.access_laws.proofs.changes.stop_list_follows_notes.Goals as goal

pub returns : goal.returns
returns g c = stop_follows g.A.Access.model
