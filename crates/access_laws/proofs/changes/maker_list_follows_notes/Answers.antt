-- What each note of a maker list says.
use Rattle.access_laws.proofs.ListFollows.{maker_notes}
use Rattle.access_laws.proofs.changes.maker_list_follows_notes.Goals as goal

pub returns-clause-notes : goal.returns-clause-notes
returns-clause-notes c = maker_notes
