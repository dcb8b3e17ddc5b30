-- What each note of a pair table says.
use Rattle.access_laws.proofs.ListFollows.{pair_notes}
use Rattle.access_laws.proofs.changes.pair_table_follows_notes.Goals as goal

pub returns-clause-notes : goal.returns-clause-notes
returns-clause-notes c = pair_notes
