-- The story at a stop list on a new pair table, from the contracts alone.
use Rattle.std.proofs.Common.{ap, ◌∙◌}
use Rattle.access.specs.Pairs.{pair_tables}
use Rattle.access_laws.proofs.FirstChange.{admitted_first}
use Rattle.access_laws.proofs.changes.admitted_on_a_new_list.Goals as goal

pub returns : goal.returns
returns c =
    let below = ap pair_tables c.new-list.ensures.below ∙ c.new.ensures in
    admitted_first c.args.pair c.args.stopped c.args.eui c.args.unit c.note.result c.admitted_after_change.result c.new-list.result c.note.new.self c.admitted_after_change.new.list c.new-list.ensures.tables below c.note.ensures c.admitted_after_change.ensures
