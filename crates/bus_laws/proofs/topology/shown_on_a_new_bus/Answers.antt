-- The story at a portal on a new local bus, from the contracts alone.
use Rattle.std.proofs.Common.{ap, ◌∙◌}
use Rattle.bus.specs.LocalBuses.{local_tables}
use Rattle.bus_laws.proofs.Topologies.{shown_first}
use Rattle.bus_laws.proofs.topology.shown_on_a_new_bus.Goals as goal

pub returns : goal.returns
returns c =
    let below = ap local_tables c.new-bus.ensures.below ∙ c.new.ensures in
    shown_first c.new-bus.result c.shown_after_reset.new.bus c.new-bus.ensures.tables below c.shown_after_reset.ensures
