-- The law of a portal's notes.
use Rattle.bus_laws.proofs.PortalFollows.{portal_follows}
use Rattle.bus_laws.proofs.topology.portal_follows_notes.Goals as goal

pub returns : goal.returns
returns g c = portal_follows g.B.Bus.model
