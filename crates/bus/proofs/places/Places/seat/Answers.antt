-- The places stay apart.
use Rattle.std.proofs.Common.{rules}
use Rattle.bus.specs.Seating.{apart_seat}
use Rattle.bus.proofs.places.Places.seat.Goals as goal

pub invariant_of-self-clause-apart : goal.invariant_of-self-clause-apart
invariant_of-self-clause-apart c =
    let s = c.args.self.now in
    apart_seat s.euis s.apart s.size c.args.eui c.args.node (search rules)
