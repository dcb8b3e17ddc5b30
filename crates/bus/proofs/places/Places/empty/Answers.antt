-- Empty places are apart.
use Rattle.bus.specs.Seating.{apart_empty}
use Rattle.bus.proofs.places.Places.empty.Goals as goal

pub invariant_of-result-clause-apart : goal.invariant_of-result-clause-apart
invariant_of-result-clause-apart c = apart_empty 63
