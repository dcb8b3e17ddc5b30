-- An answer that is right is the value, since local IDs show apart.
use Rattle.std.proofs.Common.{rules}
use Rattle.bus.specs.FindingLemmas.{finds_local_of}
use Rattle.bus.proofs.local_id.Goals as goal

pub returns : goal.returns
returns g c =
    let b = c.args.bus.now in
    let value = finds_local_of (g.B.Bus.model.shows b) c.args.eui (λ i j. g.met.B.Bus.lawful.local_ids_show_apart b i j c.args.eui) c.find.result in
    value (search rules)
