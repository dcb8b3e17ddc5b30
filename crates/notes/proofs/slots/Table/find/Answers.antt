-- The first entry for the key, where it stands, is copied.
use Rattle.std.proofs.Common.{rules}
use Rattle.std.proofs.lemmas.Iterator.{YieldsList-from_slice}
use Rattle.std.proofs.lemmas.Iterator.Search.{find_from_yields_List}
use Rattle.notes.specs.Held.{held}
use Rattle.notes.specs.Tables.{by_key}
use Rattle.notes.proofs.slots.Table.find.Goals as goal

pub returns : goal.returns
returns g c =
    let found = find_from_yields_List (λ x. by_key g.E.Keyed.key g.E.Key.PartialEq.eq x c.args.key) _ _ _ c.find.ensures.ran (YieldsList-from_slice (held c.args.self.now) (cc)) (λ x b q k. search rules) in
    cc
