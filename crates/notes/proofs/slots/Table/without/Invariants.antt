-- The entries passed so far, but for the key's, are put in.
use Rattle.std.proofs.Common.{◌≡◌, ◌≤◌, take}
use Rattle.notes.specs.Held.{held}
use Rattle.notes.specs.Tables.{by_key, others}
use Rattle.notes.proofs.slots.Table.without.Given as goal

abbrev pub invariant-loop-e : goal.invariant-loop-e
invariant-loop-e g l = (held l.rest ≡ others (by_key g.E.Keyed.key g.E.Key.PartialEq.eq) (take l.e-index l.e-items) l.key) × (l.rest.count ≤ l.e-index)
