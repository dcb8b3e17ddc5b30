-- An answer that is right is the value.
use Rattle.std.proofs.Common.{rules}
use Rattle.bus.specs.Seating.{found_is}
use Rattle.bus.proofs.places.Places.find.Goals as goal

pub returns-then-is_none-clause-value : goal.returns-then-is_none-clause-value
returns-then-is_none-clause-value c =
    let s = c.args.self.now in
    found_is s.euis s.apart c.args.eui _ (search rules)

pub returns-in_err-place-clause-value : goal.returns-in_err-place-clause-value
returns-in_err-place-clause-value c =
    let s = c.args.self.now in
    found_is s.euis s.apart c.args.eui _ (search rules)

pub returns-clause-value : goal.returns-clause-value
returns-clause-value c =
    let s = c.args.self.now in
    found_is s.euis s.apart c.args.eui _ (search rules)
