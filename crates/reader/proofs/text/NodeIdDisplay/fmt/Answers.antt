-- Sixteen bits have four digits.
use Rattle.std.proofs.Common.{rules, ◌<◌}
use Rattle.reader.proofs.Hexadecimal.{four_digits}
use Rattle.reader.proofs.text.NodeIdDisplay.fmt.Goals as goal

pub returns-clause-writes : goal.returns-clause-writes
returns-clause-writes g c plain ok =
    let small : c.args.self.now.0 < 65536 = search rules in
    rw (four_digits c.args.self.now.0 small) at (simp (c.laid_out.ensures, c.in_radix.ensures) at c.write.ensures.writes) plain ok
