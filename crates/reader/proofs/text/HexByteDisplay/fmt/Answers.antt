-- A byte has two digits.
use Rattle.std.proofs.lemmas.Fmt.{hex_byte}
use Rattle.std.proofs.Common.{true, rules, ◌<◌}
use Rattle.reader.specs.Texts.{hex2}
use Rattle.reader.proofs.text.HexByteDisplay.fmt.Goals as goal

pub returns-clause-writes : goal.returns-clause-writes
unfolding hex2
returns-clause-writes g c plain ok =
    let small : c.args.self.now.0 < 256 = search rules in
    rw (hex_byte true c.args.self.now.0 small) at (simp (c.laid_out.ensures, c.in_radix.ensures) at c.write.ensures.writes) plain ok
