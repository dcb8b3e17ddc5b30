-- What a reader finds fits its bits.
use Rattle.std.proofs.Common.{sym, arith}
use Rattle.journal.proofs.Finding.{number_sound}
use Rattle.journal.proofs.numbers.read_half.Goals as goal

pub overflow_cast-result : goal.overflow_cast-result
overflow_cast-result c =
    let there = number_sound 16 c.args.bytes.now c.in_ok-number.number c.in_ok-number.rest.now (λ k. omega (arith, c.type_inv.bytes k)) (sym c.in_ok-number.ensures) in
    omega (arith, there.fits)
