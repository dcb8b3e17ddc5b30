-- What a reader finds stands there, and nothing else does.
use Rattle.std.proofs.Common.{arith}
use Rattle.journal.proofs.Seen.{record_told}
use Rattle.journal.proofs.reading.read_record.Goals as goal

pub returns : goal.returns
returns c = record_told c.args.bytes.now c.read_kind.result (λ k. omega (arith, c.type_inv.bytes k)) c.read_kind.ensures
