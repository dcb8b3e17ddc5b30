use Rattle.std.proofs.Common.{length, sym, ap, arith}
use Rattle.journal.proofs.Codes.{code_last, code_more, code_short}
use Rattle.journal.proofs.writing.+number_len.Goals as goal

pub returns-then-n-lt128 : goal.returns-then-n-lt128
returns-then-n-lt128 t c = record { value = sym (ap length (code_last c.args.n (omega arith))); bound = omega arith; fits = omega arith }

pub returns-else-n-lt128 : goal.returns-else-n-lt128
returns-else-n-lt128 t c =
    let more = ap length (code_more c.args.n (omega arith)) in
    let short = code_short c.args.n (omega arith) in
    record { value = omega arith; bound = omega arith; fits = omega arith }
