-- From 8 on, 2 ^ reconnect is at least 256.
use Rattle.std.proofs.Common.{◌^◌, ◌≤◌, arith, pow_mono, rules}
use Rattle.reader.proofs.request.Request.hold.Goals as goal

pub returns-then-self-ge8 : goal.returns-then-self-ge8
returns-then-self-ge8 c =
    let high : 8 ≤ c.args.self.now.reconnect = omega arith in
    let much : 2 ^ 8 ≤ 2 ^ c.args.self.now.reconnect = pow_mono high in
    search rules
