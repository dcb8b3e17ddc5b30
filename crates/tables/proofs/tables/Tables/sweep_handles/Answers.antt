use Rattle.std.proofs.Common.{rules, arith}
use Rattle.logins.specs.Rows.{handles_size, free_handle}
use Rattle.tables.specs.Events.{swept}
use Rattle.tables.proofs.Sweeps.{mapped}
use Rattle.tables.proofs.tables.Tables.sweep_handles.Goals as goal

pub returns : goal.returns
returns c =
    let same = mapped (swept c.args.self.now.logins.entries c.args.sweep) c.args.self.now.handles.entries c.change_each.new.self.entries free_handle handles_size c.args.self.now.handles.size c.change_each.new.self.size (λ k h. let e = c.change_each.ensures.entries k h in search rules) in
    grind arith
