use Rattle.std.proofs.Common.{rules, arith}
use Rattle.logins.specs.Rows.{handles_size, free_handle}
use Rattle.tables.specs.Events.{reset_handle}
use Rattle.tables.proofs.Sweeps.{mapped}
use Rattle.tables.proofs.tables.Tables.reset_handles.Goals as goal

pub returns : goal.returns
returns g c =
    let same = mapped (reset_handle (g.B.Bus.model.shows c.args.bus.now)) c.args.self.now.handles.entries c.change_each.new.self.entries free_handle handles_size c.args.self.now.handles.size c.change_each.new.self.size (λ k h. let e = c.change_each.ensures.entries k h in search rules) in
    grind arith
