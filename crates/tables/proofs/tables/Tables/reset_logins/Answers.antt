use Rattle.std.proofs.Common.{rules, arith}
use Rattle.logins.specs.Rows.{logins_size}
use Rattle.tables.specs.Events.{reset_row}
use Rattle.tables.proofs.Setting.{sound_each}
use Rattle.tables.proofs.Sweeps.{rows_mapped}
use Rattle.tables.proofs.tables.Tables.reset_logins.Goals as goal

pub invariant_of-self : goal.invariant_of-self
invariant_of-self g c =
    record { sound = sound_each _ logins_size c.change_each.new.self.size (λ k h. let e = c.change_each.ensures.entries k h in search rules) }

pub returns : goal.returns
returns g c =
    let same = rows_mapped (reset_row (g.B.Bus.model.shows c.args.bus.now)) c.args.self.now.logins.entries c.change_each.new.self.entries logins_size c.args.self.now.logins.size c.change_each.new.self.size c.args.self.now.sound (λ k h. let e = c.change_each.ensures.entries k h in search rules) in
    grind arith
