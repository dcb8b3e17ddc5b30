use Rattle.std.proofs.Common.{◌≡◌, length}
use Rattle.tables.proofs.Sweeps.{Written}
use Rattle.tables.proofs.entries.Places.change_each.Given as goal

abbrev pub invariant-loop-entry : goal.invariant-loop-entry
invariant-loop-entry g l = record {
  long : length l.entry-items ≡ g.row.N;
  written : Written (λ x y. g.F.Fn.post l.step (x, tt) y) l.fn.self.entries l.entry-items g.E.Entry.free l.entry-index;
}
