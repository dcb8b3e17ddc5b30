use Rattle.std.proofs.Common.{◌≡◌, ◌-◌, ◌<◌, get_or}
use Rattle.tables.specs.Searches.{next_free}
use Rattle.tables.proofs.entries.Places.first_free.Given as goal

abbrev pub invariant-loop : goal.invariant-loop
invariant-loop g l =
    (l.place < g.row.N)
    × (next_free (λ k. g.E.Entry.taken (get_or l.self.entries k g.E.Entry.free)) g.row.N l.place (g.row.N - l.counter) ≡ next_free (λ k. g.E.Entry.taken (get_or l.self.entries k g.E.Entry.free)) g.row.N l.self.next g.row.N)
