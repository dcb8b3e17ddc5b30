use Rattle.std.proofs.Common.{◌≡◌, ◌+◌, ◌-◌, get_or, arith}
use Rattle.std.proofs.lemmas.Bool.Decides.{nat_tests}
use Rattle.tables.proofs.Places.{next_free_more, next_free_none}
use Rattle.tables.proofs.entries.Places.first_free.Goals as goal

pub returns-then-not-is_taken : goal.returns-then-not-is_taken
returns-then-not-is_taken g c =
    let e = next_free_more (λ k. g.E.Entry.taken (get_or c.args.self.now.entries k g.E.Entry.free)) g.row.N c.loop.place (g.row.N - (c.loop.counter + 1)) (g.row.N - c.loop.counter) (omega arith) in
    grind (arith, nat_tests)

pub loop-preserved : goal.loop-preserved
loop-preserved g c =
    let e = next_free_more (λ k. g.E.Entry.taken (get_or c.args.self.now.entries k g.E.Entry.free)) g.row.N c.loop.place (g.row.N - (c.loop.counter + 1)) (g.row.N - c.loop.counter) (omega arith) in
    grind (arith, nat_tests)

pub returns : goal.returns
returns g c =
    let e = next_free_none (λ k. g.E.Entry.taken (get_or c.args.self.now.entries k g.E.Entry.free)) g.row.N c.loop.place in
    let z : g.row.N - c.loop.counter ≡ 0 = omega arith in
    record { value = cc; within = tt }
