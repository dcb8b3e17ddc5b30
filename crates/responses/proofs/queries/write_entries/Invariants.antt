-- The entries so far, and then those of the logins that are left.
use Rattle.std.proofs.Common.{◌≡◌, ◌*◌, ◌≤◌, ◌++◌, take, drop}
use Rattle.tables.specs.Books.{book_of}
use Rattle.rules.specs.Responses.{query_entries}
use Rattle.responses.proofs.queries.write_entries.Given as goal

abbrev pub invariant-loop-slot : goal.invariant-loop-slot
invariant-loop-slot l =
    (take l.at l.area ++ query_entries l.unit l.left l.slot (drop l.slot (book_of l.tables).logins) ≡ query_entries l.unit l.room 0 (book_of l.tables).logins)
    × (drop l.at l.area ≡ drop l.at l.fn.area)
    × (l.at ≤ 12 * l.slot)
