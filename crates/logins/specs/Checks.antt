-- Which rows become a record, and what is wrong with the others. Assumes nothing.
use Rattle.std.specs.Prelude.{◌≡◌, false, cond, not, ◌&&◌, Result, MatchResult}
use Rattle.reader.specs.Ids.{none_id}
use Rattle.logins.specs.Logins.{row_of, holder, sound}
use Rattle.logins.specs.declared.rows.Login.{Login}
use Rattle.logins.specs.declared.rows.LoginRow.{LoginRow}
use Rattle.logins.specs.declared.rows.UnsoundRow.{UnsoundRow}
use Rattle.logins.specs.declared.rows.UnsoundRow.TheVariants.{NodeOfNobody, TicksNotReserved}

-- a node of nobody comes before ticks of a login that is not reserved
abbrev pub fault : LoginRow → UnsoundRow
fault r = cond (not (holder r) && not (none_id r.owner_id)) NodeOfNobody TicksNotReserved

-- the result is the record of this row, or what is wrong with a row that is not sound
abbrev pub Checks : LoginRow → Result Login UnsoundRow → Type 0
Checks r result = MatchResult result (λ l. row_of l ≡ r) (λ e. (sound r ≡ false) × (e ≡ fault r))
