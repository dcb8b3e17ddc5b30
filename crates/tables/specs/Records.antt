-- The row of the record that a row is read as. Assumes nothing.
use Rattle.std.specs.Prelude.{cond}
use Rattle.logins.specs.Logins.{free_row, sound}
use Rattle.logins.specs.declared.rows.LoginRow.{LoginRow}

-- a row that is no record is read as a free one
abbrev pub mended : LoginRow → LoginRow
mended r = cond (sound r) r free_row
