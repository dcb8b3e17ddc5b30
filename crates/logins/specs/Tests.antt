-- Which holders and which handles are meant. Assumes nothing.
use Rattle.std.specs.Prelude.{ℕ, Bool, ◌&&◌, ◌==◌}
use Rattle.logins.specs.Logins.{holder}
use Rattle.logins.specs.declared.rows.Handle.{Handle}
use Rattle.logins.specs.declared.rows.LoginRow.{LoginRow}
use Rattle.logins.specs.declared.rows.Holders.{Holders}
use Rattle.logins.specs.declared.rows.Holders.TheVariants.{All, OfUnit, ExclusiveTo, Owning}
use Rattle.logins.specs.declared.rows.WhichHandle.{WhichHandle}
use Rattle.logins.specs.declared.rows.WhichHandle.TheVariants.{For, Own}

-- which holders are meant
abbrev pub among : Holders → LoginRow → Bool
among All r = holder r
among (OfUnit unit) r = holder r && r.unit == unit
among (ExclusiveTo unit) r = holder r && (r.unit == unit && r.exclusive)
among (Owning eui unit) r = holder r && (r.unit == unit && r.owner_eui_64.0 == eui.0)

-- which handle of a login is meant
abbrev pub meant : ℕ → WhichHandle → Handle → Bool
meant login (For eui) h = h.login == login && h.eui_64.0 == eui.0
meant login Own h = h.login == login && h.own
