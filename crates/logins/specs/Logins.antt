-- A login, and what each event makes of it. Assumes nothing.
use Rattle.std.specs.Prelude.{ℕ, ◌+◌, ◌-◌, Bool, false, cond, not, ◌&&◌, ◌||◌, Some, None, Option, ◌==◌, nat_le}
use Rattle.reader.specs.declared.ids.NodeId.{NodeId}
use Rattle.reader.specs.declared.ids.Eui64.{Eui64}
use Rattle.reader.specs.Ids.{none_id, none_eui, local}
use Rattle.logins.specs.Owners.{waiting}
use Rattle.logins.specs.declared.rows.Login.{Login}
use Rattle.logins.specs.declared.rows.LoginRow.{LoginRow}
use Rattle.logins.specs.declared.rows.LoginState.{LoginState}
use Rattle.logins.specs.declared.rows.LoginState.TheVariants.{Free, Reserved, Active}
use Rattle.logins.specs.declared.rows.LoginEvent.{LoginEvent}
use Rattle.logins.specs.declared.rows.LoginEvent.TheVariants.{Reset, NetUpdate, Tick, Reconnect}

abbrev pub nowhere : NodeId
nowhere = record { 0 = 0xFFFF }

abbrev pub nobody : Eui64
nobody = record { 0 = 0xFFFF_FFFF_FFFF_FFFF }

-- a record as the row that it is written back as
abbrev pub row_of : Login → LoginRow
row_of l =
    record {
      unit = l.unit;
      owner_id = l.owner_id;
      owner_eui_64 = l.owner_eui_64;
      status_fifo = l.status_fifo;
      exclusive = l.exclusive;
      aware = l.aware;
      hold = l.hold;
      ticks_left = l.ticks_left;
    }

-- a free login is as new: every field 0 or none
abbrev pub free_row : LoginRow
free_row =
    record {
      unit = 0;
      owner_id = nowhere;
      owner_eui_64 = nobody;
      status_fifo = 0;
      exclusive = false;
      aware = false;
      hold = 0;
      ticks_left = 0;
    }

abbrev pub holder : LoginRow → Bool
holder r = not (none_eui r.owner_eui_64)

abbrev pub reserved : LoginRow → Bool
reserved r = waiting r.owner_id r.owner_eui_64

abbrev pub active : LoginRow → Bool
active r = holder r && not (none_id r.owner_id)

abbrev pub state : LoginRow → LoginState
state r = cond (none_eui r.owner_eui_64) Free (cond (none_id r.owner_id) Reserved Active)

-- no owner ID without an owner EUI-64, and ticks left only while it is reserved
abbrev pub sound : LoginRow → Bool
sound r = (holder r || none_id r.owner_id) && (reserved r || r.ticks_left == 0)

-- the same login elsewhere, with so many ticks left
abbrev pub moved : LoginRow → NodeId → ℕ → LoginRow
moved r id ticks =
    record {
      unit = r.unit;
      owner_id = id;
      owner_eui_64 = r.owner_eui_64;
      status_fifo = r.status_fifo;
      exclusive = r.exclusive;
      aware = r.aware;
      hold = r.hold;
      ticks_left = ticks;
    }

-- reserved for its owner: hold + 2 ticks from the first gap on
abbrev pub held_back : LoginRow → LoginRow
held_back r = moved r nowhere (r.hold + 2)

-- where an aware owner went on the local bus, if it is still there
abbrev pub followed : LoginRow → Option NodeId → LoginRow
followed r (Some id) = moved r id 0
followed r None = held_back r

-- one tick less; at 0 it ends
abbrev pub ticked : LoginRow → LoginRow
ticked r = cond (nat_le r.ticks_left 1) free_row (moved r r.owner_id (r.ticks_left - 1))

-- what an event makes of a login, by its state
abbrev pub after_event : LoginState → LoginEvent → LoginRow → LoginRow
after_event Free (Reset found) r = r
after_event Free NetUpdate r = r
after_event Free Tick r = r
after_event Free (Reconnect id) r = r
after_event Reserved (Reset found) r = held_back r
after_event Reserved NetUpdate r = held_back r
after_event Reserved Tick r = ticked r
after_event Reserved (Reconnect id) r = moved r id 0
after_event Active (Reset found) r = cond r.aware (cond (local r.owner_id) (followed r found) r) (held_back r)
after_event Active NetUpdate r = held_back r
after_event Active Tick r = r
after_event Active (Reconnect id) r = moved r id 0

abbrev pub row_after : LoginRow → LoginEvent → LoginRow
row_after r event = after_event (state r) event r
