-- What a place given, a login ended, a reset, a net update, a gap and a tick make of the tables. Assumes nothing.
use Rattle.std.specs.Prelude.{ℕ, ◌-◌, Bool, false, cond, not, ◌&&◌, List, map, Option, ◌==◌, nat_le, nat_lt, slice_set}
use Rattle.std.specs.Option.{unwrap_or}
use Rattle.reader.specs.declared.ids.NodeId.{NodeId}
use Rattle.reader.specs.declared.ids.Eui64.{Eui64}
use Rattle.bus.specs.Finding.{local_of}
use Rattle.logins.specs.Logins.{free_row, holder, nowhere, row_after}
use Rattle.logins.specs.Rows.{logins_size, handles_size, row_at, free_handle, in_use, handle_at}
use Rattle.logins.specs.declared.rows.Handle.{Handle}
use Rattle.logins.specs.declared.rows.HandleSweep.{HandleSweep}
use Rattle.logins.specs.declared.rows.HandleSweep.TheVariants.{Orphans, AllOf, OthersOf, NetUpdated}
use Rattle.logins.specs.declared.rows.LoginEvent.{LoginEvent}
use Rattle.logins.specs.declared.rows.LoginEvent.TheVariants.{Reset, NetUpdate, Tick}
use Rattle.logins.specs.declared.rows.LoginRow.{LoginRow}
use Rattle.tables.specs.Books.{Book, with_logins, with_handles, put_login, put_handle}
use Rattle.tables.specs.Searches.{after_place}

-- a login or a handle that is given moves the place where the next search begins
abbrev pub given_login : Book → ℕ → LoginRow → Book
given_login b slot row =
    cond (nat_lt slot logins_size) (
    record {
      logins = slice_set b.logins slot row;
      handles = b.handles;
      next_login = after_place logins_size slot;
      next_handle = b.next_handle;
      ticking = b.ticking;
    }
    ) b

abbrev pub given_handle : Book → ℕ → Handle → Book
given_handle b place handle =
    cond (nat_lt place handles_size) (
    record {
      logins = b.logins;
      handles = slice_set b.handles place handle;
      next_login = b.next_login;
      next_handle = after_place handles_size place;
      ticking = b.ticking;
    }
    ) b

-- the same handle at another node
abbrev pub handle_to : Handle → NodeId → Handle
handle_to h node = record { login = h.login; eui_64 = h.eui_64; node = node; own = h.own }

abbrev pub moved_handle : Book → ℕ → NodeId → Book
moved_handle b place node = put_handle b place (handle_to (handle_at b.handles place) node)

-- a handle of a login that is no holder is freed; so are those of a login, all or but its own; at a net update only own handles stay
abbrev pub swept : List LoginRow → HandleSweep → Handle → Handle
swept rows Orphans h = cond (holder (row_at rows (h.login - 1))) h free_handle
swept rows (AllOf login) h = cond (h.login == login) free_handle h
swept rows (OthersOf login) h = cond (h.login == login && not h.own) free_handle h
swept rows NetUpdated h = cond h.own (handle_to h nowhere) free_handle

abbrev pub swept_book : Book → HandleSweep → Book
swept_book b sweep = with_handles b (map (swept b.logins sweep) b.handles)

-- an ended login is as new, and its handles are free
abbrev pub ended : Book → ℕ → Book
ended b slot = swept_book (put_login b slot free_row) Orphans

abbrev pub ticking_so : Book → Bool → Book
ticking_so b ticking =
    record { logins = b.logins; handles = b.handles; next_login = b.next_login; next_handle = b.next_handle; ticking = ticking }

-- one event for all logins
abbrev pub each_login : Book → LoginEvent → Book
each_login b event = with_logins b (map (λ r. row_after r event) b.logins)

-- after a net update no tick counts until the first gap
abbrev pub net_updated : Book → Book
net_updated b = ticking_so (swept_book (each_login b NetUpdate) NetUpdated) false

-- after the gap each reserved login loses one tick, and those that end lose their handles
abbrev pub tick_counted : Book → Book
tick_counted b = cond b.ticking (swept_book (each_login b Tick) Orphans) b

-- a reset, by what the bus now shows: each login by where its owner is, each handle at FFC0h to FFFFh to its EUI-64's local ID
abbrev pub reset_row : (NodeId → Option Eui64) → LoginRow → LoginRow
reset_row shows r = row_after r (Reset (local_of shows r.owner_eui_64))

abbrev pub reset_handle : (NodeId → Option Eui64) → Handle → Handle
reset_handle shows h =
    cond (in_use h && nat_le 0xFFC0 h.node.0) (handle_to h (unwrap_or (local_of shows h.eui_64) nowhere)) h

abbrev pub was_reset : (NodeId → Option Eui64) → Book → Book
was_reset shows b =
    ticking_so (with_handles (with_logins b (map (reset_row shows) b.logins)) (map (reset_handle shows) b.handles)) false

-- an access change ends every holder that is no longer admitted
abbrev pub kept_row : (Eui64 → ℕ → Bool) → LoginRow → LoginRow
kept_row admits r = cond (holder r && not (admits r.owner_eui_64 r.unit)) free_row r

abbrev pub access_changed : (Eui64 → ℕ → Bool) → Book → Book
access_changed admits b = swept_book (with_logins b (map (kept_row admits) b.logins)) Orphans
