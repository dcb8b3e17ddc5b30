-- LOGIN, its update, RECONNECT and LOGOUT. Assumes nothing.
use Rattle.std.specs.Prelude.{ℕ, ◌+◌, ◌-◌, Bool, true, cond, not, ◌&&◌, ◌||◌, [], Some, None, Option, ◌==◌, nat_le, nat_lt}
use Rattle.reader.specs.Ids.{global}
use Rattle.reader.specs.Requests.{hold_asked}
use Rattle.reader.specs.declared.ids.NodeId.{NodeId}
use Rattle.reader.specs.declared.ids.Eui64.{Eui64}
use Rattle.reader.specs.declared.refusal.Refusal.TheVariants.{AccessDenied, LogicalUnitNotSupported, ResourcesUnavailable, FunctionRejected, LoginIdNotRecognized}
use Rattle.reader.specs.declared.request.Request.{Request}
use Rattle.logins.specs.Logins.{holder, row_after}
use Rattle.logins.specs.Rows.{row_at, in_use}
use Rattle.logins.specs.Tests.{among, meant}
use Rattle.logins.specs.declared.rows.Handle.{Handle}
use Rattle.logins.specs.declared.rows.HandleSweep.TheVariants.{AllOf}
use Rattle.logins.specs.declared.rows.Holders.TheVariants.{All, OfUnit, ExclusiveTo, Owning}
use Rattle.logins.specs.declared.rows.LoginEvent.TheVariants.{Reconnect}
use Rattle.logins.specs.declared.rows.LoginRow.{LoginRow}
use Rattle.logins.specs.declared.rows.WhichHandle.TheVariants.{Own}
use Rattle.tables.specs.Books.{Book, put_login}
use Rattle.tables.specs.Events.{given_login, given_handle, moved_handle, swept_book, ended}
use Rattle.tables.specs.Searches.{count, first, free_login, free_handle_place}
use Rattle.rules.specs.Responses.{login_response}
use Rattle.rules.specs.Scenes.{Scene, Outcome, refuse, grant, own_login}

abbrev pub unit_of : Request → ℕ
unit_of q = q.unit_or_login_id

abbrev pub login_id : Request → ℕ
login_id q = q.unit_or_login_id

abbrev pub hold_of : Request → ℕ
hold_of q = hold_asked q.reconnect q.response_length

-- from another bus without awareness, or no room for the response
abbrev pub rejected : NodeId → Request → Bool
rejected source q =
    (global source && not q.aware) || (nat_lt q.response_length 12 || (q.aware && nat_lt q.response_length 16))

-- not admitted, or the owner holds the unit, or exclusive is asked of a unit that has a holder, or a holder is exclusive
abbrev pub denied : Scene → Eui64 → Request → Bool
denied s eui q =
    not (s.admits eui (unit_of q))
    || (nat_lt 0 (count (among (Owning eui (unit_of q))) s.book.logins)
    || ((q.exclusive_or_allocate && nat_lt 0 (count (among (OfUnit (unit_of q))) s.book.logins))
    || nat_lt 0 (count (among (ExclusiveTo (unit_of q))) s.book.logins)))

abbrev pub logins_in_use : Book → ℕ
logins_in_use b = count (among All) b.logins

abbrev pub handles_in_use : Book → ℕ
handles_in_use b = count in_use b.handles

-- the login that is granted
abbrev pub new_row : NodeId → Eui64 → Request → LoginRow
new_row source eui q =
    record {
      unit = unit_of q;
      owner_id = source;
      owner_eui_64 = eui;
      status_fifo = q.status_fifo;
      exclusive = q.exclusive_or_allocate;
      aware = q.aware;
      hold = hold_of q;
      ticks_left = 0;
    }

-- the own handle of a login stands at its owner's node
abbrev pub own_handle : ℕ → Eui64 → NodeId → Handle
own_handle id eui node = record { login = id; eui_64 = eui; node = node; own = true }

-- an aware login brings an own handle, if there is a place for it
abbrev pub login_at : Scene → NodeId → Eui64 → Request → ℕ → Option ℕ → Outcome
login_at s source eui q slot None = refuse (ResourcesUnavailable (handles_in_use s.book))
login_at s source eui q slot (Some place) =
    grant (login_response s.own slot (place + 1) (hold_of q) q.response_length) (
    given_handle (given_login s.book slot (new_row source eui q)) place (own_handle (slot + 1) eui source)
    )

abbrev pub login_in : Scene → NodeId → Eui64 → Request → Option ℕ → Outcome
login_in s source eui q None = refuse (ResourcesUnavailable (logins_in_use s.book))
login_in s source eui q (Some slot) =
    cond q.aware (login_at s source eui q slot (free_handle_place s.book)) (
    grant (login_response s.own slot 0 (hold_of q) q.response_length) (given_login s.book slot (new_row source eui q))
    )

abbrev pub login_outcome : Scene → NodeId → Eui64 → Request → Outcome
login_outcome s source eui q =
    cond (nat_lt 3 (unit_of q)) (refuse LogicalUnitNotSupported) (
    cond (rejected source q) (refuse FunctionRejected) (
    cond (denied s eui q) (refuse (AccessDenied (unit_of q))) (login_in s source eui q (free_login s.book))
    )
    )

-- unit, owner and ticks stay, the rest is replaced
abbrev pub updated_row : LoginRow → Request → LoginRow
updated_row r q =
    record {
      unit = r.unit;
      owner_id = r.owner_id;
      owner_eui_64 = r.owner_eui_64;
      status_fifo = q.status_fifo;
      exclusive = q.exclusive_or_allocate;
      aware = q.aware;
      hold = hold_of q;
      ticks_left = r.ticks_left;
    }

-- the number of the handle at a place, 0 where there is none
abbrev pub handle_number : Option ℕ → ℕ
handle_number None = 0
handle_number (Some place) = place + 1

abbrev pub updated : Scene → Request → ℕ → LoginRow → Book
updated s q slot r = put_login s.book slot (updated_row r q)

abbrev pub aware_update : Scene → Request → ℕ → LoginRow → Option ℕ → Outcome
aware_update s q slot r None = refuse (ResourcesUnavailable (handles_in_use s.book))
aware_update s q slot r (Some place) =
    grant (login_response s.own slot (place + 1) (hold_of q) q.response_length) (
    given_handle (updated s q slot r) place (own_handle (slot + 1) r.owner_eui_64 r.owner_id)
    )

-- newly aware brings an own handle, still aware keeps its handles, and no longer aware frees them
abbrev pub update_in : Scene → Request → ℕ → LoginRow → Outcome
update_in s q slot r =
    cond q.aware (
    cond r.aware (
    grant (login_response s.own slot (handle_number (first (meant (slot + 1) Own) 0 s.book.handles)) (hold_of q) q.response_length) (
    updated s q slot r
    )
    ) (aware_update s q slot r (free_handle_place s.book))
    ) (
    grant (login_response s.own slot 0 (hold_of q) q.response_length) (
    cond r.aware (swept_book (updated s q slot r) (AllOf (slot + 1))) (updated s q slot r)
    )
    )

-- exclusive is asked of a unit that has another holder
abbrev pub disputed : Scene → Request → ℕ → Bool
disputed s q slot = q.exclusive_or_allocate && nat_lt 1 (count (among (OfUnit (row_at s.book.logins slot).unit)) s.book.logins)

abbrev pub update_of : Scene → NodeId → Request → Option ℕ → Outcome
update_of s source q None = refuse LoginIdNotRecognized
update_of s source q (Some slot) =
    cond (rejected source q) (refuse FunctionRejected) (
    cond (q.exclusive_or_allocate && nat_lt 1 (count (among (OfUnit (row_at s.book.logins slot).unit)) s.book.logins)) (
    refuse (AccessDenied (row_at s.book.logins slot).unit)
    ) (update_in s q slot (row_at s.book.logins slot))
    )

abbrev pub update_outcome : Scene → NodeId → Request → Outcome
update_outcome s source q = update_of s source q (own_login s.book source (login_id q))

-- the own handle goes where the login goes
abbrev pub own_handle_moved : Book → NodeId → Option ℕ → Book
own_handle_moved b node None = b
own_handle_moved b node (Some place) = moved_handle b place node

-- the login is a holder, and its owner is the one at the source
abbrev pub may_reconnect : Scene → Eui64 → Request → Bool
may_reconnect s eui q =
    nat_le 1 (login_id q)
    && (holder (row_at s.book.logins (login_id q - 1)) && (row_at s.book.logins (login_id q - 1)).owner_eui_64.0 == eui.0)

-- the owner comes back to its login, wherever it is now
abbrev pub reconnect_outcome : Scene → NodeId → Eui64 → Request → Outcome
reconnect_outcome s source eui q =
    cond (may_reconnect s eui q) (
    grant [] (
    own_handle_moved (
    put_login s.book (login_id q - 1) (row_after (row_at s.book.logins (login_id q - 1)) (Reconnect source))
    ) source (first (meant (login_id q) Own) 0 s.book.handles)
    )
    ) (refuse LoginIdNotRecognized)

abbrev pub logout_of : Scene → Option ℕ → Outcome
logout_of s None = refuse LoginIdNotRecognized
logout_of s (Some slot) = grant [] (ended s.book slot)

abbrev pub logout_outcome : Scene → NodeId → Request → Outcome
logout_outcome s source q = logout_of s (own_login s.book source (login_id q))
