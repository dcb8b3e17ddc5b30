-- What is promised of handles and of owners' node IDs. Assumes nothing.
use Rattle.std.specs.Prelude.{◌≡◌, ℕ, ◌+◌, ◌-◌, ◌<◌, true, List, Some, Option}
use Rattle.reader.specs.declared.ids.NodeId.{NodeId}
use Rattle.reader.specs.declared.ids.Eui64.{Eui64}
use Rattle.bus.specs.Meaning.{BusModel}
use Rattle.access.specs.Meaning.{AccessModel}
use Rattle.logins.specs.Logins.{holder}
use Rattle.logins.specs.Rows.{row_at, handle_at, in_use}
use Rattle.logins.specs.declared.rows.Handle.{Handle}
use Rattle.logins.specs.declared.rows.LoginRow.{LoginRow}
use Rattle.rules.specs.Runs.{Snapshot, Event, Run, now_at}

pub record AwareHolder (r : LoginRow) : Type 0 where
  pub held : holder r ≡ true
  pub is_aware : r.aware ≡ true

-- the login of a handle
abbrev pub login_of : List LoginRow → Handle → LoginRow
login_of rows h = row_at rows (h.login - 1)

-- the own handle of the login with this ID, whose owner has this EUI-64
pub record OwnHandle (id : ℕ) (owner : Eui64) (h : Handle) : Type 0 where
  pub of_login : h.login ≡ id
  pub is_own : h.own ≡ true
  pub has_owner : h.eui_64 ≡ owner

-- by what the bus shows; a node ID has 16 bits, so that each one but none is below FFFFh (no law binds a reset at larger numbers)
pub record HandleClaims (shows : NodeId → Option Eui64) (rows : List LoginRow) (handles : List Handle) : Type 0 where
  -- a handle in use belongs to an aware holder
  pub handle_belongs_to_an_aware_holder : (p : ℕ) → in_use (handle_at handles p) ≡ true → AwareHolder (login_of rows (handle_at handles p))
  -- an aware holder has an own handle, with its owner's EUI-64
  pub aware_holder_has_its_own_handle : (i : ℕ) → AwareHolder (row_at rows i) → (p : ℕ) × OwnHandle (i + 1) (row_at rows i).owner_eui_64 (handle_at handles p)
  -- and no other own handle
  pub own_handle_is_one : (p q : ℕ) → in_use (handle_at handles p) ≡ true → (handle_at handles p).own ≡ true → (handle_at handles q).own ≡ true
      → (handle_at handles p).login ≡ (handle_at handles q).login → p ≡ q
  -- every own handle has the EUI-64 of its login's owner
  pub own_handle_has_its_owner : (p : ℕ) → in_use (handle_at handles p) ≡ true → (handle_at handles p).own ≡ true
      → (handle_at handles p).eui_64 ≡ (login_of rows (handle_at handles p)).owner_eui_64
  -- where a holder has an owner ID, the bus shows its owner
  pub owner_is_shown : (i : ℕ) → holder (row_at rows i) ≡ true → (row_at rows i).owner_id.0 < 0xFFFF
      → shows (row_at rows i).owner_id ≡ Some (row_at rows i).owner_eui_64
  -- where a handle has a node ID, the bus shows its EUI-64
  pub handle_is_shown : (p : ℕ) → in_use (handle_at handles p) ≡ true → (handle_at handles p).node.0 < 0xFFFF
      → shows (handle_at handles p).node ≡ Some (handle_at handles p).eui_64

-- after every run from such a target
abbrev pub HandlesHold : {B A N : Type 0} → (Snapshot B A → Type 0) → BusModel B → AccessModel A N → Type 0
HandlesHold {B} {A} {N} Begins m n =
    (start : Snapshot B A) → Begins start → (history : List (Event B A N)) → Run m n start history
    → HandleClaims (m.shows (now_at start history).bus) (now_at start history).book.logins (now_at start history).book.handles
