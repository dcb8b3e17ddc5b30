-- What is promised of holders. Assumes nothing.
use Rattle.std.specs.Prelude.{◌≡◌, ℕ, Bool, true, List}
use Rattle.reader.specs.declared.ids.Eui64.{Eui64}
use Rattle.bus.specs.Meaning.{BusModel}
use Rattle.access.specs.Meaning.{AccessModel}
use Rattle.logins.specs.Logins.{holder}
use Rattle.logins.specs.Rows.{row_at}
use Rattle.logins.specs.declared.rows.LoginRow.{LoginRow}
use Rattle.rules.specs.Runs.{Snapshot, Event, Run, now_at}

-- of all holders, active or reserved
pub record Claims (admits : Eui64 → ℕ → Bool) (rows : List LoginRow) : Type 0 where
  -- an exclusive holder is its unit's only holder
  pub exclusive_holder_is_alone : (i j : ℕ) → holder (row_at rows i) ≡ true → holder (row_at rows j) ≡ true
      → (row_at rows i).exclusive ≡ true → (row_at rows i).unit ≡ (row_at rows j).unit → i ≡ j
  -- no initiator holds a unit twice
  pub initiator_holds_once : (i j : ℕ) → holder (row_at rows i) ≡ true → holder (row_at rows j) ≡ true
      → (row_at rows i).owner_eui_64.0 ≡ (row_at rows j).owner_eui_64.0 → (row_at rows i).unit ≡ (row_at rows j).unit → i ≡ j
  -- the list admits every holder
  pub holders_are_admitted : (i : ℕ) → holder (row_at rows i) ≡ true → admits (row_at rows i).owner_eui_64 (row_at rows i).unit ≡ true

-- after every run from such a target
abbrev pub ClaimsHold : {B A N : Type 0} → (Snapshot B A → Type 0) → BusModel B → AccessModel A N → Type 0
ClaimsHold {B} {A} {N} Begins m n =
    (start : Snapshot B A) → Begins start → (history : List (Event B A N)) → Run m n start history
    → Claims (n.admits (now_at start history).list) (now_at start history).book.logins
