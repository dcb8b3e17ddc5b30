-- Rows of logins and of handles. Assumes nothing.
use Rattle.std.specs.Prelude.{◌≡◌, ℕ, Bool, true, false, not, List, ◌==◌, slice_index_or}
use Rattle.logins.specs.Logins.{free_row, sound, nowhere, nobody}
use Rattle.logins.specs.declared.rows.Handle.{Handle}
use Rattle.logins.specs.declared.rows.LoginRow.{LoginRow}

-- how many logins and handles there are
abbrev pub logins_size : ℕ
logins_size = 16

abbrev pub handles_size : ℕ
handles_size = 32

-- the login at a slot; there is none but free ones past the end
abbrev pub row_at : List LoginRow → ℕ → LoginRow
row_at rows k = slice_index_or rows k free_row

-- every login could be a record
abbrev pub SoundRows : List LoginRow → Type 0
SoundRows rows = (k : ℕ) → sound (row_at rows k) ≡ true

-- a free handle is of no login
abbrev pub free_handle : Handle
free_handle = record { login = 0; eui_64 = nobody; node = nowhere; own = false }

abbrev pub in_use : Handle → Bool
in_use h = not (h.login == 0)

abbrev pub handle_at : List Handle → ℕ → Handle
handle_at handles k = slice_index_or handles k free_handle
