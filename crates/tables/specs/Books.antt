-- What the tables hold, as plain data. Assumes nothing.
use Rattle.std.specs.Prelude.{ℕ, Bool, false, List, replicate, slice_set}
use Rattle.logins.specs.Logins.{free_row}
use Rattle.logins.specs.Rows.{logins_size, handles_size, free_handle}
use Rattle.logins.specs.declared.rows.Handle.{Handle}
use Rattle.logins.specs.declared.rows.LoginRow.{LoginRow}
use Rattle.tables.specs.declared.tables.Tables.{Tables}

-- all logins, all handles, where the next search begins in each, and whether ticks count
pub record Book : Type 0 where
  pub logins : List LoginRow
  pub handles : List Handle
  pub next_login : ℕ
  pub next_handle : ℕ
  pub ticking : Bool

abbrev pub book_of : Tables → Book
book_of t =
    record {
      logins = t.logins.entries;
      handles = t.handles.entries;
      next_login = t.logins.next;
      next_handle = t.handles.next;
      ticking = t.ticking;
    }

-- no holder, no handle in use, both searches at place 0, and no gap yet
abbrev pub new_book : Book
new_book =
    record {
      logins = replicate logins_size free_row;
      handles = replicate handles_size free_handle;
      next_login = 0;
      next_handle = 0;
      ticking = false;
    }

abbrev pub with_logins : Book → List LoginRow → Book
with_logins b rows =
    record { logins = rows; handles = b.handles; next_login = b.next_login; next_handle = b.next_handle; ticking = b.ticking }

abbrev pub with_handles : Book → List Handle → Book
with_handles b handles =
    record { logins = b.logins; handles = handles; next_login = b.next_login; next_handle = b.next_handle; ticking = b.ticking }

abbrev pub put_login : Book → ℕ → LoginRow → Book
put_login b slot row = with_logins b (slice_set b.logins slot row)

abbrev pub put_handle : Book → ℕ → Handle → Book
put_handle b place handle = with_handles b (slice_set b.handles place handle)
