-- Bytes that are written into an area. Assumes nothing.
use Rattle.std.specs.Prelude.{◌≡◌, ℕ, ◌+◌, ◌≤◌, List, ◌++◌, length, take, drop}
use Rattle.journal.specs.declared.writing.Cursor.{Cursor}

-- an area with bytes over a place of it
abbrev pub put : List ℕ → ℕ → List ℕ → List ℕ
put area at bs = take at area ++ (bs ++ drop (at + length bs) area)

-- there is room for the bytes behind the place
pub record Room (c : Cursor) (bs : List ℕ) : Type 0 where
  pub fits : c.at + length bs ≤ length c.area.now

-- the bytes stand at the place, the rest of the area is as it was, and the next place is behind them
pub record Wrote (before after : Cursor) (bs : List ℕ) : Type 0 where
  pub ends : after.at ≡ before.at + length bs
  pub area : after.area.now ≡ put before.area.now before.at bs
  pub same_area : after.area.ghost_name ≡ before.area.ghost_name
