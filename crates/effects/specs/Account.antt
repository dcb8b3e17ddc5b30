-- What a record was, what it drew and the tables after it, in words. Assumes nothing.
use Rattle.std.specs.Prelude.{ℕ, Bool, cond, List, [], ◌++◌, codes, Option}
use Rattle.reader.specs.declared.refusal.Refusal.{Refusal}
use Rattle.tables.specs.Books.{Book}
use Rattle.journal.specs.Entries.{Entry}
use Rattle.words.specs.Lines.{entry_text, line_text}
use Rattle.effects.specs.Drawn.{drawn_text}
use Rattle.effects.specs.Holders.{tables_text}

-- the tables if they are asked for
abbrev pub shown_tables : Bool → Book → List ℕ
shown_tables shown b = cond shown (tables_text b) []

-- a line for the record, one for what it drew, and the tables after it
abbrev pub account_text : Bool → ℕ → Entry → Option Refusal → List ℕ → Book → List ℕ
account_text shown count e refusal response b =
    line_text count (entry_text e) ++ (codes "       -> " ++ (drawn_text e refusal response ++ (codes "\n" ++ shown_tables shown b)))
