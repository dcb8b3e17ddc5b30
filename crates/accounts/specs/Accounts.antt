-- The account of a journal that is run through a new cabinet. Assumes nothing.
use Rattle.std.specs.Prelude.{◌≡◌, ℕ, Bool, List, ◌++◌, length, Option}
use Rattle.std.specs.Result.{result_err}
use Rattle.reader.specs.declared.refusal.Refusal.{Refusal}
use Rattle.tables.specs.Books.{Book}
use Rattle.journal.specs.Entries.{Entry}
use Rattle.journal.specs.Journals.{Reads}
use Rattle.words.specs.Lines.{end_text}
use Rattle.replay.specs.Cabinets.{Cabinet, new_cabinet}
use Rattle.replay.specs.Driving.{response_bytes}
use Rattle.replay.specs.declared.driving.Effect.{Effect}
use Rattle.effects.specs.Account.{account_text}
use Rattle.accounts.specs.Journeys.{told_all}
use Rattle.accounts.specs.Traces.{after_entry, record_text}

abbrev pub effect_account : Bool → ℕ → Entry → Effect → Book → List ℕ
effect_account shown count e did book = account_text shown count e (result_err did.answer) (response_bytes did) book

-- of a record that comes to a cabinet
abbrev pub record_account : Bool → ℕ → Cabinet → Entry → List ℕ
record_account shown = record_text (effect_account shown)

-- each record that was read, and a line that says why no more was
pub record Accounted (shown : Bool) (bytes text : List ℕ) : Type 0 where
  pub read : List Entry
  pub refusal : Option Refusal
  pub reads : Reads bytes read refusal
  pub lines : text ≡ told_all after_entry (record_account shown) 1 new_cabinet read ++ end_text (length read) refusal
