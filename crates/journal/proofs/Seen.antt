-- What a reader hands over tells what stands in the bytes. Assumes that bytes are below 256.
use Rattle.std.proofs.Common.{◌≡◌, ℕ, List, Some, None, Option, sym, Bor, MatchOption}
use Rattle.journal.specs.Entries.{entry, EntryAt, NoEntry}
use Rattle.journal.specs.Reading.{entry_at, entry_seen}
use Rattle.journal.specs.declared.record.Record.{Record}
use Rattle.journal.proofs.Finding.{Bytes}
use Rattle.journal.proofs.Entries.{entry_sound, entry_absent}

pub record_told : (bs : List ℕ) (r : Option (Record × Bor (List ℕ))) → Bytes bs → entry_seen r ≡ entry_at bs
    → MatchOption r (NoEntry bs) (λ p. EntryAt bs (entry p.0) p.1.now)
record_told bs None h e = entry_absent bs (sym e)
record_told bs (Some p) h e = entry_sound bs (entry p.0) p.1.now h (sym e)
