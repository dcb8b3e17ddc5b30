-- How a reader goes through the bytes; proofs/Finding and proofs/Entries tie this to what the bytes are. Assumes nothing.
use Rattle.std.specs.Prelude.{ℕ, Bool, ◌+◌, ◌-◌, ◌*◌, ◌^◌, cond, List, [], ◌∷◌, length, take, drop, Some, None, Option, ◌==◌, nat_le, nat_lt}
use Rattle.std.specs.Borrow.{Bor}
use Rattle.reader.specs.declared.ids.NodeId.{NodeId}
use Rattle.reader.specs.declared.ids.Eui64.{Eui64}
use Rattle.journal.specs.Entries.{Entry, request, bus_reset, net_update, gap, tick, access_change, bus_note, pair_note, stop_note, entry}
use Rattle.journal.specs.declared.record.Record.{Record}
use Rattle.std.specs.Option.{option_map}

-- a number and the bytes after it
abbrev pub found : ℕ → List ℕ → Option (ℕ × List ℕ)
found n rest = Some (n, rest)

-- a low group before a number that may not be 0
abbrev pub above : ℕ → Option (ℕ × List ℕ) → Option (ℕ × List ℕ)
above low None = None
above low (Some p) = cond (p.0 == 0) None (found (p.0 * 128 + (low - 128)) p.1)

-- the number below 2 ^ bits at the front, and the rest
unfoldable pub number_at : ℕ → List ℕ → Option (ℕ × List ℕ)
number_at bits [] = None
number_at bits (b ∷ bs) =
    cond (nat_lt b 128) (cond (nat_lt b (2 ^ bits)) (found b bs) None) (
    cond (nat_le bits 7) None (above b (number_at (bits - 7) bs))
    )

-- what the code hands over, without where its bytes lie
abbrev pub number_seen : Option (ℕ × Bor (List ℕ)) → Option (ℕ × List ℕ)
number_seen o = option_map (λ p. (p.0, p.1.now)) o

-- go on behind a number, if there is one
abbrev pub after : {T : Type 0} → Option (ℕ × List ℕ) → (ℕ → List ℕ → Option T) → Option T
after None f = None
after (Some p) f = f p.0 p.1

-- a mark and the bytes after it: 1 or 0
abbrev pub mark_at : List ℕ → Option (Bool × List ℕ)
mark_at bs = after (number_at 1 bs) (λ m rest. Some (m == 1, rest))

-- what the code hands over, without where its bytes lie
abbrev pub mark_seen : Option (Bool × Bor (List ℕ)) → Option (Bool × List ℕ)
mark_seen o = option_map (λ p. (p.0, p.1.now)) o

-- an entry and the bytes after it
abbrev pub met : Entry → List ℕ → Option (Entry × List ℕ)
met e rest = Some (e, rest)

abbrev pub id : ℕ → NodeId
id n = record { 0 = n }

abbrev pub eui : ℕ → Eui64
eui n = record { 0 = n }

-- behind the kind byte
abbrev pub orb_at : ℕ → ℕ → List ℕ → Option (Entry × List ℕ)
orb_at source address bs = cond (nat_lt (length bs) 32) None (met (request (id source) address (take 32 bs)) (drop 32 bs))

abbrev pub request_at : List ℕ → Option (Entry × List ℕ)
request_at bs = after (number_at 16 bs) (λ source rest. after (number_at 64 rest) (orb_at source))

abbrev pub bus_note_at : List ℕ → Option (Entry × List ℕ)
bus_note_at bs = after (number_at 16 bs) (λ node rest. after (number_at 64 rest) (λ e. met (bus_note (id node) (eui e))))

abbrev pub pair_note_at : List ℕ → Option (Entry × List ℕ)
pair_note_at bs =
    after (number_at 64 bs) (λ e rest.
    after (number_at 16 rest) (λ unit rest. after (number_at 1 rest) (λ m. met (pair_note (eui e) unit (m == 1)))))

abbrev pub stop_note_at : List ℕ → Option (Entry × List ℕ)
stop_note_at bs = after (number_at 64 bs) (λ e rest. after (number_at 1 rest) (λ m. met (stop_note (eui e) (m == 1))))

-- what goes on behind a kind byte
abbrev pub Reader : Type 0
Reader = List ℕ → Option (Entry × List ℕ)

-- the kinds, and how each goes on
abbrev pub readers : List (ℕ × Reader)
readers =
    (1, request_at)
    ∷ (2, met bus_reset)
    ∷ (3, met net_update)
    ∷ (4, met gap)
    ∷ (5, met tick)
    ∷ (6, met access_change)
    ∷ (7, bus_note_at)
    ∷ (8, pair_note_at)
    ∷ (9, stop_note_at)
    ∷ []

abbrev pub by_kind : List (ℕ × Reader) → ℕ → Reader
by_kind [] k bs = None
by_kind (r ∷ rs) k bs = cond (k == r.0) (r.1 bs) (by_kind rs k bs)

-- the entry at the front, and the rest
unfoldable pub entry_at : Reader
entry_at [] = None
entry_at (k ∷ bs) = by_kind readers k bs

-- what the code hands over, without where its bytes lie
abbrev pub entry_seen : Option (Record × Bor (List ℕ)) → Option (Entry × List ℕ)
entry_seen o = option_map (λ p. (entry p.0, p.1.now)) o
