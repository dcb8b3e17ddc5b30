-- What a record says, and which bytes it is. Assumes nothing.
use Rattle.std.specs.Prelude.{◌≡◌, ℕ, ◌^◌, ◌<◌, Bool, cond, List, [], ◌∷◌, ◌++◌, map, length}
use Rattle.reader.specs.declared.ids.NodeId.{NodeId}
use Rattle.reader.specs.declared.ids.Eui64.{Eui64}
use Rattle.journal.specs.Numbers.{code}
use Rattle.journal.specs.declared.record.Record.{Record}
use Rattle.journal.specs.declared.record.Record.TheVariants.{Request, BusReset, NetUpdate, Gap, Tick, AccessChange, BusNote, PairNote, StopNote}

-- a record without where its ORB lies
pub data Entry : Type 0 where
  request : NodeId → ℕ → List ℕ → Entry
  bus_reset : Entry
  net_update : Entry
  gap : Entry
  tick : Entry
  access_change : Entry
  bus_note : NodeId → Eui64 → Entry
  pair_note : Eui64 → ℕ → Bool → Entry
  stop_note : Eui64 → Bool → Entry

abbrev pub entry : Record → Entry
entry (Request source address orb) = request source address orb.now
entry BusReset = bus_reset
entry NetUpdate = net_update
entry Gap = gap
entry Tick = tick
entry AccessChange = access_change
entry (BusNote node eui) = bus_note node eui
entry (PairNote eui unit admitted) = pair_note eui unit admitted
entry (StopNote eui stopped) = stop_note eui stopped

abbrev pub entries : List Record → List Entry
entries rs = map entry rs

-- 1 in, 0 out
abbrev pub mark : Bool → ℕ
mark b = cond b 1 0

-- a kind byte, then the fields
abbrev pub entry_code : Entry → List ℕ
entry_code (request source address orb) = 1 ∷ (code source.0 ++ (code address ++ orb))
entry_code bus_reset = 2 ∷ []
entry_code net_update = 3 ∷ []
entry_code gap = 4 ∷ []
entry_code tick = 5 ∷ []
entry_code access_change = 6 ∷ []
entry_code (bus_note node eui) = 7 ∷ (code node.0 ++ code eui.0)
entry_code (pair_note eui unit admitted) = 8 ∷ (code eui.0 ++ (code unit ++ code (mark admitted)))
entry_code (stop_note eui stopped) = 9 ∷ (code eui.0 ++ code (mark stopped))

-- one entry after another
abbrev pub journal_code : List Entry → List ℕ
journal_code [] = []
journal_code (e ∷ es) = entry_code e ++ journal_code es

-- every field is within its width
abbrev pub Within : Entry → Type 0
Within (request source address orb) = (source.0 < 2 ^ 16) × (address < 2 ^ 64) × (length orb ≡ 32)
Within bus_reset = Unit {0}
Within net_update = Unit {0}
Within gap = Unit {0}
Within tick = Unit {0}
Within access_change = Unit {0}
Within (bus_note node eui) = (node.0 < 2 ^ 16) × (eui.0 < 2 ^ 64)
Within (pair_note eui unit admitted) = (eui.0 < 2 ^ 64) × (unit < 2 ^ 16)
Within (stop_note eui stopped) = eui.0 < 2 ^ 64

-- the entry and then the rest are these bytes
pub record EntryAt (bs : List ℕ) (e : Entry) (rest : List ℕ) : Type 0 where
  pub front : bs ≡ entry_code e ++ rest
  pub within : Within e

-- no entry stands at the front of these bytes
abbrev pub NoEntry : List ℕ → Type 0
NoEntry bs = (e : Entry) (rest : List ℕ) → EntryAt bs e rest → ⊥
