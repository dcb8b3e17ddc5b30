-- What is promised of a login that a reset or a net update left reserved. Assumes nothing.
use Rattle.std.specs.Prelude.{◌≡◌, ℕ, ◌+◌, ◌-◌, ◌<◌, Bool, true, false, cond, not, ◌&&◌, ◌||◌, ◌⊎◌, List, [], ◌∷◌, ◌++◌, Ok, Err, ◌==◌, ◌≢◌}
use Rattle.reader.specs.declared.ids.Eui64.{Eui64}
use Rattle.reader.specs.declared.request.Function.{Function}
use Rattle.reader.specs.declared.request.Function.TheVariants.{Login, QueryLogins, Reconnect, NodeHandle, Logout, Unknown}
use Rattle.bus.specs.Meaning.{Answer, BusModel}
use Rattle.access.specs.Meaning.{AccessModel}
use Rattle.logins.specs.Logins.{holder, reserved, moved, nowhere}
use Rattle.logins.specs.Rows.{row_at}
use Rattle.logins.specs.declared.rows.LoginRow.{LoginRow}
use Rattle.rules.specs.Logins.{hold_of}
use Rattle.rules.specs.Runs.{Snapshot, Event, Run, now_at}
use Rattle.rules.specs.declared.calls.Call.{Call}
use Rattle.rules.specs.declared.calls.Call.TheVariants.{Request, BusReset, NetUpdate, Gap, Tick, AccessChange, BusNote, AccessNote}

-- the kinds of calls that matter to a hold
pub data Kind : Type 0 where
  restart : Kind
  gap : Kind
  tick : Kind
  change : Kind
  other : Kind

abbrev pub is_gap : Kind → Bool
is_gap restart = false
is_gap gap = true
is_gap tick = false
is_gap change = false
is_gap other = false

abbrev pub is_tick : Kind → Bool
is_tick restart = false
is_tick gap = false
is_tick tick = true
is_tick change = false
is_tick other = false

abbrev pub kind : {N : Type 0} → Call N → Kind
kind (Request source q) = other
kind BusReset = restart
kind NetUpdate = restart
kind Gap = gap
kind Tick = tick
kind AccessChange = change
kind (BusNote node e) = other
kind (AccessNote note) = other

abbrev pub is_login : Function → Bool
is_login Login = true
is_login QueryLogins = false
is_login Reconnect = false
is_login NodeHandle = false
is_login Logout = false
is_login (Unknown n) = false

abbrev pub is_reconnect : Function → Bool
is_reconnect Login = false
is_reconnect QueryLogins = false
is_reconnect Reconnect = true
is_reconnect NodeHandle = false
is_reconnect Logout = false
is_reconnect (Unknown n) = false

abbrev pub granted : Answer → Bool
granted (Ok done) = true
granted (Err r) = false

-- a granted reconnect that names a login ID
abbrev pub reconnects : {N : Type 0} → ℕ → Call N → Answer → Bool
reconnects id (Request source q) a = granted a && (is_reconnect q.function && q.unit_or_login_id == id)
reconnects id BusReset a = false
reconnects id NetUpdate a = false
reconnects id Gap a = false
reconnects id Tick a = false
reconnects id AccessChange a = false
reconnects id (BusNote node e) a = false
reconnects id (AccessNote note) a = false

-- a granted login of a slot that was free, or a granted update that names its login ID
abbrev pub gives_hold : {N : Type 0} → ℕ → Call N → Answer → LoginRow → LoginRow → Bool
gives_hold slot (Request source q) a before after =
    granted a && (is_login q.function && cond q.update (q.unit_or_login_id == slot + 1) (not (holder before) && holder after))
gives_hold slot BusReset a before after = false
gives_hold slot NetUpdate a before after = false
gives_hold slot Gap a before after = false
gives_hold slot Tick a before after = false
gives_hold slot AccessChange a before after = false
gives_hold slot (BusNote node e) a before after = false
gives_hold slot (AccessNote note) a before after = false

abbrev pub hold_in : {N : Type 0} → Call N → ℕ
hold_in (Request source q) = hold_of q
hold_in BusReset = 0
hold_in NetUpdate = 0
hold_in Gap = 0
hold_in Tick = 0
hold_in AccessChange = 0
hold_in (BusNote node e) = 0
hold_in (AccessNote note) = 0

-- the hold of the last granted login or update of a slot
abbrev pub last_hold : {B A N : Type 0} → Snapshot B A → ℕ → List (Event B A N) → ℕ
last_hold start slot [] = 0
last_hold start slot (e ∷ es) =
    cond (gives_hold slot e.call e.answer (row_at (now_at start es).book.logins slot) (row_at e.after.book.logins slot)) (hold_in e.call) (
    last_hold start slot es
    )

-- of the events since a reset or a net update, the newest first
module _ {B A N : Type 0} where
  -- no other reset or net update
  abbrev pub Unrestarted : List (Event B A N) → Type 0
  Unrestarted [] = Unit {0}
  Unrestarted (e ∷ es) = (kind e.call ≢ restart) × Unrestarted es

  -- no reconnect of the login was granted
  abbrev pub Unclaimed : ℕ → List (Event B A N) → Type 0
  Unclaimed id [] = Unit {0}
  Unclaimed id (e ∷ es) = (reconnects id e.call e.answer ≡ false) × Unclaimed id es

  -- each access change left the pair admitted
  abbrev pub LeftAdmitted : AccessModel A N → Eui64 → ℕ → List (Event B A N) → Type 0
  LeftAdmitted n eui unit [] = Unit {0}
  LeftAdmitted n eui unit (e ∷ es) = (kind e.call ≡ change → n.admits e.after.list eui unit ≡ true) × LeftAdmitted n eui unit es

  -- a gap came
  abbrev pub gap_came : List (Event B A N) → Bool
  gap_came [] = false
  gap_came (e ∷ es) = is_gap (kind e.call) || gap_came es

  -- the ticks after the first gap
  abbrev pub ticks_after_gap : List (Event B A N) → ℕ
  ticks_after_gap [] = 0
  ticks_after_gap (e ∷ es) = cond (is_tick (kind e.call) && gap_came es) 1 0 + ticks_after_gap es

  -- at some moment the slot was free
  abbrev pub WasFree : ℕ → List (Event B A N) → Type 0
  WasFree slot [] = ⊥
  WasFree slot (e ∷ es) = (holder (row_at e.after.book.logins slot) ≡ false) ⊎ WasFree slot es

  -- the login l of a slot is kept for its owner, for so many ticks
  pub record KeptFor (n : AccessModel A N) (slot : ℕ) (l : LoginRow) (span : ℕ) (since : List (Event B A N)) : Type 0 where
    pub unclaimed : Unclaimed (slot + 1) since
    pub admitted : LeftAdmitted n l.owner_eui_64 l.unit since
    pub in_time : ticks_after_gap since < span

  -- reserved exactly so long, with its record but for the ticks; and else, unless it was reconnected, it has ended
  pub record HoldKept (n : AccessModel A N) (slot : ℕ) (l : LoginRow) (span : ℕ) (since : List (Event B A N)) (now : Snapshot B A) : Type 0 where
    pub stays_reserved : KeptFor n slot l span since → reserved (row_at now.book.logins slot) ≡ true
    pub reserved_only_so : reserved (row_at now.book.logins slot) ≡ true → KeptFor n slot l span since
    pub keeps_its_record : reserved (row_at now.book.logins slot) ≡ true
        → row_at now.book.logins slot ≡ moved l nowhere (span - ticks_after_gap since)
    pub has_ended : reserved (row_at now.book.logins slot) ≡ false → Unclaimed (slot + 1) since → WasFree slot since

-- of every run from such a target, split at its last reset or net update, and of every login that this left reserved:
-- how many ticks it is kept follows from the hold of its last login or update
abbrev pub HoldsKept : {B A N : Type 0} → (Snapshot B A → Type 0) → (ℕ → ℕ) → BusModel B → AccessModel A N → Type 0
HoldsKept {B} {A} {N} Begins ticks m n =
    (start : Snapshot B A) → Begins start → (before : List (Event B A N)) (last : Event B A N) (since : List (Event B A N))
    → kind last.call ≡ restart → Unrestarted since → Run m n start (since ++ last ∷ before)
    → (slot : ℕ) → reserved (row_at last.after.book.logins slot) ≡ true
    → HoldKept n slot (row_at last.after.book.logins slot) (ticks (last_hold start slot before)) since (now_at last.after since)

-- of a history, split at its last reset or net update, and of every login that this left reserved: how many ticks it is kept
-- follows from the hold of its last login or update
abbrev pub HoldsKeptIn : {B A N : Type 0} → (ℕ → ℕ) → AccessModel A N → Snapshot B A → List (Event B A N) → Type 0
HoldsKeptIn {B} {A} {N} ticks n start history =
    (before : List (Event B A N)) (last : Event B A N) (since : List (Event B A N))
    → history ≡ since ++ last ∷ before → kind last.call ≡ restart → Unrestarted since
    → (slot : ℕ) → reserved (row_at last.after.book.logins slot) ≡ true
    → HoldKept n slot (row_at last.after.book.logins slot) (ticks (last_hold start slot before)) since (now_at last.after since)
