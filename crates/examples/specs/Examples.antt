-- The worked examples: stations A and B at a cabinet, both admitted to unit 1. Assumes nothing.
use Rattle.std.specs.Prelude.{◌≡◌, ℕ, zero, suc, Bool, true, false, cond, ◌&&◌, ◌||◌, [], ◌∷◌, ◌++◌, drop, replicate, Some, None, Err, Option, ◌==◌}
use Rattle.reader.specs.Blocks.{block}
use Rattle.reader.specs.Refusals.{number}
use Rattle.reader.specs.Requests.{request_in}
use Rattle.reader.specs.declared.ids.NodeId.{NodeId}
use Rattle.reader.specs.declared.ids.Eui64.{Eui64}
use Rattle.reader.specs.declared.refusal.Refusal.TheVariants.{AccessDenied, LogicalUnitNotSupported, FunctionRejected, Unspecified}
use Rattle.reader.specs.declared.request.Request.{Request}
use Rattle.bus.specs.Meaning.{granted}
use Rattle.logins.specs.Logins.{holder, reserved}
use Rattle.logins.specs.Rows.{row_at}
use Rattle.tables.specs.Books.{Book, new_book}
use Rattle.tables.specs.Events.{was_reset, ticking_so, tick_counted}
use Rattle.rules.specs.Responses.{big}
use Rattle.rules.specs.Scenes.{Scene, Outcome, answer_of, book_after, response}
use Rattle.rules.specs.Serving.{outcome}
use Rattle.journal.specs.Numbers.{code}
use Rattle.journal.specs.Entries.{NoEntry}

abbrev pub node : ℕ → NodeId
node n = record { 0 = n }

abbrev pub eui : ℕ → Eui64
eui n = record { 0 = n }

-- the bus shows 1 at FFC2h (own), A = 10 at FFC0h and B = 11 at FFC1h
abbrev pub shows : NodeId → Option Eui64
shows i = cond (i.0 == 0xFFC2) (Some (eui 1)) (cond (i.0 == 0xFFC0) (Some (eui 10)) (cond (i.0 == 0xFFC1) (Some (eui 11)) None))

-- A and B are admitted to unit 1
abbrev pub admits : Eui64 → ℕ → Bool
admits e u = (e.0 == 10 || e.0 == 11) && u == 1

abbrev pub scene : Book → Scene
scene b = record { own = node 0xFFC2; shows = shows; admits = admits; book = b }

-- a request with this quadlet and response length, and else zeros
abbrev pub asking : ℕ → ℕ → Request
asking quadlet room = request_in (replicate 16 0 ++ (big 4 quadlet ++ (big 2 0 ++ (big 2 room ++ replicate 8 0))))

abbrev pub A : NodeId
A = node 0xFFC0

abbrev pub B : NodeId
B = node 0xFFC1

abbrev pub served : Book → NodeId → ℕ → ℕ → Outcome
served b source quadlet room = outcome (scene b) source (asking quadlet room)

abbrev pub first_login : ℕ → Outcome
first_login room = served new_book A 0x9020_0001 room

-- after A's login; after the bus reset; after nine ticks; after the gap and so many ticks
abbrev pub logged_in : ℕ → Book
logged_in room = book_after new_book (first_login room)

abbrev pub ticks : ℕ → Book → Book
ticks zero b = b
ticks (suc n) b = tick_counted (ticks n b)

abbrev pub knocked : ℕ → Book
knocked room = was_reset shows (logged_in room)

abbrev pub waited : ℕ → Book
waited room = ticks 9 (knocked room)

abbrev pub counted : ℕ → ℕ → Book
counted room n = ticks n (ticking_so (waited room) true)

abbrev pub login_A : Book → Bool
login_A b = reserved (row_at b.logins 0)

-- with this ORB address and response length
pub record Examples (address room : ℕ) : Type 0 where
  -- 1: A logs in alone, with a hold of 3
  pub granted_bytes : response (first_login room)
      ≡ 0x00 ∷ 0x10 ∷ 0x00 ∷ 0x01 ∷ 0xFF ∷ 0xC2 ∷ 0xFF ∷ 0xFF ∷ 0xF0 ∷ 0x01 ∷ 0x00 ∷ 0x00 ∷ 0x00 ∷ 0x00 ∷ 0x00 ∷ 0x03 ∷ []
  pub granted_block : block 0 address ≡ 0x01 ∷ 0x00 ∷ 0x00 ∷ 0x00 ∷ 0x00 ∷ 0x01 ∷ 0x23 ∷ 0x40 ∷ []
  -- 2: then B is turned away
  pub second_refused : answer_of (served (logged_in room) B 0x8000_0001 room) ≡ Err (AccessDenied 1)
  pub second_block : block (number (AccessDenied 1)) address ≡ 0x01 ∷ 0x04 ∷ 0x00 ∷ 0x00 ∷ 0x00 ∷ 0x01 ∷ 0x23 ∷ 0x40 ∷ []
  -- 3: after a bus reset B again
  pub held_refused : answer_of (served (knocked room) B 0x8000_0001 room) ≡ Err (AccessDenied 1)
  -- 4: nine ticks without a gap
  pub waits_for_the_gap : login_A (waited room) ≡ true
  -- 5: gap and four ticks
  pub stands_through_four : login_A (counted room 4) ≡ true
  -- 6: the fifth ends A
  pub ends_at_the_fifth : holder (row_at (counted room 5).logins 0) ≡ false
  -- 7: B now gets login ID 2 and the next agent
  pub next_slot : response (served (counted room 5) B 0x8000_0001 room)
      ≡ 0x00 ∷ 0x10 ∷ 0x00 ∷ 0x02 ∷ 0xFF ∷ 0xC2 ∷ 0xFF ∷ 0xFF ∷ 0xF0 ∷ 0x01 ∷ 0x00 ∷ 0x20 ∷ 0x00 ∷ 0x00 ∷ 0x00 ∷ 0x00 ∷ []
  -- 8: reconnect 7, 8 and 9
  pub hold_of_7 : drop 14 (response (served new_book A 0x9070_0001 room)) ≡ 0 ∷ 127 ∷ []
  pub hold_of_8 : drop 14 (response (served new_book A 0x9080_0001 room)) ≡ 0 ∷ 255 ∷ []
  pub hold_of_9 : drop 14 (response (served new_book A 0x9090_0001 room)) ≡ 0 ∷ 255 ∷ []
  -- 9: length 12 and length 11
  pub short_granted : answer_of (served new_book A 0x9020_0001 12) ≡ granted
  pub short_hold : (row_at (book_after new_book (served new_book A 0x9020_0001 12)).logins 0).hold ≡ 0
  pub too_short : answer_of (served new_book A 0x9020_0001 11) ≡ Err FunctionRejected
  -- 10: unit 3 and unit 4
  pub not_admitted : answer_of (served new_book A 0x9020_0003 room) ≡ Err (AccessDenied 3)
  pub no_such_unit : answer_of (served new_book A 0x9020_0004 room) ≡ Err LogicalUnitNotSupported
  -- 11: nobody is at FFFFh
  pub nobody_there : answer_of (served new_book (node 0xFFFF) 0x9020_0001 room) ≡ Err (Unspecified (node 0xFFFF))
  -- 12: numbers in a journal
  pub code_of_300 : code 300 ≡ 0xAC ∷ 0x02 ∷ []
  pub code_of_FFC2h : code 0xFFC2 ≡ 0xC2 ∷ 0xFF ∷ 0x03 ∷ []
  pub not_shortest : NoEntry (0x07 ∷ 0x80 ∷ 0x00 ∷ [])
