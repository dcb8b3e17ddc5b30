-- What a record drew, in words. Assumes nothing.
use Rattle.std.specs.Prelude.{ℕ, ◌-◌, ◌/◌, Bool, cond, List, [], ◌++◌, length, Some, None, Ok, Err, codes, decimal, Option, Result, ◌==◌}
use Rattle.reader.specs.Quadlets.{big2}
use Rattle.reader.specs.Requests.{request_read}
use Rattle.reader.specs.Texts.{refusal_text}
use Rattle.reader.specs.declared.refusal.Refusal.{Refusal}
use Rattle.reader.specs.declared.request.Function.{Function}
use Rattle.reader.specs.declared.request.Function.TheVariants.{Login, QueryLogins, Reconnect, NodeHandle, Logout, Unknown}
use Rattle.reader.specs.declared.request.Request.{Request}
use Rattle.journal.specs.Entries.{Entry, request, bus_reset, net_update, gap, tick, access_change, bus_note, pair_note, stop_note}

-- a word for one, another for any other number
abbrev pub one_or_more : ℕ → List ℕ → List ℕ → List ℕ
one_or_more n one more = cond (n == 1) one more

abbrev pub verb_text : Bool → List ℕ
verb_text update = cond update (codes "update of login") (codes "login")

-- no handle is told as 0
abbrev pub own_text : ℕ → List ℕ
own_text handle = cond (handle == 0) [] (codes ", own handle " ++ decimal handle)

-- of the response to a login: its ID, its hold, and its own handle
abbrev pub login_granted_text : Bool → List ℕ → List ℕ
login_granted_text update response =
    codes "granted "
    ++ (verb_text update
    ++ (codes " " ++ (decimal (big2 response 2) ++ (codes ", hold " ++ (decimal (big2 response 14) ++ own_text (big2 response 12))))))

-- how many entries the response to a query has
abbrev pub told_count : List ℕ → ℕ
told_count response = (length response - 4) / 12

abbrev pub query_granted_text : List ℕ → List ℕ
query_granted_text response =
    codes "granted, " ++ (decimal (told_count response) ++ one_or_more (told_count response) (codes " holder told") (codes " holders told"))

abbrev pub handle_granted_text : Bool → List ℕ → List ℕ
handle_granted_text allocate response = cond allocate (codes "granted node handle " ++ decimal (big2 response 0)) (codes "granted release")

abbrev pub function_granted_text : Function → Request → List ℕ → List ℕ
function_granted_text Login q response = login_granted_text q.update response
function_granted_text QueryLogins q response = query_granted_text response
function_granted_text Reconnect q response = codes "granted reconnect of login " ++ decimal q.unit_or_login_id
function_granted_text NodeHandle q response = handle_granted_text q.exclusive_or_allocate response
function_granted_text Logout q response = codes "granted logout of login " ++ decimal q.unit_or_login_id
function_granted_text (Unknown n) q response = codes "granted"

-- no ORB of a record has a wrong length
abbrev pub orb_granted_text : Result Request Refusal → List ℕ → List ℕ
orb_granted_text (Ok q) response = function_granted_text q.function q response
orb_granted_text (Err refusal) response = codes "granted"

abbrev pub granted_text : Entry → List ℕ → List ℕ
granted_text (request source address orb) response = orb_granted_text (request_read orb) response
granted_text bus_reset response = codes "done"
granted_text net_update response = codes "done"
granted_text gap response = codes "done"
granted_text tick response = codes "done"
granted_text access_change response = codes "done"
granted_text (bus_note node e) response = codes "noted"
granted_text (pair_note e unit admitted) response = codes "noted"
granted_text (stop_note e stopped) response = codes "noted"

-- by the entry, the refusal if it was refused, and the response bytes stored
abbrev pub drawn_text : Entry → Option Refusal → List ℕ → List ℕ
drawn_text e None response = granted_text e response
drawn_text e (Some refusal) response = codes "refused: " ++ refusal_text refusal
