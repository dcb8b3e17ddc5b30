-- What a cabinet does with a record: what becomes of it, and what the record's station sees. Assumes nothing.
use Rattle.std.specs.Prelude.{ℕ, Bool, cond, not, ◌||◌, List, take, replicate, Some, None, Ok, Err, Option, Result, ◌==◌}
use Rattle.std.specs.Result.{result_unwrap_or}
use Rattle.reader.specs.Blocks.{block}
use Rattle.reader.specs.Requests.{request_read}
use Rattle.reader.specs.declared.ids.NodeId.{NodeId}
use Rattle.reader.specs.declared.refusal.Refusal.{Refusal}
use Rattle.reader.specs.declared.refusal.Refusal.TheVariants.{OrbAddress}
use Rattle.reader.specs.declared.request.Request.{Request}
use Rattle.bus.specs.Meaning.{Answer}
use Rattle.responses.specs.Writing.{smallest_area}
use Rattle.rules.specs.Scenes.{Outcome, stored}
use Rattle.rules.specs.Serving.{outcome}
use Rattle.management.specs.Serving.{told}
use Rattle.agent.specs.Exchanges.{orb_fits, status_of}
use Rattle.agent.specs.Targets.{snapshot_of}
use Rattle.agent.specs.declared.exchange.Signalled.{Signalled}
use Rattle.journal.specs.Entries.{Entry, request, bus_reset, net_update, gap, tick, access_change, bus_note, pair_note, stop_note}
use Rattle.replay.specs.Cabinets.{Cabinet, cabinet_of, scene}
use Rattle.replay.specs.Calls.{call_of}
use Rattle.replay.specs.Listings.{drawn}
use Rattle.replay.specs.declared.driving.Cabinet.{Cabinet as Driven}
use Rattle.replay.specs.declared.driving.Effect.{Effect}

-- a cabinet that is driven, as data
abbrev pub data_of : Driven → Cabinet
data_of d = cabinet_of (snapshot_of d.target)

-- an answer with no bytes stored
abbrev pub none_stored : Answer → Result ℕ Refusal
none_stored (Ok done) = Ok 0
none_stored (Err refusal) = Err refusal

-- a response area before a request is served
abbrev pub blank : List ℕ
blank = replicate smallest_area 0

-- the bytes of a response
abbrev pub response_bytes : Effect → List ℕ
response_bytes e = take (result_unwrap_or e.answer 0) e.area

-- an answer alone: no response and no status block
abbrev pub quiet : Answer → Effect
quiet a = record { answer = none_stored a; area = blank; status = None }

-- a status block is written where the request asks for it, or was refused
abbrev pub status_block : ℕ → Bool → ℕ → Option (List ℕ)
status_block address notify n = cond (notify || not (n == 0)) (Some (block n address)) None

-- a request that was served: its response at the front of the area, and its status
abbrev pub served : ℕ → Request → Outcome → Effect
served address q o =
    record { answer = told o; area = stored blank o; status = status_block address q.notify (status_of (told o)) }

-- a first exchange, with the station at this node
abbrev pub exchange : NodeId → ℕ → Signalled
exchange source address = record { closed = 0; source = source; orb_address = address }

-- the exchange of a request, or why there is none
abbrev pub signalled : NodeId → ℕ → Result Signalled Refusal
signalled source address = cond (orb_fits address) (Ok (exchange source address)) (Err (OrbAddress address))

-- what was refused before it came to the target has no response and no status
abbrev pub told_effect : Result Effect Refusal → Effect
told_effect (Ok e) = e
told_effect (Err refusal) = quiet (Err refusal)

abbrev pub request_effect : Cabinet → NodeId → ℕ → Result Request Refusal → Effect
request_effect c source address (Ok q) = served address q (outcome (scene c) source q)
request_effect c source address (Err refusal) = quiet (Err refusal)

-- what comes of a record
abbrev pub effect : Cabinet → Entry → Effect
effect c (request source address orb) = request_effect c source address (cond (orb_fits address) (request_read orb) (Err (OrbAddress address)))
effect c bus_reset = quiet (drawn c (call_of bus_reset))
effect c net_update = quiet (drawn c (call_of net_update))
effect c gap = quiet (drawn c (call_of gap))
effect c tick = quiet (drawn c (call_of tick))
effect c access_change = quiet (drawn c (call_of access_change))
effect c (bus_note node e) = quiet (drawn c (call_of (bus_note node e)))
effect c (pair_note e unit admitted) = quiet (drawn c (call_of (pair_note e unit admitted)))
effect c (stop_note e stopped) = quiet (drawn c (call_of (stop_note e stopped)))
