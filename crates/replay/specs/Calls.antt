-- The call that a record of a journal is. Assumes nothing.
use Rattle.std.specs.Prelude.{cond, List, [], ◌∷◌, Some, Ok, Err, Result}
use Rattle.reader.specs.Requests.{request_read}
use Rattle.reader.specs.declared.ids.NodeId.{NodeId}
use Rattle.reader.specs.declared.refusal.Refusal.{Refusal}
use Rattle.reader.specs.declared.refusal.Refusal.TheVariants.{OrbAddress}
use Rattle.reader.specs.declared.request.Request.{Request as Fields}
use Rattle.access.specs.declared.stops.StopNote.TheVariants.{Stop, Below}
use Rattle.agent.specs.Exchanges.{orb_fits}
use Rattle.journal.specs.Entries.{Entry, request, bus_reset, net_update, gap, tick, access_change, bus_note, pair_note, stop_note}
use Rattle.rules.specs.declared.calls.Call.TheVariants.{Request, BusReset, NetUpdate, Gap, Tick, AccessChange, BusNote, AccessNote}
use Rattle.replay.specs.Cabinets.{CabinetCall}

-- a request with these fields
abbrev pub asked : NodeId → Result Fields Refusal → Result CabinetCall Refusal
asked source (Ok q) = Ok (Request source q)
asked source (Err refusal) = Err refusal

-- the call, or why it never reaches the target
abbrev pub call_of : Entry → Result CabinetCall Refusal
call_of (request source address orb) = cond (orb_fits address) (asked source (request_read orb)) (Err (OrbAddress address))
call_of bus_reset = Ok BusReset
call_of net_update = Ok NetUpdate
call_of gap = Ok Gap
call_of tick = Ok Tick
call_of access_change = Ok AccessChange
call_of (bus_note node e) = Ok (BusNote node (Some e))
call_of (pair_note e unit admitted) = Ok (AccessNote (Below (record { eui_64 = e; unit = unit; admitted = admitted })))
call_of (stop_note e stopped) = Ok (AccessNote (Stop e stopped))

-- of many records, those that are calls
abbrev pub with_call : Result CabinetCall Refusal → List CabinetCall → List CabinetCall
with_call (Ok call) calls = call ∷ calls
with_call (Err refusal) calls = calls

abbrev pub calls_of : List Entry → List CabinetCall
calls_of [] = []
calls_of (e ∷ es) = with_call (call_of e) (calls_of es)
