-- Which steps of the rules a cabinet's data tells. Assumes nothing.
use Rattle.std.specs.Prelude.{◌≡◌}
use Rattle.bus.specs.LocalBuses.{local_model}
use Rattle.bus.specs.Portals.{portal_model}
use Rattle.bus.specs.declared.local.LocalBus.{LocalBus}
use Rattle.bus.specs.declared.portal.Portal.{Portal}
use Rattle.bus.specs.Meaning.{Answer}
use Rattle.access.specs.Pairs.{pair_model}
use Rattle.access.specs.Stops.{stop_model}
use Rattle.access.specs.declared.pairs.PairTable.{PairTable}
use Rattle.access.specs.declared.stops.StopList.{StopList}
use Rattle.rules.specs.Runs.{Snapshot, Step}
use Rattle.replay.specs.Cabinets.{Cabinet, CabinetCall, cabinet_of}

-- a target at one moment, with the cabinet's bus and list
abbrev pub Moment : Type 0
Moment = Snapshot (Portal LocalBus) (StopList PairTable)

module _ (answer : Cabinet → CabinetCall → Answer) (after : Cabinet → CabinetCall → Cabinet) where
  -- the data before a step tell its answer, and the data after it
  pub record Told (x : Moment) (call : CabinetCall) (a : Answer) (y : Moment) : Type 0 where
    pub answered : a ≡ answer (cabinet_of x) call
    pub changed : cabinet_of y ≡ after (cabinet_of x) call

  -- every step of the rules is told
  abbrev pub StepsTold : Type 0
  StepsTold = (x : Moment) (call : CabinetCall) (a : Answer) (y : Moment) → Step (portal_model local_model) (stop_model pair_model) x call a y → Told x call a y
