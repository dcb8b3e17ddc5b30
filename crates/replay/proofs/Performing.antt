-- A record performed: a request through an exchange, and all else by the target. Assumes nothing.
use Rattle.std.proofs.Common.{◌≡◌, ℕ, Bool, true, false, cond, eqb, List, length, Ok, Err, Option, Result, sym, refl, ap, ◌∙◌, arith, Bor}
use Rattle.std.proofs.lemmas.Bool.{eq-eqb}
use Rattle.reader.specs.Requests.{request_in, request_read}
use Rattle.reader.specs.declared.ids.NodeId.{NodeId}
use Rattle.reader.specs.declared.refusal.Refusal.{Refusal}
use Rattle.reader.specs.declared.refusal.Refusal.TheVariants.{OrbAddress, RequestLength}
use Rattle.reader.specs.declared.request.Request.{Request as Fields}
use Rattle.bus.specs.LocalBuses.{local_model}
use Rattle.bus.specs.Portals.{portal_model}
use Rattle.access.specs.Pairs.{pair_model}
use Rattle.access.specs.Stops.{stop_model}
use Rattle.rules.specs.Scenes.{Outcome, stored}
use Rattle.rules.specs.Serving.{outcome}
use Rattle.rules.specs.declared.calls.Call.TheVariants.{Request as Asked}
use Rattle.agent.specs.Answers.{Answers, checked, outcome_of, after_answer, rule}
use Rattle.agent.specs.Exchanges.{orb_fits, status_of, answered_with}
use Rattle.management.specs.Serving.{told, answer_told}
use Rattle.agent.specs.declared.exchange.Answered.{Answered}
use Rattle.agent.specs.declared.exchange.Signalled.{Signalled}
use Rattle.journal.specs.Entries.{request, entry}
use Rattle.journal.specs.declared.record.Record.{Record}
use Rattle.journal.specs.declared.record.Record.TheVariants.{Request, BusReset, NetUpdate, Gap, Tick, AccessChange, BusNote, PairNote, StopNote}
use Rattle.replay.specs.Cabinets.{Cabinet, cabinet_of, scene, after}
use Rattle.replay.specs.Calls.{asked, call_of}
use Rattle.replay.specs.Driving.{blank, quiet, status_block, exchange, signalled, request_effect, effect}
use Rattle.replay.specs.Listings.{drawn, after_record}
use Rattle.replay.specs.Steps.{Moment}
use Rattle.replay.specs.declared.driving.Effect.{Effect}
use Rattle.replay.proofs.Steps.{steps_told}

-- an ORB address that does not fit leaves the cabinet
pub turned_away : (c : Cabinet) (source : NodeId) (address : ℕ) (orb : List ℕ) (r : Refusal) → Err r ≡ signalled source address
    → (quiet (Err r) ≡ effect c (request source address orb)) × (c ≡ after_record c (call_of (request source address orb)))
turned_away c source address orb r e = go (orb_fits address) e
  where
    go : (b : Bool) → Err r ≡ cond b (Ok (exchange source address)) (Err (OrbAddress address))
        → (quiet (Err r) ≡ request_effect c source address (cond b (request_read orb) (Err (OrbAddress address))))
        × (c ≡ after_record c (cond b (asked source (request_read orb)) (Err (OrbAddress address))))
    go true e = absurd (let z : ◌≡◌ {A = ℕ} 0 1 = cc in omega arith)
    go false e = let same : r ≡ OrbAddress address = cc in (ap (λ (x : Refusal). quiet (Err x)) same, refl)

-- an effect by its parts
abbrev pub effect_told : Result ℕ Refusal → List ℕ → Option (List ℕ) → Effect
effect_told answer area status = record { answer = answer; area = area; status = status }

-- a request of 32 bytes whose ORB address fits
module _ (source : NodeId) (address : ℕ) (orb : List ℕ) (size : length orb ≡ 32) (s : Signalled) (began : Ok s ≡ signalled source address) where
  abbrev q : Fields
  q = request_in orb

  -- its address fits, and this is its exchange
  begun : (orb_fits address ≡ true) × (s ≡ exchange source address)
  begun = go (orb_fits address) refl began
    where
      go : (b : Bool) → orb_fits address ≡ b → Ok s ≡ cond b (Ok (exchange source address)) (Err (OrbAddress address)) → (orb_fits address ≡ true) × (s ≡ exchange source address)
      go true e h = (e, cc)
      go false e h = absurd (let z : ◌≡◌ {A = ℕ} 0 1 = cc in omega arith)

  whole : eqb (length orb) 32 ≡ true
  whole = eq-eqb (length orb) 32 size

  is_read : request_read orb ≡ Ok q
  is_read = ap (λ (b : Bool). cond b (Ok q) (Err (RequestLength (length orb)))) whole

  is_checked : checked orb blank ≡ Ok q
  is_checked = ap (λ (b : Bool). cond b (Ok q) (Err (RequestLength (length orb)))) whole

  is_asked : call_of (request source address orb) ≡ Ok (Asked source q)
  is_asked = ap (λ (b : Bool). cond b (asked source (request_read orb)) (Err (OrbAddress address))) begun.0 ∙ ap (asked source) is_read

  module _ (x y : Moment) (area : List ℕ) (r : Result (Answered × Result ℕ Refusal) (Refusal × Signalled))
      (a : Answers (portal_model local_model) (stop_model pair_model) s orb blank x r y area) where
    -- what its rule makes of it
    abbrev ruled : Signalled → Outcome
    ruled z = rule (portal_model local_model) (stop_model pair_model) x z q

    abbrev o : Outcome
    o = outcome (scene (cabinet_of x)) source q

    performed_after : cabinet_of y ≡ after_record (cabinet_of x) (call_of (request source address orb))
    performed_after =
        (steps_told x (Asked s.source q) (answer_told (told (ruled s))) y (a.step q is_checked)).changed
        ∙ ap (λ (z : Signalled). after (cabinet_of x) (Asked z.source q)) begun.1
        ∙ ap (after_record (cabinet_of x)) (sym is_asked)

    performed_effect : (answered : Answered) (result : Result ℕ Refusal) (status : Option (List ℕ)) → r ≡ Ok (answered, result)
        → status ≡ status_block answered.orb_address answered.notify answered.status
        → effect_told result area status ≡ effect (cabinet_of x) (request source address orb)
    performed_effect answered result status u t =
        let made : r ≡ Ok (answered_with s q (told (ruled s)), told (ruled s)) =
        a.answer ∙ ap (λ (z : Result Fields Refusal). after_answer s z (rule (portal_model local_model) (stop_model pair_model) x s)) is_checked in
        let pair : ◌≡◌ {A = Answered × Result ℕ Refusal} (answered, result) (answered_with s q (told (ruled s)), told (ruled s)) = cc in
        let answered_is : answered ≡ answered_with (exchange source address) q (told o) =
        ap (λ (p : Answered × Result ℕ Refusal). p.0) pair ∙ ap (λ (z : Signalled). answered_with z q (told (ruled z))) begun.1 in
        let result_is : result ≡ told o = ap (λ (p : Answered × Result ℕ Refusal). p.1) pair ∙ ap (λ (z : Signalled). told (ruled z)) begun.1 in
        let area_is : area ≡ stored blank o =
        a.response ∙ ap (λ (z : Result Fields Refusal). stored blank (outcome_of z (rule (portal_model local_model) (stop_model pair_model) x s))) is_checked
        ∙ ap (λ (z : Signalled). stored blank (ruled z)) begun.1 in
        let status_is : status ≡ status_block address q.notify (status_of (told o)) =
        t ∙ ap (λ (z : Answered). status_block z.orb_address z.notify z.status) answered_is in
        let read_is : cond (orb_fits address) (request_read orb) (Err (OrbAddress address)) ≡ Ok q =
        ap (λ (b : Bool). cond b (request_read orb) (Err (OrbAddress address))) begun.0 ∙ is_read in
        (λ i. effect_told (result_is i) (area_is i) (status_is i)) ∙ sym (ap (request_effect (cabinet_of x) source address) read_is)

    pub performed : (answered : Answered) (result : Result ℕ Refusal) (status : Option (List ℕ)) → r ≡ Ok (answered, result)
        → status ≡ status_block answered.orb_address answered.notify answered.status
        → (effect_told result area status ≡ effect (cabinet_of x) (request source address orb))
        × (cabinet_of y ≡ after_record (cabinet_of x) (call_of (request source address orb)))
    performed answered result status u t = (performed_effect answered result status u t, performed_after)

-- any other record is a call, and has no effect but its answer
pub other_record : (c : Cabinet) (r : Record) → ((source : NodeId) (address : ℕ) (orb : Bor (List ℕ)) → r ≡ Request source address orb → ⊥)
    → quiet (drawn c (call_of (entry r))) ≡ effect c (entry r)
other_record c (Request source address orb) h = absurd (h source address orb refl)
other_record c BusReset h = refl
other_record c NetUpdate h = refl
other_record c Gap h = refl
other_record c Tick h = refl
other_record c AccessChange h = refl
other_record c (BusNote node eui) h = refl
other_record c (PairNote eui unit admitted) h = refl
other_record c (StopNote eui stopped) h = refl
