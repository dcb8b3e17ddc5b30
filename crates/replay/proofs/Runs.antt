-- The answers of a run from a cabinet are those that its data determines. Assumes nothing.
use Rattle.std.proofs.Common.{◌≡◌, List, [], ◌∷◌, ◌++◌, map, reverse, sym, refl, ap, ◌∙◌}
use mathlib.Core.List.{reverse-cons}
use Rattle.std.proofs.lemmas.List.{reverse-reverse}
use Rattle.bus.specs.LocalBuses.{local_model}
use Rattle.bus.specs.Portals.{portal_model}
use Rattle.bus.specs.declared.local.LocalBus.{LocalBus}
use Rattle.bus.specs.declared.portal.Portal.{Portal}
use Rattle.bus.specs.Meaning.{Answer}
use Rattle.access.specs.Pairs.{pair_model}
use Rattle.access.specs.Stops.{stop_model}
use Rattle.access.specs.declared.pairs.PairNote.{PairNote}
use Rattle.access.specs.declared.pairs.PairTable.{PairTable}
use Rattle.access.specs.declared.stops.StopList.{StopList}
use Rattle.access.specs.declared.stops.StopNote.{StopNote}
use Rattle.rules.specs.Runs.{Event, Run, now_at}
use Rattle.replay.specs.Cabinets.{Cabinet, CabinetCall, cabinet_of, answer, after, answers}
use Rattle.replay.specs.Steps.{Moment}
use Rattle.replay.proofs.Steps.{steps_told}

-- an event of it
abbrev pub CabinetEvent : Type 0
CabinetEvent = Event (Portal LocalBus) (StopList PairTable) (StopNote PairNote)

-- the cabinet after calls in their order
abbrev after_all : Cabinet → List CabinetCall → Cabinet
after_all c [] = c
after_all c (call ∷ calls) = after_all (after c call) calls

-- one call more
answers_more : (c : Cabinet) (calls : List CabinetCall) (call : CabinetCall) → answers c (calls ++ call ∷ []) ≡ answers c calls ++ answer (after_all c calls) call ∷ []
answers_more c [] call = refl
answers_more c (x ∷ calls) call = ap (λ (zs : List Answer). answer c x ∷ zs) (answers_more (after c x) calls call)

after_more : (c : Cabinet) (calls : List CabinetCall) (call : CabinetCall) → after_all c (calls ++ call ∷ []) ≡ after (after_all c calls) call
after_more c [] call = refl
after_more c (x ∷ calls) call = after_more (after c x) calls call

-- the calls and the answers of a history, the oldest first
abbrev called : List CabinetEvent → List CabinetCall
called es = reverse (map (λ e. e.call) es)

abbrev answered : List CabinetEvent → List Answer
answered es = reverse (map (λ e. e.answer) es)

-- what a run determines
record Ran (c : Cabinet) (es : List CabinetEvent) (end : Moment) : Type 0 where
  told : answered es ≡ answers c (called es)
  ends : cabinet_of end ≡ after_all c (called es)

run_determines : (start : Moment) (es : List CabinetEvent) → Run (portal_model local_model) (stop_model pair_model) start es → Ran (cabinet_of start) es (now_at start es)
run_determines start [] run = record { told = refl; ends = refl }
run_determines start (e ∷ es) run =
    let c = cabinet_of start in
    let r = run_determines start es run.0 in
    let d = steps_told (now_at start es) e.call e.answer e.after run.1 in
    let calls = reverse-cons e.call (map (λ e. e.call) es) in
    record {
      told = reverse-cons e.answer (map (λ e. e.answer) es)
          ∙ ap (λ (zs : List Answer). zs ++ e.answer ∷ []) r.told
          ∙ ap (λ (a : Answer). answers c (called es) ++ a ∷ []) (d.answered ∙ ap (λ (z : Cabinet). answer z e.call) r.ends)
          ∙ sym (answers_more c (called es) e.call)
          ∙ ap (answers c) (sym calls);
      ends = d.changed ∙ ap (λ (z : Cabinet). after z e.call) r.ends ∙ sym (after_more c (called es) e.call) ∙ ap (after_all c) (sym calls);
    }

-- whatever run it was that these calls were answered in, these are the answers
pub run_answers : (start : Moment) (es : List CabinetEvent) → Run (portal_model local_model) (stop_model pair_model) start es
    → (calls : List CabinetCall) (given : List Answer) → map (λ e. e.call) es ≡ reverse calls → map (λ e. e.answer) es ≡ reverse given
    → given ≡ answers (cabinet_of start) calls
run_answers start es run calls given p q =
    sym (reverse-reverse given) ∙ ap reverse (sym q) ∙ (run_determines start es run).told ∙ ap (answers (cabinet_of start)) (ap reverse p ∙ reverse-reverse calls)
